-- After an accepted reading the tables answer every request as the log does: call by call they show the log, and they stay sound.
use mathlib.Core.Path.{◌≡◌, refl, sym, ap, ap₂, ◌∙◌}
use mathlib.Core.List.{List, [], ◌∷◌, ◌++◌}
use Rattle.tables.specs.Limits.{Limits}
use Rattle.tables.specs.Tables.{PlanLists, Tables}
use Rattle.precedence.specs.Graph.{cost as cost_of}
use Rattle.precedence.proofs.Agreement.{cost_agree}
use Rattle.plan.specs.Field.{FieldPlan, AcceptedPlan, PlansAgree, plan_of, graph, place_of}
use Rattle.plan.specs.Status.{status_in}
use Rattle.call_log.specs.CallLog.{Call, Reply, reply_number, awaited, Entry, entry_of, status_by, reply_by, log_from, log_of}
use Rattle.call_log.specs.Calls.{step, AsRead, recorded, tables_after, costs, cost_reply}
use Rattle.call_log.specs.Demand.{Shows}
use Rattle.call_log.proofs.Whole.{demand3, replies_of, tables_of_lem, ran, ran_more, stays_sound, stays_full, stays_same}
use Rattle.call_log.proofs.Meaning.{log_joins}
use Rattle.call_log.proofs.Steps.{cost_0}
use Rattle.call_log.proofs.SoundParts.{accepted_plan}
use Rattle.call_log.proofs.SameStatus.{plans_self, graphs_agree, graph_in, counts_same}
use Rattle.call_log.proofs.PlanAgreement.{reply_by-agrees, cost_by_agrees}
use Rattle.plan.proofs.PlansAgree.{agree_accepted}
use Rattle.transcript.specs.Input.{call_of, Request, call, cost, kind_of}
use Rattle.transcript.specs.Output.{LineAnswer, answers_by}
use Rattle.transcript.specs.Run.{answers_on}

-- the last of two lists that are else the same
last_same : (xs : List Entry) (a b : Entry) → xs ++ (a ∷ []) ≡ xs ++ (b ∷ []) → a ≡ b
last_same [] a b e = cc
last_same (x ∷ xs) a b e = last_same xs a b (cc)

-- plans that agree answer every request alike
answers_agree : (F G : FieldPlan) → PlansAgree F G → AcceptedPlan F → (qs : List Request) (log : List Entry) → answers_by F log qs ≡ answers_by G log qs
unfolding answers_by
answers_agree F G agree plan [] log = refl
answers_agree F G agree plan (call c ∷ qs) log =
    let e = reply_by-agrees F G agree plan log (call_of c) in
    ap₂ (λ (r : Reply) (l : List LineAnswer). record { kind = kind_of (call c); number = reply_number r; detail = awaited r } ∷ l)
    e
    (answers_agree F G agree plan qs (log ++ (entry_of (call_of c) (reply_by F log (call_of c)) ∷ [])) ∙ ap (λ (r : Reply). answers_by G (log ++ (entry_of (call_of c) r ∷ [])) qs) e)
answers_agree F G agree plan (cost ∷ qs) log = rw (cost_by_agrees F G agree plan log, answers_agree F G agree plan qs log) refl

module _ (L : Limits) (lists : PlanLists) (t : Tables) (read : AsRead L lists t) where
  abbrev F : FieldPlan
  F = plan_of lists

  pub plan : AcceptedPlan F
  plan = accepted_plan L lists read.plan_accepted read.dependencies_own

  -- the tables and the log after some calls
  abbrev pub after : List Call → Tables
  after cs = tables_after (step L) t cs

  -- one call more
  pub log_more : (cs : List Call) (c : Call) → log_of F (cs ++ (c ∷ [])) ≡ log_of F cs ++ (entry_of c (reply_by F (log_of F cs) c) ∷ [])
  unfolding log_from
  log_more cs c = log_joins F cs (c ∷ []) []

  pub after_more : (cs : List Call) (c : Call) → (step L (after cs) c).tables ≡ after (cs ++ (c ∷ []))
  after_more cs c = tables_of_lem L (ran_more (ran L cs t) (record { replied = refl; left = refl }))

  pub same_reply_lem : (cs : List Call) (c : Call) → (step L (after cs) c).reply ≡ reply_by F (log_of F cs) c
  same_reply_lem cs c =
      let now : recorded (step L) t cs ++ (entry_of c (step L (after cs) c).reply ∷ []) ≡ recorded (step L) t (cs ++ (c ∷ [])) = replies_of L (ran_more (ran L cs t) (record { replied = refl; left = refl })) in
      let both = now ∙ (demand3 L lists t (cs ++ (c ∷ [])) read).replies ∙ log_more cs c in
      ap (λ (e : Entry). e.reply) (last_same (log_of F cs) _ _ (rw (demand3 L lists t cs read).replies at both))

  -- the cost is that of the log
  pub same_cost : (cs : List Call) → cost_reply L (after cs) ≡ costs (cost_of (graph F (status_by (log_of F cs))) F.leg (place_of F (status_by (log_of F cs))))
  same_cost cs =
      let s : Shows F (log_of F cs) (after cs) = (demand3 L lists t cs read).shown in
      let p : (after cs).plan ≡ lists = (stays_same L lists t read cs).plan_same ∙ read.plan_read in
      cost_0 L (after cs) (stays_full L lists t read cs) (stays_sound L lists t read cs)
      ∙ ap (λ (l : PlanLists). costs (cost_of (graph (plan_of l) (status_in (after cs))) (plan_of l).leg (place_of (plan_of l) (status_in (after cs))))) p
      ∙ ap costs (cost_agree (graph F (status_in (after cs))) (graph F (status_by (log_of F cs))) (graphs_agree F F (plans_self F) plan (status_in (after cs)) (status_by (log_of F cs)) s.marks s.turns) (graph_in F plan (status_in (after cs))) F.leg F.leg (λ d k l o h. refl) (place_of F (status_in (after cs))) (place_of F (status_by (log_of F cs))) (counts_same F (status_in (after cs)) (status_by (log_of F cs)) s))

  answers_from : (qs : List Request) (cs : List Call) → answers_on L (after cs) qs ≡ answers_by F (log_of F cs) qs
  unfolding answers_on answers_by
  answers_from [] cs = refl
  answers_from (call c ∷ qs) cs = rw (same_reply_lem cs (call_of c), after_more cs (call_of c), ← log_more cs (call_of c), answers_from qs (cs ++ (call_of c ∷ [])))
  answers_from (cost ∷ qs) cs = rw (same_cost cs, answers_from qs cs)

  pub same_answers : (qs : List Request) → answers_on L t qs ≡ answers_by F [] qs
  unfolding tables_after log_from
  same_answers qs = answers_from qs []

  -- .. of a plan that agrees with the one in the tables
  pub plan_answers : (G : FieldPlan) → PlansAgree G F → (qs : List Request) → answers_on L t qs ≡ answers_by G [] qs
  plan_answers G agree qs = same_answers qs ∙ sym (answers_agree G F agree (agree_accepted G F agree plan) qs [])
