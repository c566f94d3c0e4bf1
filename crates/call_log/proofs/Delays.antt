-- Rounds in which some drones are held, as a list: they are those of the plan graph's theorems, each given by its index. Assumes nothing.
use mathlib.Core.Path.{◌≡◌, refl, sym, ap, ◌∙◌}
use mathlib.Core.Bool.{Bool, true, false, not, ◌||◌}
use mathlib.Core.List.{List, [], ◌∷◌}
use Prim.Native.Nat.{ℕ, zero, suc, ◌≤◌, ◌<◌}
use native.Mathlib.Omega.{arith}
use lib.Dec.{ltb}
use lib.ListN.{length, get_or}
use borrow.Author.Tests.{leb-true, le-ltb}
use Rattle.below.proofs.Tests.{by_cases}
use Rattle.below.proofs.Count.{count_front}
use Rattle.below.specs.Below.{pick, is_in, all_below, any_below, count_below, max_below, first_below, sum_below, list_below, picks, rows_below, pair_before}
use Rattle.below.proofs.Every.{all_below_all, all_below-at, all_below_ext}
use Rattle.below.proofs.Greatest.{max_ext}
use Rattle.tables.specs.Limits.{Limits}
use Rattle.tables.specs.Legs.{leg_right, longest_leg}
use Rattle.tables.specs.Tables.{PlanLists, Tables, form_of, full_size}
use Rattle.precedence.specs.Graph.{Plan, finished, remaining, held_round, held_play, held_rounds, one_round, blocks, free, round, play, unvisited, legs_left, fills, fly_round, fly, reached, cyclic}
use Rattle.precedence.proofs.Held.{held_remaining, held_finish}
use Rattle.precedence.proofs.Agreement.{agree_self, awaited_in, remaining_agree}
use Rattle.precedence.proofs.Legs.{makespan_is}
use Rattle.call_log.specs.CallLog.{Call}
use Rattle.call_log.specs.Calls.{step, AsRead, tables_after, rounds_reply, rounds as lands_after}
use Rattle.call_log.specs.Claims.{Usable}
use Rattle.call_log.specs.Delays.{play_held, delays, in_force_now, most_remaining, EveryLegOne, AllFinish, OthersFinish, NoneRaised, DelayClaims, one_round_short}
use Rattle.tables.specs.Flags.{turned_bit, under_way_bit, withdrawn_bit, only_two_bits, set_withdrawn}
use Rattle.lines.specs.Names.{is_name_byte}
use Rattle.near.specs.Near.{listed_in, near, meets_in, pair_count, pair_sound, pairs_sound}
use Rattle.plan.specs.Field.{FieldPlan, Status, in_force, plan_of, graph, place_of, of_withdrawn}
use Rattle.plan.specs.Stops.{start, owner, stop_number}
use Rattle.plan.specs.Check.{fault_at, first_fault, over, collide, apart}
use Rattle.plan.specs.Dependencies.{follows, is_last, is_fixed, flag_of}
use Rattle.plan.specs.Status.{fixed_unturned, within_stops, waits_kept, status_in}
use Rattle.sound.specs.Sound.{zero_from, name_length, name_sound, same_name, names_differ, in_range, names_sound, site_sound, lists_sound, zeros, passes_check, plan_accepted_lem, dependencies_sound, plan_unused_lem, flags_sound, drone_flags_sound, progress_unused, sound}
use Rattle.sound.proofs.Clauses.{sound-says}
use Rattle.call_log.proofs.Costs.{formed, acyclic, flies}
use Rattle.call_log.proofs.SoundParts.{legs_plain}
use Rattle.call_log.proofs.Whole.{stays_sound, stays_same, stays_full}

-- the drones held in round i
abbrev named : List (List ℕ) → ℕ → ℕ → Bool
named rounds i d = is_in d (get_or rounds i [])

module _ (P : Plan) where
  -- the first round in front
  held_shift : (held : ℕ → ℕ → Bool) (p : ℕ → ℕ) (k : ℕ) → held_play P held p (suc k) ≡ held_play P (λ i. held (suc i)) (held_round P (held 0) p) k
  unfolding held_play
  held_shift held p zero = refl
  held_shift held p (suc k) = ap (held_round P (held (suc k))) (held_shift held p k)

  played : (rounds : List (List ℕ)) (p : ℕ → ℕ) → play_held P p rounds ≡ held_play P (named rounds) p (length rounds)
  unfolding play_held held_play
  played [] p = refl
  played (held ∷ rounds) p = played rounds (held_round P (λ d. is_in d held) p) ∙ sym (held_shift (named (held ∷ rounds)) p (length rounds))

  nobody : any_below P.drones (λ d. is_in d []) ≡ false
  unfolding is_in
  nobody = ap not (all_below_all P.drones (λ d. true) (λ d l. refl))

  -- rounds that hold a drone of the plan name somebody
  counted : (rounds : List (List ℕ)) → held_rounds P (named rounds) (length rounds) ≤ delays rounds
  unfolding held_rounds delays count_below
  counted [] = omega arith
  counted ([] ∷ rounds) = rw (count_front (length rounds) (λ i. any_below P.drones (named ([] ∷ rounds) i)), nobody) (omega (arith, counted rounds))
  counted ((d ∷ ds) ∷ rounds) = omega (arith, count_front (length rounds) (λ i. any_below P.drones (named ((d ∷ ds) ∷ rounds) i)), at_most (any_below P.drones (λ e. is_in e (d ∷ ds))), counted rounds)
    where
      at_most : (b : Bool) → pick b 1 0 ≤ 1
      at_most true = omega arith
      at_most false = omega arith

-- ---- drones that are set aside, for whom nobody waits: where they stand does not matter to the others

module _ (P : Plan) (x : ℕ → Bool) (none-waits : (w : ℕ) → x (P.wait w).awaited ≡ true → (P.wait w).until ≡ 0) where
  -- the same places of all others
  abbrev SameOthers : (ℕ → ℕ) → (ℕ → ℕ) → Type 0
  SameOthers p q = (d : ℕ) → x d ≡ false → p d ≡ q d

  awaited-same : (p q : ℕ → ℕ) → SameOthers p q → (w : ℕ) → ltb (p (P.wait w).awaited) (P.wait w).until ≡ ltb (q (P.wait w).awaited) (P.wait w).until
  awaited-same p q same w = by_cases (x (P.wait w).awaited)
      (λ a. rw (none-waits w a) (le-ltb (p (P.wait w).awaited) 0 (omega arith) ∙ sym (le-ltb (q (P.wait w).awaited) 0 (omega arith))))
      (λ a. ap (λ (n : ℕ). ltb n (P.wait w).until) (same (P.wait w).awaited a))

  blocks-same : (p q : ℕ → ℕ) → SameOthers p q → (d : ℕ) → x d ≡ false → (w : ℕ) → blocks P p d w ≡ blocks P q d w
  unfolding blocks
  blocks-same p q same d o w = rw (same d o, awaited-same p q same w) refl

  held_same : (h : ℕ → Bool) (p q : ℕ → ℕ) → SameOthers p q → SameOthers (held_round P h p) (held_round P h q)
  unfolding held_round round free
  held_same h p q same d o = rw (same d o, all_below_ext P.count (λ w. not (blocks P p d w)) (λ w. not (blocks P q d w)) (λ w l. ap not (blocks-same p q same d o w))) refl

  pub play-same : (rounds : List (List ℕ)) (p q : ℕ → ℕ) → SameOthers p q → SameOthers (play_held P p rounds) (play_held P q rounds)
  unfolding play_held
  play-same [] p q same = same
  play-same (held ∷ rounds) p q same = play-same rounds _ _ (held_same (λ d. is_in d held) p q same)

module _ (F : FieldPlan) (s : Status) where
  -- nobody waits for a withdrawn drone
  none-awaited : (w : ℕ) → s.withdrawn ((graph F s).wait w).awaited ≡ true → ((graph F s).wait w).until ≡ 0
  none-awaited w h = rw (go (s.turned w) h) refl
    where
      go : (b : Bool) → s.withdrawn (in_force b (F.dependency w)).first ≡ true → of_withdrawn F s w ≡ true
      go false e = rw e refl
      go true e = second (s.withdrawn (F.dependency w).first) e
        where
          second : (a : Bool) → s.withdrawn (F.dependency w).second ≡ true → a || s.withdrawn (F.dependency w).second ≡ true
          second true e = refl
          second false e = e

  places_same : (d : ℕ) → s.withdrawn d ≡ false → place_of F s d ≡ s.place d
  places_same d o = rw o refl

module _ (L : Limits) (t : Tables) (u : Usable L t) where
  -- with legs of one remaining rounds are those of the plan graph's theorems
  remaining_one : EveryLegOne t → (p : ℕ → ℕ) (d : ℕ) → d < (in_force_now t).drones → remaining (in_force_now t) (plan_of t.plan).leg p d ≡ remaining (in_force_now t) one_round p d
  remaining_one one p = remaining_agree (in_force_now t) (in_force_now t) (agree_self (in_force_now t)) (awaited_in (in_force_now t) (formed L t (sound-says L t u.1))) (plan_of t.plan).leg one_round one p p (λ d l. refl)

  pub all_finish : EveryLegOne t → AllFinish t
  unfolding most_remaining
  all_finish one rounds h =
      let s = sound-says L t u.1 in
      ap (finished (in_force_now t)) (played (in_force_now t) rounds (place_of (plan_of t.plan) (status_in t)))
      ∙ held_finish (in_force_now t) (formed L t s) (acyclic L t s) (named rounds) (place_of (plan_of t.plan) (status_in t)) (length rounds) (omega (arith, counted (in_force_now t) rounds, max_ext (in_force_now t).drones (remaining (in_force_now t) (plan_of t.plan).leg (place_of (plan_of t.plan) (status_in t))) (remaining (in_force_now t) one_round (place_of (plan_of t.plan) (status_in t))) (remaining_one one (place_of (plan_of t.plan) (status_in t)))))

  pub others_finish : EveryLegOne t → OthersFinish t
  unfolding finished
  others_finish one rounds h d l o =
      let F = plan_of t.plan in
      let place_same = play-same (in_force_now t) (status_in t).withdrawn (none-awaited F (status_in t)) rounds (place_of F (status_in t)) (status_in t).place (places_same F (status_in t)) d o in
      let landed = leb-true (F.last d) (play_held (in_force_now t) (place_of F (status_in t)) rounds d) (all_below-at (in_force_now t).drones _ (all_finish one rounds h) d l) in
      omega (arith, landed, place_same)

  pub none_raised : EveryLegOne t → NoneRaised t
  none_raised one rounds held d l =
      let s = sound-says L t u.1 in
      let p : ℕ → ℕ = play_held (in_force_now t) (place_of (plan_of t.plan) (status_in t)) rounds in
      rw (remaining_one one p d l, remaining_one one (held_round (in_force_now t) (λ e. is_in e held) p) d l) (held_remaining (in_force_now t) (formed L t s) (acyclic L t s) (λ e. is_in e held) p d l)

  pub rounds_told : rounds_reply L t ≡ lands_after (most_remaining t)
  unfolding rounds_reply most_remaining
  rounds_told =
      let s = sound-says L t u.1 in
      rw (u.0, u.1) (ap lands_after (makespan_is (in_force_now t) (plan_of t.plan).leg (formed L t s) (acyclic L t s) (place_of (plan_of t.plan) (status_in t)) (flies L t s)))

usable_after : (L : Limits) (lists : PlanLists) (t : Tables) (calls : List Call) → AsRead L lists t → Usable L (tables_after (step L) t calls)
usable_after L lists t calls read = (stays_full L lists t read calls, stays_sound L lists t read calls)

-- ---- plans of the first form have legs of one

pub form_one_legs : (L : Limits) (t : Tables) → sound L t ≡ true → form_of t.plan ≡ 1 → EveryLegOne t
form_one_legs L t h q d s l o i = legs_plain L t.plan (sound-says L t h).accepted d s l o i q

-- .. also after calls
plain-after : (L : Limits) (lists : PlanLists) (t : Tables) (calls : List Call) → AsRead L lists t → form_of lists ≡ 1 → EveryLegOne (tables_after (step L) t calls)
plain-after L lists t calls read q = form_one_legs L (tables_after (step L) t calls) (stays_sound L lists t read calls) (ap form_of ((stays_same L lists t read calls).plan_same ∙ read.plan_read) ∙ q)

pub delay_claims : DelayClaims
unfolding one_round_short most_remaining play_held delays held_round is_in max_below sound zero_from name_length name_sound same_name names_differ in_range leg_right longest_leg names_sound site_sound lists_sound zeros pairs_sound pair_sound pair_before pair_count meets_in near listed_in passes_check plan_accepted_lem dependencies_sound plan_unused_lem flags_sound drone_flags_sound progress_unused fixed_unturned within_stops waits_kept follows is_last is_fixed flag_of fault_at first_fault over collide apart start owner stop_number blocks free round play finished unvisited legs_left fills fly_round fly reached remaining cyclic is_name_byte turned_bit under_way_bit withdrawn_bit only_two_bits set_withdrawn full_size first_below all_below count_below sum_below list_below picks rows_below
delay_claims = record {
  all_finish = all_finish;
  others_finish = others_finish;
  none_raised = none_raised;
  calls_finish = λ L lists t calls read. all_finish L (tables_after (step L) t calls) (usable_after L lists t calls read);
  calls_none_raised = λ L lists t calls read. none_raised L (tables_after (step L) t calls) (usable_after L lists t calls read);
  form_one_legs = form_one_legs;
  plain_all_finish = λ L t u q. all_finish L t u (form_one_legs L t u.1 q);
  plain_others_finish = λ L t u q. others_finish L t u (form_one_legs L t u.1 q);
  plain_none_raised = λ L t u q. none_raised L t u (form_one_legs L t u.1 q);
  plain_calls_finish = λ L lists t calls read q. all_finish L (tables_after (step L) t calls) (usable_after L lists t calls read) (plain-after L lists t calls read q);
  plain_calls_none_raised = λ L lists t calls read q. none_raised L (tables_after (step L) t calls) (usable_after L lists t calls read) (plain-after L lists t calls read q);
  rounds_told = rounds_told;
  sharp_withdrawn = refl;
  sharp_withdrawn_once = refl;
  sharp = refl;
  sharp_once = refl;
  sharp_twice = refl;
}
