-- The answers of the call, by the ways through its code. Assumes nothing.
use mathlib.Core.Path.{◌≡◌, refl, sym, ap, ap₂, ◌∙◌}
use mathlib.Core.Bool.{Bool, false}
use mathlib.Core.List.{List}
use Prim.Native.Nat.{ℕ, ◌≤◌, ◌<◌}
use lib.Dec.{leb}
use lib.ListN.{length}
use borrow.Author.Tests.{le-leb, lt-leb}
use Rattle.below.specs.Below.{count_below, laid, picks, fill_below}
use Rattle.below.proofs.Picks.{length-picks}
use Rattle.below.proofs.Tests.{by_cases}
use Rattle.tables.specs.Limits.{Limits}
use Rattle.tables.specs.Tables.{Tables, full_size, drones, dependencies}
use Rattle.tables.specs.Zero.{zeroed}
use Rattle.plan.specs.Stops.{start}
use Rattle.plan.specs.Field.{plan_of}
use Rattle.plan.specs.Status.{status_in}
use Rattle.sound.specs.Asked.{WaitsInForce}
use Rattle.choices.specs.Budget.{reply_for}
use Rattle.choices.specs.Searching.{choice_in}
use Rattle.choices.specs.Directions.{direction_number, direction_of, to_turn}
use Rattle.choices.proofs.Directed.{listed}
use Rattle.orders.specs.Arranged.{marked_open, standing_reply}
use Rattle.orders.specs.Replies.{search_told}
use Rattle.orders.specs.declared.search.Found.{Found}
use Rattle.orders.specs.declared.search.OverBudget.{OverBudget}
use Rattle.call_log.specs.Claims.{Usable}
use Rattle.flat.specs.Places.{Standing}
use Rattle.call_log.specs.BestOrder.{most_budget, budget_in, best_is, BestAnswer, best_by, best_order, turns_listed, cycle_in, cost_in, open_in, list_in}
use Rattle.call_log.proofs.BestOrder.{best_searches}
use Rattle.best_order.specs.Opening.{OpenMarked}
use Rattle.best_order.specs.Replies.{best_meant, BestAnswered}
use Rattle.std.specs.Prelude.{Result, Ok, Err}
use Rattle.flat.specs.declared.replies.TablesFault.{TablesFault}
use Rattle.flat.specs.declared.replies.TablesFault.TheVariants.{TooSmall, NotSound}
use Rattle.flat.proofs.CheckLaws.{FaultSaid}
use Rattle.best_order.specs.declared.replies.BestOrder.{BestOrder}
use Rattle.best_order.specs.declared.replies.BestRefusal.{BestRefusal}
use Rattle.best_order.specs.declared.replies.BestRefusal.TheVariants as best
use Rattle.best_order.proofs.SearchTables.{list_is, tables_reply, marks_count}

-- an answer by what it must be
pub answered_as : {L : Limits} {t : Tables} {l : List ℕ} {budget : ℕ} {r : Result BestOrder BestRefusal} {l' : List ℕ} → record { outcome = best_meant r; list = l' } ≡ best_order L t l budget → BestAnswered L t l budget r l'
answered_as e = record { replied = ap (λ (z : BestAnswer). z.outcome) e; listed = ap (λ (z : BestAnswer). z.list) e }

module _ (L : Limits) (t : Tables) (l : List ℕ) (budget : ℕ) where
  pub best_41_list : length l < L.dependencies → BestAnswered L t l budget (Err (best.Tables TooSmall)) l
  unfolding best_order
  best_41_list h = answered_as (by_cases (full_size L t) (λ f. rw (f, lt-leb L.dependencies (length l) h) refl) (λ f. rw f refl))

  module _ (room : L.dependencies ≤ length l) where
    -- "41, then 40"
    pub best_faulty : (fault : TablesFault) → FaultSaid L t fault → BestAnswered L t l budget (Err (best.Tables fault)) l
    unfolding best_order
    best_faulty TooSmall f = answered_as (rw f refl)
    best_faulty NotSound (f, s) = answered_as (rw (f, le-leb L.dependencies (length l) room, s) refl)

    module _ (u : Usable L t) where
      refused_38 : budget_in budget ≡ false → BestAnswered L t l budget (Err best.BadBudget) l
      unfolding best_order
      refused_38 b = answered_as (rw (u.0, le-leb L.dependencies (length l) room, u.1, b) refl)

      pub best_38_low : budget < 1 → BestAnswered L t l budget (Err best.BadBudget) l
      unfolding budget_in
      best_38_low h = refused_38 (rw (lt-leb 1 budget h) refl)

      pub best_38_high : most_budget < budget → BestAnswered L t l budget (Err best.BadBudget) l
      unfolding budget_in
      best_38_high h = refused_38 (by_cases (leb 1 budget) (λ e. rw (e, lt-leb budget most_budget h) refl) (λ e. rw e refl))

      module _ (low : 1 ≤ budget) (high : budget ≤ most_budget) (n : ℕ) (total : n ≡ start t.plan.stop_counts (drones t.plan)) (owners starts lasts from into : List ℕ) (T : WaitsInForce L t owners starts lasts from into) (places : List ℕ) {full : ℕ} (standing : Standing full (drones t.plan) t.visited t.drone_flags lasts places) (some : 1 ≤ L.leg) {z os : List ℕ} {k : ℕ} (has : dependencies t.plan ≤ length z) (M : OpenMarked t (dependencies t.plan) z os k) (chosen : List ℕ) (r : Result Found OverBudget)
          (e : search_told r (choice_in chosen (count_below (dependencies t.plan) (marked_open os))) ≡ standing_reply owners starts lasts (drones t.plan) from into (dependencies t.plan) (marked_open os) t.plan.legs places budget (count_below (dependencies t.plan) (marked_open os))) where
        replies : search_told r (choice_in chosen (count_below (dependencies t.plan) (marked_open os))) ≡ reply_for (cycle_in t) (cost_in t) budget (open_in t)
        replies = e ∙ tables_reply L t u n total owners starts lasts from into T places standing some has M budget

        best_is_lem : {x : Result Found OverBudget} → r ≡ x → best_by L (plan_of t.plan) (status_in t) l (search_told x (choice_in chosen (count_below (dependencies t.plan) (marked_open os)))) ≡ best_order L t l budget
        best_is_lem {x} q = ap (λ (y : Result Found OverBudget). best_by L (plan_of t.plan) (status_in t) l (search_told y (choice_in chosen (count_below (dependencies t.plan) (marked_open os))))) (sym q) ∙ ap (best_by L (plan_of t.plan) (status_in t) l) replies ∙ sym (best_searches L t u l budget room low high)

        pub best_37 : (e : OverBudget) → r ≡ Err e → BestAnswered L t l budget (Err (best.TooMany e.count)) l
        best_37 e q = answered_as (best_is_lem q)

        pub best_0 : (f : Found) → r ≡ Ok f → (size : ℕ) (l' : List ℕ) → size ≡ length (to_turn (dependencies t.plan) (marked_open os) (choice_in chosen k)) → l' ≡ turns_listed L l (to_turn (dependencies t.plan) (marked_open os) (choice_in chosen k)) → BestAnswered L t l budget (Ok (record { cost = f.cost; length = size; count = f.count })) l'
        best_0 f q size l' es el = answered_as (ap₂ (λ (x : ℕ) (y : List ℕ). record { outcome = best_is f.cost x f.count; list = y }) (es ∙ ap length same) (el ∙ ap (turns_listed L l) same) ∙ best_is_lem q)
          where
            same : to_turn (dependencies t.plan) (marked_open os) (choice_in chosen k) ≡ list_in t (choice_in chosen (count_below (dependencies t.plan) (marked_open os)))
            same = list_is L t u n total owners starts lasts from into T places standing some has M (choice_in chosen k) ∙ ap (λ (x : ℕ). list_in t (choice_in chosen x)) (marks_count L t u n total owners starts lasts from into T places standing some has M)

-- ---- the list

-- what `fill_directions`, the zeroing and `list_turns` leave
pub choice-listed : (L : Limits) (m : ℕ) (os : List ℕ) (xs : List Bool) (z to l l' l'' : List ℕ) (r : ℕ) → m ≤ length z → to ≡ fill_below m (λ w. direction_number (direction_of (marked_open os) xs w)) z → l' ≡ zeroed L.dependencies l
    → (r ≡ count_below m (marked_open to)) × (l'' ≡ laid l' 0 (picks m (marked_open to) (λ w. w))) → (r ≡ length (to_turn m (marked_open os) xs)) × (l'' ≡ turns_listed L l (to_turn m (marked_open os) xs))
unfolding turns_listed
choice-listed L m os xs z to l l' l'' r room et el (er, es) =
    let same : picks m (marked_open to) (λ w. w) ≡ to_turn m (marked_open os) xs = listed m (marked_open os) xs to z room et in
    (er ∙ sym (length-picks (marked_open to) (λ w. w) m) ∙ ap length same, es ∙ ap₂ (λ (x y : List ℕ). laid x 0 y) el same)
