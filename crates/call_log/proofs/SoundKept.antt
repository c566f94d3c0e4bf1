-- Sound tables stay sound through every call: their progress is good counts, every accepted call keeps those, and the tables go on holding them. Assumes nothing.
use mathlib.Core.Path.{◌≡◌, refl, sym, ap, ◌∙◌, subst, fun_ext}
use mathlib.Core.Bool.{Bool, true, false, not, cond, ◌&&◌, ◌||◌}
use mathlib.Core.List.{List, [], ◌∷◌}
use Prim.Native.Nat.{ℕ, suc, ◌/◌, ◌%◌, ◌≤◌, ◌<◌}
use native.Mathlib.Omega.{arith}
use lib.Dec.{eqb, ltb, leb}
use borrow.Author.Tests.{eqb-true, eqb-false, ltb-true, leb-true, leb-false, lt-ltb, le-ltb, eq-eqb, not-true}
use Rattle.below.specs.Below.{pick, at}
use Rattle.below.proofs.Tests.{by_cases, true_or_false, and_left, and_right}
use Rattle.below.proofs.Every.{all_below-at}
use Rattle.tables.specs.Limits.{Limits}
use Rattle.tables.specs.Tables.{Tables, drones, dependencies, full_size}
use Rattle.tables.specs.Flags.{under_way_bit, withdrawn_bit, only_two_bits}
use Rattle.precedence.specs.Graph.{cyclic}
use Rattle.plan.specs.Field.{FieldPlan, AcceptedPlan, plan_of, graph, Status, after_turns}
use Rattle.plan.specs.Status.{status_in, within_stops, waits_kept}
use Rattle.sound.specs.Sound.{zero_from, flags_sound, progress_unused, sound}
use Rattle.sound.proofs.Clauses.{Sound, sound-says}
use Rattle.call_log.specs.CallLog.{Call, grant, arrive, withdraw, turn, turn_all, Reply, is_accepted, reply_in}
use Rattle.call_log.specs.Calls.{granted, arrived, marked, flipped_all, reply_of, grant_step, arrive_step, withdraw_step, turn_all_step, step, Answered}
use Rattle.call_log.specs.Claims.{Usable, MayGo, MayArrive, MayWithdraw, Group, AllTurnable, StaysUsable}
use Rattle.call_log.proofs.Groups.{group_iff}
use Rattle.call_log.proofs.Checks.{grant_passed, arrive_passed, withdraw_passed, group_passed}
use Rattle.call_log.proofs.Good.{Good, counted_status, good_grant, good_arrive, good_withdraw, good_turns}
use Rattle.call_log.proofs.SoundParts.{two_bits, accepted_plan}
use Rattle.call_log.proofs.Exactly.{unfixed_says, turn_is_group}
use Rattle.call_log.proofs.Shown.{same_self, full-same, drone_byte, Base, Kept, kept-grant, kept-arrive, kept-withdraw, kept_turns, kept-sound}
use Rattle.call_log.proofs.Steps.{reply}

from_zero : (used full : ℕ) (l : List ℕ) → zero_from used full l ≡ true → (i : ℕ) → used ≤ i → i < full → at l i ≡ 0
unfolding zero_from
from_zero used full l z i h k = eqb-true (at l i) 0 (rw (le-ltb i used h) at (all_below-at full _ z i k))

-- a byte with no bit but bits 0 and 1 is these two
byte_is : (f : ℕ) → only_two_bits f ≡ true → f ≡ drone_byte (under_way_bit f) (withdrawn_bit f)
unfolding only_two_bits under_way_bit withdrawn_bit
byte_is f h = by_cases (eqb (f % 2) 1)
    (λ a. by_cases (eqb (f / 2 % 2) 1)
    (λ b. rw (a, b) (omega (arith, ltb-true f 4 h, eqb-true (f % 2) 1 a, eqb-true (f / 2 % 2) 1 b)))
    (λ b. rw (a, b) (let nb : f / 2 % 2 ≡ 1 → ⊥ = eqb-false (f / 2 % 2) 1 b in omega (arith, ltb-true f 4 h, eqb-true (f % 2) 1 a))))
    (λ a. by_cases (eqb (f / 2 % 2) 1)
    (λ b. rw (a, b) (let na : f % 2 ≡ 1 → ⊥ = eqb-false (f % 2) 1 a in omega (arith, ltb-true f 4 h, eqb-true (f / 2 % 2) 1 b)))
    (λ b. rw (a, b) (let na : f % 2 ≡ 1 → ⊥ = eqb-false (f % 2) 1 a in let nb : f / 2 % 2 ≡ 1 → ⊥ = eqb-false (f / 2 % 2) 1 b in omega (arith, ltb-true f 4 h))))

-- the last entered stop of a drone at n
abbrev last_entered : Bool → ℕ → ℕ
last_entered b n = pick b (suc n) n

entered_less : (b : Bool) (n : ℕ) → ltb n (last_entered b n) ≡ b
entered_less true n = lt-ltb n (suc n) (omega arith)
entered_less false n = le-ltb n n (omega arith)

entered-least : (b : Bool) (n : ℕ) → n ≤ last_entered b n
entered-least true n = omega arith
entered-least false n = omega arith

entered_most : (b : Bool) (n : ℕ) → last_entered b n ≤ suc n
entered_most true n = omega arith
entered_most false n = omega arith

-- a stop up to the last entered one is entered
is_entered_lem : (b : Bool) (n k : ℕ) → k ≤ last_entered b n → leb k n || b && eqb k (suc n) ≡ true
is_entered_lem b n k h = by_cases (leb k n) (λ e. rw e refl) (λ e. rw e (go b h (leb-false k n e)))
  where
    go : (b : Bool) → k ≤ last_entered b n → n < k → b && eqb k (suc n) ≡ true
    go true h l = eq-eqb k (suc n) (omega arith)
    go false h l = absurd (omega arith)

entered-within : (b : Bool) (n l : ℕ) → n ≤ l → not (b && leb l n) ≡ true → last_entered b n ≤ l
entered-within true n l h e = let x : n < l = leb-false l n (not-true (leb l n) e) in omega arith
entered-within false n l h e = h

if_entered : (a b : Bool) → a ≡ true → not a || b ≡ true → b ≡ true
if_entered true b e h = h
if_entered false b e h = true_or_false e refl

module _ (L : Limits) (t : Tables) (full : full_size L t ≡ true) (now-sound : sound L t ≡ true) where
  abbrev F : FieldPlan
  F = plan_of t.plan

  abbrev S : Status
  S = status_in t

  s : Sound L t
  s = sound-says L t now-sound

  plan : AcceptedPlan F
  plan = accepted_plan L t.plan s.accepted s.dependencies_own

  p : ℕ → ℕ
  p = at t.visited

  e : ℕ → ℕ
  e d = last_entered (S.under_way d) (at t.visited d)

  base : Base L t.plan t
  unfolding progress_unused
  base =
      let rest = and_right (zero_from (drones t.plan) L.drones t.visited) _ s.progress_unused_lem in
      record {
        plan_read = refl;
        full = full;
        plan_accepted = s.accepted;
        dependencies_own = s.dependencies_own;
        plan_unused = s.plan_unused;
        visited_zero = from_zero (drones t.plan) L.drones t.visited (and_left _ _ s.progress_unused_lem);
        drone_flags_zero = from_zero (drones t.plan) L.drones t.drone_flags (and_left _ _ rest);
        flags_zero = from_zero (dependencies t.plan) L.dependencies t.flags (and_right (zero_from (drones t.plan) L.drones t.drone_flags) _ rest);
      }

  kept : Kept t.plan t p e S.withdrawn S.turned t
  unfolding flags_sound p e
  kept = record {
    same = same_self t;
    visited_is = λ d l. refl;
    drone_flags_are = λ d l. byte_is (at t.drone_flags d) (two_bits L t s d l) ∙ ap (λ (b : Bool). drone_byte b (S.withdrawn d)) (sym (entered_less (S.under_way d) (at t.visited d)));
    turned_are = λ w l. refl;
    halves_are = λ w l. eqb-true (at t.flags w / 2) _ (all_below-at (dependencies t.plan) _ s.flags_right w l);
  }

  good : Good F p e S.withdrawn S.turned
  unfolding within_stops waits_kept p e
  good = record {
    running = record {
      behind = λ d. entered-least (S.under_way d) (at t.visited d);
      ahead = λ d. entered_most (S.under_way d) (at t.visited d);
      over = λ w l h. leb-true _ _ (if_entered _ _ (is_entered_lem (S.under_way ((graph F S).wait w).waiter) (S.place ((graph F S).wait w).waiter) ((graph F S).wait w).stop h) (all_below-at F.count _ s.waits_kept_lem w l));
    };
    within = λ d l. let x = all_below-at F.drones _ s.within d l in entered-within (S.under_way d) (at t.visited d) (F.last d) (leb-true _ _ (and_left _ _ x)) (and_right (leb (at t.visited d) (F.last d)) _ x);
    unfixed = unfixed_says F S s.fixed_unturned_lem;
    acyclic = s.no_cycle;
  }

  with_under_way : (ℕ → Bool) → Status
  with_under_way u = record { place = at t.visited; under_way = u; withdrawn = S.withdrawn; turned = S.turned }

  -- the counts' status is the tables' own
  status_is : counted_status F p e S.withdrawn S.turned ≡ S
  unfolding p e with_under_way
  status_is = ap (λ (u : ℕ → Bool). with_under_way u) (fun_ext (λ d. entered_less (S.under_way d) (at t.visited d)))

  usable_after : (p' e' : ℕ → ℕ) (x' u' : ℕ → Bool) (t' : Tables) → Kept t.plan t p' e' x' u' t' → Good F p' e' x' u' → Usable L t'
  usable_after p' e' x' u' t' k g = (full-same L t t' k.same full, kept-sound L t.plan t base p' e' x' u' t' k plan g)

  pub grant_usable : (d : ℕ) → MayGo F S d → Usable L (granted t d)
  grant_usable d m = usable_after _ _ _ _ (granted t d) (kept-grant L t.plan t base p e S.withdrawn S.turned t kept d m.waiting.exists) (good_grant F p e S.withdrawn S.turned good d (subst (λ (x : Status). MayGo F x d) (sym status_is) m))

  pub arrive_usable : (d : ℕ) → MayArrive F S d → Usable L (arrived t d)
  arrive_usable d m = usable_after _ _ _ _ (arrived t d) (kept-arrive L t.plan t base p e S.withdrawn S.turned t kept d m.exists (good.running.ahead d)) (good_arrive F p e S.withdrawn S.turned good d (subst (λ (x : Status). MayArrive F x d) (sym status_is) m))

  pub withdraw_usable : (d : ℕ) → MayWithdraw F S d → Usable L (marked t d)
  withdraw_usable d m = usable_after _ _ _ _ (marked t d) (kept-withdraw L t.plan t base p e S.withdrawn S.turned t kept d m.exists) (good_withdraw F plan p e S.withdrawn S.turned good d)

  pub turns_usable : (ws : List ℕ) → Group ws → AllTurnable F S ws → cyclic (graph F (after_turns S ws)) ≡ false → Usable L (flipped_all t ws)
  turns_usable ws g m c = usable_after _ _ _ _ (flipped_all t ws) (kept_turns L t.plan t base p e S.withdrawn S.turned t kept ws ((group_iff ws).1 g) (λ w i. (m w i).exists)) (good_turns F p e S.withdrawn S.turned good ws (subst (λ (x : Status). AllTurnable F x ws) (sym status_is) m) c)

  -- what a call leaves
  after : (c : Call) (t' : Tables) → (is_accepted (reply_in F S c) ≡ true → Usable L t') → Usable L (cond (is_accepted (reply_of L t c)) t' t)
  after c t' h = rw (reply L t full now-sound c) (by_cases (is_accepted (reply_in F S c)) (λ a. rw a (h a)) (λ a. rw a (full, now-sound)))

  pub group_usable : (ws : List ℕ) → Usable L (turn_all_step L t ws).tables
  unfolding turn_all_step
  group_usable ws = after (turn_all ws) (flipped_all t ws) (λ a. let (g, x) = group_passed F S s.waits_kept_lem ws a in turns_usable ws g x.0 x.1)

  pub call_usable : (c : Call) → Usable L (step L t c).tables
  unfolding grant_step arrive_step withdraw_step
  call_usable (grant d) = after (grant d) (granted t d) (λ a. grant_usable d (grant_passed F S d a))
  call_usable (arrive d) = after (arrive d) (arrived t d) (λ a. arrive_usable d (arrive_passed F S d a))
  call_usable (withdraw d) = after (withdraw d) (marked t d) (λ a. withdraw_usable d (withdraw_passed F S d a))
  call_usable (turn w) = rw (turn_is_group L t w) (group_usable (w ∷ []))
  call_usable (turn_all ws) = group_usable ws

-- the same by the contract of a call
pub left_usable : (L : Limits) (t t' : Tables) (c : Call) (r : Reply) → Usable L t → Answered (step L) t c r t' → Usable L t'
left_usable L t t' c r (f, s) h = rw h.left (call_usable L t f s c)

pub stays_usable : (L : Limits) (t : Tables) → StaysUsable L t
stays_usable L t (f, s) c = call_usable L t f s c
