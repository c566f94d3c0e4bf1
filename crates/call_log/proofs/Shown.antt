-- The tables along a list of calls: they show the log's counts, stay sound, and so reply as the log does. Assumes nothing.
use mathlib.Core.Path.{◌≡◌, refl, sym, ap, ◌∙◌, subst}
use mathlib.Core.Logic.{◌≢◌}
use mathlib.Core.Bool.{Bool, true, false, not, cond}
use mathlib.Core.List.{List}
use Prim.Native.Nat.{ℕ, suc, ◌+◌, ◌/◌, ◌≤◌, ◌<◌}
use native.Mathlib.Omega.{arith}
use lib.ListN.{set, length-set}
use lib.Seq.{get_or-set_other}
use lib.Dec.{ltb, eqb}
use borrow.Author.Tests.{lt-ltb, le-ltb, eq-eqb, eqb-true, eqb-false}
use Rattle.below.specs.Below.{pick, at, update, is_in}
use Rattle.below.proofs.Tests.{by_cases, and_both}
use Rattle.below.proofs.Every.{all_below_all}
use Rattle.below.proofs.Index.{put_same, put_other, put_elim, at_set}
use Rattle.tables.specs.Limits.{Limits}
use Rattle.tables.specs.Tables.{PlanLists, Tables, drones, dependencies, full_size, Sizes}
use Rattle.tables.proofs.SizeLaws.{full_sizes}
use Rattle.tables.specs.Flags.{turned_bit, flip_bit, fixed_flag, under_way_bit, withdrawn_bit, only_two_bits, set_under_way, clear_under_way, set_withdrawn}
use Rattle.tables.proofs.FlagLaws.{flip-turned, flip_half, new_turned}
use Rattle.precedence.specs.Graph.{cyclic}
use Rattle.plan.specs.Field.{flip_all, mark, graph, fixed, AcceptedPlan, plan_of, as_planned}
use Rattle.plan.proofs.Withdrawals.{mark-here, mark_other}
use Rattle.plan.specs.Status.{status_in, fixed_unturned, within_stops, waits_kept}
use Rattle.sound.specs.Sound.{plan_accepted_lem, dependencies_sound, plan_unused_lem, flags_sound, drone_flags_sound, progress_unused, sound}
use Rattle.call_log.specs.CallLog.{Call, is_group, reply_in}
use Rattle.call_log.specs.Calls.{granted, arrived, marked, flip_flags, flipped_all, reply_of, AsRead}
use Rattle.call_log.specs.Claims.{ProgressOnly}
use Rattle.sound.proofs.Clauses.{says-sound}
use Rattle.call_log.proofs.SoundParts.{zero_from_lem, drones_in, dependencies_in}
use Rattle.call_log.proofs.FlipLaws.{flips_length, flips_at}
use Rattle.call_log.proofs.SameStatus.{Same, cyclic-same, reply_same, unturned_same, within_same, waits_same}
use Rattle.call_log.proofs.Good.{Good, counted_status, good_within, good_waits, good_unturned}

-- ---- tables that differ in used progress and flags only

pub same_self : (t : Tables) → ProgressOnly t t
same_self t = record { plan_same = refl; visited_length = refl; drone_flags_length = refl; flags_length = refl; visited_unused = λ d l. refl; drone_flags_unused = λ d l. refl; flags_unused = λ w l. refl }

same_then : (a b c : Tables) → ProgressOnly a b → ProgressOnly b c → ProgressOnly a c
same_then a b c x y =
    let drones_same : drones b.plan ≡ drones a.plan = ap drones x.plan_same in
    let count_same : dependencies b.plan ≡ dependencies a.plan = ap dependencies x.plan_same in
    record {
      plan_same = y.plan_same ∙ x.plan_same;
      visited_length = y.visited_length ∙ x.visited_length;
      drone_flags_length = y.drone_flags_length ∙ x.drone_flags_length;
      flags_length = y.flags_length ∙ x.flags_length;
      visited_unused = λ d l. y.visited_unused d (omega arith) ∙ x.visited_unused d l;
      drone_flags_unused = λ d l. y.drone_flags_unused d (omega arith) ∙ x.drone_flags_unused d l;
      flags_unused = λ w l. y.flags_unused w (omega arith) ∙ x.flags_unused w l;
    }

pub full-same : (L : Limits) (t t' : Tables) → ProgressOnly t t' → full_size L t ≡ true → full_size L t' ≡ true
unfolding full_size
full-same L t t' s h = rw (s.plan_same, s.visited_length, s.drone_flags_length, s.flags_length) h

-- a store to a used entry
stored : (l : List ℕ) (i x n : ℕ) → i < n → (c : ℕ) → n ≤ c → at (set l i x) c ≡ at l c
stored l i x n h c k = get_or-set_other l i c x 0 (let ne : c ≢ i = omega arith in ne)

-- ---- a flag byte, known by its bits

abbrev pub bit : Bool → ℕ
bit b = pick b 1 0

-- a drone's: whether it is under way, and whether it is withdrawn
abbrev pub drone_byte : Bool → Bool → ℕ
drone_byte u x = pick u 1 0 + pick x 2 0

set_byte : (u x : Bool) → set_under_way (drone_byte u x) ≡ drone_byte true x
unfolding set_under_way
set_byte true true = refl
set_byte true false = refl
set_byte false true = refl
set_byte false false = refl

clear_byte : (u x : Bool) → clear_under_way (drone_byte u x) ≡ drone_byte false x
unfolding clear_under_way
clear_byte true true = refl
clear_byte true false = refl
clear_byte false true = refl
clear_byte false false = refl

mark_byte : (u x : Bool) → set_withdrawn (drone_byte u x) ≡ drone_byte u true
unfolding set_withdrawn
mark_byte true true = refl
mark_byte true false = refl
mark_byte false true = refl
mark_byte false false = refl

byte_under_way : (u x : Bool) → under_way_bit (drone_byte u x) ≡ u
unfolding under_way_bit
byte_under_way true true = refl
byte_under_way true false = refl
byte_under_way false true = refl
byte_under_way false false = refl

byte_withdrawn : (u x : Bool) → withdrawn_bit (drone_byte u x) ≡ x
unfolding withdrawn_bit
byte_withdrawn true true = refl
byte_withdrawn true false = refl
byte_withdrawn false true = refl
byte_withdrawn false false = refl

byte_only : (u x : Bool) → only_two_bits (drone_byte u x) ≡ true
unfolding only_two_bits
byte_only true true = refl
byte_only true false = refl
byte_only false true = refl
byte_only false false = refl

fixed_half : (b : Bool) → fixed_flag b / 2 ≡ bit b
unfolding fixed_flag
fixed_half true = refl
fixed_half false = refl

-- the tables t hold the counts p and e, the marks x and the turns u; t₀ are the tables as they were read
pub record Kept (lists : PlanLists) (t₀ : Tables) (p e : ℕ → ℕ) (x u : ℕ → Bool) (t : Tables) : Type 0 where
  pub same : ProgressOnly t₀ t
  pub visited_is : (d : ℕ) → d < drones lists → at t.visited d ≡ p d
  pub drone_flags_are : (d : ℕ) → d < drones lists → at t.drone_flags d ≡ drone_byte (ltb (p d) (e d)) (x d)
  pub turned_are : (w : ℕ) → w < dependencies lists → turned_bit (at t.flags w) ≡ u w
  pub halves_are : (w : ℕ) → w < dependencies lists → at t.flags w / 2 ≡ bit (fixed (plan_of lists) w)

-- what tables must have had at first for calls on them to keep them sound: full sizes, an accepted plan with its own dependencies, unused entries zero
pub record Base (L : Limits) (lists : PlanLists) (t₀ : Tables) : Type 0 where
  pub plan_read : t₀.plan ≡ lists
  pub full : full_size L t₀ ≡ true
  pub plan_accepted : plan_accepted_lem L lists ≡ true
  pub dependencies_own : dependencies_sound L lists ≡ true
  pub plan_unused : plan_unused_lem L lists ≡ true
  pub visited_zero : (d : ℕ) → drones lists ≤ d → d < L.drones → at t₀.visited d ≡ 0
  pub drone_flags_zero : (d : ℕ) → drones lists ≤ d → d < L.drones → at t₀.drone_flags d ≡ 0
  pub flags_zero : (w : ℕ) → dependencies lists ≤ w → w < L.dependencies → at t₀.flags w ≡ 0

pub base_read : (L : Limits) (lists : PlanLists) (t₀ : Tables) → AsRead L lists t₀ → Base L lists t₀
base_read L lists t₀ r = record {
  plan_read = r.plan_read;
  full = r.full;
  plan_accepted = r.plan_accepted;
  dependencies_own = r.dependencies_own;
  plan_unused = r.plan_unused;
  visited_zero = λ d m. r.visited_zero d;
  drone_flags_zero = λ d m. r.drone_flags_zero d;
  flags_zero = r.flags_zero;
}

module _ (L : Limits) (lists : PlanLists) (t₀ : Tables) (read : Base L lists t₀) where
  drones-room : drones lists ≤ L.drones
  drones-room = drones_in L lists read.plan_accepted

  count_room : dependencies lists ≤ L.dependencies
  count_room = dependencies_in L lists read.plan_accepted read.dependencies_own

  room : Sizes L t₀
  room = full_sizes L t₀ read.full

  module _ (p e : ℕ → ℕ) (x u : ℕ → Bool) (t : Tables) (k : Kept lists t₀ p e x u t) where
    plan_kept : t.plan ≡ lists
    plan_kept = k.same.plan_same ∙ read.plan_read

    drones_are : drones t.plan ≡ drones lists
    drones_are = ap drones plan_kept

    count_is : dependencies t.plan ≡ dependencies lists
    count_is = ap dependencies plan_kept

    -- ---- what an accepted call leaves

    pub kept-grant : (d : ℕ) → d < drones lists → Kept lists t₀ p (update e d (suc (p d))) x u (granted t d)
    kept-grant d l = record {
      same = same_then t₀ t (granted t d) k.same (record {
        plan_same = refl;
        visited_length = refl;
        drone_flags_length = length-set t.drone_flags d _;
        flags_length = refl;
        visited_unused = λ c h. refl;
        drone_flags_unused = stored t.drone_flags d _ (drones t.plan) (omega (arith, drones_are));
        flags_unused = λ w h. refl;
      });
      visited_is = k.visited_is;
      drone_flags_are = λ c m. at_set t.drone_flags d (set_under_way (at t.drone_flags d)) (omega (arith, k.same.drone_flags_length, room.drone_flags, drones-room)) c
          ∙ put_elim (λ c z. c < drones lists → update (at t.drone_flags) d (set_under_way (at t.drone_flags d)) c ≡ drone_byte (ltb (p c) z) (x c)) e d (suc (p d))
          (λ m. put_same (at t.drone_flags) d _ ∙ ap set_under_way (k.drone_flags_are d l) ∙ set_byte (ltb (p d) (e d)) (x d) ∙ sym (ap (λ (b : Bool). drone_byte b (x d)) (lt-ltb (p d) (suc (p d)) (omega arith))))
          (λ c n m. put_other (at t.drone_flags) d _ c n ∙ k.drone_flags_are c m) c m;
      turned_are = k.turned_are;
      halves_are = k.halves_are;
    }

    pub kept-arrive : (d : ℕ) → d < drones lists → e d ≤ suc (p d) → Kept lists t₀ (update p d (suc (p d))) e x u (arrived t d)
    kept-arrive d l h = record {
      same = same_then t₀ t (arrived t d) k.same (record {
        plan_same = refl;
        visited_length = length-set t.visited d _;
        drone_flags_length = length-set t.drone_flags d _;
        flags_length = refl;
        visited_unused = stored t.visited d _ (drones t.plan) (omega (arith, drones_are));
        drone_flags_unused = stored t.drone_flags d _ (drones t.plan) (omega (arith, drones_are));
        flags_unused = λ w h. refl;
      });
      visited_is = λ c m. at_set t.visited d (at t.visited d + 1) (omega (arith, k.same.visited_length, room.visited, drones-room)) c
          ∙ put_elim (λ c z. c < drones lists → update (at t.visited) d (at t.visited d + 1) c ≡ z) p d (suc (p d))
          (λ m. put_same (at t.visited) d _ ∙ omega (arith, k.visited_is d l))
          (λ c n m. put_other (at t.visited) d _ c n ∙ k.visited_is c m) c m;
      drone_flags_are = λ c m. at_set t.drone_flags d (clear_under_way (at t.drone_flags d)) (omega (arith, k.same.drone_flags_length, room.drone_flags, drones-room)) c
          ∙ put_elim (λ c z. c < drones lists → update (at t.drone_flags) d (clear_under_way (at t.drone_flags d)) c ≡ drone_byte (ltb z (e c)) (x c)) p d (suc (p d))
          (λ m. put_same (at t.drone_flags) d _ ∙ ap clear_under_way (k.drone_flags_are d l) ∙ clear_byte (ltb (p d) (e d)) (x d) ∙ sym (ap (λ (b : Bool). drone_byte b (x d)) (le-ltb (suc (p d)) (e d) h)))
          (λ c n m. put_other (at t.drone_flags) d _ c n ∙ k.drone_flags_are c m) c m;
      turned_are = k.turned_are;
      halves_are = k.halves_are;
    }

    pub kept-withdraw : (d : ℕ) → d < drones lists → Kept lists t₀ p e (mark x d) u (marked t d)
    kept-withdraw d l = record {
      same = same_then t₀ t (marked t d) k.same (record {
        plan_same = refl;
        visited_length = refl;
        drone_flags_length = length-set t.drone_flags d _;
        flags_length = refl;
        visited_unused = λ c h. refl;
        drone_flags_unused = stored t.drone_flags d _ (drones t.plan) (omega (arith, drones_are));
        flags_unused = λ w h. refl;
      });
      visited_is = k.visited_is;
      drone_flags_are = λ c m. at_set t.drone_flags d (set_withdrawn (at t.drone_flags d)) (omega (arith, k.same.drone_flags_length, room.drone_flags, drones-room)) c
          ∙ by_cases (eqb c d)
          (λ q. subst (λ (z : ℕ). update (at t.drone_flags) d (set_withdrawn (at t.drone_flags d)) z ≡ drone_byte (ltb (p z) (e z)) (mark x d z)) (sym (eqb-true c d q)) here)
          (λ q. put_other (at t.drone_flags) d _ c (eqb-false c d q) ∙ k.drone_flags_are c m ∙ ap (drone_byte (ltb (p c) (e c))) (sym (mark_other x d c (eqb-false c d q))));
      turned_are = k.turned_are;
      halves_are = k.halves_are;
    }
      where
        here : update (at t.drone_flags) d (set_withdrawn (at t.drone_flags d)) d ≡ drone_byte (ltb (p d) (e d)) (mark x d d)
        here = put_same (at t.drone_flags) d _ ∙ ap set_withdrawn (k.drone_flags_are d l) ∙ mark_byte (ltb (p d) (e d)) (x d) ∙ ap (drone_byte (ltb (p d) (e d))) (sym (mark-here x d))

    -- a list of the plan's dependencies, strictly rising
    pub kept_turns : (ws : List ℕ) → is_group ws ≡ true → ((w : ℕ) → is_in w ws ≡ true → w < dependencies lists) → Kept lists t₀ p e x (flip_all u ws) (flipped_all t ws)
    kept_turns ws g within = record {
      same = same_then t₀ t (flipped_all t ws) k.same (record {
        plan_same = refl;
        visited_length = refl;
        drone_flags_length = refl;
        flags_length = flips_length ws t.flags;
        visited_unused = λ c h. refl;
        drone_flags_unused = λ c h. refl;
        flags_unused = λ v h. after v ∙ by_cases (is_in v ws) (λ i. absurd (omega (arith, within v i, count_is))) (λ i. rw i refl);
      });
      visited_is = k.visited_is;
      drone_flags_are = k.drone_flags_are;
      turned_are = λ v m. ap turned_bit (after v) ∙ by_cases (is_in v ws)
          (λ i. rw i (flip-turned (at t.flags v) ∙ ap not (k.turned_are v m)))
          (λ i. rw i (k.turned_are v m));
      halves_are = λ v m. ap (λ (z : ℕ). z / 2) (after v) ∙ by_cases (is_in v ws)
          (λ i. rw i (flip_half (at t.flags v) ∙ k.halves_are v m))
          (λ i. rw i (k.halves_are v m));
    }
      where
        after : (v : ℕ) → at (flip_flags t.flags ws) v ≡ cond (is_in v ws) (flip_bit (at t.flags v)) (at t.flags v)
        after = flips_at ws t.flags g (λ w i. omega (arith, within w i, k.same.flags_length, room.flags, count_room))

    -- ---- the tables show the counts, and are sound when those are good

    pub kept_status : Same (plan_of lists) (status_in t) (counted_status (plan_of lists) p e x u)
    kept_status = record {
      marks = λ d l. ap withdrawn_bit (k.drone_flags_are d l) ∙ byte_withdrawn (ltb (p d) (e d)) (x d);
      places = k.visited_is;
      under_ways = λ d l. ap under_way_bit (k.drone_flags_are d l) ∙ byte_under_way (ltb (p d) (e d)) (x d);
      turns = k.turned_are;
    }

    kept_flags : flags_sound L t ≡ true
    unfolding flags_sound
    kept_flags = all_below_all (dependencies t.plan) _ (λ w l. eq-eqb (at t.flags w / 2) _ (k.halves_are w (omega (arith, count_is)) ∙ ap (λ (z : PlanLists). bit (fixed (plan_of z) w)) (sym plan_kept)))

    kept_drone_flags : drone_flags_sound L t ≡ true
    unfolding drone_flags_sound
    kept_drone_flags = all_below_all (drones t.plan) _ (λ d l. ap only_two_bits (k.drone_flags_are d (omega (arith, drones_are))) ∙ byte_only (ltb (p d) (e d)) (x d))

    kept_unused : progress_unused L t ≡ true
    unfolding progress_unused
    kept_unused =
        let drones-read : drones t₀.plan ≡ drones lists = ap drones read.plan_read in
        let count-read : dependencies t₀.plan ≡ dependencies lists = ap dependencies read.plan_read in
        and_both _ _
        (zero_from_lem (drones t.plan) L.drones t.visited (λ d m h. k.same.visited_unused d (omega (arith, drones_are)) ∙ read.visited_zero d (omega (arith, drones_are)) h))
        (and_both _ _
        (zero_from_lem (drones t.plan) L.drones t.drone_flags (λ d m h. k.same.drone_flags_unused d (omega (arith, drones_are)) ∙ read.drone_flags_zero d (omega (arith, drones_are)) h))
        (zero_from_lem (dependencies t.plan) L.dependencies t.flags (λ w m h. k.same.flags_unused w (omega (arith, count_is)) ∙ read.flags_zero w (omega (arith, count_is)) h)))

    module _ (plan : AcceptedPlan (plan_of lists)) (g : Good (plan_of lists) p e x u) where
      pub kept-sound : sound L t ≡ true
      kept-sound = says-sound L t (record {
        accepted = ap (plan_accepted_lem L) plan_kept ∙ read.plan_accepted;
        dependencies_own = ap (dependencies_sound L) plan_kept ∙ read.dependencies_own;
        flags_right = kept_flags;
        fixed_unturned_lem = ap (λ (z : PlanLists). fixed_unturned (plan_of z) (status_in t)) plan_kept ∙ unturned_same (plan_of lists) plan _ _ kept_status ∙ good_unturned (plan_of lists) p e x u g;
        no_cycle = ap (λ (z : PlanLists). cyclic (graph (plan_of z) (status_in t))) plan_kept ∙ cyclic-same (plan_of lists) plan _ _ kept_status ∙ g.acyclic;
        drone_flags = kept_drone_flags;
        within = ap (λ (z : PlanLists). within_stops (plan_of z) (status_in t)) plan_kept ∙ within_same (plan_of lists) plan _ _ kept_status ∙ good_within (plan_of lists) p e x u g;
        waits_kept_lem = ap (λ (z : PlanLists). waits_kept (plan_of z) (status_in t)) plan_kept ∙ waits_same (plan_of lists) plan _ _ kept_status ∙ good_waits (plan_of lists) p e x u g;
        plan_unused = ap (plan_unused_lem L) plan_kept ∙ read.plan_unused;
        progress_unused_lem = kept_unused;
      })

      -- so 41 and 40 never come, and the reply is that of the counts
      pub kept_reply : (c : Call) → reply_of L t c ≡ reply_in (plan_of lists) (counted_status (plan_of lists) p e x u) c
      unfolding reply_of
      kept_reply c = rw (full-same L t₀ t k.same read.full, kept-sound) (ap (λ (z : PlanLists). reply_in (plan_of z) (status_in t) c) plan_kept ∙ reply_same (plan_of lists) plan _ _ kept_status c)

-- as they were read
pub kept-start : (L : Limits) (lists : PlanLists) (t₀ : Tables) → AsRead L lists t₀ → Kept lists t₀ (λ d. 0) (λ d. 0) as_planned.withdrawn as_planned.turned t₀
kept-start L lists t₀ read = record {
  same = same_self t₀;
  visited_is = λ d l. read.visited_zero d (omega (arith, drones_in L lists read.plan_accepted));
  drone_flags_are = λ d l. read.drone_flags_zero d (omega (arith, drones_in L lists read.plan_accepted));
  turned_are = λ w l. ap turned_bit (read.flags_fixed w l) ∙ new_turned (fixed (plan_of lists) w);
  halves_are = λ w l. ap (λ (z : ℕ). z / 2) (read.flags_fixed w l) ∙ fixed_half (fixed (plan_of lists) w);
}
