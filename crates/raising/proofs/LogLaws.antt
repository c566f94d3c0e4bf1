-- The log of raised entries: one entry more, and the way back. Assumes nothing.
use mathlib.Core.Path.{◌≡◌, refl, sym, ap, ◌∙◌}
use mathlib.Core.Logic.{◌≢◌}
use mathlib.Core.List.{List}
use Prim.Native.Nat.{ℕ, zero, suc, ◌+◌, ◌*◌, ◌-◌, ◌≤◌, ◌<◌}
use native.Mathlib.Nat.{mul-add, mul-one}
use native.Mathlib.Omega.{arith}
use lib.Dec.{eqb}
use lib.ListN.{length, set, length-set}
use lib.Seq.{get_or-set_same, get_or-set_other, set-get_or, set-set}
use borrow.Author.Tests.{eqb-true, eqb-false}
use Rattle.below.specs.Below.{at}
use Rattle.below.proofs.Tests.{by_cases}
use Rattle.tables.specs.Limits.{Limits}
use Rattle.raising.specs.Lifting.{log_room, undone, Logged, LogAt, LogsOn}

-- entries of the log past the ones put back do not matter
undone-past : (ls lo : List ℕ) (base n : ℕ) (t : List ℕ) (end w x : ℕ) → base + n ≤ end → undone (set ls end w) (set lo end x) base n t ≡ undone ls lo base n t
unfolding undone
undone-past ls lo base zero t end w x h = refl
undone-past ls lo base (suc n) t end w x h =
    let ne : base + n ≢ end = λ e. omega arith in
    rw (get_or-set_other ls end (base + n) w 0 ne, get_or-set_other lo end (base + n) x 0 ne) (undone-past ls lo base n (set t (at ls (base + n)) (at lo (base + n))) end w x (omega arith))

undone-more : (ls lo : List ℕ) (base n : ℕ) (t : List ℕ) → undone ls lo base (suc n) t ≡ undone ls lo base n (set t (at ls (base + n)) (at lo (base + n)))
unfolding undone
undone-more ls lo base n t = refl

undone-none : (ls lo : List ℕ) (base : ℕ) (t : List ℕ) → undone ls lo base 0 t ≡ t
unfolding undone
undone-none ls lo base t = refl

-- one entry put back
pub undone_one : (ls lo : List ℕ) (base end : ℕ) (t : List ℕ) → base < end → undone ls lo base (end - base) t ≡ undone ls lo base (end - 1 - base) (set t (at ls (end - 1)) (at lo (end - 1)))
undone_one ls lo base end t h =
    let e : end - base ≡ suc (end - 1 - base) = omega arith in
    let q : base + (end - 1 - base) ≡ end - 1 = omega arith in
    ap (λ (n : ℕ). undone ls lo base n t) e ∙ undone-more ls lo base (end - 1 - base) t ∙ ap (λ (j : ℕ). undone ls lo base (end - 1 - base) (set t (at ls j) (at lo j))) q

pub undone_all : (ls lo : List ℕ) (base end : ℕ) (t : List ℕ) → end ≤ base → undone ls lo base (end - base) t ≡ t
undone_all ls lo base end t h =
    let e : end - base ≡ 0 = omega arith in
    ap (λ (n : ℕ). undone ls lo base n t) e ∙ undone-none ls lo base t

-- the way back in two parts
undone_parts : (ls lo : List ℕ) (base mark n : ℕ) (t : List ℕ) → base ≤ mark → undone ls lo base (mark - base + n) t ≡ undone ls lo base (mark - base) (undone ls lo mark n t)
undone_parts ls lo base mark zero t h =
    let e : mark - base + 0 ≡ mark - base = omega arith in
    ap (λ (n : ℕ). undone ls lo base n t) e ∙ ap (undone ls lo base (mark - base)) (sym (undone-none ls lo mark t))
undone_parts ls lo base mark (suc n) t h =
    let e : mark - base + suc n ≡ suc (mark - base + n) = omega arith in
    let q : base + (mark - base + n) ≡ mark + n = omega arith in
    ap (λ (n : ℕ). undone ls lo base n t) e ∙ undone-more ls lo base (mark - base + n) t ∙ ap (λ (j : ℕ). undone ls lo base (mark - base + n) (set t (at ls j) (at lo j))) q ∙ undone_parts ls lo base mark n (set t (at ls (mark + n)) (at lo (mark + n))) h ∙ ap (undone ls lo base (mark - base)) (sym (undone-more ls lo mark n t))

-- one leg more
leg_more : (g a b : ℕ) → g * (a + (b + 1)) ≡ g * (a + b) + g
leg_more g a b =
    let e : a + (b + 1) ≡ a + b + 1 = omega arith in
    ap (λ (x : ℕ). g * x) e ∙ mul-add g (a + b) 1 ∙ ap (λ (x : ℕ). g * (a + b) + x) (mul-one g)

module _ (g size room : ℕ) where
  pub logged_none : (base : ℕ) (t ls lo : List ℕ) → length t ≡ size → length ls ≡ room → length lo ≡ room → base ≤ room → ((v : ℕ) → at t v ≤ g * (size + base)) → Logged g size room base t base t ls lo
  logged_none base t ls lo a b c l s = record {
    table_size = a;
    stops_size = b;
    olds_size = c;
    from_base = omega arith;
    in_room = l;
    in_table = λ j h k. absurd (omega arith);
    small_first = s;
    small = s;
    undoes = undone_all ls lo base base t (omega arith);
  }

  module _ {base end : ℕ} {t₀ t ls lo : List ℕ} (G : Logged g size room base t₀ end t ls lo) where
    -- a raised entry more
    pub logged_more : (w x : ℕ) → end < room → w < size → x ≤ g + g * (size + end) → Logged g size room base t₀ (end + 1) (set t w x) (set ls end w) (set lo end (at t w))
    logged_more w x l i s = record {
      table_size = length-set t w x ∙ G.table_size;
      stops_size = length-set ls end w ∙ G.stops_size;
      olds_size = length-set lo end (at t w) ∙ G.olds_size;
      from_base = omega (arith, G.from_base);
      in_room = omega arith;
      in_table = λ j h k. by_cases (eqb j end)
          (λ e. let q : j ≡ end = eqb-true j end e in rw (q, get_or-set_same ls end w 0 (omega (arith, G.stops_size))) i)
          (λ e. let q : j ≢ end = eqb-false j end e in rw (get_or-set_other ls end j w 0 q) (G.in_table j h (omega (arith, q))));
      small_first = G.small_first;
      small = λ v. by_cases (eqb v w)
          (λ e. let q : v ≡ w = eqb-true v w e in rw (q, get_or-set_same t w x 0 (omega (arith, G.table_size))) (omega (arith, leg_more g size end)))
          (λ e. let q : v ≢ w = eqb-false v w e in rw (get_or-set_other t w v x 0 q) (omega (arith, G.small v, leg_more g size end)));
      undoes =
          let e : end + 1 - 1 ≡ end = omega arith in
          undone_one (set ls end w) (set lo end (at t w)) base (end + 1) (set t w x) (omega (arith, G.from_base))
          ∙ ap (λ (j : ℕ). undone (set ls end w) (set lo end (at t w)) base (j - base) (set (set t w x) (at (set ls end w) j) (at (set lo end (at t w)) j))) e
          ∙ undone-past ls lo base (end - base) (set (set t w x) (at (set ls end w) end) (at (set lo end (at t w)) end)) end w (at t w) (omega (arith, G.from_base))
          ∙ ap (undone ls lo base (end - base)) back
          ∙ G.undoes;
    }
      where
        back : set (set t w x) (at (set ls end w) end) (at (set lo end (at t w)) end) ≡ t
        back = rw (get_or-set_same ls end w 0 (omega (arith, G.stops_size)), get_or-set_same lo end (at t w) 0 (omega (arith, G.olds_size))) (set-set t w x (at t w) ∙ set-get_or t w 0)

    -- back to the table at a mark
    pub logged_back : (mark : ℕ) (t₁ : List ℕ) → base ≤ mark → Logged g size room mark t₁ end t ls lo → length t₁ ≡ size → Logged g size room base t₀ mark t₁ ls lo
    logged_back mark t₁ h M s = record {
      table_size = s;
      stops_size = G.stops_size;
      olds_size = G.olds_size;
      from_base = h;
      in_room = omega (arith, M.from_base, M.in_room);
      in_table = λ j a b. G.in_table j a (omega (arith, M.from_base));
      small_first = G.small_first;
      small = M.small_first;
      undoes =
          let e : mark - base + (end - mark) ≡ end - base = omega (arith, M.from_base) in
          ap (undone ls lo base (mark - base)) (sym M.undoes) ∙ sym (undone_parts ls lo base mark (end - mark) t h) ∙ ap (λ (n : ℕ). undone ls lo base n t) e ∙ G.undoes;
    }

-- where the log ends now
pub log_now : (L : Limits) {top : ℕ} {t ls lo : List ℕ} {r : ℕ} {t' ls' lo' : List ℕ} → LogsOn L top t ls lo r t' ls' lo' → LogAt L top t ls lo → LogAt L r t' ls' lo'
log_now L {top} {t} {ls} {lo} {r} {t'} {ls'} {lo'} on G = let H : Logged L.leg L.stops log_room top t r t' ls' lo' = on top t G in logged_none L.leg L.stops log_room r t' ls' lo' H.table_size H.stops_size H.olds_size H.in_room H.small

length-undone : (ls lo : List ℕ) (base n : ℕ) (t : List ℕ) → length (undone ls lo base n t) ≡ length t
unfolding undone
length-undone ls lo base zero t = refl
length-undone ls lo base (suc n) t = length-undone ls lo base n (set t (at ls (base + n)) (at lo (base + n))) ∙ length-set t (at ls (base + n)) (at lo (base + n))

pub logged_size : {g size room base : ℕ} {t₀ : List ℕ} {end : ℕ} {t ls lo : List ℕ} → Logged g size room base t₀ end t ls lo → length t₀ ≡ size
logged_size {g} {size} {room} {base} {t₀} {end} {t} {ls} {lo} G = ap length (sym G.undoes) ∙ length-undone ls lo base (end - base) t ∙ G.table_size

-- ---- what the code reads

pub read_visited : (owners cur : List ℕ) (w d x : ℕ) → d ≡ at owners w → x ≡ at cur d → w ≤ x → w ≤ at cur (at owners w)
read_visited owners cur w d x e f h = omega (arith, ap (at cur) e)

pub read_unvisited : (owners cur : List ℕ) (w d x : ℕ) → d ≡ at owners w → x ≡ at cur d → x < w → at cur (at owners w) < w
read_unvisited owners cur w d x e f h = omega (arith, ap (at cur) e)

pub undo_turn : (ls lo : List ℕ) (mark k v : ℕ) (t : List ℕ) → mark < k → v ≡ at ls (k - 1) → undone ls lo mark (k - 1 - mark) (set t v (at lo (k - 1))) ≡ undone ls lo mark (k - mark) t
undo_turn ls lo mark k v t h e = rw e (sym (undone_one ls lo mark k t h))
