-- The routes in sound tables, cut from the rows of names, the counts, the locations, the times and the legs: they are a valid plan, and the tables' own text is theirs.
use mathlib.Core.Path.{◌≡◌, refl, sym, ap, ◌∙◌, subst}
use mathlib.Core.Bool.{true, false, cond}
use mathlib.Core.List.{List, [], ◌∷◌, ◌++◌, append_assoc}
use Prim.Native.Nat.{ℕ, zero, suc, ◌+◌, ◌*◌, ◌≤◌, ◌<◌}
use native.Mathlib.Nat.{zero-add, zero-mul, suc-mul}
use native.Mathlib.Omega.{arith}
use lib.Dec.{ltb, leb, eqb}
use borrow.Author.Tests.{ltb-true, ltb-false, lt-ltb, le-leb, leb-true, eqb-true, eq-eqb, not-true}
use lib.ListN.{length, get_or, take, drop, length-append, length-drop, take-append-drop}
use lib.Seq.{length-take-le, get_or-take, get_or-drop, drop-drop, ext_get_or}
use Rattle.below.specs.Below.{at}
use Rattle.below.proofs.Tests.{by_cases, true_or_false, and_left, and_right, and_both}
use Rattle.below.proofs.Every.{all_below-at, all_below_all}
use Rattle.below.proofs.Search.{first_below_first}
use Rattle.tables.specs.Limits.{Limits}
use Rattle.lines.specs.Names.{is_name_byte, name_bytes, good_name, row_of, name_of}
use Rattle.lines.specs.Stops.{StopsInRange}
use Rattle.lines.proofs.NameRoundTrip.{name_of_row, row_long}
use Rattle.text.specs.LinesRead.{same, elem}
use Rattle.text.specs.TextWritten.{rows_in}
use Rattle.text.specs.Written.{drone_lines, route_lines, counts_of, locations_of, times_of, legs_of, InLimitsFrom, routes_from}
use Rattle.text.proofs.Rows.{row_fits}
use Rattle.plan.specs.Stops.{start}
use Rattle.plan.proofs.Numbering.{start_none}
use Rattle.sound.specs.Sound.{name_byte, name_length, name_sound, same_name, names_differ}
use Rattle.accepted.proofs.Stored.{at-past}
use Rattle.accepted.proofs.Routes.{InRange, range_each}
use Rattle.accepted.proofs.RowNames.{GoodRow, row_at}
use Rattle.accepted.proofs.RoutesPlan.{start-after}

-- ---- what is cut into routes is what the routes hold

pub record Cut (form : ℕ) (rows : List (List ℕ)) (cs ls ts gs : List ℕ) : Type 0 where
  pub many : length (routes_from rows cs ls ts gs) ≡ length rows
  pub counts : counts_of (routes_from rows cs ls ts gs) ≡ cs
  pub locations : locations_of (routes_from rows cs ls ts gs) ≡ ls
  pub times : times_of (routes_from rows cs ls ts gs) ≡ ts
  pub legs : legs_of (routes_from rows cs ls ts gs) ≡ gs
  pub lines : route_lines form (routes_from rows cs ls ts gs) ≡ drone_lines form rows cs ls ts gs

no_entry : (l : List ℕ) → length l ≡ 0 → [] ≡ l
no_entry [] e = refl
no_entry (x ∷ l) e = absurd (omega arith)

pub cut_back : (form : ℕ) (rows : List (List ℕ)) (cs ls ts gs : List ℕ) → length rows ≡ length cs → length ls ≡ start cs (length cs) → length ts ≡ start cs (length cs) → length gs ≡ start cs (length cs) → Cut form rows cs ls ts gs
unfolding drone_lines route_lines
cut_back form [] [] ls ts gs a b c d = record {
  many = refl;
  counts = refl;
  locations = no_entry ls (omega (arith, start_none []));
  times = no_entry ts (omega (arith, start_none []));
  legs = no_entry gs (omega (arith, start_none []));
  lines = refl;
}
cut_back form [] (m ∷ cs) ls ts gs a b c d = absurd (omega arith)
cut_back form (r ∷ rows) [] ls ts gs a b c d = absurd (omega arith)
cut_back form (r ∷ rows) (m ∷ cs) ls ts gs a b c d =
    let e = start-after m cs (length cs) in
    let rest = cut_back form rows cs (drop m ls) (drop m ts) (drop m gs) (omega arith) (simp length-drop (omega arith)) (simp length-drop (omega arith)) (simp length-drop (omega arith)) in
    let k : length (take m ls) ≡ m = length-take-le m ls (omega arith) in
    record {
      many = ap suc rest.many;
      counts = rw (k, rest.counts) refl;
      locations = rw rest.locations (take-append-drop m ls);
      times = rw rest.times (take-append-drop m ts);
      legs = rw rest.legs (take-append-drop m gs);
      lines = rw (k, rest.lines) refl;
    }

-- ---- ranges

-- the stops of each drone, by its first stop and the number there, are in range
abbrev pub EachInRange : Limits → ℕ → (cs ls ts gs : List ℕ) → Type 0
EachInRange L form cs ls ts gs = (d s : ℕ) → d < length cs → s < at cs d → let i = start cs d + s in InRange L form s (at ls i) (at ts i) (at gs i)

-- those of the first drone, and those of the others
module _ (L : Limits) (form m : ℕ) (cs ls ts gs : List ℕ) (range : EachInRange L form (m ∷ cs) ls ts gs) where
  range_first : m ≤ length ls → m ≤ length ts → m ≤ length gs → StopsInRange L form 0 (take m ls) (take m ts) (take m gs)
  range_first a b c =
      let k : length (take m ls) ≡ m = length-take-le m ls a in
      range_each L form 0 (take m ls) (take m ts) (take m gs) (length-take-le m ts b ∙ sym k) (length-take-le m gs c ∙ sym k) (λ i l.
      let j : i < m = omega (arith, k) in
      let e : start (m ∷ cs) 0 + i ≡ i = omega (arith, start_none (m ∷ cs)) in
      let h : InRange L form i (at ls i) (at ts i) (at gs i) = subst (λ (x : ℕ). InRange L form i (at ls x) (at ts x) (at gs x)) e (range 0 i (omega arith) j) in
      rw (zero-add i, get_or-take m ls i 0 j, get_or-take m ts i 0 j, get_or-take m gs i 0 j) h)

  range_rest : EachInRange L form cs (drop m ls) (drop m ts) (drop m gs)
  range_rest d s l k =
      let i : ℕ = start cs d + s in
      let e : start (m ∷ cs) (suc d) + s ≡ m + i = omega (arith, start-after m cs d) in
      let h : InRange L form s (at ls (m + i)) (at ts (m + i)) (at gs (m + i)) = subst (λ (x : ℕ). InRange L form s (at ls x) (at ts x) (at gs x)) e (range (suc d) s (omega arith) k) in
      rw (get_or-drop m ls i 0, get_or-drop m ts i 0, get_or-drop m gs i 0) h

-- ---- rows that are good and differ

none-elem : (rs : List (List ℕ)) (row : List ℕ) (more : List (List ℕ)) → ((k : ℕ) → k < length rs → same (get_or (rs ++ more) k []) row ≡ false) → elem rs row ≡ false
unfolding elem
none-elem [] row more h = refl
none-elem (r ∷ rs) row more h = rw (h zero (omega arith), none-elem rs row more (λ k l. h (suc k) (omega arith))) refl

-- the name in a good row is good, and has that row
good_name_lem : (L : Limits) (row : List ℕ) → GoodRow L row → (good_name L (name_of row) ≡ true) × (row_of L (name_of row) ≡ row)
good_name_lem L row g =
    let e : name_of row ≡ g.name = ap name_of g.row_is ∙ name_of_row L g.name g.good in
    (rw e g.good, rw e (sym g.row_is))

-- what the rows, counts and stops must be for the routes that are cut from them to be valid
pub record Cuttable (L : Limits) (form : ℕ) (earlier : List (List ℕ)) (total : ℕ) (rows : List (List ℕ)) (cs ls ts gs : List ℕ) : Type 0 where
  pub good : (d : ℕ) → d < length rows → GoodRow L (get_or rows d [])
  pub differ : (d k : ℕ) → d < length rows → k < length earlier + d → same (get_or (earlier ++ rows) k []) (get_or rows d []) ≡ false
  pub rows_many : length rows ≡ length cs
  pub some : (d : ℕ) → d < length cs → 1 ≤ at cs d
  pub locations_many : length ls ≡ start cs (length cs)
  pub times_many : length ts ≡ start cs (length cs)
  pub legs_many : length gs ≡ start cs (length cs)
  pub within : total + start cs (length cs) ≤ L.stops
  pub range : EachInRange L form cs ls ts gs

pub cut_valid : (L : Limits) (form : ℕ) (earlier : List (List ℕ)) (total : ℕ) (rows : List (List ℕ)) (cs ls ts gs : List ℕ) → Cuttable L form earlier total rows cs ls ts gs
    → InLimitsFrom L form earlier total (routes_from rows cs ls ts gs)
cut_valid L form earlier total [] cs ls ts gs c = tt
cut_valid L form earlier total (r ∷ rows) [] ls ts gs c = tt
cut_valid L form earlier total (r ∷ rows) (m ∷ cs) ls ts gs c =
    let (g, w) = good_name_lem L r (c.good zero (omega arith)) in
    let e = start-after m cs (length cs) in
    let k : length (take m ls) ≡ m = length-take-le m ls (omega (arith, c.locations_many)) in
    let some : 1 ≤ m = c.some zero (omega arith) in
    let new : elem earlier r ≡ false = none-elem earlier r (r ∷ rows) (λ j l. c.differ zero j (omega arith) (omega arith)) in
    let first : StopsInRange L form 0 (take m ls) (take m ts) (take m gs) = range_first L form m cs ls ts gs c.range (omega (arith, c.locations_many)) (omega (arith, c.times_many)) (omega (arith, c.legs_many)) in
    let rest : InLimitsFrom L form (earlier ++ r ∷ []) (total + m) (routes_from rows cs (drop m ls) (drop m ts) (drop m gs)) = cut_valid L form (earlier ++ r ∷ []) (total + m) rows cs (drop m ls) (drop m ts) (drop m gs) (record {
      good = λ d l. c.good (suc d) (omega arith);
      differ = λ d j l h. subst (λ (x : List (List ℕ)). same (get_or x j []) (get_or rows d []) ≡ false) (sym (append_assoc earlier (r ∷ []) rows)) (c.differ (suc d) j (omega arith) (omega (arith, length-append earlier (r ∷ []))));
      rows_many = omega (arith, c.rows_many);
      some = λ d l. c.some (suc d) (omega arith);
      locations_many = simp length-drop (omega (arith, c.locations_many));
      times_many = simp length-drop (omega (arith, c.times_many));
      legs_many = simp length-drop (omega (arith, c.legs_many));
      within = omega (arith, c.within);
      range = range_rest L form m cs ls ts gs c.range;
    }) in
    (g, rw w new, rw k some, rw k (omega (arith, c.within)), first, rw (w, k) rest)

-- ---- the rows of the table of names

pub rows_in_many : (L : Limits) (n : ℕ) (names : List ℕ) → length (rows_in L n names) ≡ n
unfolding rows_in
rows_in_many L zero names = refl
rows_in_many L (suc n) names = ap suc (rows_in_many L n (drop L.name names))

row_in : (L : Limits) (n : ℕ) (names : List ℕ) (d : ℕ) → d < n → get_or (rows_in L n names) d [] ≡ take L.name (drop (d * L.name) names)
unfolding rows_in
row_in L zero names d l = absurd (omega arith)
row_in L (suc n) names zero l = rw (zero-mul L.name) refl
row_in L (suc n) names (suc d) l =
    let e : L.name + d * L.name ≡ suc d * L.name = omega (arith, suc-mul d L.name) in
    row_in L n (drop L.name names) d (omega arith) ∙ ap (take L.name) (drop-drop (d * L.name) L.name names ∙ ap (λ (k : ℕ). drop k names) e)

name_bytes_lem : (x : List ℕ) → ((i : ℕ) → i < length x → is_name_byte (at x i) ≡ true) → name_bytes x ≡ true
unfolding name_bytes
name_bytes_lem [] h = refl
name_bytes_lem (b ∷ x) h = and_both (is_name_byte b) (name_bytes x) (h zero (omega arith)) (name_bytes_lem x (λ i l. h (suc i) (omega arith)))

-- equal as the test has it
same_at : (x y : List ℕ) → same x y ≡ true → (i : ℕ) → at x i ≡ at y i
unfolding same
same_at [] [] e i = refl
same_at [] (b ∷ y) e i = absurd (let z : ◌≡◌ {A = ℕ} 0 1 = cc e in omega arith)
same_at (a ∷ x) [] e i = absurd (let z : ◌≡◌ {A = ℕ} 0 1 = cc e in omega arith)
same_at (a ∷ x) (b ∷ y) e zero = eqb-true a b (and_left (eqb a b) (same x y) e)
same_at (a ∷ x) (b ∷ y) e (suc i) = same_at x y (and_right (eqb a b) (same x y) e) i

module _ (L : Limits) (n : ℕ) (names : List ℕ) (room : n * L.name ≤ length names) where
  abbrev row : ℕ → List ℕ
  row d = get_or (rows_in L n names) d []

  row_length : (d : ℕ) → d < n → length (row d) ≡ L.name
  row_length d l = ap (λ (r : List ℕ). length r) (row_in L n names d l) ∙ length-take-le L.name (drop (d * L.name) names) (simp length-drop (omega (arith, row_fits d n L.name l)))

  row_byte : (d i : ℕ) → d < n → i < L.name → at (row d) i ≡ name_byte L names d i
  row_byte d i l k = ap (λ (r : List ℕ). at r i) (row_in L n names d l) ∙ (get_or-take L.name (drop (d * L.name) names) i 0 k ∙ get_or-drop (d * L.name) names i 0)

  -- a name that is sound stands in a good row
  pub sound_row : (d : ℕ) → d < n → name_sound L names d ≡ true → GoodRow L (row d)
  unfolding name_sound name_length good_name
  sound_row d l s = record {
    name = name;
    row_is = ext_get_or 0 (row d) (row_of L name) (row_length d l ∙ sym (row_long L name)) entry;
    good = and_both _ _ (le-leb 1 (length name) (omega (arith, long, leb-true 1 size (and_left _ _ s)))) (and_both _ _ (le-leb (length name) L.name (omega (arith, long, fits))) (name_bytes_lem name bytes));
  }
    where
      size : ℕ
      size = name_length L names d

      fits : size ≤ L.name
      fits = (first_below_first L.name (λ i. eqb (name_byte L names d i) 0)).within

      name : List ℕ
      name = take size (row d)

      long : length name ≡ size
      long = length-take-le size (row d) (omega (arith, row_length d l, fits))

      right : (i : ℕ) → i < L.name → cond (ltb i size) (is_name_byte (name_byte L names d i)) (eqb (name_byte L names d i) 0) ≡ true
      right = all_below-at L.name _ (and_right (leb 1 size) _ s)

      bytes : (i : ℕ) → i < length name → is_name_byte (at name i) ≡ true
      bytes i k =
          let m : i < size = omega (arith, long) in
          let e : at name i ≡ name_byte L names d i = get_or-take size (row d) i 0 m ∙ row_byte d i l (omega (arith, fits)) in
          rw e (rw (lt-ltb i size m) at (right i (omega (arith, fits))))

      entry : (i : ℕ) → i < length (row d) → at (row d) i ≡ at (row_of L name) i
      entry i k =
          let m : i < L.name = omega (arith, row_length d l) in
          by_cases (ltb i size)
          (λ e. sym (get_or-take size (row d) i 0 (ltb-true i size e)) ∙ sym (row_at L name (omega (arith, long, fits)) i))
          (λ e. let past : size ≤ i = ltb-false i size e in
          row_byte d i l m ∙ (eqb-true _ _ (rw e at (right i m)) ∙ (sym (at-past name i (omega (arith, long))) ∙ sym (row_at L name (omega (arith, long, fits)) i))))

  pub rows_differ : names_differ L names n ≡ true → (d e : ℕ) → d < n → e < d → same (row e) (row d) ≡ false
  unfolding names_differ same_name
  rows_differ h d e l k = by_cases (same (row e) (row d)) (λ q. true_or_false (all_below_all L.name _ (equal q)) (not-true _ (all_below-at d _ (all_below-at n _ h d l) e k))) (λ q. q)
    where
      equal : same (row e) (row d) ≡ true → (i : ℕ) → i < L.name → eqb (name_byte L names d i) (name_byte L names e i) ≡ true
      equal q i m = eq-eqb _ _ (sym (row_byte d i l m) ∙ (sym (same_at (row e) (row d) q i) ∙ row_byte e i (omega arith) m))
