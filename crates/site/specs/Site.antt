-- The site text (request 7): "`site=1`, `pairs=N` (0 to 256), lines `near=A,B` with A below B, in strictly rising order by A and then by B, then `end=site`", "under the plan
-- text's rules for lines and numbers". Read at a position; each answer is a function of the text and the position alone. Assumes nothing.
use Rattle.std.specs.Prelude.{ℕ, zero, suc, ◌+◌, ◌≡◌, List, [], ◌∷◌, Bool, cond, ◌&&◌, ltb, leb, eqb, length, Option, Some, None, Result, Ok, Err}
use Rattle.std.proofs.lemmas.List.Edits.{sets}
use Rattle.below.specs.Below.{pair_before}
use Rattle.tables.specs.Limits.{Limits, most_pairs}
use Rattle.lines.specs.Keys.{line_feed}
use Rattle.lines.specs.Bytes.{is_at}
use Rattle.lines.specs.Numbers.{field_at}
use Rattle.lines.specs.declared.numbers.Number.{Number}
use Rattle.site.specs.declared.SiteRefusal.{SiteRefusal}
use Rattle.site.specs.declared.SiteRefusal.TheVariants.{Form, Range}
use Rattle.site.specs.declared.NearLine.{NearLine}

-- "13, a malformed, missing or surplus site line; 14, a number out of its range, A not below B or a pair not above the one before"
abbrev pub site_number : SiteRefusal → ℕ
site_number (Form o) = 13
site_number (Range o) = 14

-- "both carry offsets as 2 and 4 do": the start of the line, the text's length if the line is absent
abbrev pub site_offset : SiteRefusal → ℕ
site_offset (Form o) = o
site_offset (Range o) = o

-- ---- the fixed bytes

-- `site=1` and its line feed
abbrev pub site_line : List ℕ
site_line = 115 ∷ 105 ∷ 116 ∷ 101 ∷ 61 ∷ 49 ∷ line_feed ∷ []

-- `pairs=`
abbrev pub pairs_key : List ℕ
pairs_key = 112 ∷ 97 ∷ 105 ∷ 114 ∷ 115 ∷ 61 ∷ []

-- `near=`
abbrev pub near_key : List ℕ
near_key = 110 ∷ 101 ∷ 97 ∷ 114 ∷ 61 ∷ []

-- `,`
abbrev pub comma : ℕ
comma = 44

-- `end=site` and its line feed
abbrev pub site_end : List ℕ
site_end = 101 ∷ 110 ∷ 100 ∷ 61 ∷ 115 ∷ 105 ∷ 116 ∷ 101 ∷ line_feed ∷ []

-- ---- a line `near=A,B` after the pair (c, d)

-- "A below B, in strictly rising order by A and then by B", both locations. Before the first line (c, d) is (0, 0), which is below every such pair
unfoldable pub in_order : Limits → (c d a b : ℕ) → Bool
in_order L c d a b = leb b L.location && (ltb a b && pair_before c d a b)

-- a pair that was read, and the position after its line
abbrev pub near_pair : (a b e : ℕ) → Result NearLine SiteRefusal
near_pair a b e = Ok (record { lower = a; upper = b; next = e })

-- both numbers were read: "after 13 at one line"
abbrev pub near_upper : Limits → (c d at a : ℕ) → Option Number → Result NearLine SiteRefusal
near_upper L c d at a None = Err (Form at)
near_upper L c d at a (Some b) = cond (in_order L c d a b.value) (near_pair a b.value b.next) (Err (Range at))

abbrev pub near_lower : Limits → (c d : ℕ) → List ℕ → ℕ → Option Number → Result NearLine SiteRefusal
near_lower L c d text at None = Err (Form at)
near_lower L c d text at (Some a) = near_upper L c d at a.value (field_at text a.next line_feed)

unfoldable pub near_at : Limits → (c d : ℕ) → List ℕ → ℕ → Result NearLine SiteRefusal
near_at L c d text at = cond (is_at text at near_key) (near_lower L c d text at (field_at text (at + length near_key) comma)) (Err (Form at))

-- ---- n lines `near=`

-- the numbers of the pairs that were read, up to the first line at fault, and the answer
pub record PairList (A : Type 0) : Type 0 where
  pub numbers : List ℕ
  pub answer : A

abbrev pub pairs_from : Result NearLine SiteRefusal → (ℕ → ℕ → ℕ → PairList (Result ℕ SiteRefusal)) → PairList (Result ℕ SiteRefusal)
pairs_from (Ok p) more = let r = more p.lower p.upper p.next in record { numbers = p.lower ∷ p.upper ∷ r.numbers; answer = r.answer }
pairs_from (Err r) more = record { numbers = []; answer = Err r }

unfoldable pub pairs_at : Limits → ℕ → (c d : ℕ) → List ℕ → ℕ → PairList (Result ℕ SiteRefusal)
pairs_at L zero c d text at = record { numbers = []; answer = Ok at }
pairs_at L (suc n) c d text at = pairs_from (near_at L c d text at) (λ a b e. pairs_at L n a b text e)

-- ---- the line `pairs=N`

-- the number of pairs that was read, and the position after its line
abbrev pub pairs_counted : (n e : ℕ) → Result Number SiteRefusal
pairs_counted n e = Ok (record { value = n; next = e })

abbrev pub pairs_in : Limits → ℕ → Option Number → Result Number SiteRefusal
pairs_in L at None = Err (Form at)
pairs_in L at (Some n) = cond (leb n.value (most_pairs)) (Ok n) (Err (Range at))

unfoldable pub pair_count_at : Limits → List ℕ → ℕ → Result Number SiteRefusal
pair_count_at L text at = cond (is_at text at pairs_key) (pairs_in L at (field_at text (at + length pairs_key) line_feed)) (Err (Form at))

-- ---- the whole text

-- "then `end=site`", and nothing follows
abbrev pub site_ending : List ℕ → Result ℕ SiteRefusal → Result (Unit {0}) SiteRefusal
site_ending text (Err r) = Err r
site_ending text (Ok e) = cond (is_at text e site_end) (cond (eqb (e + length site_end) (length text)) (Ok tt) (Err (Form (e + length site_end)))) (Err (Form e))

abbrev pub ended : List ℕ → PairList (Result ℕ SiteRefusal) → PairList (Result (Unit {0}) SiteRefusal)
ended text f = record { numbers = f.numbers; answer = site_ending text f.answer }

abbrev pub site_counted : Limits → List ℕ → Result Number SiteRefusal → PairList (Result (Unit {0}) SiteRefusal)
site_counted L text (Err r) = record { numbers = []; answer = Err r }
site_counted L text (Ok n) = ended text (pairs_at L n.value 0 0 text n.next)

unfoldable pub site_at : Limits → List ℕ → PairList (Result (Unit {0}) SiteRefusal)
site_at L text = cond (is_at text 0 site_line) (site_counted L text (pair_count_at L text (length site_line))) (record { numbers = []; answer = Err (Form 0) })

-- the table after the pairs that were read were stored from its first entry on
pub record PairsStored {A : Type 0} (read : PairList A) (ps ps' : List ℕ) (r : A) : Type 0 where
  pub answer_is : r ≡ read.answer
  pub pairs_are : ps' ≡ sets ps 0 read.numbers
