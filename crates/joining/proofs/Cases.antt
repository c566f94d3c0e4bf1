-- The joining, case by case: the tests in the order of the definition.
use mathlib.Core.Path.{◌≡◌, refl, sym, ap, ◌∙◌, subst}
use mathlib.Core.Bool.{Bool, true, false, cond, not, ◌&&◌}
use mathlib.Core.List.{List, ◌++◌}
use Prim.Native.Nat.{ℕ, ◌+◌, ◌*◌, ◌^◌, ◌≤◌, ◌<◌, max}
use lib.Dec.{eqb}
use lib.ListN.{length, take, drop}
use lib.Seq.{sets, sets-eq, length-take-le}
use Rattle.below.specs.Below.{at}
use Rattle.tables.specs.Limits.{Limits, most_pairs}
use Rattle.tables.specs.Tables.{Tables, full_size}
use Rattle.tables.specs.Flags.{under_way_bit, withdrawn_bit}
use Rattle.tables.proofs.SizeLaws.{full_sizes}
use Rattle.tables.specs.Zero.{zeroed_tables}
use Rattle.near.specs.Near.{pair_count, SoundPairs}
use Rattle.site.specs.Site.{PairList, PairsStored, site_at}
use Rattle.site.specs.Written.{site_text}
use Rattle.site.proofs.SiteRoundTrip.{written_taken}
use Rattle.text.specs.Written.{routes_text}
use Rattle.sound.specs.Sound.{sound}
use Rattle.reading.specs.Replies.{ReadingReply, refused_by, refused_at}
use Rattle.reading.specs.Reading.{ReadingAnswer, given, with_reply, AnsweredAs, read_lines, read_plan}
use Rattle.reading.specs.Asked.{LinesAsked, ZeroedButPairs}
use Rattle.reading.proofs.StoredPlan.{columns_of}
use Rattle.reading.proofs.EntryCases.{lines_asked, sited_asked, pairs_zeroed, with_pairs, after_size, long_taken, site_taken, site_read_lem}
use Rattle.accepted.specs.Claims.{own_site}
use Rattle.accepted.proofs.SiteTexts.{sound_numbers}
use Rattle.copying.specs.Reckoned.{routes_in}
use native.Mathlib.Omega.{arith}
use Rattle.joining.specs.Joining.{joined_text, not_started, same_pairs, join_plans}
use Rattle.joining.specs.declared.tests.StandingFault.{StandingFault}
use Rattle.joining.specs.declared.tests.StandingFault.TheVariants.{Small, Unsound, Started}
use Rattle.joining.specs.Replies.{fault_meant}
use Rattle.joining.specs.Standing.{standing_by, standing_of, earlier, HasPlan}
use Rattle.site.specs.declared.SiteRefusal.{SiteRefusal}
use Rattle.std.specs.Prelude.{⊤, Result, Ok, Err}

-- ---- one plan

-- a drone that stands at its stop 0, and is not under way or withdrawn
abbrev pub home : (visited drone_flags : List ℕ) → ℕ → Bool
home visited drone_flags d = eqb (at visited d) 0 && (not (under_way_bit (at drone_flags d)) && not (withdrawn_bit (at drone_flags d)))

-- what the code indexes
pub counts_there : (L : Limits) (t : Tables) → full_size L t ≡ true → (1 ≤ length t.plan.drone_count) × (1 ≤ length t.plan.dependency_count)
counts_there L t f = let z = full_sizes L t f in (z.drone_count_lem, z.dependency_count)

-- a plan that fails the first test
pub stands-small : (L : Limits) (t : Tables) → full_size L t ≡ false → Err Small ≡ standing_of L t
unfolding standing_of
stands-small L t f = rw f refl

-- ---- both

pub earlier_ready : (x y : Result ⊤ StandingFault) → x ≡ Ok tt → y ≡ earlier x y
earlier_ready x y e = ap (λ (z : Result ⊤ StandingFault). earlier z y) (sym e)

-- what the joining answers, by the standing that decides: w for 41, z for 40, y for 16, x for plans that passed
abbrev Says : (w z y x v : ReadingAnswer) → Result ⊤ StandingFault → Type 0
Says w z y x v (Err Small) = v ≡ w
Says w z y x v (Err Unsound) = v ≡ z
Says w z y x v (Err Started) = v ≡ y
Says w z y x v (Ok _) = v ≡ x

by_tests : (w z y x : ReadingAnswer) (fa sa ua fb sb ub one : Bool)
    → Says w z y (cond one x y) (cond (fa && (fb && true)) (cond (sa && sb) (cond (ua && (ub && one)) x y) z) w) (earlier (standing_by fa sa ua) (standing_by fb sb ub))
by_tests w z y x false sa ua fb sb ub one = refl
by_tests w z y x true false ua false sb ub one = refl
by_tests w z y x true false ua true false ub one = refl
by_tests w z y x true false ua true true false one = refl
by_tests w z y x true false ua true true true one = refl
by_tests w z y x true true false false sb ub one = refl
by_tests w z y x true true false true false ub one = refl
by_tests w z y x true true false true true false one = refl
by_tests w z y x true true false true true true one = refl
by_tests w z y x true true true false sb ub one = refl
by_tests w z y x true true true true false ub one = refl
by_tests w z y x true true true true true false one = refl
by_tests w z y x true true true true true true one = refl

third_small : (w v : ReadingAnswer) (fa fb : Bool) → cond (fa && (fb && false)) v w ≡ w
third_small w v false fb = refl
third_small w v true false = refl
third_small w v true true = refl

answer_is : {v : ReadingAnswer} {r : ReadingReply} {t : Tables} → v ≡ with_reply r t → AnsweredAs v r t
answer_is e = record { replied = sym (ap (λ (a : ReadingAnswer). a.reply) e); left = sym (ap (λ (a : ReadingAnswer). a.tables) e) }

module _ (L : Limits) (a b t : Tables) where
  abbrev refused : ℕ → ReadingAnswer
  refused n = with_reply (refused_by n) t

  abbrev joined : ReadingAnswer
  joined = read_plan L (given (own_site a)) (joined_text L a.plan b.plan) t

  pub third_below : full_size L t ≡ false → AnsweredAs (join_plans L a b t) (refused_by 41) t
  unfolding join_plans
  third_below f = answer_is (rw f (third_small _ _ (full_size L a) (full_size L b)))

  module _ (f : full_size L t ≡ true) (s : Result ⊤ StandingFault) (e : s ≡ earlier (standing_of L a) (standing_of L b)) where
    says : Says (refused 41) (refused 40) (refused 16) (cond (same_pairs a.plan.pairs b.plan.pairs) joined (refused 16)) (join_plans L a b t) s
    unfolding join_plans standing_of
    says = rw (f, e) (by_tests (refused 41) (refused 40) (refused 16) joined (full_size L a) (sound L a) (not_started a) (full_size L b) (sound L b) (not_started b) (same_pairs a.plan.pairs b.plan.pairs))

    told : (k : Result ⊤ StandingFault) → s ≡ k → Says (refused 41) (refused 40) (refused 16) (cond (same_pairs a.plan.pairs b.plan.pairs) joined (refused 16)) (join_plans L a b t) k
    told k q = subst (Says (refused 41) (refused 40) (refused 16) (cond (same_pairs a.plan.pairs b.plan.pairs) joined (refused 16)) (join_plans L a b t)) q says

    pub either_failed : (y : StandingFault) → s ≡ Err y → AnsweredAs (join_plans L a b t) (fault_meant y) t
    either_failed Small q = answer_is (told (Err Small) q)
    either_failed Unsound q = answer_is (told (Err Unsound) q)
    either_failed Started q = answer_is (told (Err Started) q)

-- ---- plans that passed, by their lists

-- the site text of a table of pairs
abbrev site_in : List ℕ → List ℕ
site_in pairs = site_text (pair_count pairs) (take (2 * pair_count pairs) pairs)

module _ (L : Limits) (a b t : Tables) (f : full_size L t ≡ true) (e : Ok tt ≡ earlier (standing_of L a) (standing_of L b))
    {dc fm ns cs ls ts gs ps : List ℕ} (ha : HasPlan a dc fm ns cs ls ts gs ps) {dc' fm' ns' cs' ls' ts' gs' ps' : List ℕ} (hb : HasPlan b dc' fm' ns' cs' ls' ts' gs' ps') where
  -- 16 where the pairs differ
  pub pairs_apart : same_pairs ps ps' ≡ false → AnsweredAs (join_plans L a b t) (refused_by 16) t
  pairs_apart h = let h' : same_pairs a.plan.pairs b.plan.pairs ≡ false = (λ i. same_pairs (ha.pairs_are i) (hb.pairs_are i)) ∙ h in answer_is (told L a b t f (Ok tt) e (Ok tt) refl ∙ rw h' refl)

  joined_text_lem : joined_text L a.plan b.plan ≡ routes_text (max (at fm 0) (at fm' 0)) (routes_in L (at dc 0) ns cs ls ts gs ++ routes_in L (at dc' 0) ns' cs' ls' ts' gs')
  unfolding joined_text
  joined_text_lem = λ i.
      routes_text (max (at (ha.form_is i) 0) (at (hb.form_is i) 0))
      (routes_in L (at (ha.drone_count_lem i) 0) (ha.names_are i) (ha.stop_counts_lem i) (ha.locations_are i) (ha.times_are i) (ha.legs_are i)
      ++ routes_in L (at (hb.drone_count_lem i) 0) (hb.names_are i) (hb.stop_counts_lem i) (hb.locations_are i) (hb.times_are i) (hb.legs_are i))

  pub both_joined : same_pairs ps ps' ≡ true → (k : ℕ) → k ≡ max (at fm 0) (at fm' 0) → {r r' : ReadingReply} {t' : Tables} → r' ≡ r
      → AnsweredAs (read_plan L (given (site_in ps)) (routes_text k (routes_in L (at dc 0) ns cs ls ts gs ++ routes_in L (at dc' 0) ns' cs' ls' ts' gs')) t) r t' → AnsweredAs (join_plans L a b t) r' t'
  both_joined h k ek {r} {r'} {t'} q w =
      let h' : same_pairs a.plan.pairs b.plan.pairs ≡ true = (λ i. same_pairs (ha.pairs_are i) (hb.pairs_are i)) ∙ h in
      let text : joined_text L a.plan b.plan ≡ routes_text k (routes_in L (at dc 0) ns cs ls ts gs ++ routes_in L (at dc' 0) ns' cs' ls' ts' gs')
      = joined_text_lem ∙ ap (λ (n : ℕ). routes_text n (routes_in L (at dc 0) ns cs ls ts gs ++ routes_in L (at dc' 0) ns' cs' ls' ts' gs')) (sym ek) in
      let is : join_plans L a b t ≡ read_plan L (given (site_in ps)) (routes_text k (routes_in L (at dc 0) ns cs ls ts gs ++ routes_in L (at dc' 0) ns' cs' ls' ts' gs')) t
      = told L a b t f (Ok tt) e (Ok tt) refl ∙ rw h' (λ i. read_plan L (given (site_in (ha.pairs_are i))) (text i) t) in
      let j : AnsweredAs (join_plans L a b t) r t' = subst (λ (v : ReadingAnswer). AnsweredAs v r t') (sym is) w in
      record { replied = q ∙ j.replied; left = j.left }

-- ---- the joined text, with the pairs of a sound table

-- the first entries of a table copied over those of another
pub copied : (n : ℕ) (ps into first : List ℕ) → n ≤ length ps → n ≤ length into → first ≡ take n ps → first ++ drop n into ≡ sets into 0 (take n (drop 0 ps))
copied n ps into first h k e =
    let l : length (take n ps) ≡ n = length-take-le n ps h in
    let q : sets into 0 (take n ps) ≡ take n ps ++ drop (0 + length (take n ps)) into = sets-eq (take n ps) into 0 (omega (arith, l, k)) in
    let z : 0 + length (take n ps) ≡ n = omega (arith, l) in
    ap (λ (x : List ℕ). x ++ drop n into) e ∙ sym (q ∙ ap (λ (m : ℕ). take n ps ++ drop m into) z)

-- the site text of a sound table gives its pairs
module _ (L : Limits) (digits : L.location < 10 ^ 7) (ps : List ℕ) (sp : SoundPairs L ps) where
  own_site_lem : site_at L (site_in ps) ≡ record { numbers = take (2 * pair_count ps) ps; answer = Ok tt }
  own_site_lem = written_taken L digits (omega arith) (pair_count ps) (take (2 * pair_count ps) ps) (sound_numbers L ps sp)

  own-taken : Ok tt ≡ (site_at L (site_in ps)).answer
  own-taken = sym (ap (λ (x : PairList (Result ⊤ SiteRefusal)). x.answer) own_site_lem)

  -- the r pairs copied into another table are stored as reading it would store them
  own-stored : (r : ℕ) → r ≡ pair_count ps → (into ps' : List ℕ) → ps' ≡ sets into 0 (take (2 * r) (drop 0 ps)) → PairsStored (site_at L (site_in ps)) into ps' (Ok tt)
  own-stored r er into ps' e = record {
    answer_is = own-taken;
    pairs_are = e ∙ (ap (λ (n : ℕ). sets into 0 (take (2 * n) ps)) er ∙ ap (λ (x : PairList (Result ⊤ SiteRefusal)). sets into 0 x.numbers) (sym own_site_lem));
  }

  module _ (t : Tables) (f : full_size L t ≡ true) (z : Tables) (ez : z ≡ zeroed_tables L t) (few : L.dependencies ≤ 65536) where
    -- there is room for them
    pub pairs_room : 2 * most_pairs ≤ length z.plan.pairs
    pairs_room = (lines_asked L t f z ez few).has_pairs.has_pairs

    pub copied_asked : (r : ℕ) → r ≡ pair_count ps → (ps' : List ℕ) → ps' ≡ sets z.plan.pairs 0 (take (2 * r) (drop 0 ps))
        → LinesAsked L z.plan.drone_count z.plan.dependency_count z.plan.form z.plan.names z.plan.stop_counts z.plan.locations z.plan.times z.plan.legs (columns_of z) ps'
    copied_asked r er ps' e =
        sited_asked L z.plan.drone_count z.plan.dependency_count z.plan.form z.plan.names z.plan.stop_counts z.plan.locations z.plan.times z.plan.legs z.plan.pairs
        (lines_asked L t f z ez few) (pairs_zeroed L t f z ez) (given (site_in ps)) (own-stored r er z.plan.pairs ps' e) refl

  module _ (text : List ℕ) (t : Tables) (f : full_size L t ≡ true) {n : ℕ} (e : n ≡ length text) where
    pub too_long : L.text < n → AnsweredAs (read_plan L (given (site_in ps)) text t) (refused_at 1 L.text) t
    too_long l = after_size L (given (site_in ps)) text t f (refused_at 1 L.text) t (long_taken L (given (site_in ps)) text t (Ok tt) own-taken (omega (arith, e, l)) refl)

    pub not_too_long : n ≤ L.text → (z : Tables) → z ≡ zeroed_tables L t → (r : ℕ) → r ≡ pair_count ps → (ps' : List ℕ) → ps' ≡ sets z.plan.pairs 0 (take (2 * r) (drop 0 ps)) → (reply : ReadingReply) (t' : Tables)
        → (ZeroedButPairs L (with_pairs z ps') → AnsweredAs (read_lines L text (with_pairs z ps')) reply t') → AnsweredAs (read_plan L (given (site_in ps)) text t) reply t'
    not_too_long l z ez r er ps' ep reply t' h =
        let short : length text ≤ L.text = omega (arith, e, l) in
        site_read_lem L (given (site_in ps)) text t f short z ez reply t' (λ zero. site_taken L (given (site_in ps)) text z (own-stored r er z.plan.pairs ps' ep) zero refl short reply t' h)
