-- The first stop at each location, found through the trees of first stops, and the next one there. Assumes nothing.
use mathlib.Core.Path.{◌≡◌, refl, sym, ap, ◌∙◌, subst}
use mathlib.Core.Logic.{◌≢◌}
use mathlib.Core.List.{List}
use mathlib.Core.Bool.{Bool, ◌&&◌}
use Prim.Native.Nat.{ℕ, ◌+◌, ◌*◌, ◌/◌, ◌%◌, ◌≤◌, ◌<◌}
use native.Mathlib.Omega.{arith}
use lib.Dec.{ltb, leb, eqb}
use lib.ListN.{length, set, length-set, replicate, length-replicate, get_or-replicate}
use lib.Seq.{ext_get_or, get_or-set_same, get_or-set_other}
use borrow.Author.Tests.{ltb-true, ltb-false, leb-true, eqb-true, eqb-false, lt-ltb, le-leb, lt-leb, eq-eqb, ne_eqb}
use Rattle.below.specs.Below.{at, first_below, fill_below, First}
use Rattle.below.proofs.Tests.{by_cases, true_or_false, and_left, and_right, same_test}
use Rattle.below.proofs.Search.{first_below_first, first_below_ext, first_all, first_is}
use Rattle.below.proofs.Fill.{length_fill, get_d_fill, get_d_unfilled, fill_at, fill_below_ext}
use Rattle.below.proofs.Gaps.{over_gap}
use Rattle.tables.specs.Limits.{limits}
use Rattle.std.specs.Prelude.{Ok, Err}
use Rattle.plan.specs.Search.{Searching, SearchEnds}
use Rattle.plan.specs.Sharing.{roots, slots, root_of, branch, first_where, first_at, Leads, here, onward, Node, Trees, next_at, Groups, from_on}

pub root_is : (l : ℕ) → ((l + l / roots * 17) % roots ≡ root_of l) × ((l + l / roots * 17) % roots < roots)
unfolding root_of
root_is l = (refl, omega arith)

pub root_in : (l : ℕ) → root_of l < roots
unfolding root_of
root_in l = omega arith

module _ (loc : ℕ → ℕ) where
  -- ---- the first stop at a location

  pub first_within : (v : ℕ) → first_at loc v ≤ v
  unfolding first_at
  first_within v = (first_below_first v (λ u. eqb (loc u) (loc v))).within

  -- it is there
  pub first_shares : (v : ℕ) → loc (first_at loc v) ≡ loc v
  unfolding first_at
  first_shares v = by_cases (ltb (first_below v (λ u. eqb (loc u) (loc v))) v)
      (λ e. eqb-true _ _ ((first_below_first v (λ u. eqb (loc u) (loc v))).found (ltb-true _ _ e)))
      (λ e. let q : first_below v (λ u. eqb (loc u) (loc v)) ≡ v = omega (arith, ltb-false (first_below v (λ u. eqb (loc u) (loc v))) v e, (first_below_first v (λ u. eqb (loc u) (loc v))).within) in ap loc q)

  -- and nobody before it is
  pub first_before : (v u : ℕ) → u < first_at loc v → loc u ≢ loc v
  unfolding first_at
  first_before v u l = eqb-false _ _ ((first_below_first v (λ u. eqb (loc u) (loc v))).skipped u l)

  pub first_alike : (v w : ℕ) → loc v ≡ loc w → first_at loc v ≡ first_at loc w
  first_alike v w e = by_cases (ltb (first_at loc v) (first_at loc w))
      (λ h. absurd (first_before w (first_at loc v) (ltb-true _ _ h) (first_shares v ∙ e)))
      (λ h. by_cases (ltb (first_at loc w) (first_at loc v))
      (λ k. absurd (first_before v (first_at loc w) (ltb-true _ _ k) (first_shares w ∙ sym e)))
      (λ k. omega (arith, ltb-false (first_at loc v) (first_at loc w) h, ltb-false (first_at loc w) (first_at loc v) k)))

  -- stops share a location exactly when they have the same first stop
  pub first_same : (v w : ℕ) → eqb (first_at loc v) (first_at loc w) ≡ eqb (loc v) (loc w)
  first_same v w = same_test _ _
      (λ e. eq-eqb (loc v) (loc w) (sym (first_shares v) ∙ ap loc (eqb-true (first_at loc v) (first_at loc w) e) ∙ first_shares w))
      (λ e. eq-eqb (first_at loc v) (first_at loc w) (first_alike v w (eqb-true (loc v) (loc w) e)))

  -- ---- the search of a location

  -- links' has what links has, and may be more
  abbrev Extends : (links links' : List ℕ) → Type 0
  Extends links links' = (slot : ℕ) → at links slot ≢ 0 → at links' slot ≡ at links slot

  leads-there : (links : List ℕ) (l slot digits u : ℕ) → Leads loc links l slot digits u → at links slot ≢ 0
  leads-there links l slot digits u (here e) = λ z. omega (arith, e, z)
  leads-there links l slot digits u (onward e ne p) = λ z. omega (arith, e, z)

  leads_extends : (links links' : List ℕ) (l slot digits u : ℕ) → Extends links links' → Leads loc links l slot digits u → Leads loc links' l slot digits u
  leads_extends links links' l slot digits u E (here e) = here (E slot (λ z. omega (arith, e, z)) ∙ e)
  leads_extends links links' l slot digits u E (onward {x = x} e ne p) = onward (E slot (λ z. omega (arith, e, z)) ∙ e) ne (leads_extends links links' l _ _ u E p)

  -- past the stop x, which is at another location
  leads-past : (links : List ℕ) (l slot digits u x : ℕ) → at links slot ≡ x + 1 → loc x ≢ l → loc u ≡ l → Leads loc links l slot digits u → Leads loc links l (branch x digits) (digits / 2) u
  leads-past links l slot digits u x q d s (here e) = let z : x ≡ u = omega (arith, q, e) in absurd (d (ap loc z ∙ s))
  leads-past links l slot digits u x q d s (onward {x = y} e ne p) = let z : y ≡ x = omega (arith, q, e) in subst (λ (k : ℕ). Leads loc links l (branch k digits) (digits / 2) u) z p

  pub trees_none : (links : List ℕ) → length links ≡ slots → ((t : ℕ) → at links t ≡ 0) → Trees loc 0 links
  trees_none links a z = record { size = a; node = λ t x e. absurd (omega (arith, e, z t)); leads = λ u l f. absurd (omega arith) }

  -- stop w is not the first at its location
  trees_skip : (links : List ℕ) (w : ℕ) → Trees loc w links → first_at loc w ≢ w → Trees loc (w + 1) links
  trees_skip links w T ne = record {
    size = T.size;
    node = λ t x e. let N = T.node t x e in record { later = N.later; known = omega (arith, N.known); foremost = N.foremost };
    leads = λ u l f. T.leads u (let d : u ≢ w = λ s. ne (subst (λ (z : ℕ). first_at loc z ≡ z) s f) in omega (arith, l, d)) f;
  }

-- ---- the search of a location of which nothing is known

module _ (loc : ℕ → ℕ) (n l : ℕ) where
  pub of_within : first_where loc n l ≤ n
  unfolding first_where
  of_within = (first_below_first n (λ u. eqb (loc u) l)).within

  -- it is there, and the first there
  pub of_there : first_where loc n l < n → loc (first_where loc n l) ≡ l
  unfolding first_where
  of_there h = eqb-true _ _ ((first_below_first n (λ u. eqb (loc u) l)).found h)

  of_first : first_where loc n l < n → first_at loc (first_where loc n l) ≡ first_where loc n l
  unfolding first_where first_at
  of_first h = first_all (λ u. eqb (loc u) (loc (first_where loc n l))) (first_where loc n l) (λ k m. ne_eqb (loc k) (loc (first_where loc n l)) (λ e. eqb-false (loc k) l ((first_below_first n (λ u. eqb (loc u) l)).skipped k m) (e ∙ of_there h)))

  -- a stop there that is the first there
  pub of_is : (u : ℕ) → u < n → loc u ≡ l → first_at loc u ≡ u → u ≡ first_where loc n l
  unfolding first_where
  of_is u h e f = sym (first_is (λ u. eqb (loc u) l) n u h (eq-eqb (loc u) l e) (λ k m. ne_eqb (loc k) l (λ q. first_before loc u k (subst (λ (z : ℕ). k < z) (sym f) m) (q ∙ sym e))))

  module _ (links : List ℕ) (T : Trees loc n links) where
    pub searching_start : (k slot : ℕ) → k ≡ l → slot ≡ root_of k → Searching loc n l links slot (k / roots)
    searching_start k slot e es = rw (es, e) (record {
      within = omega (arith, root_in l);
      ahead = λ h. subst (λ (k : ℕ). Leads loc links k (root_of k) (k / roots) (first_where loc n l)) (of_there h) (T.leads (first_where loc n l) h (of_first h));
      back = λ links' u E p. p;
    })

    module _ (slot digits u : ℕ) (S : Searching loc n l links slot digits) (e : at links slot ≡ u + 1) where
      pub searching_node : Node loc n slot u
      searching_node = T.node slot u e

      pub searching_more : loc u ≢ l → Searching loc n l links (roots + 2 * u + digits % 2) (digits / 2)
      searching_more ne = record {
        within = omega (arith, searching_node.known);
        ahead = λ h. leads-past loc links l slot digits (first_where loc n l) u e ne (of_there h) (S.ahead h);
        back = λ links' v E p. S.back links' v E (onward (E slot (λ z. omega (arith, e, z)) ∙ e) ne p);
      }

      pub searching_found : loc u ≡ l → SearchEnds loc n l links (Ok u)
      searching_found s = (searching_node.known, of_is u searching_node.known s searching_node.foremost)

    pub searching_end : (slot digits : ℕ) → Searching loc n l links slot digits → at links slot ≡ 0 → SearchEnds loc n l links (Err slot)
    searching_end slot digits S z = (
      by_cases (ltb (first_where loc n l) n)
          (λ k. absurd (leads-there loc links l slot digits (first_where loc n l) (S.ahead (ltb-true _ _ k)) z))
          (λ k. omega (arith, ltb-false (first_where loc n l) n k, of_within)),
      z,
      (digits, S),
    )

-- ---- stop w joins the trees, or is not the first at its location

module _ (loc : ℕ → ℕ) (links : List ℕ) (w : ℕ) (T : Trees loc w links) where
  -- stop w is, and is put where its search ended
  trees_more : (slot digits x : ℕ) → Searching loc w (loc w) links slot digits → at links slot ≡ 0 → first_at loc w ≡ w → x ≡ w + 1 → w < limits.stops → Trees loc (w + 1) (set links slot x)
  trees_more slot digits x S z f ex m = record {
    size = length-set links slot x ∙ T.size;
    node = λ t y e. by_cases (eqb t slot)
        (λ q. let s : t ≡ slot = eqb-true t slot q in
        let v : y ≡ w = omega (arith, rw s at e, stored, ex) in
        rw (s, v) (record { later = S.within; known = omega arith; foremost = f }))
        (λ q. let N = T.node t y (sym (get_or-set_other links slot t x 0 (eqb-false t slot q)) ∙ e) in record { later = N.later; known = omega (arith, N.known); foremost = N.foremost });
    leads = λ u l g. by_cases (eqb u w)
        (λ q. rw (eqb-true u w q) (S.back (set links slot x) w kept (here (stored ∙ ex))))
        (λ q. let d : u ≢ w = eqb-false u w q in leads_extends loc links (set links slot x) _ _ _ u kept (T.leads u (omega (arith, l, d)) g));
  }
    where
      stored : at (set links slot x) slot ≡ x
      stored = get_or-set_same links slot x 0 (omega (arith, S.within, m, T.size))

      kept : (t : ℕ) → at links t ≢ 0 → at (set links slot x) t ≡ at links t
      kept t n = get_or-set_other links slot t x 0 (λ s. n (ap (at links) s ∙ z))

  first_where_own : first_where loc w (loc w) ≡ first_at loc w
  unfolding first_where first_at
  first_where_own = refl

  pub entered_found : (u : ℕ) → SearchEnds loc w (loc w) links (Ok u) → (u ≡ first_at loc w) × Trees loc (w + 1) links
  entered_found u (l, e) = let q : u ≡ first_at loc w = e ∙ first_where_own in (q, trees_skip loc links w T (λ z. omega (arith, q, z, l)))

  pub entered_new : (slot x : ℕ) → SearchEnds loc w (loc w) links (Err slot) → x ≡ w + 1 → w < limits.stops → (w ≡ first_at loc w) × Trees loc (w + 1) (set links slot x)
  entered_new slot x (e, z, (digits, S)) ex m = let q : w ≡ first_at loc w = e ∙ first_where_own in (q, trees_more slot digits x S z (sym q) ex m)

-- ---- the next stop at a location

module _ (loc : ℕ → ℕ) (n : ℕ) where
  from_end : (g : ℕ) → from_on loc n n g ≡ n
  unfolding from_on
  from_end g = first_all _ n (λ u l. rw (lt-leb n u l) refl)

  from_here : (w g : ℕ) → w < n → loc w ≡ g → from_on loc n w g ≡ w
  unfolding from_on
  from_here w g l e = first_is _ n w l (rw (le-leb w w (omega arith), eq-eqb (loc w) g e) refl) (λ u k. rw (lt-leb w u k) refl)

  from_later : (w g : ℕ) → loc w ≢ g → from_on loc n w g ≡ from_on loc n (w + 1) g
  unfolding from_on
  from_later w g ne = first_below_ext n _ _ (λ u l. same_test (leb w u && eqb (loc u) g) (leb (w + 1) u && eqb (loc u) g)
      (λ h. let q : loc u ≡ g = eqb-true (loc u) g (and_right (leb w u) _ h) in
      let d : u ≢ w = λ s. ne (ap loc (sym s) ∙ q) in
      rw (le-leb (w + 1) u (omega (arith, leb-true w u (and_left _ _ h), d)), eq-eqb (loc u) g q) refl)
      (λ h. rw (le-leb w u (omega (arith, leb-true (w + 1) u (and_left _ _ h))), and_right (leb (w + 1) u) _ h) refl))

  pub next_from : (w : ℕ) → from_on loc n (w + 1) (loc w) ≡ next_at loc n w
  unfolding from_on next_at
  next_from w = first_below_ext n _ _ (λ u l. ap (λ (b : Bool). b && eqb (loc u) (loc w)) (same_test (leb (w + 1) u) (ltb w u) (λ h. lt-ltb w u (omega (arith, leb-true (w + 1) u h))) (λ h. le-leb (w + 1) u (omega (arith, ltb-true w u h)))))

  -- the stops from w on have their next ones, and `latest` has the first stop from w on of each location
  pub record Nexting (next₀ latest next : List ℕ) (w : ℕ) : Type 0 where
    pub latest-size : length latest ≡ limits.stops
    pub next_size : length next ≡ length next₀
    pub ahead : (g : ℕ) → g < limits.stops → at latest g ≡ from_on loc n w g
    pub done : (v : ℕ) → w ≤ v → v < n → at next v ≡ next_at loc n v
    pub rest : (v : ℕ) → n ≤ v → at next v ≡ at next₀ v

  pub nexting_none : (next₀ : List ℕ) → Nexting next₀ (replicate limits.stops n) next₀ n
  nexting_none next₀ = record {
    latest-size = length-replicate limits.stops n;
    next_size = refl;
    ahead = λ g l. get_or-replicate limits.stops g n 0 l ∙ sym (from_end g);
    done = λ v a b. absurd (omega arith);
    rest = λ v a. refl;
  }

  -- stop k, at f, is the first of its location from k on, and its next one was that before
  pub nexting_more : (next₀ latest next : List ℕ) (w k f x : ℕ) → Nexting next₀ latest next w → w ≡ k + 1 → k < n → n ≤ length next₀ → f ≡ loc k → f < limits.stops → x ≡ at latest f
      → Nexting next₀ (set latest f k) (set next k x) k
  nexting_more next₀ latest next w k f x N e l r ef i ex = record {
    latest-size = length-set latest f k ∙ N.latest-size;
    next_size = length-set next k x ∙ N.next_size;
    ahead = λ g j. by_cases (eqb g f)
        (λ q. let s : g ≡ f = eqb-true g f q in rw s (get_or-set_same latest f k 0 (omega (arith, N.latest-size)) ∙ sym (from_here k f l (sym ef))))
        (λ q. let ne : g ≢ f = eqb-false g f q in
        get_or-set_other latest f g k 0 ne ∙ N.ahead g j ∙ ap (λ (z : ℕ). from_on loc n z g) e ∙ sym (from_later k g (λ s. ne (sym s ∙ sym ef))));
    done = λ v a b. by_cases (eqb v k)
        (λ q. let s : v ≡ k = eqb-true v k q in
        rw s (get_or-set_same next k x 0 (omega (arith, N.next_size)) ∙ ex ∙ N.ahead f i ∙ rw (e, ef) (next_from k)))
        (λ q. let ne : v ≢ k = eqb-false v k q in get_or-set_other next k v x 0 ne ∙ N.done v (omega arith) b);
    rest = λ v a. get_or-set_other next k v x 0 (omega arith) ∙ N.rest v a;
  }

  pub nexting_end : (next₀ latest next : List ℕ) (w : ℕ) → Nexting next₀ latest next w → w ≤ 0 → n ≤ length next₀ → next ≡ fill_below n (next_at loc n) next₀
  nexting_end next₀ latest next w N z r = ext_get_or 0 next _ (N.next_size ∙ sym (length_fill (next_at loc n) next₀ n)) (λ v h. by_cases (ltb v n)
      (λ k. N.done v (omega arith) (ltb-true v n k) ∙ sym (get_d_fill (next_at loc n) next₀ n v (ltb-true v n k) r))
      (λ k. N.rest v (ltb-false v n k) ∙ sym (get_d_unfilled (next_at loc n) next₀ n v (ltb-false v n k))))

-- stops with the same first stop have the same next one
next-same : (loc first : ℕ → ℕ) (n v : ℕ) → v < n → ((u : ℕ) → u < n → first u ≡ first_at loc u) → next_at first n v ≡ next_at loc n v
unfolding next_at
next-same loc first n v l e = first_below_ext n _ _ (λ u k. ap (λ (b : Bool). ltb v u && b) (rw (e u k, e v l) (first_same loc u v)))

-- ---- the lists as they were filled
module _ (loc : ℕ → ℕ) (n : ℕ) (first₀ first : List ℕ) (r : n ≤ length first₀) (e : first ≡ fill_below n (first_at loc) first₀) where
  pub firsts_at : (v : ℕ) → v < n → at first v ≡ first_at loc v
  firsts_at v l = fill_at (first_at loc) first₀ n first e r v l

  pub firsts_back : (v : ℕ) → v < n → at first v ≤ v
  firsts_back v l = omega (arith, firsts_at v l, first_within loc v)

  -- the next ones by the first stops are those by the locations
  pub nexts-same : (next₀ next : List ℕ) → next ≡ fill_below n (next_at (at first) n) next₀ → next ≡ fill_below n (next_at loc n) next₀
  nexts-same next₀ next q = q ∙ fill_below_ext n _ _ next₀ (λ v l. next-same loc (at first) n v l firsts_at)

  pub groups_filled : (next₀ next : List ℕ) → n ≤ length next₀ → next ≡ fill_below n (next_at loc n) next₀ → Groups loc n first next
  groups_filled next₀ next s q = record { firsts = firsts_at; nexts = fill_at (next_at loc n) next₀ n next q s }

-- ---- the walk of the stops at one location

module _ (loc : ℕ → ℕ) (n : ℕ) (first next : List ℕ) (G : Groups loc n first next) where
  -- what stays over the stops elsewhere holds at the first stop at the location of v if it holds at 0
  pub walk_start : (C : ℕ → Type 0) (v f : ℕ) → v < n → ((u : ℕ) → u < n → loc u ≢ loc v → C u → C (u + 1)) → C 0 → f ≡ at first v → (f ≤ n) × C f × (f < n → loc f ≡ loc v)
  walk_start C v f l h c e =
      let q : f ≡ first_at loc v = e ∙ G.firsts v l in
      (omega (arith, first_within loc v), subst C (sym q) (over_gap C 0 (first_at loc v) (omega arith) (λ u a b. h u (omega (arith, b, first_within loc v)) (first_before loc v u b)) c), λ k. ap loc q ∙ first_shares loc v)

  pub walk_from : (v : ℕ) → v < n → at first v ≤ v
  walk_from v l = omega (arith, G.firsts v l, first_within loc v)

  pub walk_within_lem : (w : ℕ) → w < n → at next w ≤ n
  unfolding next_at
  walk_within_lem w l = omega (arith, G.nexts w l, (first_below_first n (λ u. ltb w u && eqb (loc u) (loc w))).within)

  pub walk_past : (w x : ℕ) → w < n → x ≡ at next w → w < x
  unfolding next_at
  walk_past w x l e =
      let q : x ≡ next_at loc n w = e ∙ G.nexts w l in
      let F : First n (λ u. ltb w u && eqb (loc u) (loc w)) (next_at loc n w) = first_below_first n (λ u. ltb w u && eqb (loc u) (loc w)) in
      by_cases (ltb (next_at loc n w) n)
      (λ k. omega (arith, q, ltb-true w (next_at loc n w) (and_left _ _ (F.found (ltb-true _ _ k)))))
      (λ k. omega (arith, q, ltb-false (next_at loc n w) n k))

  -- and at the next stop there if it holds after the stop w
  pub walk_on : (C : ℕ → Type 0) (g w x : ℕ) → w < n → loc w ≡ g → ((u : ℕ) → u < n → loc u ≢ g → C u → C (u + 1)) → C (w + 1) → x ≡ at next w → (x ≤ n) × C x × (x < n → loc x ≡ g)
  unfolding next_at
  walk_on C g w x l there h c e =
      let q : x ≡ next_at loc n w = e ∙ G.nexts w l in
      let F : First n (λ u. ltb w u && eqb (loc u) (loc w)) x = subst (λ (z : ℕ). First n (λ u. ltb w u && eqb (loc u) (loc w)) z) (sym q) (first_below_first n (λ u. ltb w u && eqb (loc u) (loc w))) in
      (F.within, over_gap C (w + 1) x (omega (arith, walk_past w x l e)) (λ u a b. h u (omega (arith, b, F.within)) (λ s. true_or_false (rw (lt-ltb w u (omega arith), eq-eqb (loc u) (loc w) (s ∙ sym there)) refl) (F.skipped u b))) c, λ k. eqb-true (loc x) (loc w) (and_right (ltb w x) _ (F.found k)) ∙ there)

  pub walk_more : (C : ℕ → Type 0) (v w x : ℕ) → w < n → loc w ≡ loc v → ((u : ℕ) → loc u ≢ loc v → C u → C (u + 1)) → C (w + 1) → x ≡ at next w → (x ≤ n) × C x × (x < n → loc x ≡ loc v)
  walk_more C v w x l there h c e = walk_on C (loc v) w x l there (λ u k. h u) c e
