-- The order in which drones are asked makes no difference: the tables afterwards are known by who was asked. Assumes nothing.
use mathlib.Core.Path.{◌≡◌, refl, sym, ap, ◌∙◌, subst, fun_ext}
use mathlib.Core.Bool.{Bool, true, false, ◌||◌, or-false}
use mathlib.Core.List.{List, [], ◌∷◌, map}
use Prim.Native.Nat.{ℕ}
use lib.Dec.{eqb, ltb}
use lib.ListN.{length}
use Rattle.below.specs.Below.{at, fill_below}
use Rattle.below.proofs.Tests.{by_cases}
use Rattle.below.proofs.Fill.{fill_copy, fill_below_ext}
use Rattle.tables.specs.Limits.{Limits}
use Rattle.tables.specs.Tables.{Tables, full_size}
use Rattle.sound.specs.Sound.{sound}
use Rattle.call_log.specs.CallLog.{Call, grant}
use Rattle.call_log.specs.Calls.{grant_step, step, tables_after}
use Rattle.call_log.specs.Claims.{Usable}
use Rattle.handset.specs.Press.{grant_all_step}
use Rattle.handset.specs.Claims.{is_asked, OrderFree, AnyOrder}
use Rattle.handset.proofs.Grants.{Asked, asked_none, asked_more, asked_below}
use Rattle.handset.proofs.Presses.{unchanged, leaves_41, leaves_40, grants_unchanged}

-- lists with the same entries
same_entries : (a b : List ℕ) → length a ≡ length b → ((i : ℕ) → at a i ≡ at b i) → a ≡ b
same_entries a b l e =
    sym (fill_copy a a refl)
    ∙ fill_below_ext (length a) (at a) (at b) a (λ i h. e i)
    ∙ ap (λ (n : ℕ). fill_below n (at b) a) l
    ∙ fill_copy a b l

-- the tables t with these flag bytes of the drones
abbrev with_bytes : Tables → List ℕ → Tables
with_bytes t x = record { plan = t.plan; visited = t.visited; drone_flags = x; flags = t.flags }

module _ (L : Limits) (t : Tables) where
  module _ (u : Usable L t) where
    -- who was asked decides
    asked_same : (a : ℕ → Bool) (t' t'' : Tables) → Asked L t u a t' → Asked L t u a t'' → t' ≡ t''
    asked_same a t' t'' x y = whole t' x ∙ ap (with_bytes t) (same_entries t'.drone_flags t''.drone_flags (x.length-same ∙ sym y.length-same) (λ d. x.bytes_are d ∙ sym (y.bytes_are d))) ∙ sym (whole t'' y)
      where
        whole : (z : Tables) → Asked L t u a z → z ≡ with_bytes t z.drone_flags
        whole z k = rw (sym k.plan_same, sym k.visited-same, sym k.flags_same) refl

    asked_list : (ds : List ℕ) (a : ℕ → Bool) (t' : Tables) → Asked L t u a t' → Asked L t u (λ d. is_asked ds d || a d) (tables_after (step L) t' (map grant ds))
    unfolding is_asked tables_after
    asked_list [] a t' k = k
    asked_list (e ∷ ds) a t' k = subst (λ (f : ℕ → Bool). Asked L t u f (tables_after (step L) (grant_step L t' e).tables (map grant ds))) (fun_ext (λ d. swap (is_asked ds d) (eqb d e) (a d))) (asked_list ds (λ d. eqb d e || a d) (grant_step L t' e).tables (asked_more L t u a t' k e))
      where
        swap : (x y z : Bool) → x || (y || z) ≡ (y || x) || z
        swap true true z = refl
        swap true false z = refl
        swap false true z = refl
        swap false false z = refl

    asked_all : (ds : List ℕ) → Asked L t u (is_asked ds) (tables_after (step L) t (map grant ds))
    asked_all ds = subst (λ (f : ℕ → Bool). Asked L t u f (tables_after (step L) t (map grant ds))) (fun_ext (λ d. or-false (is_asked ds d))) (asked_list ds (λ d. false) t (asked_none L t u))

    usable_order : OrderFree L t
    usable_order ds es same = asked_same (is_asked es) _ _ (subst (λ (f : ℕ → Bool). Asked L t u f (tables_after (step L) t (map grant ds))) (fun_ext same) (asked_all ds)) (asked_all es)

    usable_any : AnyOrder L t
    unfolding grant_all_step
    usable_any ds same = asked_same (λ d. ltb d L.drones) _ _ (asked_below L t u L.drones) (subst (λ (f : ℕ → Bool). Asked L t u f (tables_after (step L) t (map grant ds))) (fun_ext same) (asked_all ds))

  -- nothing changes in tables that are not usable
  by_usable : {A : Type 0} → (Usable L t → A) → (((c : Call) → (step L t c).tables ≡ t) → A) → A
  by_usable are are-not = by_cases (full_size L t) (λ f. by_cases (sound L t) (λ s. are (f, s)) (λ s. are-not (leaves_40 L t f s))) (λ f. are-not (leaves_41 L t f))

  pub order_free : OrderFree L t
  order_free ds es same = by_usable (λ u. usable_order u ds es same) (λ h. unchanged L t h (map grant ds) ∙ sym (unchanged L t h (map grant es)))

  pub any_order : AnyOrder L t
  unfolding grant_all_step
  any_order ds same = by_usable (λ u. usable_any u ds same) (λ h. grants_unchanged L t h L.drones ∙ sym (unchanged L t h (map grant ds)))
