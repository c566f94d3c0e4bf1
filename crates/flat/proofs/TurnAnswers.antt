-- A turn of a list on usable tables by the ways through its code, and the preview of it: one law for each return. A turn of one dependency is that of a list of one. Assumes nothing.
use mathlib.Core.Path.{◌≡◌, refl, sym, ap, ◌∙◌}
use mathlib.Core.Bool.{Bool, true, false}
use mathlib.Core.List.{List, [], ◌∷◌}
use Prim.Native.Nat.{ℕ, ◌≤◌}
use lib.IntN.{ℤ, sub_ℕ}
use lib.ListN.{length}
use mir.Syntax.{w32}
use mir.Val.{to_z, of_z}
use borrow.Author.Tests.{leb-true, leb-false}
use Rattle.std.specs.Prelude.{⊤, Result, Ok, Err, MatchResult, IsErrAnd}
use Rattle.std.proofs.lemmas.Result.{err_from_is_err_and}
use Rattle.below.specs.Below.{at}
use Rattle.tables.specs.Limits.{Limits}
use Rattle.tables.specs.Tables.{Tables, dependencies}
use Rattle.plan.specs.Field.{plan_of}
use Rattle.plan.specs.Status.{status_in}
use Rattle.call_log.specs.CallLog.{turn, turn_all, Reply, accepted, refused, is_group}
use Rattle.call_log.specs.Calls.{Answer, step, flip_flags, flipped_all, Answered, costs, cost_reply}
use Rattle.call_log.specs.Claims.{Usable}
use Rattle.call_log.specs.Preview.{would_turn, would_refuse, preview_all}
use Rattle.call_log.proofs.Exactly.{turn_is_group}
use Rattle.call_log.proofs.Preview.{preview_all-turned, preview_all_refusal}
use Rattle.call_log.proofs.SoundKept.{left_usable}
use Rattle.call_log.proofs.Steps.{PassedTo, turn_30, group_36, group_30, group_35, group_31, group_32, group_34, group_0}
use Rattle.flat.specs.declared.replies.TurnRefusal.{TurnRefusal}
use Rattle.flat.specs.declared.replies.TurnRefusal.TheVariants.{Tables as Faulty, NoDependency, Withdrawn, Fixed, FirstEntered, Cycle}
use Rattle.flat.specs.declared.replies.TurnAllRefusal.{TurnAllRefusal}
use Rattle.flat.specs.declared.replies.TurnAllRefusal.TheVariants.{Turn}
use Rattle.flat.specs.InForce.{group_cyclic}
use Rattle.flat.specs.Lent.{with_flags}
use Rattle.flat.specs.TurnReplies.{turn_number, turn_meant, turn_all_meant, preview_meant, preview_all_meant}
use Rattle.flat.specs.TurnTests.{walk_of}
use Rattle.flat.proofs.Answers.{answered}
use Rattle.flat.proofs.PreviewLaws.{CostsSmall, change_read}
use Rattle.flat.proofs.WalkLaws.{WalkSaid, walk_said}

-- a refusal of a turn as one of a turn of a list: the reply stays
pub as_turn_all : (r : Result ⊤ TurnRefusal) (q : Result ⊤ TurnAllRefusal) → MatchResult r (λ x. q ≡ Ok x) (λ e. IsErrAnd q (λ d. d ≡ Turn e)) → turn_meant r ≡ turn_all_meant q
as_turn_all (Ok x) q e = rw e refl
as_turn_all (Err e) q h = let p = err_from_is_err_and q h in rw (p.1, p.2) refl

-- .. and of its preview
pub as_preview_all : (r : Result ℤ TurnRefusal) (q : Result ℤ TurnAllRefusal) → MatchResult r (λ x. q ≡ Ok x) (λ e. IsErrAnd q (λ d. d ≡ Turn e)) → preview_meant r ≡ preview_all_meant q
as_preview_all (Ok x) q e = rw e refl
as_preview_all (Err e) q h = let p = err_from_is_err_and q h in rw (p.1, p.2) refl

module _ (L : Limits) (t : Tables) where
  -- the turn of one dependency is the turn of the list of length one
  pub one_turn : {w : ℕ} {r : Reply} {t' : Tables} → Answered (step L) t (turn_all (w ∷ [])) r t' → Answered (step L) t (turn w) r t'
  one_turn {w} a =
      let same = turn_is_group L t w in
      record { replied = a.replied ∙ ap (λ (x : Answer). x.reply) (sym same); left = a.left ∙ ap (λ (x : Answer). x.tables) (sym same) }

  -- the preview is refused as the turn is
  pub as_refused : (ws : List ℕ) (n : ℕ) → Answered (step L) t (turn_all ws) (refused n) t → would_refuse n ≡ preview_all L t ws
  as_refused ws n h = preview_all_refusal L t ws t n h

module _ (L : Limits) (t : Tables) (u : Usable L t) where
  pub turns_30 : (w : ℕ) → dependencies t.plan ≤ w → Answered (step L) t (turn w) (refused 30) t
  turns_30 w a = answered (step L) t (turn w) (refused 30) t (turn_30 L t u.0 u.1 w a)

  module _ (ws : List ℕ) where
    pub lists_36 : is_group ws ≡ false → Answered (step L) t (turn_all ws) (refused 36) t
    lists_36 e = answered (step L) t (turn_all ws) (refused 36) t (group_36 L t u.0 u.1 ws e)

    -- r: the result of the tests
    module _ (group : is_group ws ≡ true) (r : Result ⊤ TurnRefusal) (is-r : r ≡ walk_of t ws) where
      pub lists_refused : {refusal : TurnRefusal} → r ≡ Err refusal → Answered (step L) t (turn_all ws) (refused (turn_number refusal)) t
      lists_refused {refusal} h = answered (step L) t (turn_all ws) (refused (turn_number refusal)) t (go refusal (walk_said t ws r (Err refusal) is-r h))
        where
          go : (x : TurnRefusal) → WalkSaid t ws (Err x) → step L t (turn_all ws) ≡ record { reply = refused (turn_number x); tables = t }
          go NoDependency (i, l, p, a) = group_30 L t u.0 u.1 ws group i l p (leb-true (dependencies t.plan) (at ws i) a)
          go Withdrawn (i, l, p, (a, o)) = group_35 L t u.0 u.1 ws group i l p (leb-false (dependencies t.plan) (at ws i) a) o
          go Fixed (i, l, p, (a, o, b)) = group_31 L t u.0 u.1 ws group i l p (leb-false (dependencies t.plan) (at ws i) a) o b
          go FirstEntered (i, l, p, (a, o, b, c)) = group_32 L t u.0 u.1 ws group i l p (leb-false (dependencies t.plan) (at ws i) a) o b c
          go (Faulty fault) (i, l, p, q) = absurd q
          go Cycle (i, l, p, q) = absurd q

      module _ {x : ⊤} (h : r ≡ Ok x) where
        pub all_pass : PassedTo (plan_of t.plan) (status_in t) ws (length ws)
        all_pass = walk_said t ws r (Ok x) is-r h

        -- y: the turned graph has a cycle
        module _ (y : Bool) (is_y : y ≡ group_cyclic t ws) where
          pub lists_34 : y ≡ true → Answered (step L) t (turn_all ws) (refused 34) t
          lists_34 e = answered (step L) t (turn_all ws) (refused 34) t (group_34 L t u.0 u.1 ws group all_pass (sym is_y ∙ e))

          module _ (e : y ≡ false) where
            pub listed_now : Answered (step L) t (turn_all ws) accepted (flipped_all t ws)
            listed_now = answered (step L) t (turn_all ws) accepted (flipped_all t ws) (group_0 L t u.0 u.1 ws group all_pass (sym is_y ∙ e))

            -- f: the flag bytes after the turn
            pub lists_0 : (f : List ℕ) → f ≡ flip_flags t.flags ws → Answered (step L) t (turn_all ws) accepted (with_flags t f)
            lists_0 f is_f = rw is_f listed_now

            pub usable_listed : Usable L (flipped_all t ws)
            usable_listed = left_usable L t (flipped_all t ws) (turn_all ws) accepted u listed_now

            pub list_previews_0 : CostsSmall L → (a b : ℕ) → costs a ≡ cost_reply L (flipped_all t ws) → costs b ≡ cost_reply L t → (z : ℤ) → z ≡ sub_ℕ a b → would_turn (to_z w32 (of_z w32 z)) ≡ preview_all L t ws
            list_previews_0 small a b p q z is-z = change_read L small t (flipped_all t ws) a b p q z is-z ∙ preview_all-turned L t ws (flipped_all t ws) a b listed_now p q
