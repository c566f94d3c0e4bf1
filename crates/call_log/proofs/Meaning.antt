-- The replies of the log are known by their numbers, 33, 40 and 41 are not among them, and a log goes on. Assumes nothing.
use mathlib.Core.Path.{◌≡◌, refl}
use mathlib.Core.Logic.{◌≢◌}
use mathlib.Core.Bool.{Bool, true, false, cond}
use mathlib.Core.List.{List, [], ◌∷◌, ◌++◌}
use Prim.Native.Nat.{ℕ, ◌<◌}
use native.Mathlib.Omega.{arith}
use Rattle.tables.specs.Limits.{Limits}
use Rattle.tables.specs.Tables.{Tables, full_size}
use Rattle.plan.specs.Field.{FieldPlan, Status, plan_of}
use Rattle.plan.specs.Status.{status_in}
use Rattle.sound.specs.Sound.{sound}
use Rattle.call_log.specs.CallLog.{Call, grant, arrive, withdraw, turn, turn_all, Reply, accepted, refused, reply_number, awaited, reply_from, Check, first_that_holds, walked_rows, refusals, reply_in, entry_of, Entry, status_by, reply_by, log_from}
use Rattle.call_log.specs.Calls.{reply_of, grant_step, arrive_step, withdraw_step, turn_step, turn_all_step, step}
use Rattle.call_log.specs.Claims.{LogNever40Or41, Never33}

-- ---- replies

-- what holds of the reply of every row
abbrev AllRows : (Reply → Type 0) → List Check → Type 0
AllRows C [] = C accepted
AllRows C (c ∷ cs) = C c.reply × AllRows C cs

of_rows : (C : Reply → Type 0) (cs : List Check) → AllRows C cs → C (first_that_holds cs)
of_rows C [] all = all
of_rows C (c ∷ cs) all = go c.holds (of_rows C cs all.1)
  where
    go : (b : Bool) → C (first_that_holds cs) → C (elim b [ true ↦ c.reply | false ↦ first_that_holds cs ])
    go true rest = all.0
    go false rest = rest

module _ (F : FieldPlan) (s : Status) where
  -- the rows of a list that is walked
  walk_rows : (C : Reply → Type 0) → C (refused 30) → C (refused 35) → C (refused 31) → C (refused 32) → (ws : List ℕ) (after : List Check) → AllRows C after → AllRows C (walked_rows F s ws after)
  walk_rows C x v y z [] after h = h
  walk_rows C x v y z (w ∷ ws) after h = (x, (v, (y, (z, walk_rows C x v y z ws after h))))

  -- no row says 37 or more
  pub below_37 : (c : Call) → reply_number (reply_in F s c) < 37
  unfolding reply_in
  below_37 (grant d) = of_rows (λ r. reply_number r < 37) (refusals F s (grant d)) (omega arith, (omega arith, (omega arith, (omega arith, (omega arith, omega arith)))))
  below_37 (arrive d) = of_rows (λ r. reply_number r < 37) (refusals F s (arrive d)) (omega arith, (omega arith, (omega arith, omega arith)))
  below_37 (withdraw d) = of_rows (λ r. reply_number r < 37) (refusals F s (withdraw d)) (omega arith, (omega arith, omega arith))
  below_37 (turn w) = of_rows (λ r. reply_number r < 37) (refusals F s (turn w)) (omega arith, (omega arith, (omega arith, (omega arith, (omega arith, omega arith)))))
  below_37 (turn_all ws) = of_rows (λ r. reply_number r < 37) (refusals F s (turn_all ws)) (omega arith, walk_rows (λ r. reply_number r < 37) (omega arith) (omega arith) (omega arith) (omega arith) ws _ (omega arith, omega arith))

  -- and no turn says 23
  pub group_never_waits : (ws : List ℕ) → reply_number (reply_in F s (turn_all ws)) ≢ 23
  unfolding reply_in
  group_never_waits ws = of_rows (λ r. reply_number r ≢ 23) (refusals F s (turn_all ws)) (omega arith, walk_rows (λ r. reply_number r ≢ 23) (omega arith) (omega arith) (omega arith) (omega arith) ws _ (omega arith, omega arith))

  -- a reply is known by its number and what it carries: numbers in a slice, or printed, are the replies
  pub read_back : (c : Call) → reply_from (reply_number (reply_in F s c)) (awaited (reply_in F s c)) ≡ reply_in F s c
  unfolding reply_in reply_from
  read_back (grant d) = of_rows (λ r. reply_from (reply_number r) (awaited r) ≡ r) (refusals F s (grant d)) (refl, (refl, (refl, (refl, (refl, refl)))))
  read_back (arrive d) = of_rows (λ r. reply_from (reply_number r) (awaited r) ≡ r) (refusals F s (arrive d)) (refl, (refl, (refl, refl)))
  read_back (withdraw d) = of_rows (λ r. reply_from (reply_number r) (awaited r) ≡ r) (refusals F s (withdraw d)) (refl, (refl, refl))
  read_back (turn w) = of_rows (λ r. reply_from (reply_number r) (awaited r) ≡ r) (refusals F s (turn w)) (refl, (refl, (refl, (refl, (refl, refl)))))
  read_back (turn_all ws) = of_rows (λ r. reply_from (reply_number r) (awaited r) ≡ r) (refusals F s (turn_all ws)) (refl, walk_rows (λ r. reply_from (reply_number r) (awaited r) ≡ r) refl refl refl refl ws _ (refl, refl))

  -- nor does any row say 33
  not_33 : (c : Call) → reply_number (reply_in F s c) ≢ 33
  unfolding reply_in
  not_33 (grant d) = of_rows (λ r. reply_number r ≢ 33) (refusals F s (grant d)) (omega arith, (omega arith, (omega arith, (omega arith, (omega arith, omega arith)))))
  not_33 (arrive d) = of_rows (λ r. reply_number r ≢ 33) (refusals F s (arrive d)) (omega arith, (omega arith, (omega arith, omega arith)))
  not_33 (withdraw d) = of_rows (λ r. reply_number r ≢ 33) (refusals F s (withdraw d)) (omega arith, (omega arith, omega arith))
  not_33 (turn w) = of_rows (λ r. reply_number r ≢ 33) (refusals F s (turn w)) (omega arith, (omega arith, (omega arith, (omega arith, (omega arith, omega arith)))))
  not_33 (turn_all ws) = of_rows (λ r. reply_number r ≢ 33) (refusals F s (turn_all ws)) (omega arith, walk_rows (λ r. reply_number r ≢ 33) (omega arith) (omega arith) (omega arith) (omega arith) ws _ (omega arith, omega arith))

-- ---- on tables

module _ (L : Limits) (t : Tables) where
  reply_not_33 : (c : Call) → reply_number (reply_of L t c) ≢ 33
  unfolding reply_of
  reply_not_33 c = go (full_size L t) (sound L t)
    where
      go : (a b : Bool) → reply_number (cond a (cond b (reply_in (plan_of t.plan) (status_in t) c) (refused 40)) (refused 41)) ≢ 33
      go true true = not_33 (plan_of t.plan) (status_in t) c
      go true false = omega arith
      go false b = omega arith

  step-not_33 : (c : Call) → reply_number (step L t c).reply ≢ 33
  unfolding grant_step arrive_step withdraw_step turn_step turn_all_step
  step-not_33 (grant d) = reply_not_33 (grant d)
  step-not_33 (arrive d) = reply_not_33 (arrive d)
  step-not_33 (withdraw d) = reply_not_33 (withdraw d)
  step-not_33 (turn w) = reply_not_33 (turn w)
  step-not_33 (turn_all ws) = reply_not_33 (turn_all ws)

-- ---- the log

pub never_33 : Never33
never_33 = record { by_log = λ F log c. not_33 F (status_by log) c; on_tables = λ L t c. step-not_33 L t c }

pub log_never_40_or_41 : LogNever40Or41
log_never_40_or_41 F log c = let b = below_37 F (status_by log) c in (let n : reply_number (reply_by F log c) ≢ 40 = omega arith in n, let n : reply_number (reply_by F log c) ≢ 41 = omega arith in n)

module _ (F : FieldPlan) where
  -- later calls change nothing of the log before them
  pub log_joins : (cs ds : List Call) (log : List Entry) → log_from F log (cs ++ ds) ≡ log_from F (log_from F log cs) ds
  unfolding log_from
  log_joins [] ds log = refl
  log_joins (c ∷ cs) ds log = log_joins cs ds (log ++ (entry_of c (reply_by F log c) ∷ []))
