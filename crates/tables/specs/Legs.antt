-- The leg into a stop, in rounds (request 14). Assumes nothing.
use Rattle.std.specs.Prelude.{Bool, cond, ◌&&◌, ℕ, eqb, leb}
use Rattle.tables.specs.Limits.{Limits}

-- "A `plan=1` text reads as legs of one, 0 at stop 0": the leg into a drone's stop s
unfoldable pub plain_leg : ℕ → ℕ
plain_leg s = cond (eqb s 0) 0 1

-- the longest leg of a plan form: 1 in `plan=1`, in `plan=2` "1 to 60 rounds". Which forms there are is asked apart
unfoldable pub longest_leg : Limits → ℕ → ℕ
longest_leg L form = cond (eqb form 1) 1 L.leg

-- "LEG 0 at stop 0 and 1 to 60 rounds elsewhere"; "sound tables of a `plan=1` form have just these legs", those of one: a leg g into a drone's stop s
unfoldable pub leg_right : Limits → (form s g : ℕ) → Bool
leg_right L form s g = cond (eqb s 0) (eqb g 0) (leb 1 g && leb g (longest_leg L form))
