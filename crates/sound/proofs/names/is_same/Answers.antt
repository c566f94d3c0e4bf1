use native.Mathlib.Omega.{arith}
use Rattle.sound.proofs.Asking.{keys_differ}
use Rattle.sound.proofs.names.is_same.Goals as goal

pub returns-then-keys-d : goal.returns-then-keys-d
returns-then-keys-d c = keys_differ _ _ _ _ _ _ (c.requires.3 c.args.d (omega arith)) (c.requires.3 c.args.e (omega arith)) c.if-keys-d.true
