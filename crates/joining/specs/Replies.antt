-- A joining's reply: document 02's number and values for each case, those of the reading's reply. Assumes nothing.
use Rattle.std.specs.Prelude.{⊤, Result, Ok, Err}
use Rattle.reading.specs.Replies.{ReadingReply, taken, refused_by, refusal_meant}
use Rattle.joining.specs.declared.replies.JoinRefusal.{JoinRefusal}
use Rattle.joining.specs.declared.replies.JoinRefusal.TheVariants.{Refused, NotSound, Started}
use Rattle.joining.specs.declared.tests.StandingFault.{StandingFault}
use Rattle.joining.specs.declared.tests.StandingFault.TheVariants as test

abbrev pub join_meant : Result ⊤ JoinRefusal → ReadingReply
join_meant (Ok _) = taken
join_meant (Err (Refused r)) = refusal_meant r
join_meant (Err NotSound) = refused_by 40
join_meant (Err Started) = refused_by 16

-- the reply where a plan fails a test
abbrev pub fault_meant : StandingFault → ReadingReply
fault_meant test.Small = refused_by 41
fault_meant test.Unsound = refused_by 40
fault_meant test.Started = refused_by 16
