-- Document 01's reply for each case of the calls' answers ("Where each refusal is checked"). Assumes nothing.
use Rattle.std.specs.Prelude.{ℕ, ⊤, Result, Ok, Err}
use Rattle.call_log.specs.CallLog.{Reply, accepted, refused, must_wait}
use Rattle.flat.specs.declared.replies.TablesFault.{TablesFault}
use Rattle.flat.specs.declared.replies.TablesFault.TheVariants.{TooSmall, NotSound}
use Rattle.flat.specs.declared.replies.GrantRefusal.{GrantRefusal}
use Rattle.flat.specs.declared.replies.GrantRefusal.TheVariants as grant
use Rattle.flat.specs.declared.replies.ArriveRefusal.{ArriveRefusal}
use Rattle.flat.specs.declared.replies.ArriveRefusal.TheVariants as arrive
use Rattle.flat.specs.declared.replies.WithdrawRefusal.{WithdrawRefusal}
use Rattle.flat.specs.declared.replies.WithdrawRefusal.TheVariants as withdraw

-- "41 a lent table is below full size", "40 not sound"
abbrev pub fault_number : TablesFault → ℕ
fault_number TooSmall = 41
fault_number NotSound = 40

abbrev pub grant_meant : Result ⊤ GrantRefusal → Reply
grant_meant (Ok done) = accepted
grant_meant (Err (grant.Tables fault)) = refused (fault_number fault)
grant_meant (Err grant.NoDrone) = refused 20
grant_meant (Err grant.Withdrawn) = refused 25
grant_meant (Err grant.Finished) = refused 21
grant_meant (Err grant.UnderWay) = refused 22
grant_meant (Err (grant.MustWait w)) = must_wait w

abbrev pub arrive_meant : Result ⊤ ArriveRefusal → Reply
arrive_meant (Ok done) = accepted
arrive_meant (Err (arrive.Tables fault)) = refused (fault_number fault)
arrive_meant (Err arrive.NoDrone) = refused 20
arrive_meant (Err arrive.Withdrawn) = refused 25
arrive_meant (Err arrive.NotUnderWay) = refused 24

-- "withdraw has 40, 20 and 25 only, after 41"
abbrev pub withdraw_meant : Result ⊤ WithdrawRefusal → Reply
withdraw_meant (Ok done) = accepted
withdraw_meant (Err (withdraw.Tables fault)) = refused (fault_number fault)
withdraw_meant (Err withdraw.NoDrone) = refused 20
withdraw_meant (Err withdraw.Withdrawn) = refused 25
