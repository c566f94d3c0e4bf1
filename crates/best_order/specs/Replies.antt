-- Request 11's reply for each case of the answer ("38, a budget out of range, after 40; 37, said exactly when the full walk would enter more than the budget, with the count equal to the budget"), and the contract of the call. Assumes nothing.
use Rattle.std.specs.Prelude.{◌≡◌, List, ℕ, Result, Ok, Err}
use Rattle.tables.specs.Limits.{Limits}
use Rattle.tables.specs.Tables.{Tables}
use Rattle.call_log.specs.BestOrder.{BestOutcome, best_is, too_many, best_refused, best_order}
use Rattle.flat.specs.Replies.{fault_number}
use Rattle.best_order.specs.declared.replies.BestOrder.{BestOrder}
use Rattle.best_order.specs.declared.replies.BestRefusal.{BestRefusal}
use Rattle.best_order.specs.declared.replies.BestRefusal.TheVariants as best

abbrev pub best_meant : Result BestOrder BestRefusal → BestOutcome
best_meant (Ok found) = best_is found.cost found.length found.count
best_meant (Err (best.Tables fault)) = best_refused (fault_number fault)
best_meant (Err best.BadBudget) = best_refused 38
best_meant (Err (best.TooMany count)) = too_many count

-- on the tables t and a lent list l the call replied r and left the list l'
pub record BestAnswered (L : Limits) (t : Tables) (l : List ℕ) (budget : ℕ) (r : Result BestOrder BestRefusal) (l' : List ℕ) : Type 0 where
  pub replied : best_meant r ≡ (best_order L t l budget).outcome
  pub listed : l' ≡ (best_order L t l budget).list
