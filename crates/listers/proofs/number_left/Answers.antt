-- `listers::number_left` meets its contract: the pairs left open are the Abelian periods.
use Rattle.listers.proofs.Listings.{periods_counted}
use Rattle.listers.proofs.number_left.Goals as goal

pub returns : goal.returns
returns g c = periods_counted c.end_others-found.ensures
