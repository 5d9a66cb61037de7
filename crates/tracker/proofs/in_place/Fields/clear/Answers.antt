-- `Fields::clear` meets its contract: what it leaves is the fresh tracker.
use Rattle.std.proofs.Common.{sym, ap}
use Rattle.abelian.specs.Words.{longest}
use Rattle.abelian.specs.Trackers.{board_size, clearing}
use Rattle.abelian.proofs.Totals.{fresh_zero}
use Rattle.tracker.proofs.Steps.{accepted}
use Rattle.tracker.proofs.in_place.Fields.clear.Goals as goal

pub returns-clause-step : goal.returns-clause-step
unfolding clearing longest board_size
returns-clause-step c = ap accepted (sym fresh_zero)
