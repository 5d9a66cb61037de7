-- `tracker::fresh` meets its contract.
use mathlib.Core.Path.{sym}
use Rattle.abelian.specs.Words.{longest}
use Rattle.abelian.specs.Trackers.{board_size}
use Rattle.abelian.proofs.Totals.{fresh_zero}
use Rattle.tracker.proofs.fresh.Goals as goal

pub returns : goal.returns
unfolding longest board_size
returns c = sym fresh_zero
