-- `full_periods::counts::is_multiple`: whether one of the places passed fails the test.
use Rattle.std.proofs.Common.{◌≡◌, not}
use Rattle.abelian.specs.Lists.{up_from, all}
use Rattle.full_periods.proofs.Multiples.{fits}
use Rattle.full_periods.proofs.counts.is_multiple.Given as goal

abbrev pub invariant-loop-j : goal.invariant-loop-j
invariant-loop-j l = l.differing ≡ not (all (fits l.counts l.times l.unit) (up_from 0 l.j))
