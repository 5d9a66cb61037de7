-- `listers::lowest::lowest_periods`: the entries of the heads below h are found, the head h is not ruled out, and its reach is at hand.
use Rattle.listers.proofs.LowestPeriods.{Heads}
use Rattle.listers.proofs.lowest.lowest_periods.Given as goal

abbrev pub invariant-loop-h : goal.invariant-loop-h
invariant-loop-h l = Heads l.word l.lowest l.reach l.h
