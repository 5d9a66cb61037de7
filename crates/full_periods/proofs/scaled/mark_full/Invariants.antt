-- `full_periods::scaled::mark_full`: p is a multiple of s, and the table marks the full periods below it.
use Rattle.full_periods.proofs.Scaling.{Marked}
use Rattle.full_periods.proofs.scaled.mark_full.Given as goal

abbrev pub invariant-loop-p : goal.invariant-loop-p
invariant-loop-p l = Marked l.word l.s l.marks l.p
