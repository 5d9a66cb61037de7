-- `full_periods::scaled::mark_scaled`: the counts are those of the i letters read, the table marks the scaled positions up to i, and `next` is the first
-- multiple of s above i.
use Rattle.full_periods.proofs.Scaling.{Running}
use Rattle.full_periods.proofs.scaled.mark_scaled.Given as goal

abbrev pub invariant-loop-i : goal.invariant-loop-i
invariant-loop-i l = Running l.word l.s l.marks l.counts l.times l.next l.i
