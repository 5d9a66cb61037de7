-- `full_periods::plain::mark_full`: the table marks the full periods below p.
use Rattle.abelian.specs.FullPeriods.{is_full}
use Rattle.full_periods.proofs.Tables.{Marking}
use Rattle.full_periods.proofs.plain.mark_full.Given as goal

abbrev pub invariant-loop-p : goal.invariant-loop-p
invariant-loop-p l = Marking (is_full l.word) l.marks l.p
