-- `full_periods::marks::Marked::count`: the count is that of the marked numbers before p.
use Rattle.full_periods.proofs.Stepping.{Counted}
use Rattle.full_periods.proofs.marks.Marked.count.Given as goal

abbrev pub invariant-loop-p : goal.invariant-loop-p
invariant-loop-p l = Counted l.self.marks.now l.self.n l.stride l.count l.p
