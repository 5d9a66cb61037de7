-- `full_periods::marks::Marked::write`: the words of the marked numbers before p fill the first places, and `at` is their number.
use Rattle.full_periods.proofs.Stepping.{Written}
use Rattle.full_periods.proofs.marks.Marked.write.Given as goal

abbrev pub invariant-loop-p : goal.invariant-loop-p
invariant-loop-p l = Written l.self.marks.now l.self.n l.stride l.initial.out l.out l.at l.p
