-- `full_periods::marks::Marked::marks_multiples`: k is a multiple of the period, and those below it are marked.
use Rattle.full_periods.proofs.Multiples.{Passed}
use Rattle.full_periods.proofs.marks.Marked.marks_multiples.Given as goal

abbrev pub invariant-loop-k : goal.invariant-loop-k
invariant-loop-k l = Passed l.self.marks.now l.self.n l.p l.k
