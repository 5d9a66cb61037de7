-- `full_periods::marks::Marked::greatest_distance`: the greatest distance and the last number are those of the marked numbers before k.
use Rattle.full_periods.proofs.Stepping.{Measured}
use Rattle.full_periods.proofs.marks.Marked.greatest_distance.Given as goal

abbrev pub invariant-loop-k : goal.invariant-loop-k
invariant-loop-k l = Measured l.self.marks.now l.self.n l.self.step l.greatest l.last l.k
