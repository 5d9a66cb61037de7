-- `listers::lowest::greatest_gaps`: the gaps behind the heads from i on are found, and the last of them is at hand.
use Rattle.listers.proofs.Gaps.{Gaps}
use Rattle.listers.proofs.lowest.greatest_gaps.Given as goal

abbrev pub invariant-loop-i : goal.invariant-loop-i
invariant-loop-i l = Gaps l.word l.gaps l.gap l.i
