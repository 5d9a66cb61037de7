-- `listers::lowest::find_positions`: the table has the positions of the occurrences among the letters read, and 0 elsewhere.
use Rattle.listers.proofs.Positions.{Found}
use Rattle.listers.proofs.lowest.find_positions.Given as goal

abbrev pub invariant-loop-i : goal.invariant-loop-i
invariant-loop-i l = Found l.word l.found l.i
