-- `runs::hands::hand`: a stretch of `hand` letters is contained in the block, and none of `past` letters or more. The measure is the lengths between them.
use Rattle.std.proofs.Common.{◌-◌}
use Rattle.runs.proofs.Halving.{Halving}
use Rattle.runs.proofs.hands.hand.Given as goal

abbrev pub invariant-loop-hand : goal.invariant-loop-hand
invariant-loop-hand l = Halving l.row.word.now l.row.period l.start l.side l.at l.hand l.past

abbrev pub decreases-loop-hand : goal.decreases-loop-hand
decreases-loop-hand l = l.past - l.hand
