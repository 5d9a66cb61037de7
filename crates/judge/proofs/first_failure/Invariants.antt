-- `judge::first_failure`: no letter breaks the rule in a block passed, and none of the letters tried in the block at hand.
use Rattle.abelian.specs.Periods.{pair}
use Rattle.judge.proofs.Failures.{Passed, Tried}
use Rattle.judge.proofs.first_failure.Given as goal

abbrev pub invariant-loop-block : goal.invariant-loop-block
invariant-loop-block l = Passed l.word (pair l.head.0 l.period.0) l.block

abbrev pub invariant-loop-letter : goal.invariant-loop-letter
invariant-loop-letter l = Tried l.word (pair l.head.0 l.period.0) l.block l.letter
