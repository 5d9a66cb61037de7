-- `runs::hands::run_end`: the squares from the start to `last` stand one block behind the other, and `next` is one block further on.
use Rattle.runs.proofs.Following.{Following}
use Rattle.runs.proofs.hands.run_end.Given as goal

abbrev pub invariant-loop-next : goal.invariant-loop-next
invariant-loop-next l = Following l.row.word.now l.marks l.period l.start l.last l.next
