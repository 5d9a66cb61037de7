-- `words::count_prefixes`: the table's rows up to row i are filled, and the running row is row i.
use Rattle.words.proofs.Filled.{Filled}
use Rattle.words.proofs.count_prefixes.Given as goal

abbrev pub invariant-loop-i : goal.invariant-loop-i
invariant-loop-i l = Filled l.letters l.table l.row l.i
