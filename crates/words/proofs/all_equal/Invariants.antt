-- `words::all_equal`: no letter that its loop has passed differs from the first.
use Rattle.std.proofs.Common.{◌≡◌}
use Rattle.abelian.specs.Words.{all_equal}
use Rattle.words.proofs.Equal.{equal_from}
use Rattle.words.proofs.all_equal.Given as goal

abbrev pub invariant-loop-letter : goal.invariant-loop-letter
invariant-loop-letter l = all_equal l.word ≡ equal_from l.word l.letter-index
