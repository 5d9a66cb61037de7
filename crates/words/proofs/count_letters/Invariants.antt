-- `words::count_letters`: the counts are those of the letters passed.
use Rattle.std.proofs.Common.{◌≡◌, take}
use Rattle.abelian.specs.Words.{vector}
use Rattle.words.proofs.count_letters.Given as goal

abbrev pub invariant-loop-letter : goal.invariant-loop-letter
invariant-loop-letter l = l.counts ≡ vector (take l.letter-index l.letters)
