-- `words::all_letters`: its loop has found whether the bytes passed are letters.
use Rattle.std.proofs.Common.{◌≡◌, take}
use Rattle.abelian.specs.Words.{of_letters}
use Rattle.words.proofs.all_letters.Given as goal

abbrev pub invariant-loop-byte : goal.invariant-loop-byte
invariant-loop-byte l = l.all ≡ of_letters (take l.byte-index l.stretch)
