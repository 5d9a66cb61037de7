-- `words::first_outside`: the first position that holds no letter is that among the bytes from i on, so none was passed.
use Rattle.std.proofs.Common.{◌≡◌, suc, drop}
use Rattle.abelian.specs.Words.{alphabet_size, outside_from, first_outside}
use Rattle.words.proofs.first_outside.Given as goal

abbrev pub invariant-loop-i : goal.invariant-loop-i
invariant-loop-i l = first_outside alphabet_size l.bytes ≡ outside_from alphabet_size (suc l.i) (drop l.i l.bytes)
