-- The numbers before the loop's are written.
use Rattle.cycles.specs.Text.{spaced}
use Rattle.cycles.proofs.Writing.{Writing}
use Rattle.cycles.proofs.lines.write_numbers.Given as goal

abbrev pub invariant-loop-number : goal.invariant-loop-number
invariant-loop-number l = Writing spaced l.numbers l.fn.text l.text l.at l.number-index
