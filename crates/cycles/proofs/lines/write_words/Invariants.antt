-- The lines of the words before the loop's are written.
use Rattle.cycles.specs.Reports.{line_of}
use Rattle.cycles.proofs.Writing.{Writing}
use Rattle.cycles.proofs.lines.write_words.Given as goal

abbrev pub invariant-loop-word : goal.invariant-loop-word
invariant-loop-word l = Writing line_of l.words l.fn.text l.text l.at l.word-index
