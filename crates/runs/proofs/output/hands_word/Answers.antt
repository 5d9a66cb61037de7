-- `runs::output::hands_word` meets its contract: kind, end and hands are within their parts of the word.
use Rattle.std.proofs.Common.{arith}
use Rattle.abelian.specs.Output.{hands_word}
use Rattle.runs.proofs.output.hands_word.Goals as goal

pub returns : goal.returns
unfolding hands_word
returns c = omega arith
