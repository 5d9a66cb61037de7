-- `abelian::output_word` meets its contract: no kind is above 9, and the two parts are below 2^14, so that nothing overflows.
use Rattle.std.proofs.Common.{◌≤◌, arith}
use Rattle.abelian.specs.Words.{longest}
use Rattle.abelian.specs.Output.{kind_number, output_word}
use Rattle.abelian.specs.declared.Kind.{Kind}
use Rattle.abelian.specs.declared.Kind.TheVariants as kind
use Rattle.abelian.proofs.output_word.Goals as goal

-- no kind is above 9
kind_bound : (k : Kind) → kind_number k ≤ 9
kind_bound kind.Period = omega arith
kind_bound kind.Square = omega arith
kind_bound kind.Full = omega arith
kind_bound kind.Run = omega arith
kind_bound kind.Hands = omega arith
kind_bound kind.Window = omega arith
kind_bound kind.Report = omega arith
kind_bound kind.Pattern = omega arith

pub overflow_cast-result : goal.overflow_cast-result
unfolding longest
overflow_cast-result c = omega (arith, c.requires.upper_le_longest)

pub overflow_mul-result : goal.overflow_mul-result
unfolding longest
overflow_mul-result c = omega (arith, c.requires.upper_le_longest)

pub overflow_add-result : goal.overflow_add-result
unfolding longest
overflow_add-result c = omega (arith, c.requires.upper_le_longest, c.word.ensures, kind_bound c.args.kind)

pub overflow_cast-result-2 : goal.overflow_cast-result-2
unfolding longest
overflow_cast-result-2 c = omega (arith, c.requires.lower_le_longest)

pub overflow_add-result-2 : goal.overflow_add-result-2
unfolding longest
overflow_add-result-2 c = omega (arith, c.requires.upper_le_longest, c.requires.lower_le_longest, c.word.ensures, kind_bound c.args.kind)

pub returns : goal.returns
unfolding output_word
returns c = omega (arith, c.word.ensures)
