-- `full_periods::marks::full_word` meets its contract: the number of blocks is not above n.
use Rattle.std.proofs.Common.{arith}
use Rattle.std.proofs.Math.Nat.{div-le_self}
use Rattle.abelian.specs.Output.{full_word}
use Rattle.full_periods.proofs.marks.full_word.Goals as goal

pub output_word-requires : goal.output_word-requires
output_word-requires c = record {
  upper_le_longest = c.requires.period_le_longest;
  lower_le_longest = omega (arith, c.requires.n_le_longest, div-le_self c.args.n c.args.period.0);
}

pub returns : goal.returns
unfolding full_word
returns c = c.output_word.ensures
