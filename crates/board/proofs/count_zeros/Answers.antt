-- `board::count_zeros` meets its contract: a row has no more zeros than entries, so a byte holds their number.
use Rattle.std.proofs.Common.{ap, ◌∙◌, refl, arith, ◌+◌}
use lib.Seq.{take_all}
use Rattle.abelian.specs.Words.{longest, count}
use Rattle.board.proofs.Zeros.{zeros_more, zeros_few}
use Rattle.board.proofs.count_zeros.Goals as goal

pub loop-entry-init : goal.loop-entry-init
unfolding count
loop-entry-init c = refl

pub overflow_add-zeros : goal.overflow_add-zeros
unfolding longest
overflow_add-zeros c =
    omega (arith, zeros_more c.args.row.now c.loop-entry.entry-index c.loop-entry-test.true, zeros_few c.args.row.now (c.loop-entry.entry-index + 1))

pub loop-entry-preserved : goal.loop-entry-preserved
loop-entry-preserved c = omega (arith, zeros_more c.args.row.now c.loop-entry.entry-index c.loop-entry-test.true)

pub returns : goal.returns
returns c = c.loop-entry.invariant ∙ ap (count 0) (take_all _ _ (omega arith))
