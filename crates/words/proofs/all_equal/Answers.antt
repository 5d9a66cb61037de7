-- `words::all_equal` meets its contract: the loop stops at a letter that differs from the first.
use Rattle.std.proofs.Common.{arith, sym, ◌∙◌}
use borrow.Author.Tests.{ne_eqb, eq-eqb}
use Rattle.words.proofs.Equal.{differs_here, equal_later, all_passed}
use Rattle.words.proofs.all_equal.Goals as goal

pub returns-then-letter-word : goal.returns-then-letter-word
returns-then-letter-word c =
    sym (c.loop-letter.invariant ∙ differs_here c.args.word.now c.loop-letter.letter-index (omega arith) (ne_eqb _ _ c.if-letter-word.true))

pub loop-letter-preserved : goal.loop-letter-preserved
loop-letter-preserved c =
    c.loop-letter.invariant ∙ equal_later c.args.word.now c.loop-letter.letter-index (omega arith) (eq-eqb _ _ c.if-letter-word.false)

pub returns : goal.returns
returns c = sym (c.loop-letter.invariant ∙ all_passed c.args.word.now c.loop-letter.letter-index (omega arith))
