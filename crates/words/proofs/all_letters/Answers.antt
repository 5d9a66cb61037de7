-- `words::all_letters` meets its contract: one byte more is a letter, or not.
use Rattle.std.proofs.Common.{refl, ap₂, ◌∙◌, ◌&&◌}
use Rattle.abelian.specs.Words.{outside_from, first_outside, of_letters}
use Rattle.words.proofs.Outside.{letters_more}
use Rattle.words.proofs.all_letters.Goals as goal

pub loop-byte-init : goal.loop-byte-init
unfolding of_letters first_outside outside_from
loop-byte-init c = refl

pub loop-byte-preserved : goal.loop-byte-preserved
loop-byte-preserved c =
    ap₂ ◌&&◌ c.loop-byte.invariant c.is_letter-all.ensures ∙ letters_more c.args.stretch.now c.loop-byte.byte-index c.loop-byte-test.true
