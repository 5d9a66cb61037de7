-- `squares::marks::mark` meets its contract: what is compared are the counts of the two halves.
use Rattle.std.proofs.Common.{◌≡◌, ◌∙◌, Bool, true, false, not, ap, ◌+◌, ◌-◌}
use mir.Val.{bool_byte}
use Rattle.abelian.specs.Lists.{one}
use Rattle.abelian.specs.Words.{part}
use Rattle.abelian.specs.Squares.{is_square}
use Rattle.words.proofs.Prefixes.{same_rows}
use Rattle.squares.proofs.marks.mark.Goals as goal

-- 1 where two vectors do not differ
alike : (differ same : Bool) → differ ≡ not same → bool_byte (not differ) ≡ one same
alike differ true e = rw e
alike differ false e = rw e

pub returns : goal.returns
unfolding is_square
returns c =
    let from = c.args.start - 1 in
    let half = c.args.half in
    alike _ _ (
    c.differs.ensures
    ∙ ap not (same_rows (part c.args.word.now from half) (part c.args.word.now (from + half) half) c.count_part-first.ensures.value c.count_part-second.ensures.value)
    )
