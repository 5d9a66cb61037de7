-- `words::parts::count_more` meets its contract: one place more has what it holds with one more at the place.
use Rattle.std.proofs.Common.{◌<◌, arith, eqb, length}
use Rattle.abelian.specs.Words.{longest}
use Rattle.words.proofs.OneMore.{raised_more, raised_all, raised_at, byte_le_1}
use Rattle.words.proofs.parts.count_more.Goals as goal

pub overflow_add-more : goal.overflow_add-more
unfolding longest
overflow_add-more g c = omega (arith, c.requires.by_index c.loop-j.j c.loop-j-test.true, byte_le_1 (eqb c.args.place c.loop-j.j))

pub loop-j-preserved : goal.loop-j-preserved
loop-j-preserved g c =
    let l : c.loop-j.j < length c.args.counts = omega arith in
    raised_more c.loop-j.invariant l (raised_at c.args.counts c.args.place c.loop-j.j l)

pub returns : goal.returns
returns g c = raised_all c.loop-j.invariant (omega arith)
