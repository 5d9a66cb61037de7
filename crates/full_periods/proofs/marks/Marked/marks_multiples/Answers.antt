-- `full_periods::marks::Marked::marks_multiples` meets its contract: every multiple is looked at, up to one that is not marked.
use Rattle.std.proofs.Common.{sym, arith}
use Rattle.abelian.specs.Words.{longest}
use Rattle.full_periods.proofs.Tables.{one-marked, other_not_marked}
use Rattle.full_periods.proofs.Multiples.{passed_start, passed_failed, passed_end, passed_next}
use Rattle.full_periods.proofs.marks.Marked.marks_multiples.Goals as goal

pub overflow_add-k-end : goal.overflow_add-k-end
unfolding longest
overflow_add-k-end c = omega (arith, c.args.self.now.short)

pub loop-k-init : goal.loop-k-init
loop-k-init c = passed_start c.args.self.now.marks.now c.args.self.now.n c.args.period.0 c.requires

pub bounds-self-k : goal.bounds-self-k
unfolding longest
bounds-self-k c = omega (arith, c.args.self.now.short)

pub loop-k-preserved : goal.loop-k-preserved
loop-k-preserved c = passed_next c.loop-k.invariant (one-marked c.args.self.now.marks.now c.loop-k.k c.if-self-k-ne1.false)

pub returns-then-self-k-ne1 : goal.returns-then-self-k-ne1
returns-then-self-k-ne1 c = sym (passed_failed c.loop-k.invariant (omega arith) (other_not_marked c.args.self.now.marks.now c.loop-k.k c.if-self-k-ne1.true))

pub returns : goal.returns
returns c = sym (passed_end c.loop-k.invariant (omega arith))

pub returns-else-self-k-ne1 : goal.returns-else-self-k-ne1
returns-else-self-k-ne1 c = sym (passed_end (passed_next c.loop-k.invariant (one-marked c.args.self.now.marks.now c.loop-k.k c.if-self-k-ne1.false)) (omega arith))
