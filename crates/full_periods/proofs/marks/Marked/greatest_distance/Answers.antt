-- `full_periods::marks::Marked::greatest_distance` meets its contract: each marked number is one distance more.
use Rattle.std.proofs.Common.{◌≤◌, arith}
use Rattle.abelian.specs.Words.{longest}
use Rattle.full_periods.specs.Marks.{Steps}
use Rattle.full_periods.proofs.Stepping.{measured_start, measured_more, measured_same, measured_end}
use Rattle.full_periods.proofs.marks.Marked.greatest_distance.Goals as goal
use Rattle.full_periods.proofs.marks.Marked.greatest_distance.Goals.{then-self-k-eq1, else-self-k-eq1}

pub overflow_add-k-end : goal.overflow_add-k-end
unfolding longest
overflow_add-k-end c = omega (arith, c.args.self.now.short)

pub loop-k-init : goal.loop-k-init
loop-k-init c = measured_start c.args.self.now.marks.now c.args.self.now.n c.args.self.now.step

pub bounds-self-k : goal.bounds-self-k
unfolding longest
bounds-self-k c = omega (arith, c.args.self.now.short)

pub loop-k-preserved : goal.loop-k-preserved
loop-k-preserved c =
    elim c.if-self-k-eq1.branch [
      | then-self-k-eq1 w ↦ rw (w.greatest-is, w.last-is, w.max-greatest.ensures) (measured_more c.loop-k.invariant c.args.self.now.steps c.requires (omega arith) w.if-self-k-eq1.true)
      | else-self-k-eq1 w ↦ rw (w.greatest-is, w.last-is) (measured_same c.loop-k.invariant c.args.self.now.steps c.requires (omega arith) w.if-self-k-eq1.false)
    ]

pub returns : goal.returns
returns c = measured_end c.loop-k.invariant c.args.self.now.steps c.requires (omega arith)

pub returns-after-self-k-eq1 : goal.returns-after-self-k-eq1
returns-after-self-k-eq1 c =
    let s : Steps c.args.self.now.step c.args.self.now.n c.args.self.now.marks.now = c.args.self.now.steps in
    let p : 1 ≤ c.args.self.now.step = c.requires in
    elim c.if-self-k-eq1.branch [
      | then-self-k-eq1 w ↦ rw (w.greatest-is, w.max-greatest.ensures) (measured_end (measured_more c.loop-k.invariant s p (omega arith) w.if-self-k-eq1.true) s p (omega arith))
      | else-self-k-eq1 w ↦ rw w.greatest-is (measured_end (measured_same c.loop-k.invariant s p (omega arith) w.if-self-k-eq1.false) s p (omega arith))
    ]
