-- `full_periods::marks::Marked::count` meets its contract: each marked number is counted, and no other.
use Rattle.std.proofs.Common.{◌≤◌, arith}
use Rattle.abelian.specs.Words.{longest}
use Rattle.full_periods.specs.Marks.{Steps}
use Rattle.full_periods.proofs.Stepping.{steps_positive, counted_start, counted_more, counted_same, counted_end}
use Rattle.full_periods.proofs.marks.Marked.count.Goals as goal
use Rattle.full_periods.proofs.marks.Marked.count.Goals.{then-self-p-eq1, else-self-p-eq1}

pub overflow_add-p-end : goal.overflow_add-p-end
unfolding longest
overflow_add-p-end c = omega (arith, c.args.self.now.short)

pub loop-p-init : goal.loop-p-init
loop-p-init c = counted_start c.args.self.now.marks.now c.args.self.now.n c.max-stride.result

pub bounds-self-p : goal.bounds-self-p
unfolding longest
bounds-self-p c = omega (arith, c.args.self.now.short)

pub loop-p-preserved : goal.loop-p-preserved
loop-p-preserved c =
    let steps : Steps c.max-stride.result c.args.self.now.n c.args.self.now.marks.now = steps_positive c.args.self.now.steps c.max-stride.ensures in
    elim c.if-self-p-eq1.branch [
      | then-self-p-eq1 w ↦ rw w.count-is (counted_more c.loop-p.invariant steps (omega arith) (omega arith) w.if-self-p-eq1.true)
      | else-self-p-eq1 w ↦ rw w.count-is (counted_same c.loop-p.invariant steps (omega arith) (omega arith) w.if-self-p-eq1.false)
    ]

pub returns : goal.returns
returns c = counted_end c.loop-p.invariant (steps_positive c.args.self.now.steps c.max-stride.ensures) (omega arith) (omega arith)

pub returns-after-self-p-eq1 : goal.returns-after-self-p-eq1
returns-after-self-p-eq1 c =
    let steps : Steps c.max-stride.result c.args.self.now.n c.args.self.now.marks.now = steps_positive c.args.self.now.steps c.max-stride.ensures in
    let positive : 1 ≤ c.max-stride.result = omega arith in
    elim c.if-self-p-eq1.branch [
      | then-self-p-eq1 w ↦ rw w.count-is (counted_end (counted_more c.loop-p.invariant steps positive (omega arith) w.if-self-p-eq1.true) steps positive (omega arith))
      | else-self-p-eq1 w ↦ rw w.count-is (counted_end (counted_same c.loop-p.invariant steps positive (omega arith) w.if-self-p-eq1.false) steps positive (omega arith))
    ]
