-- `full_periods::marks::Marked::write` meets its contract: each marked number's word is written in the next place.
use Rattle.std.proofs.Common.{◌≤◌, ◌<◌, length, arith}
use Rattle.abelian.specs.Words.{longest}
use Rattle.full_periods.specs.Marks.{Steps}
use Rattle.full_periods.proofs.Stepping.{steps_positive, written_start, written_place, written_more, written_same, written_end}
use Rattle.full_periods.proofs.marks.Marked.write.Goals as goal
use Rattle.full_periods.proofs.marks.Marked.write.Goals.{then-self-p-eq1, else-self-p-eq1}

pub overflow_add-p-end : goal.overflow_add-p-end
unfolding longest
overflow_add-p-end c = omega (arith, c.args.self.now.short)

pub loop-p-init : goal.loop-p-init
loop-p-init c = written_start c.args.self.now.marks.now c.args.self.now.n c.max-stride.result c.args.out.now

pub bounds-self-p : goal.bounds-self-p
unfolding longest
bounds-self-p c = omega (arith, c.args.self.now.short)

-- a marked number has a place for its word
room : (c : goal.After-full_word) → c.loop-p.at < length c.loop-p.out
room c =
    written_place c.loop-p.invariant (steps_positive c.args.self.now.steps c.max-stride.ensures) (omega arith) (omega arith) c.if-self-p-eq1.true c.requires

pub offset_bounds-out-at : goal.offset_bounds-out-at
offset_bounds-out-at c = omega (arith, room c)

pub bounds-out-at : goal.bounds-out-at
bounds-out-at c = room c

pub overflow_add-at : goal.overflow_add-at
overflow_add-at c = omega (arith, room c)

pub loop-p-preserved : goal.loop-p-preserved
loop-p-preserved c =
    let steps : Steps c.max-stride.result c.args.self.now.n c.args.self.now.marks.now = steps_positive c.args.self.now.steps c.max-stride.ensures in
    let positive : 1 ≤ c.max-stride.result = omega arith in
    elim c.if-self-p-eq1.branch [
      | then-self-p-eq1 w ↦
          let m = w.if-self-p-eq1.true in
          let r = written_place c.loop-p.invariant steps positive (omega arith) m c.requires in
          rw (w.out-is, w.at-is) (written_more c.loop-p.invariant steps positive (omega arith) m r w.full_word.ensures)
      | else-self-p-eq1 w ↦ rw (w.out-is, w.at-is) (written_same c.loop-p.invariant steps positive (omega arith) w.if-self-p-eq1.false)
    ]

pub returns : goal.returns
returns c = written_end c.loop-p.invariant (steps_positive c.args.self.now.steps c.max-stride.ensures) (omega arith) (omega arith)

pub returns-after-self-p-eq1 : goal.returns-after-self-p-eq1
returns-after-self-p-eq1 c =
    let steps : Steps c.max-stride.result c.args.self.now.n c.args.self.now.marks.now = steps_positive c.args.self.now.steps c.max-stride.ensures in
    let positive : 1 ≤ c.max-stride.result = omega arith in
    elim c.if-self-p-eq1.branch [
      | then-self-p-eq1 w ↦
          let m = w.if-self-p-eq1.true in
          let r = written_place c.loop-p.invariant steps positive (omega arith) m c.requires in
          rw w.out-is (written_end (written_more c.loop-p.invariant steps positive (omega arith) m r w.full_word.ensures) steps positive (omega arith))
      | else-self-p-eq1 w ↦ rw w.out-is (written_end (written_same c.loop-p.invariant steps positive (omega arith) w.if-self-p-eq1.false) steps positive (omega arith))
    ]
