-- `runs::hands::run_end` meets its contract: a marked candidate one block further on is one block more, and where there is none the blocks end.
use Rattle.std.proofs.Common.{arith}
use borrow.Author.Tests.{eq-eqb, ne_eqb}
use Rattle.abelian.specs.Words.{longest}
use Rattle.runs.proofs.Marks.{row_length}
use Rattle.runs.proofs.Following.{following_one, following_more, following_end}
use Rattle.runs.proofs.hands.run_end.Goals as goal
use Rattle.runs.proofs.hands.run_end.Goals.{else-loop-next-test, then-loop-next-test+then-marks-next-ne1, then-loop-next-test+else-marks-next-ne1+else-period-next-end}

pub overflow_step-next : goal.overflow_step-next
unfolding longest
overflow_step-next c = omega (arith, c.requires.in_bounds, row_length _ _ c.args.row.now.marked, c.args.row.now.short)

pub loop-next-init : goal.loop-next-init
loop-next-init c = following_one c.args.row.now.marked c.requires.in_bounds.0 c.requires.in_bounds.1 c.requires.t

pub loop-next-preserved : goal.loop-next-preserved
loop-next-preserved c =
    following_more c.args.row.now.marked c.requires.in_bounds.0 c.loop-next.invariant (omega arith) (eq-eqb _ 1 c.if-marks-next-ne1.false)

pub returns : goal.returns
returns c =
    let marked = c.args.row.now.marked in
    let start = c.requires.in_bounds.0 in
    let d = c.args.row.now.positive in
    let h = c.loop-next.invariant in
    elim c.loop-next-test.branch [
      | else-loop-next-test e ↦ rw e.last-is (following_end marked start h d (λ l. absurd (omega arith)))
      | then-loop-next-test+then-marks-next-ne1 e ↦ rw e.last-is (following_end marked start h d (λ l. ne_eqb _ 1 e.if-marks-next-ne1.true))
      | then-loop-next-test+else-marks-next-ne1+else-period-next-end e ↦
          rw e.last-is (following_end marked start (following_more marked start h (omega arith) (eq-eqb _ 1 e.if-marks-next-ne1.false)) d (λ l. absurd (omega arith)))
    ]
