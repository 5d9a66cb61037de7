-- `squares::marks::mark_starts` meets its contract: each start has its mark, and is counted by it.
use Rattle.std.proofs.Common.{◌≡◌, ◌∙◌, ◌+◌, ◌-◌, ◌*◌, ◌≤◌, ℕ, suc, Bool, true, false, List, refl, ap₂, arith, length, set, length-take}
use Rattle.abelian.specs.Lists.{one}
use Rattle.abelian.specs.Output.{fill}
use Rattle.abelian.specs.Squares.{is_square, square_starts}
use Rattle.squares.specs.Marks.{start_marks}
use Rattle.squares.proofs.Lists.{fill_part}
use Rattle.squares.proofs.Candidates.{length-start_marks, mark_more, count-more}
use Rattle.squares.proofs.marks.mark_starts.Goals as goal

pub slice_bounds-place-items-end : goal.slice_bounds-place-items-end
slice_bounds-place-items-end c = omega (arith, length-start_marks c.args.word.now c.args.half)

pub slice_bounds-place-items-end-2 : goal.slice_bounds-place-items-end-2
slice_bounds-place-items-end-2 c = omega (arith, length-start_marks c.args.word.now c.args.half, length-take {A = ℕ})

pub loop-i-init : goal.loop-i-init
unfolding fill
loop-i-init c = record { marked = refl; counted = refl; few = omega arith }

-- what is added to the count
mark-small : (b : Bool) → one b ≤ 1
mark-small true = omega arith
mark-small false = omega arith

pub loop-i-preserved : goal.loop-i-preserved
loop-i-preserved c =
    let w = c.args.word.now in
    let half = c.args.half in
    let i = c.loop-i.i in
    record {
      marked = ap₂ (λ (l : List ℕ) (v : ℕ). set l i v) c.loop-i.invariant.marked c.mark-square.ensures ∙ mark_more w half i _ c.loop-i-test.true;
      counted = ap₂ ◌+◌ c.loop-i.invariant.counted c.mark-square.ensures ∙ count-more w half i;
      few = omega (arith, c.mark-square.ensures, mark-small (is_square w half (i + 1)));
    }

pub returns-clause-value : goal.returns-clause-value
unfolding square_starts
returns-clause-value c =
    let e : c.loop-i.i ≡ suc (length c.args.word.now) - 2 * c.args.half = omega (arith, length-start_marks c.args.word.now c.args.half, length-take {A = ℕ}) in
    rw e at c.loop-i.invariant.counted

pub returns-clause-marks_after : goal.returns-clause-marks_after
unfolding start_marks
returns-clause-marks_after c =
    let w = c.args.word.now in
    let half = c.args.half in
    let e : c.loop-i.i ≡ suc (length w) - 2 * half = omega (arith, length-start_marks w half, length-take {A = ℕ}) in
    fill_part (start_marks w half) c.args.marks.now c.loop-i.place-items _ (omega (arith, length-start_marks w half)) (rw e at c.loop-i.invariant.marked)
