-- `full_periods::scaled::mark_full` meets its contract: the multiples of s from s times T to n / 2 are tried, and no other number is a full period.
use Rattle.std.proofs.Common.{◌≡◌, ℕ, ◌+◌, ◌≤◌, List, length, ◌∙◌, arith}
use Rattle.abelian.specs.Words.{longest}
use Rattle.abelian.specs.FullPeriods.{is_full}
use Rattle.full_periods.proofs.Tables.{marking_start}
use Rattle.full_periods.proofs.Blocks.{indivisible_not_full}
use Rattle.full_periods.proofs.Scaling.{Given, given, Marked, first_within, marked_start, marked_more, marked_same, marked_end, tried}
use Rattle.full_periods.proofs.scaled.mark_full.Goals as goal
use Rattle.full_periods.proofs.scaled.mark_full.Goals.{then-n-p-eq0+then-marks_multiples, else-n-p-eq0, else-n-p-eq0-via-then-n-p-eq0+else-marks_multiples, else-n-p-eq0-via-else-n-p-eq0}

pub overflow_mul-lowest : goal.overflow_mul-lowest
unfolding longest
overflow_mul-lowest c =
    let g : Given c.args.word.now c.args.positions.now.step = given c.len-n.ensures.word c.requires.le_s c.requires.s_value in
    omega (arith, first_within g c.requires.t_value, g.word.short)

pub loop-p-init : goal.loop-p-init
unfolding longest
loop-p-init c =
    let g : Given c.args.word.now c.args.positions.now.step = given c.len-n.ensures.word c.requires.le_s c.requires.s_value in
    marked_start g c.requires.t_value (marking_start (is_full c.args.word.now))

pub bounds-marks-p : goal.bounds-marks-p
unfolding longest
bounds-marks-p c = omega (arith, c.len-n.ensures.word.short)

pub loop-p-preserved : goal.loop-p-preserved
loop-p-preserved c =
    let w : List ℕ = c.args.word.now in
    let n : c.len-n.result ≡ length w = c.len-n.ensures.value in
    let g : Given w c.args.positions.now.step = given c.len-n.ensures.word c.requires.le_s c.requires.s_value in
    let i : Marked w c.args.positions.now.step c.loop-p.marks c.loop-p.p = c.loop-p.invariant in
    let l : c.loop-p.p + c.loop-p.p ≤ length w = omega arith in
    elim c.if-n-p-eq0.branch [
      | then-n-p-eq0+then-marks_multiples x ↦ rw x.marks-is (marked_more g i (omega arith) (tried g i n c.requires.n_value c.requires.positions_value l x.if-n-p-eq0.true x.marks_multiples.ensures ∙ x.if-marks_multiples.true))
      | else-n-p-eq0 x ↦ rw x.marks-is (marked_same g i
          (elim x.else-n-p-eq0.branch [
            | else-n-p-eq0-via-then-n-p-eq0+else-marks_multiples v ↦ tried g i n c.requires.n_value c.requires.positions_value l v.if-n-p-eq0.true v.marks_multiples.ensures ∙ v.if-marks_multiples.false
            | else-n-p-eq0-via-else-n-p-eq0 v ↦ indivisible_not_full w c.loop-p.p (rw n at v.if-n-p-eq0.false)
          ]))
    ]

pub returns : goal.returns
returns c =
    let g : Given c.args.word.now c.args.positions.now.step = given c.len-n.ensures.word c.requires.le_s c.requires.s_value in
    marked_end g c.loop-p.invariant (omega arith)

pub returns-after-n-p-eq0 : goal.returns-after-n-p-eq0
returns-after-n-p-eq0 c =
    let w : List ℕ = c.args.word.now in
    let n : c.len-n.result ≡ length w = c.len-n.ensures.value in
    let g : Given w c.args.positions.now.step = given c.len-n.ensures.word c.requires.le_s c.requires.s_value in
    let i : Marked w c.args.positions.now.step c.loop-p.marks c.loop-p.p = c.loop-p.invariant in
    let l : c.loop-p.p + c.loop-p.p ≤ length w = omega arith in
    elim c.if-n-p-eq0.branch [
      | then-n-p-eq0+then-marks_multiples x ↦ rw x.marks-is (marked_end g (marked_more g i (omega arith) (tried g i n c.requires.n_value c.requires.positions_value l x.if-n-p-eq0.true x.marks_multiples.ensures ∙ x.if-marks_multiples.true)) (omega arith))
      | else-n-p-eq0 x ↦ rw x.marks-is (marked_end g (marked_same g i
          (elim x.else-n-p-eq0.branch [
            | else-n-p-eq0-via-then-n-p-eq0+else-marks_multiples v ↦ tried g i n c.requires.n_value c.requires.positions_value l v.if-n-p-eq0.true v.marks_multiples.ensures ∙ v.if-marks_multiples.false
            | else-n-p-eq0-via-else-n-p-eq0 v ↦ indivisible_not_full w c.loop-p.p (rw n at v.if-n-p-eq0.false)
          ])) (omega arith))
    ]
