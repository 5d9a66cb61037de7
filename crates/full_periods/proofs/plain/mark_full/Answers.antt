-- `full_periods::plain::mark_full` meets its contract: each number up to n / 2 is tried, and none behind it is a full period.
use Rattle.std.proofs.Common.{ℕ, ◌%◌, List, length, sym, ap, ◌∙◌, arith}
use Rattle.std.proofs.Math.Nat.{dvd_of_mod-eq-zero}
use Rattle.abelian.specs.Words.{longest}
use Rattle.abelian.specs.FullPeriods.{is_full}
use Rattle.full_periods.specs.Marks.{full_marks}
use Rattle.full_periods.proofs.Divisors.{dvd_proper}
use Rattle.full_periods.proofs.Blocks.{zero_not_full, indivisible_not_full, above_half_not_full}
use Rattle.full_periods.proofs.Tables.{marking_start, marking_mark, marking_pass, marking_skip, marking_end}
use Rattle.full_periods.proofs.plain.mark_full.Goals as goal
use Rattle.full_periods.proofs.plain.mark_full.Goals.{then-n-p-eq0+then-blocks_alike, else-n-p-eq0, else-n-p-eq0-via-then-n-p-eq0+else-blocks_alike, else-n-p-eq0-via-else-n-p-eq0}

pub loop-p-init : goal.loop-p-init
unfolding longest
loop-p-init c = marking_pass (is_full c.args.word.now) _ 0 (marking_start (is_full c.args.word.now)) 1 (omega arith) (λ k a b. zero_not_full c.args.word.now k (omega arith))

pub blocks_alike-requires : goal.blocks_alike-requires
blocks_alike-requires c =
    dvd_proper c.loop-p.p (length c.args.word.now) (dvd_of_mod-eq-zero c.loop-p.p (ap (λ (n : ℕ). n % c.loop-p.p) (sym c.len-n.ensures.value) ∙ c.if-n-p-eq0.true)) (omega (arith))

pub bounds-marks-p : goal.bounds-marks-p
unfolding longest
bounds-marks-p c = omega (arith, c.len-n.ensures.word.short)

pub loop-p-preserved : goal.loop-p-preserved
loop-p-preserved c =
    let w : List ℕ = c.args.word.now in
    let p : ℕ = c.loop-p.p in
    elim c.if-n-p-eq0.branch [
      | then-n-p-eq0+then-blocks_alike x ↦ rw x.marks-is
          (marking_mark (is_full w) c.loop-p.marks p c.loop-p.invariant (omega (arith, c.len-n.ensures.word.short)) (sym x.blocks_alike.ensures ∙ x.if-blocks_alike.true))
      | else-n-p-eq0 x ↦ rw x.marks-is (marking_skip (is_full w) c.loop-p.marks p c.loop-p.invariant
          (elim x.else-n-p-eq0.branch [
            | else-n-p-eq0-via-then-n-p-eq0+else-blocks_alike v ↦ sym v.blocks_alike.ensures ∙ v.if-blocks_alike.false
            | else-n-p-eq0-via-else-n-p-eq0 v ↦ indivisible_not_full w p (rw c.len-n.ensures.value at v.if-n-p-eq0.false)
          ]))
    ]

pub returns : goal.returns
unfolding full_marks
returns c = marking_end (is_full c.args.word.now) c.loop-p.marks c.loop-p.p c.loop-p.invariant (λ k h. above_half_not_full c.args.word.now k (omega (arith)))
