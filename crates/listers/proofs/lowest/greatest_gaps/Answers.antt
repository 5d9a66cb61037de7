-- `listers::lowest::greatest_gaps` meets its contract: a letter more brings the distance to its next occurrence.
use Rattle.std.proofs.Common.{◌≡◌, suc, ◌-◌, ap, arith, length}
use Rattle.abelian.specs.Words.{first_letter, longest}
use Rattle.listers.proofs.Gaps.{no_gaps, all_gaps}
use Rattle.listers.proofs.LettersRead.{gap_fits, next_gaps}
use Rattle.listers.proofs.lowest.greatest_gaps.Goals as goal

pub loop-i-init : goal.loop-i-init
unfolding longest
loop-i-init c = rw (ap length c.letters-letters.ensures.value) (no_gaps c.args.word.now)

pub overflow_cast-gaps : goal.overflow_cast-gaps
unfolding first_letter longest
overflow_cast-gaps c =
    let n : c.loop-i.i ≡ suc (c.loop-i.i - 1) = omega arith in
    omega (
      arith,
      gap_fits c.letters-letters.ensures.value c.letters-letters.ensures.counted (c.loop-i.i - 1) (omega arith) c.requires c.row.ensures {gap' = c.max-gap.result} n c.loop-i.invariant (omega arith),
    )

pub loop-i-preserved : goal.loop-i-preserved
unfolding first_letter
loop-i-preserved c =
    next_gaps c.letters-letters.ensures.value c.letters-letters.ensures.counted (c.loop-i.i - 1) (omega arith) c.requires c.row.ensures (omega arith) c.loop-i.invariant (omega arith)

pub returns : goal.returns
returns c = all_gaps c.args.word.now c.loop-i.gaps c.loop-i.gap c.loop-i.i (omega arith) c.loop-i.invariant
