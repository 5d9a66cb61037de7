-- `full_periods::scaled::mark_scaled` meets its contract: each letter but the last s is one count more, and at the multiples of s the counts are compared.
use Rattle.std.proofs.Common.{◌≡◌, ℕ, ◌+◌, ◌-◌, ◌≤◌, ◌<◌, List, length, take, get_or, refl, sym, ◌∙◌, arith}
use Rattle.abelian.specs.Words.{alphabet_size, first_letter, longest, letters, count, vector}
use Rattle.full_periods.proofs.Tables.{marking_start}
use Rattle.full_periods.proofs.Positions.{is_position}
use Rattle.full_periods.proofs.Scaling.{Given, given, Running, step_small, read_at, read_letter, counts_small, read_more, running_start, running_end, times_small, compared, table_mark, table_pass, at_multiple, between}
use Rattle.full_periods.proofs.scaled.mark_scaled.Goals as goal
use Rattle.full_periods.proofs.scaled.mark_scaled.Goals.{then-i-next, else-i-next, then-is_multiple, else-is_multiple}

pub overflow_sub-letter-items : goal.overflow_sub-letter-items
overflow_sub-letter-items c =
    let g : Given c.args.word.now c.args.s = given c.len-n.ensures.word c.requires.le_s c.requires.s_value in
    omega (arith, step_small g)

pub loop-i-init : goal.loop-i-init
unfolding longest vector letters count
loop-i-init c =
    let g : Given c.args.word.now c.args.s = given c.len-n.ensures.word c.requires.le_s c.requires.s_value in
    running_start g (marking_start (is_position c.args.word.now)) refl

pub overflow_sub-letter : goal.overflow_sub-letter
unfolding first_letter
overflow_sub-letter c =
    let g : Given c.args.word.now c.args.s = given c.len-n.ensures.word c.requires.le_s c.requires.s_value in
    (read_letter g c.loop-i.invariant (omega arith) (read_at g c.loop-i.invariant (omega arith) c.letters-letters.ensures.value c.len-n.ensures.value)).0

pub count_more-more-requires : goal.count_more-more-requires
unfolding first_letter alphabet_size
count_more-more-requires c =
    let g : Given c.args.word.now c.args.s = given c.len-n.ensures.word c.requires.le_s c.requires.s_value in
    let x : ℕ = get_or (take (c.len-n.result - c.args.s - 0) c.letters-letters.result.now) c.loop-i.i 0 in
    let letter : (97 ≤ x) × (x < 97 + 26) = read_letter g c.loop-i.invariant (omega arith) (read_at g c.loop-i.invariant (omega arith) c.letters-letters.ensures.value c.len-n.ensures.value) in
    let place : x - 97 < 26 = omega arith in
    (omega arith, (omega arith, (place, counts_small g c.loop-i.invariant (omega arith))))

pub bounds-marks-next : goal.bounds-marks-next
unfolding longest
bounds-marks-next c = omega (arith, c.len-n.ensures.word.short)

pub overflow_add-times : goal.overflow_add-times
unfolding longest
overflow_add-times c =
    let g : Given c.args.word.now c.args.s = given c.len-n.ensures.word c.requires.le_s c.requires.s_value in
    omega (arith, times_small g c.loop-i.invariant (omega arith) c.if-i-next.true, c.len-n.ensures.word.short)

pub loop-i-preserved : goal.loop-i-preserved
unfolding first_letter
loop-i-preserved c =
    let w : List ℕ = c.args.word.now in
    let g : Given c.args.word.now c.args.s = given c.len-n.ensures.word c.requires.le_s c.requires.s_value in
    let i : Running w c.args.s c.loop-i.marks c.loop-i.counts c.loop-i.times c.loop-i.next c.loop-i.i = c.loop-i.invariant in
    let l : c.loop-i.i < length w - c.args.s = omega arith in
    let r : c.count_more-more.result ≡ vector (take (c.loop-i.i + 1) w) = read_more g i l (read_at g i l c.letters-letters.ensures.value c.len-n.ensures.value) c.count_more-more.ensures in
    elim c.if-i-next.branch [
      | then-i-next x ↦ rw (x.marks-is, x.times-is, x.next-is) (at_multiple g i l r x.if-i-next.true
          (let e = compared g i l _ _ r c.requires.unit_value x.if-i-next.true in
          elim x.if-is_multiple.branch [
            | then-is_multiple v ↦ rw (v.marks-is, ← x.if-i-next.true) (table_mark g i l (sym e ∙ sym x.is_multiple.ensures ∙ v.if-is_multiple.true))
            | else-is_multiple v ↦ rw v.marks-is (table_pass g i l (sym e ∙ sym x.is_multiple.ensures ∙ v.if-is_multiple.false))
          ]))
      | else-i-next x ↦ rw (x.marks-is, x.times-is, x.next-is) (between g i l r x.if-i-next.false)
    ]

pub bounds-marks-n : goal.bounds-marks-n
unfolding longest
bounds-marks-n c = omega (arith, c.len-n.ensures.word.short)

pub returns : goal.returns
returns c =
    let g : Given c.args.word.now c.args.s = given c.len-n.ensures.word c.requires.le_s c.requires.s_value in
    let e : c.len-n.result ≡ length c.args.word.now = c.len-n.ensures.value in
    rw e (running_end g c.loop-i.invariant (omega arith) (omega (arith, step_small g)))
