-- `words::count_prefixes` meets its contract: each row is the one before it with the next letter counted, or behind the word's end the same.
use Rattle.std.proofs.Common.{◌≡◌, ◌+◌, refl, ap, ◌∙◌, arith}
use Rattle.abelian.specs.Words.{alphabet_size, first_letter, longest, letters, count, vector}
use Rattle.words.specs.Prefixes.{IsWord, width, padded, prefix_counts}
use Rattle.words.proofs.Vectors.{letter_at}
use Rattle.words.proofs.Prefixes.{prefix_row, prefix_row_le, prefix_row_more, prefix_row_all}
use Rattle.words.proofs.Filled.{filled_none, filled_more, filled_all}
use Rattle.words.proofs.count_prefixes.Goals as goal
use Rattle.words.proofs.count_prefixes.Goals.{then-i-letters, else-i-letters}

pub loop-i-init : goal.loop-i-init
unfolding longest vector letters count alphabet_size width padded
loop-i-init c = filled_none c.letters-letters.result.now c.args.table.now c.told-table refl

pub overflow_sub-letters : goal.overflow_sub-letters
unfolding first_letter
overflow_sub-letters c =
    let word : IsWord c.letters-letters.result.now = rw c.letters-letters.ensures.value c.letters-letters.ensures.word in
    omega (arith, letter_at c.letters-letters.result.now c.loop-i.i word.all c.if-i-letters.true)

pub count_more-more-requires : goal.count_more-more-requires
unfolding first_letter alphabet_size width longest
count_more-more-requires c =
    let letters = c.letters-letters.result.now in
    let i = c.loop-i.i in
    let word : IsWord letters = rw c.letters-letters.ensures.value c.letters-letters.ensures.word in
    (omega arith, (omega arith, (omega (arith, letter_at letters i word.all c.if-i-letters.true), λ j b. rw c.loop-i.invariant.running (omega (arith, prefix_row_le letters i j, c.if-i-letters.true, word.short)))))

pub loop-i-preserved : goal.loop-i-preserved
unfolding longest first_letter
loop-i-preserved c =
    let letters = c.letters-letters.result.now in
    let i = c.loop-i.i in
    let word : IsWord letters = rw c.letters-letters.ensures.value c.letters-letters.ensures.word in
    let next : c.if-i-letters.row ≡ prefix_row letters (i + 1) =
    elim c.if-i-letters.branch [
      | then-i-letters w ↦ w.row-is ∙ w.count_more-more.ensures ∙ rw c.loop-i.invariant.running (prefix_row_more letters i word.all w.if-i-letters.true)
      | else-i-letters w ↦ w.row-is ∙ c.loop-i.invariant.running ∙ prefix_row_all letters i w.if-i-letters.false
    ] in
    filled_more letters c.loop-i.table c.loop-i.invariant (omega (arith, word.short)) next

pub returns : goal.returns
unfolding longest
returns c = filled_all c.letters-letters.result.now c.loop-i.table c.loop-i.invariant (omega arith) ∙ ap prefix_counts c.letters-letters.ensures.value
