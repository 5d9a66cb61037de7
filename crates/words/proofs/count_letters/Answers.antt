-- `words::count_letters` meets its contract: each letter raises the count at its place.
use Rattle.std.proofs.Common.{◌-◌, refl, ap, ◌∙◌, arith, get_or}
use lib.Seq.{take_all}
use Rattle.abelian.specs.Words.{alphabet_size, first_letter, longest, letters, count, vector}
use Rattle.words.specs.Prefixes.{IsWord}
use Rattle.words.proofs.Vectors.{letter_at, vector-take-more, entry_le}
use Rattle.words.proofs.count_letters.Goals as goal

pub loop-letter-init : goal.loop-letter-init
unfolding vector letters count
loop-letter-init c = refl

pub overflow_sub-place : goal.overflow_sub-place
unfolding first_letter
overflow_sub-place c =
    let word : IsWord c.letters-letters.result.now = rw c.letters-letters.ensures.value c.letters-letters.ensures.word in
    omega (arith, letter_at c.letters-letters.result.now c.loop-letter.letter-index word.all c.loop-letter-test.true)

pub bounds-counts-place : goal.bounds-counts-place
unfolding first_letter alphabet_size
bounds-counts-place c =
    let word : IsWord c.letters-letters.result.now = rw c.letters-letters.ensures.value c.letters-letters.ensures.word in
    omega (arith, letter_at c.letters-letters.result.now c.loop-letter.letter-index word.all c.loop-letter-test.true)

pub overflow_add-counts : goal.overflow_add-counts
unfolding first_letter alphabet_size longest
overflow_add-counts c =
    let letters = c.letters-letters.result.now in
    let i = c.loop-letter.letter-index in
    let word : IsWord letters = rw c.letters-letters.ensures.value c.letters-letters.ensures.word in
    rw c.loop-letter.invariant
    (omega (arith, word.short, c.loop-letter-test.true, entry_le letters i (get_or letters i 0 - first_letter) (omega (arith, letter_at letters i word.all c.loop-letter-test.true))))

pub bounds-counts-place-in-loop-letter : goal.bounds-counts-place-in-loop-letter
unfolding first_letter alphabet_size
bounds-counts-place-in-loop-letter c =
    let word : IsWord c.letters-letters.result.now = rw c.letters-letters.ensures.value c.letters-letters.ensures.word in
    omega (arith, letter_at c.letters-letters.result.now c.loop-letter.letter-index word.all c.loop-letter-test.true)

pub loop-letter-preserved : goal.loop-letter-preserved
unfolding first_letter
loop-letter-preserved c =
    let letters = c.letters-letters.result.now in
    let word : IsWord letters = rw c.letters-letters.ensures.value c.letters-letters.ensures.word in
    rw c.loop-letter.invariant (vector-take-more letters c.loop-letter.letter-index word.all c.loop-letter-test.true)

pub returns : goal.returns
returns c = c.loop-letter.invariant ∙ ap vector (take_all _ _ (omega arith) ∙ c.letters-letters.ensures.value)
