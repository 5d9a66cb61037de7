-- `patterns::search::search` meets its contract: the laws of `Tried`, letter by letter.
use Rattle.std.proofs.Common.{◌≡◌, ℕ, ◌+◌, ◌-◌, length, drop, set, refl, ap, ◌∙◌, arith}
use Rattle.abelian.specs.Output.{pattern_word}
use Rattle.abelian.specs.Patterns.{largest_alphabet}
use Rattle.patterns.specs.Search.{found, stored}
use Rattle.patterns.proofs.Steps.{number_small, place_small, longer_small, weight_small, totals_from}
use Rattle.patterns.proofs.Tried.{none_tried, total_fits, stored-totals, numbered_next, square_passed, letter_found, all_found}
use Rattle.patterns.proofs.search.+search.Goals as goal
use Rattle.patterns.proofs.search.+search.Goals.{then-not-ends_square, else-not-ends_square}

pub overflow_add-word : goal.overflow_add-word
overflow_add-word t c = record { fits = omega (arith, number_small c.requires.numbered) }

pub overflow_add-result : goal.overflow_add-result
overflow_add-result t c = record { fits = omega (arith, place_small c.requires.numbered) }

pub returns-then-last-eq0 : goal.returns-then-last-eq0
unfolding found stored pattern_word
returns-then-last-eq0 t c =
    let none_left : c.args.left.0 ≡ 0 = omega arith in
    rw none_left (record { value = refl; totals_unchanged = refl; out_after = c.store_word.ensures ∙ ap (λ (kind : ℕ). set c.args.out.now c.args.at (kind + c.args.number)) c.word.ensures })

pub overflow_cast-base : goal.overflow_cast-base
unfolding largest_alphabet
overflow_cast-base t c = record { fits = omega (arith, c.requires.alphabet_le_largest_alphabet) }

pub overflow_mul-longer : goal.overflow_mul-longer
overflow_mul-longer t c = record { fits = omega (arith, number_small c.requires.numbered, longer_small c.requires.numbered {k = c.args.alphabet.0} {c = 0} c.requires.alphabet_le_largest_alphabet (omega arith)) }

pub loop-c-init : goal.loop-c-init
loop-c-init t c = none_tried _ _ _ _ _ _ _ (omega arith)

pub overflow_add-totals : goal.overflow_add-totals
overflow_add-totals t c = record { fits = total_fits _ _ _ _ _ _ _ c.requires.alphabet_le_largest_alphabet c.requires.totals c.requires.numbered c.loop-c.invariant (omega arith) }

pub overflow_mul-weight : goal.overflow_mul-weight
overflow_mul-weight t c = record { fits = omega (arith, c.loop-c.invariant.weighs, weight_small c.loop-c.c (omega (arith, c.requires.alphabet_le_largest_alphabet))) }

pub ends_square-requires : goal.ends_square-requires
ends_square-requires t c =
    totals_from _ _ (stored-totals _ _ _ _ _ _ _ c.requires.alphabet_le_largest_alphabet c.requires.totals c.requires.numbered c.loop-c.invariant (omega arith))

pub overflow_cast-extended : goal.overflow_cast-extended
unfolding largest_alphabet
overflow_cast-extended t c = record { fits = omega (arith, c.requires.alphabet_le_largest_alphabet) }

pub overflow_add-extended : goal.overflow_add-extended
unfolding largest_alphabet
overflow_add-extended t c =
    record {
      fits = omega (arith, number_small c.requires.numbered, longer_small c.requires.numbered {k = c.args.alphabet.0} {c = c.loop-c.c} c.requires.alphabet_le_largest_alphabet (omega arith));
    }

pub search-to-requires : goal.search-to-requires
search-to-requires t c =
    let few = c.requires.alphabet_le_largest_alphabet in (
      omega (arith, c.decreases),
      (
        few,
        (
          stored-totals _ _ _ _ _ _ _ few c.requires.totals c.requires.numbered c.loop-c.invariant (omega arith),
          numbered_next _ _ _ _ _ _ _ few c.requires.totals c.requires.numbered c.loop-c.invariant (omega arith),
        ),
      ),
    )

pub loop-c-preserved : goal.loop-c-preserved
loop-c-preserved t c =
    let tested = c.ends_square.ensures in
    elim c.if-not-ends_square.branch [
      | then-not-ends_square w ↦
          let call = w.search-to in
          letter_found _ _ _ _ _ _ _ c.requires.alphabet_le_largest_alphabet c.requires.totals c.requires.numbered c.loop-c.invariant (omega arith) tested w.if-not-ends_square.true
          (ap length w.totals-is ∙ call.auto.totals) (w.to-is ∙ call.ensures.value) (ap (drop (c.args.left.0 - 1)) w.totals-is ∙ call.ensures.totals_unchanged) (w.out-is ∙ call.ensures.out_after)
      | else-not-ends_square w ↦
          square_passed _ _ _ _ _ _ _ c.requires.alphabet_le_largest_alphabet c.requires.totals c.requires.numbered c.loop-c.invariant (omega arith) tested w.if-not-ends_square.false
          w.totals-is w.out-is w.to-is
    ]

pub returns : goal.returns
returns t c =
    let all = all_found _ _ _ _ _ _ _ c.loop-c.invariant (omega arith) in
    record { value = all.0; totals_unchanged = all.1.0; out_after = all.1.1 }
