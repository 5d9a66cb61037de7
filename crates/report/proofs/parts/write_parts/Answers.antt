-- `report::parts::write_parts` meets its contract: behind each part the next list call finds places enough and is accepted, and its answer gives the place
-- behind its words.
use Rattle.std.proofs.Common.{arith}
use lib.ListN.{length-append}
use Rattle.abelian.specs.Words.{longest}
use Rattle.abelian.specs.Trackers.{board_size}
use Rattle.abelian.specs.Calls.{full_words, period_words}
use Rattle.report.specs.Places.{report_places}
use Rattle.report.proofs.Lengths.{parts_length}
use Rattle.report.proofs.PartByPart.{few, first, full_ok, second, periods_ok, third, squares_ok, fourth}
use Rattle.report.proofs.parts.write_parts.Goals as goal

pub bounds-out-0 : goal.bounds-out-0
bounds-out-0 c =
    omega (arith, c.requires, parts_length c.args.word.now)

pub slice_bounds-list_full_scaled-count : goal.slice_bounds-list_full_scaled-count
slice_bounds-list_full_scaled-count c =
    let headed = first c.args.word.now c.args.out.now c.letters-letters.ensures.word c.requires c.head_word.ensures in
    omega (arith, headed.size, c.requires, parts_length c.args.word.now)

pub slice_bounds-list_full_scaled-start : goal.slice_bounds-list_full_scaled-start
slice_bounds-list_full_scaled-start c =
    let headed = first c.args.word.now c.args.out.now c.letters-letters.ensures.word c.requires c.head_word.ensures in
    omega (arith, headed.size, c.requires, parts_length c.args.word.now)

pub unwrap-full-requires : goal.unwrap-full-requires
unwrap-full-requires c =
    let headed = first c.args.word.now c.args.out.now c.letters-letters.ensures.word c.requires c.head_word.ensures in
    full_ok c.args.word.now c.args.out.now c.letters-letters.ensures.word c.requires c.list_full_scaled.new.out headed c.letters-letters.ensures.value c.list_full_scaled.result c.list_full_scaled.ensures

pub overflow_add-periods_at : goal.overflow_add-periods_at
unfolding report_places longest board_size
overflow_add-periods_at c =
    let headed = first c.args.word.now c.args.out.now c.letters-letters.ensures.word c.requires c.head_word.ensures in
    let filled = second c.args.word.now c.args.out.now c.letters-letters.ensures.word c.requires c.list_full_scaled.new.out headed c.letters-letters.ensures.value c.list_full_scaled.result c.list_full_scaled.ensures c.unwrap-full.ensures in
    omega (arith, filled.reached, parts_length c.args.word.now, few c.args.word.now c.args.out.now c.letters-letters.ensures.word c.requires)

pub offset_bounds-out-periods_at : goal.offset_bounds-out-periods_at
unfolding report_places longest board_size
offset_bounds-out-periods_at c =
    let headed = first c.args.word.now c.args.out.now c.letters-letters.ensures.word c.requires c.head_word.ensures in
    let filled = second c.args.word.now c.args.out.now c.letters-letters.ensures.word c.requires c.list_full_scaled.new.out headed c.letters-letters.ensures.value c.list_full_scaled.result c.list_full_scaled.ensures c.unwrap-full.ensures in
    omega (arith, filled.reached, parts_length c.args.word.now, few c.args.word.now c.args.out.now c.letters-letters.ensures.word c.requires)

pub slice_bounds-list_skipping-count : goal.slice_bounds-list_skipping-count
slice_bounds-list_skipping-count c =
    let headed = first c.args.word.now c.args.out.now c.letters-letters.ensures.word c.requires c.head_word.ensures in
    let filled = second c.args.word.now c.args.out.now c.letters-letters.ensures.word c.requires c.list_full_scaled.new.out headed c.letters-letters.ensures.value c.list_full_scaled.result c.list_full_scaled.ensures c.unwrap-full.ensures in
    omega (arith, filled.reached, filled.size, c.requires, parts_length c.args.word.now)

pub slice_bounds-list_skipping-start : goal.slice_bounds-list_skipping-start
slice_bounds-list_skipping-start c =
    let headed = first c.args.word.now c.args.out.now c.letters-letters.ensures.word c.requires c.head_word.ensures in
    let filled = second c.args.word.now c.args.out.now c.letters-letters.ensures.word c.requires c.list_full_scaled.new.out headed c.letters-letters.ensures.value c.list_full_scaled.result c.list_full_scaled.ensures c.unwrap-full.ensures in
    omega (arith, filled.reached, filled.size, c.requires, parts_length c.args.word.now)

pub unwrap-periods-requires : goal.unwrap-periods-requires
unwrap-periods-requires c =
    let headed = first c.args.word.now c.args.out.now c.letters-letters.ensures.word c.requires c.head_word.ensures in
    let filled = second c.args.word.now c.args.out.now c.letters-letters.ensures.word c.requires c.list_full_scaled.new.out headed c.letters-letters.ensures.value c.list_full_scaled.result c.list_full_scaled.ensures c.unwrap-full.ensures in
    periods_ok c.args.word.now c.args.out.now c.letters-letters.ensures.word c.requires c.list_skipping.new.out filled c.letters-letters.ensures.value c.list_skipping.result c.list_skipping.ensures

pub overflow_add-squares_at : goal.overflow_add-squares_at
unfolding report_places longest board_size
overflow_add-squares_at c =
    let headed = first c.args.word.now c.args.out.now c.letters-letters.ensures.word c.requires c.head_word.ensures in
    let filled = second c.args.word.now c.args.out.now c.letters-letters.ensures.word c.requires c.list_full_scaled.new.out headed c.letters-letters.ensures.value c.list_full_scaled.result c.list_full_scaled.ensures c.unwrap-full.ensures in
    let listed = third c.args.word.now c.args.out.now c.letters-letters.ensures.word c.requires c.list_skipping.new.out filled c.letters-letters.ensures.value c.list_skipping.result c.list_skipping.ensures c.unwrap-periods.ensures in
    omega (arith, listed.reached, length-append (full_words c.args.word.now) (period_words c.args.word.now), parts_length c.args.word.now, few c.args.word.now c.args.out.now c.letters-letters.ensures.word c.requires)

pub offset_bounds-out-squares_at : goal.offset_bounds-out-squares_at
unfolding report_places longest board_size
offset_bounds-out-squares_at c =
    let headed = first c.args.word.now c.args.out.now c.letters-letters.ensures.word c.requires c.head_word.ensures in
    let filled = second c.args.word.now c.args.out.now c.letters-letters.ensures.word c.requires c.list_full_scaled.new.out headed c.letters-letters.ensures.value c.list_full_scaled.result c.list_full_scaled.ensures c.unwrap-full.ensures in
    let listed = third c.args.word.now c.args.out.now c.letters-letters.ensures.word c.requires c.list_skipping.new.out filled c.letters-letters.ensures.value c.list_skipping.result c.list_skipping.ensures c.unwrap-periods.ensures in
    omega (arith, listed.reached, length-append (full_words c.args.word.now) (period_words c.args.word.now), parts_length c.args.word.now, few c.args.word.now c.args.out.now c.letters-letters.ensures.word c.requires)

pub slice_bounds-list_squares-count : goal.slice_bounds-list_squares-count
slice_bounds-list_squares-count c =
    let headed = first c.args.word.now c.args.out.now c.letters-letters.ensures.word c.requires c.head_word.ensures in
    let filled = second c.args.word.now c.args.out.now c.letters-letters.ensures.word c.requires c.list_full_scaled.new.out headed c.letters-letters.ensures.value c.list_full_scaled.result c.list_full_scaled.ensures c.unwrap-full.ensures in
    let listed = third c.args.word.now c.args.out.now c.letters-letters.ensures.word c.requires c.list_skipping.new.out filled c.letters-letters.ensures.value c.list_skipping.result c.list_skipping.ensures c.unwrap-periods.ensures in
    omega (arith, listed.reached, listed.size, length-append (full_words c.args.word.now) (period_words c.args.word.now), c.requires, parts_length c.args.word.now)

pub slice_bounds-list_squares-start : goal.slice_bounds-list_squares-start
slice_bounds-list_squares-start c =
    let headed = first c.args.word.now c.args.out.now c.letters-letters.ensures.word c.requires c.head_word.ensures in
    let filled = second c.args.word.now c.args.out.now c.letters-letters.ensures.word c.requires c.list_full_scaled.new.out headed c.letters-letters.ensures.value c.list_full_scaled.result c.list_full_scaled.ensures c.unwrap-full.ensures in
    let listed = third c.args.word.now c.args.out.now c.letters-letters.ensures.word c.requires c.list_skipping.new.out filled c.letters-letters.ensures.value c.list_skipping.result c.list_skipping.ensures c.unwrap-periods.ensures in
    omega (arith, listed.reached, listed.size, length-append (full_words c.args.word.now) (period_words c.args.word.now), c.requires, parts_length c.args.word.now)

pub unwrap-squares-requires : goal.unwrap-squares-requires
unwrap-squares-requires c =
    let headed = first c.args.word.now c.args.out.now c.letters-letters.ensures.word c.requires c.head_word.ensures in
    let filled = second c.args.word.now c.args.out.now c.letters-letters.ensures.word c.requires c.list_full_scaled.new.out headed c.letters-letters.ensures.value c.list_full_scaled.result c.list_full_scaled.ensures c.unwrap-full.ensures in
    let listed = third c.args.word.now c.args.out.now c.letters-letters.ensures.word c.requires c.list_skipping.new.out filled c.letters-letters.ensures.value c.list_skipping.result c.list_skipping.ensures c.unwrap-periods.ensures in
    squares_ok c.args.word.now c.args.out.now c.letters-letters.ensures.word c.requires c.list_squares.new.out listed c.letters-letters.ensures.value c.list_squares.result c.list_squares.ensures

pub overflow_add-result : goal.overflow_add-result
unfolding report_places longest board_size
overflow_add-result c =
    let headed = first c.args.word.now c.args.out.now c.letters-letters.ensures.word c.requires c.head_word.ensures in
    let filled = second c.args.word.now c.args.out.now c.letters-letters.ensures.word c.requires c.list_full_scaled.new.out headed c.letters-letters.ensures.value c.list_full_scaled.result c.list_full_scaled.ensures c.unwrap-full.ensures in
    let listed = third c.args.word.now c.args.out.now c.letters-letters.ensures.word c.requires c.list_skipping.new.out filled c.letters-letters.ensures.value c.list_skipping.result c.list_skipping.ensures c.unwrap-periods.ensures in
    let all = fourth c.args.word.now c.args.out.now c.letters-letters.ensures.word c.requires c.list_squares.new.out listed c.letters-letters.ensures.value c.list_squares.result c.list_squares.ensures c.unwrap-squares.ensures in
    omega (arith, all.reached, few c.args.word.now c.args.out.now c.letters-letters.ensures.word c.requires)

pub returns-clause-value : goal.returns-clause-value
returns-clause-value c =
    let headed = first c.args.word.now c.args.out.now c.letters-letters.ensures.word c.requires c.head_word.ensures in
    let filled = second c.args.word.now c.args.out.now c.letters-letters.ensures.word c.requires c.list_full_scaled.new.out headed c.letters-letters.ensures.value c.list_full_scaled.result c.list_full_scaled.ensures c.unwrap-full.ensures in
    let listed = third c.args.word.now c.args.out.now c.letters-letters.ensures.word c.requires c.list_skipping.new.out filled c.letters-letters.ensures.value c.list_skipping.result c.list_skipping.ensures c.unwrap-periods.ensures in
    let all = fourth c.args.word.now c.args.out.now c.letters-letters.ensures.word c.requires c.list_squares.new.out listed c.letters-letters.ensures.value c.list_squares.result c.list_squares.ensures c.unwrap-squares.ensures in
    all.reached

pub returns-clause-out_after : goal.returns-clause-out_after
returns-clause-out_after c =
    let headed = first c.args.word.now c.args.out.now c.letters-letters.ensures.word c.requires c.head_word.ensures in
    let filled = second c.args.word.now c.args.out.now c.letters-letters.ensures.word c.requires c.list_full_scaled.new.out headed c.letters-letters.ensures.value c.list_full_scaled.result c.list_full_scaled.ensures c.unwrap-full.ensures in
    let listed = third c.args.word.now c.args.out.now c.letters-letters.ensures.word c.requires c.list_skipping.new.out filled c.letters-letters.ensures.value c.list_skipping.result c.list_skipping.ensures c.unwrap-periods.ensures in
    let all = fourth c.args.word.now c.args.out.now c.letters-letters.ensures.word c.requires c.list_squares.new.out listed c.letters-letters.ensures.value c.list_squares.result c.list_squares.ensures c.unwrap-squares.ensures in
    all.written
