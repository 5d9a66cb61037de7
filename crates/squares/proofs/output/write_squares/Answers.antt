-- `squares::output::write_squares` meets its contract: each half length's words stand behind those of the smaller ones.
use Rattle.std.proofs.Common.{◌≡◌, ◌∙◌, ◌+◌, ◌-◌, ◌*◌, ◌/◌, ◌≤◌, ◌<◌, ℕ, suc, List, ◌++◌, refl, sym, ap, arith, length, map, take, drop, length-append, length-take, length-drop}
use Rattle.std.proofs.lemmas.List.{length-map}
use borrow.Rule.Slice.PartMut.{put_mid}
use Rattle.abelian.specs.Words.{longest}
use Rattle.abelian.specs.Output.{square_word, fill}
use Rattle.abelian.specs.Squares.{square_starts, square_words}
use Rattle.squares.specs.Marks.{marked_starts}
use Rattle.words.proofs.Lists.{fill_lent}
use Rattle.squares.proofs.Candidates.{length-start_marks, length-marks-more, marked-square_starts, fewer_words, half_words, words_below, all_words, words_more, words_fit, marks_fit, candidates_bound}
use Rattle.squares.proofs.output.write_squares.Invariants.{Writing}
use Rattle.squares.proofs.output.write_squares.Goals as goal
use Rattle.squares.proofs.output.write_squares.Goals.{After-of_half-marks}

pub loop-half-init : goal.loop-half-init
unfolding fill
loop-half-init c = record { within = omega arith; reached = refl; few = omega arith; written = refl }

-- what is known once the marks of a half length are at hand
module _ (c : After-of_half-marks) where
  abbrev w : List ℕ
  w = c.args.marked.now.word.now

  abbrev q : ℕ
  q = c.loop-half.half

  fits : 2 * q ≤ length w
  fits = omega arith

  -- they mark its squares
  marked : marked_starts c.of_half-marks.result.now ≡ square_starts w q
  marked = ap marked_starts c.of_half-marks.ensures.value ∙ marked-square_starts w q

  -- the words have places
  places-left : c.loop-half.at + length (square_starts w q) ≤ length c.loop-half.out
  places-left = omega (arith, c.loop-half.invariant.reached, words_fit w q c.loop-half.auto.half fits)

  -- and are few
  small : c.loop-half.at + (suc (length w) - 2 * q) ≤ (longest / 2) * (longest / 2)
  small = omega (arith, c.loop-half.invariant.few, marks_fit w q c.loop-half.auto.half fits, candidates_bound w c.len-half-end.ensures.counted.short)

pub offset_bounds-out-at : goal.offset_bounds-out-at
unfolding longest
offset_bounds-out-at c = omega (arith, small c)

pub slice_bounds-write_starts-count : goal.slice_bounds-write_starts-count
slice_bounds-write_starts-count c = omega (arith, places-left c)

pub slice_bounds-write_starts-start : goal.slice_bounds-write_starts-start
slice_bounds-write_starts-start c = omega (arith, places-left c)

pub write_starts-at-requires : goal.write_starts-at-requires
write_starts-at-requires c =
    let m = (goal.at.write_starts-at-requires c).After-of_half-marks in
    let out = c.loop-half.out in
    let at = c.loop-half.at in
    record {
      half_le_longest = omega (arith, fits m, c.len-half-end.ensures.counted.short);
      marks_len_bound = omega (arith, ap length c.of_half-marks.ensures.value, length-start_marks (w m) (q m), c.loop-half.auto.half, fits m, c.len-half-end.ensures.counted.short);
      marks_in_bounds = omega (arith, ap length (marked m), places-left m, length-take (length out - at) (drop at out), length-drop at out);
    }

-- and once they are written
module _ (c : After-of_half-marks) {count : ℕ} (counted : count ≡ length (marked_starts c.of_half-marks.result.now)) where
  squares_counted : count ≡ length (square_starts (w c) (q c))
  squares_counted = counted ∙ ap length (marked c)

  count_small : c.loop-half.at + count ≤ (longest / 2) * (longest / 2)
  count_small = omega (arith, squares_counted, fewer_words (w c) (q c), length-start_marks (w c) (q c), small c)

  module _ {lent : List ℕ} (written : lent ≡ fill (map (square_word (q c)) (marked_starts c.of_half-marks.result.now)) (take (length c.loop-half.out - c.loop-half.at) (drop c.loop-half.at c.loop-half.out))) where
    written_further : Writing (w c) c.args.out.now (put_mid c.loop-half.at (length c.loop-half.out - c.loop-half.at) c.loop-half.out lent) (c.loop-half.at + count) (q c + 1)
    written_further =
        let word : List ℕ = w c in
        let half : ℕ = q c in
        let before : List ℕ = c.args.out.now in
        let out : List ℕ = c.loop-half.out in
        let at : ℕ = c.loop-half.at in
        let h : Writing word before out at half = c.loop-half.invariant in
        let more : words_below word (half + 1) ≡ words_below word half ++ half_words word half = words_more word half c.loop-half.auto.half (fits c) in
        record {
          within = omega (arith, fits c);
          reached = omega (arith, h.reached, squares_counted, ap length more, length-append (words_below word half) (half_words word half), length-map (square_starts word half) (square_word half));
          few = omega (arith, h.few, squares_counted, fewer_words word half, length-start_marks word half, length-marks-more word half c.loop-half.auto.half (fits c));
          written =
              fill_lent (words_below word half) (half_words word half) before out lent at h.written h.reached
              (written ∙ ap (λ (l : List ℕ). fill (map (square_word half) l) (take (length out - at) (drop at out))) (marked c))
              ∙ ap (λ (l : List ℕ). fill l before) (sym more);
        }

pub overflow_add-at : goal.overflow_add-at
unfolding longest
overflow_add-at c = omega (arith, count_small (goal.at.overflow_add-at c).After-of_half-marks c.write_starts-at.ensures.value)

pub loop-half-preserved : goal.loop-half-preserved
loop-half-preserved c = written_further (goal.at.loop-half-preserved c).After-of_half-marks c.write_starts-at.ensures.value c.write_starts-at.ensures.out_after

-- past the longest half there are no more words
all_written : {w before out : List ℕ} {at q : ℕ} → Writing w before out at q → length w < 2 * q → out ≡ fill (square_words w) before
all_written {w} {before} {out} {at} {q} h past = h.written ∙ ap (λ (l : List ℕ). fill l before) (all_words w q h.within past)

pub returns : goal.returns
returns c = all_written c.loop-half.invariant (omega arith)

pub returns-2 : goal.returns-2
returns-2 c =
    all_written (written_further (goal.at.returns-2 c).After-of_half-marks c.write_starts-at.ensures.value c.write_starts-at.ensures.out_after) (omega arith)
