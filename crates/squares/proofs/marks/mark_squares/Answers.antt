-- `squares::marks::mark_squares` meets its contract: each half length has its marks behind those of the smaller ones.
use Rattle.std.proofs.Common.{◌≡◌, ◌∙◌, ◌+◌, ◌-◌, ◌*◌, ◌≤◌, ◌<◌, ℕ, suc, List, ◌++◌, refl, sym, ap, arith, length, drop, length-append, length-take, length-drop}
use Rattle.std.proofs.lemmas.List.{length-map}
use borrow.Rule.Slice.PartMut.{put_mid}
use Rattle.abelian.specs.Output.{square_word, fill}
use Rattle.abelian.specs.Squares.{square_starts, square_words}
use Rattle.squares.specs.Marks.{start_marks, square_marks}
use Rattle.words.proofs.Lists.{fill_lent}
use Rattle.squares.proofs.Candidates.{length-start_marks, fewer_words, marks_below, half_words, words_below, all-marks, all_words, marks-more, words_more, marks_fit}
use Rattle.squares.proofs.marks.mark_squares.Invariants.{Marking}
use Rattle.squares.proofs.marks.mark_squares.Goals as goal
use Rattle.squares.proofs.marks.mark_squares.Goals.{In-loop-half, After-len}

pub loop-half-init : goal.loop-half-init
unfolding fill
loop-half-init c = record { within = omega arith; reached = refl; marked = refl; counted = refl; few = omega arith }

-- the candidates of the half length that is tried have places left
room : (c : In-loop-half) → c.loop-half.at + (suc (length c.copied-word.result) - 2 * c.loop-half.half) ≤ length c.loop-half.marks
room c = omega (arith, ap (λ (v : List ℕ). length (square_marks v)) c.copied-word.ensures, marks_fit c.copied-word.result c.loop-half.half c.loop-half.auto.half (omega arith))

pub slice_bounds-mark_starts-count : goal.slice_bounds-mark_starts-count
slice_bounds-mark_starts-count c = omega (arith, room (goal.at.slice_bounds-mark_starts-count c).In-loop-half)

pub slice_bounds-mark_starts-start : goal.slice_bounds-mark_starts-start
slice_bounds-mark_starts-start c = omega (arith, room (goal.at.slice_bounds-mark_starts-start c).In-loop-half)

pub mark_starts-found-requires-clause-half_in_bounds_2 : goal.mark_starts-found-requires-clause-half_in_bounds_2
mark_starts-found-requires-clause-half_in_bounds_2 c =
    let marks = c.loop-half.marks in
    let at = c.loop-half.at in
    let left : at + (suc (length c.copied-word.result) - 2 * c.loop-half.half) ≤ length marks = room (goal.at.mark_starts-found-requires-clause-half_in_bounds_2 c).In-loop-half in
    omega (arith, length-start_marks c.copied-word.result c.loop-half.half, length-take (length marks - at) (drop at marks), length-drop at marks)

-- what is known once a half length is marked
module _ (c : After-len) where
  abbrev w : List ℕ
  w = c.copied-word.result

  abbrev q : ℕ
  q = c.loop-half.half

  left : c.loop-half.at + (suc (length w) - 2 * q) ≤ length c.loop-half.marks
  left = room (goal.at.overflow_add-at-in-loop-half c).In-loop-half

  fits : 2 * q ≤ length w
  fits = omega arith

  counted_few : c.mark_starts-found.result ≤ suc (length w) - 2 * q
  counted_few = omega (arith, c.mark_starts-found.ensures.value, fewer_words w q, length-start_marks w q)

  marked_further : Marking w c.args.marks.now (put_mid c.loop-half.at (length c.loop-half.marks - c.loop-half.at) c.loop-half.marks c.mark_starts-found.new.marks) (c.loop-half.found + c.mark_starts-found.result) (c.loop-half.at + (c.len.result + 1 - 2 * q)) (q + 1)
  marked_further =
      let before : List ℕ = c.args.marks.now in
      let h : Marking w before c.loop-half.marks c.loop-half.found c.loop-half.at q = c.loop-half.invariant in
      let more : marks_below w (q + 1) ≡ marks_below w q ++ start_marks w q = marks-more w q c.loop-half.auto.half fits in
      let words : length (words_below w (q + 1)) ≡ length (words_below w q) + length (square_starts w q) =
      ap length (words_more w q c.loop-half.auto.half fits) ∙ length-append (words_below w q) (half_words w q) ∙ ap (λ (k : ℕ). length (words_below w q) + k) (length-map (square_starts w q) (square_word q)) in
      record {
        within = omega (arith, fits);
        reached = omega (arith, h.reached, ap length more, length-append (marks_below w q) (start_marks w q), length-start_marks w q);
        marked =
            fill_lent (marks_below w q) (start_marks w q) before c.loop-half.marks c.mark_starts-found.new.marks c.loop-half.at h.marked h.reached c.mark_starts-found.ensures.marks_after
            ∙ ap (λ (l : List ℕ). fill l before) (sym more);
        counted = omega (arith, h.counted, words, c.mark_starts-found.ensures.value);
        few = omega (arith, h.few, counted_few);
      }

pub overflow_add-found : goal.overflow_add-found
overflow_add-found c =
    let w = c.copied-word.result in
    let q = c.loop-half.half in
    let left : c.loop-half.at + (suc (length w) - 2 * q) ≤ length c.loop-half.marks = room (goal.at.overflow_add-found c).In-loop-half in
    omega (arith, c.mark_starts-found.ensures.value, fewer_words w q, length-start_marks w q)

pub overflow_add-at-in-loop-half : goal.overflow_add-at-in-loop-half
overflow_add-at-in-loop-half c = omega (arith, left c)

pub loop-half-preserved : goal.loop-half-preserved
loop-half-preserved c = marked_further (goal.at.loop-half-preserved c).After-len

-- past the longest half there are no more marks and no more words
module _ {w before marks : List ℕ} {found at q : ℕ} (h : Marking w before marks found at q) (past : length w < 2 * q) where
  all_counted : found ≡ length (square_words w)
  all_counted = h.counted ∙ ap length (all_words w q h.within past)

  all_marked : marks ≡ fill (square_marks w) before
  all_marked = h.marked ∙ ap (λ (l : List ℕ). fill l before) (all-marks w q h.within past)

pub returns : goal.returns
returns c =
    let h = c.loop-half.invariant in
    let past : length c.copied-word.result < 2 * c.loop-half.half = omega arith in
    record { value = rw c.copied-word.ensures at (all_counted h past); marks_after = rw c.copied-word.ensures at (all_marked h past) }

pub returns-2 : goal.returns-2
returns-2 c =
    let h = marked_further (goal.at.returns-2 c).After-len in
    let past : length c.copied-word.result < 2 * (c.loop-half.half + 1) = omega arith in
    record { value = rw c.copied-word.ensures at (all_counted h past); marks_after = rw c.copied-word.ensures at (all_marked h past) }
