-- The lines of the words, and behind them the cover's.
use Rattle.std.proofs.Common.{ℕ, ◌+◌, ◌%◌, ◌^◌, ◌≤◌, List, length, get_or, arith, length-append, length-take, length-drop}
use lib.Dec.{ltb}
use Rattle.abelian.specs.Lists.{each}
use Rattle.cycles.specs.Lines.{cover_line}
use Rattle.cycles.specs.Reports.{line_of, text_of}
use Rattle.cycles.proofs.Writing.{written_more, written_room}
use Rattle.cycles.specs.Text.{Written}
use Rattle.cycles.proofs.lines.write_report.Goals as goal

module _ (words text : List ℕ) (fits : length (text_of words) ≤ length text) where
  -- the lines of the words have places
  lines_fit : length (each words line_of) ≤ length text
  unfolding text_of
  lines_fit = omega (arith, fits, length-append (each words line_of) (cover_line (ltb 0 (get_or words 0 0 % 2 ^ 14))))

  -- where they are written, the cover's line has places behind them
  room : {after : List ℕ} {at : ℕ} → Written (each words line_of) text after at → at + length (cover_line (ltb 0 (get_or words 0 0 % 2 ^ 14))) ≤ length after
  unfolding text_of
  room written = written_room written (cover_line (ltb 0 (get_or words 0 0 % 2 ^ 14))) fits

pub write_words-at-requires : goal.write_words-at-requires
write_words-at-requires c = lines_fit c.args.words.now c.args.text.now c.requires.words_in_bounds

pub slice_bounds-write_cover-count : goal.slice_bounds-write_cover-count
slice_bounds-write_cover-count c = omega (arith, room c.args.words.now c.args.text.now c.requires.words_in_bounds c.write_words-at.ensures)

pub slice_bounds-write_cover-start : goal.slice_bounds-write_cover-start
slice_bounds-write_cover-start c = omega (arith, room c.args.words.now c.args.text.now c.requires.words_in_bounds c.write_words-at.ensures)

pub write_cover-requires : goal.write_cover-requires
write_cover-requires c =
    simp (length-take, length-drop) (omega (arith, room c.args.words.now c.args.text.now c.requires.words_in_bounds c.write_words-at.ensures))

pub returns : goal.returns
unfolding text_of
returns c = written_more c.write_words-at.ensures _ _ _ c.write_cover.ensures

pub overflow_add-result : goal.overflow_add-result
unfolding text_of
overflow_add-result c =
    let all = written_more c.write_words-at.ensures _ _ _ c.write_cover.ensures in
    omega (arith, all.number, c.requires.words_in_bounds, c.well_formed)
