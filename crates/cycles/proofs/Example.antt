-- Document 01's example of the program, one of its refusals and one of document 02's, computed on the definitions.
use mathlib.Core.Path.{◌≡◌, refl}
use Rattle.abelian.specs.Words.{alphabet_size, first_letter, longest, letters, is_letter, outside_from, first_outside, all_equal, one_letter, count, vector, none_above, contained}
use Rattle.abelian.specs.Periods.{in_range, heads, row, pairs, head_of, block, whole_blocks, tail_of, is_period, periods}
use Rattle.abelian.specs.FullPeriods.{divides, proper_divisor, is_full, full_periods}
use Rattle.abelian.specs.Squares.{is_square, square_starts}
use Rattle.abelian.specs.Covers.{is_cover_length, cover_length}
use Rattle.abelian.specs.Refusals.{first_holding, report_refusal}
use Rattle.cycles.specs.Text.{ascii, places, decimal, spaced, line}
use Rattle.cycles.specs.Lines.{word_in, length_line, full_line, period_line, square_line, cover_line, refusal_line, accepted_lines, lines_unless, printed}

-- "Input `abb`", without the line `full 3` since C-18.
pub abb-printed : printed (word_in (ascii "abb\n")) ≡ ascii "n 3\nperiod 0 2\nperiod 0 3\nsquare 2 1\ncover no\n"
unfolding alphabet_size first_letter longest letters is_letter outside_from first_outside all_equal one_letter count vector none_above contained in_range heads row pairs head_of block whole_blocks tail_of is_period periods divides proper_divisor is_full full_periods is_square square_starts is_cover_length cover_length first_holding report_refusal places decimal spaced line word_in length_line full_line period_line square_line cover_line refusal_line accepted_lines lines_unless printed
abb-printed = refl

-- "`aBc`, value 2".
pub aBc-printed : printed (word_in (ascii "aBc\n")) ≡ ascii "refused 2 2\n"
unfolding alphabet_size first_letter longest is_letter outside_from first_outside first_holding report_refusal places decimal spaced line word_in refusal_line lines_unless printed
aBc-printed = refl

-- C-17's "two or more letters and all are equal".
pub bbb_printed : printed (word_in (ascii "bbb\n")) ≡ ascii "refused 10 0\n"
unfolding alphabet_size first_letter longest is_letter outside_from first_outside all_equal one_letter first_holding report_refusal places decimal spaced line word_in refusal_line lines_unless printed
bbb_printed = refl
