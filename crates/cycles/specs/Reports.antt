-- The text of a report, line by line from its output words, and the sizes of the slices that hold a report and its text.
use Rattle.std.specs.Prelude.{ℕ, suc, ◌*◌, ◌/◌, ◌%◌, ◌^◌, List, [], ◌++◌, get_or, eqb, ltb}
use Rattle.abelian.specs.Lists.{pick, each}
use Rattle.abelian.specs.Periods.{pair}
use Rattle.report.specs.Places.{report_places}
use Rattle.cycles.specs.Lines.{length_line, full_line, period_line, square_line, cover_line}

-- the line of an output word's kind and parts; none for a kind that no report has
unfoldable pub kind_line : ℕ → ℕ → ℕ → List ℕ
kind_line kind upper lower =
    pick (eqb kind 1) (period_line (pair lower upper))
    (pick (eqb kind 2) (square_line upper lower) (pick (eqb kind 3) (full_line upper) (pick (eqb kind 8) (length_line upper) [])))

-- the line of an output word
unfoldable pub line_of : ℕ → List ℕ
line_of word = kind_line (word / 2 ^ 28) (word / 2 ^ 14 % 2 ^ 14) (word % 2 ^ 14)

-- the text of a report: a line for each word, and behind them the cover, yes where the report's head has a length
unfoldable pub text_of : List ℕ → List ℕ
text_of words = each words line_of ++ cover_line (ltb 0 (get_or words 0 0 % 2 ^ 14))

-- no line of an output word is longer: a name of 6 letters, two numbers of 5 digits, and what stands between and behind them
unfoldable pub longest_line : ℕ
longest_line = 19

-- no text of a report is longer
unfoldable pub longest_text : ℕ
longest_text = suc report_places * longest_line
