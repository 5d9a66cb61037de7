-- Document 01's "Program": the word in an input, and the lines that are printed for a word.
use Rattle.std.specs.Prelude.{ℕ, ◌-◌, Bool, List, [], ◌∷◌, ◌++◌, length, take, get_or, eqb, ltb}
use Rattle.std.proofs.Math.Option.{Option, none, some}
use Rattle.abelian.specs.Lists.{pick, up_from, each}
use Rattle.abelian.specs.Periods.{Pair, periods}
use Rattle.abelian.specs.FullPeriods.{full_periods}
use Rattle.abelian.specs.Squares.{square_starts}
use Rattle.abelian.specs.Covers.{cover_length}
use Rattle.abelian.specs.Refusals.{number_of, value_of, report_refusal}
use Rattle.abelian.specs.declared.Refusal.{Refusal}
use Rattle.cycles.specs.Text.{ascii, line}

-- "One final byte 10 dropped".
unfoldable pub word_in : List ℕ → List ℕ
word_in input = pick (eqb (get_or input (length input - 1) 0) 10) (take (length input - 1) input) input

-- "`n` length".
unfoldable pub length_line : ℕ → List ℕ
length_line n = line (ascii "n") (n ∷ [])

-- "`full` p".
unfoldable pub full_line : ℕ → List ℕ
full_line p = line (ascii "full") (p ∷ [])

-- "`period` h p".
unfoldable pub period_line : Pair → List ℕ
period_line x = line (ascii "period") (x.head ∷ x.period ∷ [])

-- "`square` start half".
unfoldable pub square_line : ℕ → ℕ → List ℕ
square_line half start = line (ascii "square") (start ∷ half ∷ [])

-- "`cover` yes or no".
unfoldable pub cover_line : Bool → List ℕ
cover_line found = pick found (ascii "cover yes\n") (ascii "cover no\n")

-- "A refusal prints `refused`, number, value."
unfoldable pub refusal_line : Refusal → List ℕ
refusal_line r = line (ascii "refused") (number_of r ∷ value_of r ∷ [])

-- The lines of an accepted word.
unfoldable pub accepted_lines : List ℕ → List ℕ
accepted_lines w =
    length_line (length w)
    ++ (each (full_periods w) full_line
    ++ (each (periods w) period_line
    ++ (each (up_from 1 (length w)) (λ (q : ℕ). each (square_starts w q) (square_line q))
    ++ cover_line (ltb 0 (cover_length w)))))

-- the refusal's line, if there is one, and else the lines of the accepted word
unfoldable pub lines_unless : Option Refusal → List ℕ → List ℕ
lines_unless none lines = lines
lines_unless (some r) lines = refusal_line r

-- What is printed for a word; the program has the report's refusals, 10 included (C-17).
unfoldable pub printed : List ℕ → List ℕ
printed w = lines_unless (report_refusal w 0 0) (accepted_lines w)
