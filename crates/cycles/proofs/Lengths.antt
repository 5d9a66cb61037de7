-- No text of a report, and no line of a refusal, has more bytes than the definition of the size says.
use mathlib.Core.Path.{◌≡◌, ap}
use mathlib.Core.Bool.{Bool, true, false}
use mathlib.Core.List.{List, [], ◌∷◌, ◌++◌}
use Prim.Native.Nat.{ℕ, suc, ◌+◌, ◌*◌, ◌/◌, ◌%◌, ◌^◌, ◌≤◌, ◌<◌}
use native.Mathlib.Nat.{suc-mul, mul-le-mul_right}
use native.Mathlib.Omega.{arith}
use lib.ListN.{length, get_or, length-append}
use lib.Dec.{eqb, ltb}
use Rattle.abelian.specs.Lists.{each}
use Rattle.abelian.specs.Words.{longest}
use Rattle.abelian.specs.Trackers.{board_size}
use Rattle.abelian.specs.Refusals.{number_of, value_of}
use Rattle.abelian.specs.declared.Refusal.{Refusal}
use Rattle.abelian.proofs.Tests.{picked}
use Rattle.cycles.specs.Text.{ascii, places, spaced, line}
use Rattle.cycles.specs.Lines.{length_line, full_line, period_line, square_line, cover_line, refusal_line}
use Rattle.report.specs.Places.{report_places}
use Rattle.cycles.specs.Reports.{kind_line, line_of, text_of, longest_line, longest_text}
use Rattle.cycles.proofs.Decimals.{length-decimal, few_places, most-places}

-- ---- a line

length-spaced : (n : ℕ) → length (spaced n) ≡ suc (places n)
unfolding spaced
length-spaced n = ap suc (length-decimal n)

module _ (name : List ℕ) where
  line_of-one : (a : ℕ) → length (line name (a ∷ [])) ≡ length name + suc (places a) + 1
  unfolding line
  line_of-one a =
      omega (
        arith,
        length-append name (each (a ∷ []) spaced ++ ascii "\n"),
        length-append (each (a ∷ []) spaced) (ascii "\n"),
        length-append (spaced a) [],
        length-spaced a,
      )

  line_of-two : (a b : ℕ) → length (line name (a ∷ b ∷ [])) ≡ length name + suc (places a) + suc (places b) + 1
  unfolding line
  line_of-two a b =
      omega (
        arith,
        length-append name (each (a ∷ b ∷ []) spaced ++ ascii "\n"),
        length-append (each (a ∷ b ∷ []) spaced) (ascii "\n"),
        length-append (spaced a) (each (b ∷ []) spaced),
        length-append (spaced b) [],
        length-spaced a,
        length-spaced b,
      )

-- the line of parts of 14 bits
kind_short : (kind upper lower : ℕ) → upper < 2 ^ 14 → lower < 2 ^ 14 → length (kind_line kind upper lower) ≤ longest_line
unfolding kind_line period_line square_line full_line length_line longest_line
kind_short kind upper lower u l =
    let a : places upper ≤ 5 = few_places upper u in
    let b : places lower ≤ 5 = few_places lower l in
    let Short : List ℕ → Type 0 = λ text. length text ≤ longest_line in
    picked Short (eqb kind 1) (omega (arith, line_of-two (ascii "period") lower upper))
    (picked Short (eqb kind 2) (omega (arith, line_of-two (ascii "square") lower upper))
    (picked Short (eqb kind 3) (omega (arith, line_of-one (ascii "full") upper))
    (picked Short (eqb kind 8) (omega (arith, line_of-one (ascii "n") upper)) (omega arith))))

line_short : (word : ℕ) → length (line_of word) ≤ longest_line
unfolding line_of
line_short word = kind_short (word / 2 ^ 28) (word / 2 ^ 14 % 2 ^ 14) (word % 2 ^ 14) (omega arith) (omega arith)

cover_short : (found : Bool) → length (cover_line found) ≤ longest_line
unfolding cover_line longest_line
cover_short true = omega arith
cover_short false = omega arith

-- ---- a text

lines_short : (words : List ℕ) → length (each words line_of) ≤ length words * longest_line
lines_short [] = omega arith
lines_short (x ∷ xs) = omega (arith, length-append (line_of x) (each xs line_of), line_short x, lines_short xs, suc-mul (length xs) longest_line)

-- a line for each word, and one for the cover
pub text_short : (words : List ℕ) → length words ≤ report_places → length (text_of words) ≤ longest_text
unfolding text_of longest_text
text_short words h =
    let found : Bool = ltb 0 (get_or words 0 0 % 2 ^ 14) in
    let most : length words * longest_line ≤ report_places * longest_line = mul-le-mul_right longest_line h in
    omega (arith, length-append (each words line_of) (cover_line found), lines_short words, cover_short found, suc-mul report_places longest_line)

-- the line of a refusal: two numbers of up to 20 digits
pub refusal_short : (r : Refusal) → length (refusal_line r) ≤ longest_text
unfolding refusal_line longest_text report_places longest_line longest board_size
refusal_short r = omega (arith, line_of-two (ascii "refused") (number_of r) (value_of r), most-places (number_of r), most-places (value_of r))
