-- The text of a report is document 01's lines: each word is read as it was made.
use mathlib.Core.Path.{◌≡◌, refl, ap₂, ◌∙◌}
use mathlib.Core.List.{List, [], ◌∷◌, ◌++◌, map, append_assoc, Memᴰ}
use Prim.Native.Nat.{ℕ, suc, ◌+◌, ◌-◌, ◌*◌, ◌/◌, ◌^◌, ◌≤◌, ◌<◌}
use native.Mathlib.Nat.{div-le_self}
use native.Mathlib.Omega.{arith}
use lib.ListN.{length}
use Rattle.abelian.specs.Lists.{up_from, each}
use Rattle.abelian.specs.Words.{longest}
use Rattle.abelian.specs.Periods.{is_period, pairs, periods}
use Rattle.abelian.specs.Output.{output_word, period_word, square_word, full_word, report_head}
use Rattle.abelian.specs.FullPeriods.{full_periods}
use Rattle.abelian.specs.Squares.{is_square, square_starts, square_words}
use Rattle.abelian.specs.Covers.{cover_length}
use Rattle.abelian.specs.Calls.{period_words, full_words, report_words}
use Rattle.abelian.proofs.Lists.{mem-keep, mem-up_from, each_append}
use Rattle.abelian.proofs.Output.{kind_read, upper_read, lower_read}
use Rattle.abelian.proofs.Pairs.{InRange, in_range_lem, pairs-in_range}
use Rattle.report.proofs.Heads.{lower_fits, head_lower}
use Rattle.cycles.specs.Lines.{length_line, full_line, period_line, square_line, accepted_lines}
use Rattle.cycles.specs.Reports.{kind_line, line_of, text_of}

-- ---- one word

-- a word's line is that of its kind and parts
line_read : (kind upper lower : ℕ) → upper < 2 ^ 14 → lower < 2 ^ 14 → line_of (output_word kind upper lower) ≡ kind_line kind upper lower
unfolding line_of
line_read kind upper lower u l = rw (kind_read kind upper lower u l, upper_read kind upper lower u l, lower_read kind upper lower u l)

-- ---- the words of a list

module _ {A : Type 0} (f : ℕ → List ℕ) where
  -- the lines of words that are made of the elements of a list
  each_map : (g : A → ℕ) (h : A → List ℕ) (xs : List A) → ((x : A) → Memᴰ x xs → f (g x) ≡ h x) → each (map g xs) f ≡ each xs h
  each_map g h [] e = refl
  each_map g h (x ∷ xs) e = ap₂ (λ (a b : List ℕ). a ++ b) (e x (Memᴰ.head refl)) (each_map g h xs (λ y m. e y (Memᴰ.tail m)))

  -- the lines of lists of words, one list for each element
  each-each : (g : A → List ℕ) (h : A → List ℕ) (xs : List A) → ((x : A) → Memᴰ x xs → each (g x) f ≡ h x) → each (each xs g) f ≡ each xs h
  each-each g h [] e = refl
  each-each g h (x ∷ xs) e =
      each_append f (g x) (each xs g) ∙ ap₂ (λ (a b : List ℕ). a ++ b) (e x (Memᴰ.head refl)) (each-each g h xs (λ y m. e y (Memᴰ.tail m)))

module _ (w : List ℕ) (short : length w ≤ longest) where
  full_lines : each (full_words w) line_of ≡ each (full_periods w) full_line
  unfolding longest full_words full_word full_periods kind_line
  full_lines =
      each_map line_of (full_word (length w)) full_line (full_periods w)
      (λ p m. let b : (1 ≤ p) × (p < 1 + length w) = mem-up_from 1 (length w) (mem-keep _ (up_from 1 (length w)) m).0 in
      line_read 3 p (length w / p) (omega arith) (omega (arith, div-le_self (length w) p)))

  period_lines : each (period_words w) line_of ≡ each (periods w) period_line
  unfolding longest period_words period_word periods kind_line
  period_lines =
      each_map line_of period_word period_line (periods w)
      (λ x m. let r : InRange (length w) x = in_range_lem (length w) x (pairs-in_range (length w) x (mem-keep (is_period w) (pairs (length w)) m).0) in
      line_read 1 x.period x.head (omega arith) (omega arith))

  square_lines : each (square_words w) line_of ≡ each (up_from 1 (length w)) (λ (q : ℕ). each (square_starts w q) (square_line q))
  unfolding longest square_words square_word square_starts kind_line
  square_lines =
      each-each line_of (λ (q : ℕ). map (square_word q) (square_starts w q)) (λ (q : ℕ). each (square_starts w q) (square_line q)) (up_from 1 (length w))
      (λ q n. each_map line_of (square_word q) (square_line q) (square_starts w q)
      (λ i m. let starts : ℕ = suc (length w) - 2 * q in
      let b : (1 ≤ i) × (i < 1 + starts) = mem-up_from 1 starts (mem-keep (is_square w q) (up_from 1 starts) m).0 in
      line_read 2 q i (omega (arith, mem-up_from 1 (length w) n)) (omega arith)))

  head_line : line_of (report_head (length w) (cover_length w)) ≡ length_line (length w)
  unfolding longest report_head kind_line
  head_line = line_read 8 (length w) (cover_length w) (omega arith) (lower_fits w short)

  -- The text of a word's report is its lines.
  pub text_accepted : text_of (report_words w) ≡ accepted_lines w
  unfolding text_of report_words accepted_lines
  text_accepted = rw (each_append, each_append, head_line, full_lines, period_lines, square_lines, head_lower w short) (simp append_assoc)
