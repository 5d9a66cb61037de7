-- Output words: how a list is written to a lent slice of 32-bit words.
use Rattle.std.specs.Prelude.{ℕ, ◌+◌, ◌*◌, ◌/◌, ◌^◌, ◌≡◌, ◌≢◌, List, ◌++◌, length, drop, Result, MatchResult}
use Rattle.abelian.specs.Periods.{Pair}
use Rattle.abelian.specs.declared.Kind.{Kind}
use Rattle.abelian.specs.declared.Kind.TheVariants as kind

-- kind × 2^28 + upper × 2^14 + lower
unfoldable pub output_word : ℕ → ℕ → ℕ → ℕ
output_word kind upper lower = kind * 2 ^ 28 + upper * 2 ^ 14 + lower

-- the number of a kind: document 01's table, and document 02's
abbrev pub kind_number : Kind → ℕ
kind_number kind.Period = 1
kind_number kind.Square = 2
kind_number kind.Full = 3
kind_number kind.Run = 5
kind_number kind.Hands = 6
kind_number kind.Window = 7
kind_number kind.Report = 8
kind_number kind.Pattern = 9

-- the kind that has the number, and an error where no kind has it
abbrev pub OfNumber : ℕ → Result Kind Unit → Type 0
OfNumber number found = MatchResult found (λ kind. kind_number kind ≡ number) (λ _. (kind : Kind) → kind_number kind ≢ number)

-- "1 period": p above, h below.
unfoldable pub period_word : Pair → ℕ
period_word x = output_word 1 x.period x.head

-- "2 square": the half length above, the start below.
unfoldable pub square_word : ℕ → ℕ → ℕ
square_word half start = output_word 2 half start

-- "3 full period": p above, n / p below.
unfoldable pub full_word : ℕ → ℕ → ℕ
full_word n p = output_word 3 p (n / p)

-- C-11's "kind 5 with d above and i below": the first of a run's two words.
unfoldable pub run_word : ℕ → ℕ → ℕ
run_word d i = output_word 5 d i

-- C-11's "kind 6 as 6 × 2^28 + j × 2^16 + left × 2^8 + right": the second of a run's two words.
unfoldable pub hands_word : ℕ → ℕ → ℕ → ℕ
hands_word j left right = 6 * 2 ^ 28 + j * 2 ^ 16 + left * 2 ^ 8 + right

-- C-13's "7 × 2^28 + start": the start of a window in a record.
unfoldable pub window_word : ℕ → ℕ
window_word start = 7 * 2 ^ 28 + start

-- "8 report head": n above, and below the cover length, or 0 where there is none (C-14).
unfoldable pub report_head : ℕ → ℕ → ℕ
report_head n m = output_word 8 n m

-- C-20's "9 × 2^28 plus the word read as a number": a pattern, by that number.
unfoldable pub pattern_word : ℕ → ℕ
pattern_word number = 9 * 2 ^ 28 + number

-- An accepted list fills the first places and keeps the rest of the slice.
unfoldable pub fill : List ℕ → List ℕ → List ℕ
fill ws out = ws ++ drop (length ws) out
