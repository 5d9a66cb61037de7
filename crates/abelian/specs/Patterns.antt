-- Patterns without a repeat (C-20): the words over the first k letters, of length n, that have no Abelian square, and the numbers that stand for them. C-20 calls them
-- patterns; the pattern of which C-13 looks for windows is another thing.
use Rattle.std.specs.Prelude.{ℕ, zero, suc, ◌+◌, ◌-◌, ◌*◌, ◌^◌, Bool, List, [], ◌∷◌, map, length, eqb}
use Rattle.abelian.specs.Lists.{up_from, keep, each}
use Rattle.abelian.specs.Words.{first_letter}
use Rattle.abelian.specs.Squares.{square_words}
use Rattle.abelian.specs.Output.{pattern_word}

-- "k is outside 1 to 4", "n is above 12": over how many letters square-free words are listed at most, and the longest of these.
unfoldable pub largest_alphabet : ℕ
largest_alphabet = 4

unfoldable pub longest_square_free : ℕ
longest_square_free = 12

-- Every word over the first k letters that has length n, in alphabetical order: those that begin with a, then those that begin with b, and so on. Of length 0 there is the
-- empty word.
unfoldable pub words_over : ℕ → ℕ → List (List ℕ)
words_over k zero = [] ∷ []
words_over k (suc n) = each (up_from first_letter k) (λ (c : ℕ). map (λ (w : List ℕ). c ∷ w) (words_over k n))

-- "Without an Abelian square": the list of its squares is empty.
unfoldable pub square_free : List ℕ → Bool
square_free w = eqb (length (square_words w)) 0

-- "Every word over the first k letters without an Abelian square, in alphabetical order, each once."
unfoldable pub square_free_words : ℕ → ℕ → List (List ℕ)
square_free_words k n = keep square_free (words_over k n)

-- "The word read as a number in base k with a as 0 and the first letter the highest digit."
unfoldable pub read_in : ℕ → List ℕ → ℕ
read_in k [] = 0
read_in k (c ∷ w) = (c - first_letter) * k ^ length w + read_in k w

-- The output words of these, in their order.
unfoldable pub pattern_words : ℕ → ℕ → List ℕ
pattern_words k n = map (λ (w : List ℕ). pattern_word (read_in k w)) (square_free_words k n)
