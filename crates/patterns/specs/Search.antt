-- The search for square-free words: depth first over their beginnings, each known by the running counts of its letters alone.
use Rattle.std.specs.Prelude.{ℕ, zero, suc, ◌+◌, ◌-◌, ◌*◌, ◌/◌, ◌^◌, ◌≤◌, ◌<◌, Bool, not, List, [], ◌∷◌, length, get_or, set, eqb}
use Rattle.abelian.specs.Lists.{pick, up_from, all, each}
use Rattle.abelian.specs.Output.{pattern_word}
use Rattle.abelian.specs.Patterns.{largest_alphabet, longest_square_free}

-- what the letter in place c of the alphabet, counted from 0, adds to a total: a total is a number in base 32 that has for each letter how often it stands there
unfoldable pub weight : ℕ → ℕ
weight c = 32 ^ c

-- Totals of the beginning and of all its own beginnings, the longest first: the two stretches of q letters at its end have equal totals.
unfoldable pub halves_agree : List ℕ → ℕ → Bool
halves_agree totals q = eqb (get_or totals 0 0 + get_or totals (2 * q) 0) (2 * get_or totals q 0)

-- a square ends where the beginning ends
unfoldable pub ends_square : List ℕ → Bool
ends_square totals = not (all (λ (q : ℕ). not (halves_agree totals q)) (up_from 1 ((length totals - 1) / 2)))

-- the totals with the letter in place c behind the beginning
abbrev pub with_letter : List ℕ → ℕ → List ℕ
with_letter totals c = (get_or totals 0 0 + weight c) ∷ totals

-- The output words of the square-free words that have this beginning, given by its totals and by its number in base k, and so many letters behind it. Where a letter completes a
-- square, there is none that goes on with it.
unfoldable pub found : ℕ → ℕ → List ℕ → ℕ → List ℕ
found k zero totals number = pattern_word number ∷ []
found k (suc left) totals number = each (up_from 0 k) (λ (c : ℕ). pick (ends_square (with_letter totals c)) [] (found k left (with_letter totals c) (number * k + c)))

-- The totals of a beginning and of its own beginnings, from this place on: no more than there can be, and each no larger than its letters make it.
pub record Totals (totals : List ℕ) (at : ℕ) : Type 0 where
  pub within : at < length totals
  pub short : length totals ≤ suc longest_square_free
  pub small : (i : ℕ) → at ≤ i → i < length totals → get_or totals i 0 + suc i * 2 ^ 15 ≤ length totals * 2 ^ 15

-- The words that go on from a beginning by so many letters, found from this place on, can be numbered: there are no more of them than words of so many letters.
pub record Numbered (left number at : ℕ) : Type 0 where
  pub within : left ≤ longest_square_free
  pub digits : number < largest_alphabet ^ (longest_square_free - left)
  pub places : at + largest_alphabet ^ left ≤ largest_alphabet ^ longest_square_free

-- over so many letters, and of so many, the words are searched
pub record Searched : Type 0 where
  pub letters : ℕ
  pub length : ℕ

-- the slice with the words from this place on, one behind the other, as far as it has places
unfoldable pub stored : ℕ → List ℕ → List ℕ → List ℕ
stored at [] out = out
stored at (w ∷ ws) out = stored (suc at) ws (set out at w)
