-- Two count vectors side by side: at how many places they differ, and a vector with one letter more.
use Rattle.std.specs.Prelude.{ℕ, ◌+◌, ◌-◌, ◌<◌, ◌≡◌, not, List, [], ◌∷◌, length, get_or, set, T, eqb}
use Rattle.abelian.specs.Lists.{one}
use Rattle.abelian.specs.Words.{alphabet_size, first_letter, longest, is_letter}

-- at how many places the two vectors have different counts
unfoldable pub differing : List ℕ → List ℕ → ℕ
differing [] v = 0
differing (a ∷ u) [] = 0
differing (a ∷ u) (b ∷ v) = one (not (eqb a b)) + differing u v

-- the count of the letter
abbrev pub count_of : List ℕ → ℕ → ℕ
count_of u letter = get_or u (letter - first_letter) 0

-- the vector with one more of the letter
unfoldable pub one_more : List ℕ → ℕ → List ℕ
one_more u letter = set u (letter - first_letter) (count_of u letter + 1)

-- One more of the letter can be counted in the first vector: both have a place for each letter, the count stays within the longest word,
-- and the number of places at which they differ is known.
pub record CanCount (counts other : List ℕ) (letter differ : ℕ) : Type 0 where
  pub is_one : T (is_letter alphabet_size letter)
  pub places : length counts ≡ alphabet_size
  pub other_places : length other ≡ alphabet_size
  pub room : count_of counts letter < longest
  pub number : differ ≡ differing counts other
