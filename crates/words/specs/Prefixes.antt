-- The table of prefix counts.
use Rattle.std.specs.Prelude.{ℕ, suc, ◌-◌, ◌≤◌, ◌≡◌, List, ◌++◌, map, length, take, replicate, T}
use Rattle.abelian.specs.Lists.{up_from}
use Rattle.abelian.specs.Words.{alphabet_size, longest, of_letters, vector}

-- The places of a row: one for each letter, and as many more as make it two registers of 16 bytes, so that a loop over a row leaves no rest.
unfoldable pub width : ℕ
width = 32

-- A count vector as a row has it: with zeros behind the counts.
unfoldable pub padded : List ℕ → List ℕ
padded v = v ++ replicate (width - alphabet_size) 0

-- Row i, from 0 to 240, has the count vector of the word's first i letters, with zeros behind it; behind the word's end that of the whole word.
unfoldable pub prefix_counts : List ℕ → List (List ℕ)
prefix_counts w = map (λ (i : ℕ). padded (vector (take i w))) (up_from 0 (suc longest))

-- An accepted word: document 01's letters alone, and not more than the longest word has.
pub record IsWord (w : List ℕ) : Type 0 where
  pub all : T (of_letters w)
  pub short : length w ≤ longest

-- An accepted word, with the table of its prefix counts.
pub record Counted (w : List ℕ) (table : List (List ℕ)) : Type 0 where
  pub all : T (of_letters w)
  pub short : length w ≤ longest
  pub rows : table ≡ prefix_counts w
