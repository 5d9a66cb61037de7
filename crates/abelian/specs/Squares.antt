-- Abelian squares (document 003).
use Rattle.std.specs.Prelude.{ℕ, suc, ◌+◌, ◌-◌, ◌*◌, Bool, List, map, length}
use Rattle.abelian.specs.Lists.{up_from, same, keep, each}
use Rattle.abelian.specs.Words.{vector, part}
use Rattle.abelian.specs.Output.{square_word}

-- the stretches of q letters from position i on and behind it have equal vectors
unfoldable pub is_square : List ℕ → ℕ → ℕ → Bool
is_square w q i = same (vector (part w (i - 1) q)) (vector (part w (i - 1 + q) q))

-- the starts i of the squares with half length q: i ≥ 1 and i + 2q − 1 ≤ n
unfoldable pub square_starts : List ℕ → ℕ → List ℕ
square_starts w q = keep (is_square w q) (up_from 1 (suc (length w) - 2 * q))

-- The words of all squares, by half length q ≥ 1 and then by start.
unfoldable pub square_words : List ℕ → List ℕ
square_words w = each (up_from 1 (length w)) (λ (q : ℕ). map (square_word q) (square_starts w q))
