-- Abelian squares, as document 003 says, and lists of numbers that rise.
use Rattle.std.specs.Prelude.{ℕ, ◌+◌, ◌-◌, ◌*◌, ◌≤◌, ◌<◌, ◌≡◌, List, length}
use Rattle.abelian.specs.Lists.{Ordered}
use Rattle.abelian.specs.Words.{vector, part}

-- The word has, from position i on, a stretch of q letters and behind it another one with the same vector.
pub record AbelianSquare (w : List ℕ) (q i : ℕ) : Type 0 where
  pub half : 1 ≤ q
  pub start : 1 ≤ i
  pub within : i + 2 * q - 1 ≤ length w
  pub alike : vector (part w (i - 1) q) ≡ vector (part w (i - 1 + q) q)

-- Each number of the list is below all behind it: the list rises strictly, and has each number once.
abbrev pub Increasing : List ℕ → Type 0
Increasing = Ordered ◌<◌
