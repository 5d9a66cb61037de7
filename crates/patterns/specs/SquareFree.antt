-- What C-20 says of a word of its list, and alphabetical order.
use Rattle.std.specs.Prelude.{ℕ, ◌+◌, ◌≤◌, ◌<◌, ◌≡◌, ◌⊎◌, length}
use mathlib.Core.List.{List, [], ◌∷◌, Memᴰ}
use Rattle.abelian.specs.Words.{first_letter}
use Rattle.squares.specs.Squares.{AbelianSquare}

-- every letter of the word is one of the first k
abbrev pub Over : ℕ → List ℕ → Type 0
Over k w = (c : ℕ) → Memᴰ c w → (first_letter ≤ c) × (c < first_letter + k)

-- A word of n letters, each one of the first k, that has no Abelian square: of no half length, and at no start.
pub record SquareFree (k n : ℕ) (w : List ℕ) : Type 0 where
  pub long : length w ≡ n
  pub over : Over k w
  pub free : (q i : ℕ) → AbelianSquare w q i → ⊥

-- u stands before v in alphabetical order: it ends where they first differ, or has the smaller letter there.
abbrev pub WordBefore : List ℕ → List ℕ → Type 0
WordBefore u [] = ⊥
WordBefore [] (y ∷ v) = Unit {0}
WordBefore (x ∷ u) (y ∷ v) = (x < y) ⊎ ((x ≡ y) × WordBefore u v)
