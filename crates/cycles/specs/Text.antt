-- Text in ASCII: names, numbers in decimal, lines, and what a function that writes text returns and leaves.
use Rattle.std.specs.Prelude.{ℕ, ◌^◌, ◌≡◌, List, [], ◌∷◌, ◌++◌, length, ltb}
use Prim.Native.Char.{code}
use Prim.Native.String as string
use Rattle.io.specs.Digits.{last_digits}
use Rattle.abelian.specs.Lists.{up_from, first_passing, each}
use Rattle.abelian.specs.Output.{fill}

-- the bytes of a text in ASCII
abbrev pub ascii : string.String → List ℕ
ascii string.[] = []
ascii (string.◌∷◌ c s) = code c ∷ ascii s

-- how many digits n has in decimal: the fewest that hold it, of the 20 that a number of 64 bits may have
unfoldable pub places : ℕ → ℕ
places n = first_passing (λ (k : ℕ). ltb n (10 ^ k)) (up_from 1 20)

-- n in decimal
unfoldable pub decimal : ℕ → List ℕ
decimal n = last_digits 10 (places n) n

-- a number with a space before it
unfoldable pub spaced : ℕ → List ℕ
spaced n = ascii " " ++ decimal n

-- a line: a name, numbers with a space before each, and the line's end
unfoldable pub line : List ℕ → List ℕ → List ℕ
line name numbers = name ++ (each numbers spaced ++ ascii "\n")

-- The bytes were written to the first places of a slice, the rest of it is kept, and `count` is their number.
pub record Written (bytes before after : List ℕ) (count : ℕ) : Type 0 where
  pub number : count ≡ length bytes
  pub text : after ≡ fill bytes before
