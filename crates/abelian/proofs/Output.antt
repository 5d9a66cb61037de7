-- An output word is read as it was made: its kind, and its parts of 14 bits.
use mathlib.Core.Path.{◌≡◌}
use Prim.Native.Nat.{ℕ, ◌/◌, ◌%◌, ◌^◌, ◌<◌}
use native.Mathlib.Omega.{arith}
use Rattle.abelian.specs.Output.{output_word}

module _ (kind upper lower : ℕ) (u : upper < 2 ^ 14) (l : lower < 2 ^ 14) where
  pub kind_read : output_word kind upper lower / 2 ^ 28 ≡ kind
  unfolding output_word
  kind_read = omega arith

  pub upper_read : output_word kind upper lower / 2 ^ 14 % 2 ^ 14 ≡ upper
  unfolding output_word
  upper_read = omega arith

  pub lower_read : output_word kind upper lower % 2 ^ 14 ≡ lower
  unfolding output_word
  lower_read = omega arith
