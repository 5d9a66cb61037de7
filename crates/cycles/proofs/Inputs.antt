-- The first bytes of an input decide what is printed.
use mathlib.Core.Path.{◌≡◌, sym, ap, ◌∙◌}
use mathlib.Core.Bool.{Bool, true, false}
use mathlib.Core.List.{List}
use Prim.Native.Nat.{ℕ, ◌+◌, ◌-◌, ◌≤◌}
use native.Mathlib.Decide.{dec_le}
use native.Mathlib.Omega.{arith}
use lib.ListN.{length, take, get_or, length-take}
use lib.Seq.{take_all}
use lib.Dec.{eqb}
use Rattle.abelian.specs.Lists.{pick}
use Rattle.abelian.specs.Words.{longest}
use Rattle.abelian.specs.declared.Refusal.TheVariants.{TooLong}
use Rattle.words.proofs.Refusals.{long_refused}
use Rattle.report.proofs.Refusals.{word_refused}
use Rattle.cycles.specs.Lines.{word_in, refusal_line, printed}
use Rattle.cycles.proofs.Printing.{printed_refused}

-- a word has all bytes of its input but one, or all
word_length_lem : (input : List ℕ) → length input ≤ length (word_in input) + 1
unfolding word_in
word_length_lem input = go (eqb (get_or input (length input - 1) 0) 10)
  where
    go : (b : Bool) → length input ≤ length (pick b (take (length input - 1) input) input) + 1
    go true = omega (arith, length-take (length input - 1) input)
    go false = omega arith

-- an input with two bytes more than the longest word is refused
long_input : (input : List ℕ) → longest + 2 ≤ length input → printed (word_in input) ≡ refusal_line TooLong
long_input input h = printed_refused (word_in input) (word_refused (word_in input) (long_refused (word_in input) false 0 0 (omega (arith, word_length_lem input))))

-- What stands behind the first bytes, two more than the longest word has, changes nothing.
pub first_bytes_decide : (input : List ℕ) → printed (word_in (take (longest + 2) input)) ≡ printed (word_in input)
first_bytes_decide input = go (dec_le (longest + 2) (length input))
  where
    go : Dec (longest + 2 ≤ length input) → printed (word_in (take (longest + 2) input)) ≡ printed (word_in input)
    go (yes h) = long_input (take (longest + 2) input) (omega (arith, length-take (longest + 2) input)) ∙ sym (long_input input h)
    go (no h) = ap (λ (l : List ℕ). printed (word_in l)) (take_all (longest + 2) input (omega arith))
