-- The last byte is tested for 10, as `word_in` has it; an input with no byte is its own word.
use Rattle.std.proofs.Common.{◌≡◌, ℕ, ◌-◌, List, [], ◌∷◌, length, drop, get_or, refl, arith, eqb, nat_eq, drop-cons}
use Rattle.std.proofs.Math.Seq.{drop-length}
use native.Mathlib.Numerals.{unary_clauses}
use mathlib.Core.Bool.{and-true}
use Rattle.std.specs.Cmp.Lexicographic.{pointwise}
use Rattle.cycles.specs.Lines.{word_in}
use Rattle.cycles.proofs.answer.word_of.Goals as goal

last_test : (input : List ℕ) → pointwise nat_eq (drop (length input - 1) input) (10 ∷ []) ≡ eqb (get_or input (length input - 1) 0) 10
last_test [] = refl
last_test (x ∷ xs) = simp unary_clauses (rw (drop-cons (x ∷ xs) (length xs) 0 (omega arith), drop-length xs) (and-true _))

pub returns : goal.returns
unfolding word_in
returns c = grind (arith, last_test)
