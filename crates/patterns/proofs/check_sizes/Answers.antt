-- `patterns::check_sizes` meets its contract: each of its answers is the definition's.
use Rattle.std.proofs.Common.{⊎_elim, arith}
use Rattle.abelian.specs.Patterns.{largest_alphabet, longest_square_free}
use Rattle.patterns.proofs.Answers.{answered_none, answered_more, answered_long, answered_sizes}
use Rattle.patterns.proofs.check_sizes.Goals as goal

pub returns-then-k-lt1 : goal.returns-then-k-lt1
unfolding largest_alphabet
returns-then-k-lt1 c = ⊎_elim (λ i. answered_none _ _ (omega arith)) (λ i. answered_more _ _ (omega (arith, i.1))) c.then-k-lt1.either

pub returns-then-n-gt-LONGEST_SQUARE_FREE : goal.returns-then-n-gt-LONGEST_SQUARE_FREE
unfolding largest_alphabet longest_square_free
returns-then-n-gt-LONGEST_SQUARE_FREE c = answered_long _ _ (omega arith) (omega arith) (omega arith)

pub invariant_of-result : goal.invariant_of-result
unfolding largest_alphabet longest_square_free
invariant_of-result c = (omega arith, omega arith)

pub returns : goal.returns
unfolding largest_alphabet longest_square_free
returns c = answered_sizes _ _ (omega arith) (omega arith) (omega arith)
