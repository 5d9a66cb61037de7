-- `board::pairs_in_range` meets its contract.
use mathlib.Core.Path.{sym}
use native.Mathlib.Omega.{arith}
use Rattle.abelian.specs.Words.{longest}
use Rattle.periods.proofs.PairCount.{pair-count}
use Rattle.board.proofs.Rows.{product_fits}
use Rattle.board.proofs.pairs_in_range.Goals as goal

pub overflow_add-result : goal.overflow_add-result
unfolding longest
overflow_add-result c = omega (arith, c.requires)

pub overflow_add-result-2 : goal.overflow_add-result-2
unfolding longest
overflow_add-result-2 c = omega (arith, c.requires)

pub overflow_mul-result : goal.overflow_mul-result
unfolding longest
overflow_mul-result c = product_fits _ _ (omega arith) (omega arith)

pub returns : goal.returns
returns c = sym (pair-count _)
