-- `board::row_start` meets its contract: each side is the rule's, and p × p − p is p × (p − 1), also where p is 0.
use mathlib.Core.Path.{◌≡◌}
use Prim.Native.Nat.{ℕ, ◌-◌, ◌*◌, ◌/◌, ◌≤◌, ◌<◌}
use native.Mathlib.Nat.{mul-one, mul-sub, mul-le-mul}
use native.Mathlib.Omega.{arith}
use borrow.Author.Tests.{le-leb, lt-leb}
use Rattle.abelian.specs.Words.{longest}
use Rattle.board.specs.Places.{row_start}
use Rattle.board.proofs.row_start.Goals as goal

half_product : (a b : ℕ) → a ≤ 122 → b ≤ 122 → a * b / 2 ≤ 14520
half_product a b l m = omega (arith, mul-le-mul l m)

-- the two sides of the rule
rising : (p : ℕ) → p ≤ 121 → (p * p - p) / 2 ≡ row_start p
unfolding row_start
rising p l = rw (le-leb p 121 l, mul-sub p p 1, mul-one p)

falling : (p : ℕ) → 121 < p → 14520 - (241 - p) * (242 - p) / 2 ≡ row_start p
unfolding row_start
falling p l = rw (lt-leb p 121 l)

pub overflow_sub-result-else-p-le121 : goal.overflow_sub-result-else-p-le121
unfolding longest
overflow_sub-result-else-p-le121 c = omega (arith, c.requires)

pub overflow_sub-result-else-p-le121-2 : goal.overflow_sub-result-else-p-le121-2
unfolding longest
overflow_sub-result-else-p-le121-2 c = omega (arith, c.requires)

pub overflow_sub-result-else-p-le121-3 : goal.overflow_sub-result-else-p-le121-3
overflow_sub-result-else-p-le121-3 c = half_product _ _ (omega arith) (omega arith)

pub returns-then-p-le121 : goal.returns-then-p-le121
returns-then-p-le121 c = rising _ (omega arith)

pub returns-else-p-le121 : goal.returns-else-p-le121
returns-else-p-le121 c = falling _ (omega arith)
