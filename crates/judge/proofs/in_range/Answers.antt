-- `judge::in_range` meets its contract: its two tests and `h ≤ n - p` are the three conditions of the range.
use mathlib.Core.Path.{◌≡◌, sym, ◌∙◌}
use mathlib.Core.Bool.{false}
use Prim.Native.Nat.{ℕ, ◌-◌, ◌<◌, ◌≤◌}
use native.Mathlib.Omega.{arith}
use lib.Dec.{leb, leb→le, le→leb}
use borrow.Author.Tests.{le-ltb}
use Rattle.abelian.specs.Periods.{Pair, pair, in_range}
use Rattle.abelian.proofs.Tests.{is_false, iff_equal}
use Rattle.abelian.proofs.Pairs.{InRange, in_range_lem, range_in}
use Rattle.judge.proofs.in_range.Goals as goal

-- what is out of range fails the test
outside : (n : ℕ) (x : Pair) → (InRange n x → ⊥) → false ≡ in_range n x
outside n x f = sym (is_false (in_range n x) (λ t. f (in_range_lem n x t)))

-- with a period within n and a head below it, the last test decides
last-test : (n : ℕ) (x : Pair) → x.period ≤ n → x.head < x.period → leb x.head (n - x.period) ≡ in_range n x
last-test n x l h =
    iff_equal (leb x.head (n - x.period)) (in_range n x)
    (λ t. let f : x.head ≤ n - x.period = leb→le x.head (n - x.period) t in range_in n x (record { positive = omega arith; below = h; fits = omega arith }))
    (λ t. le→leb x.head (n - x.period) (let r : InRange n x = in_range_lem n x t in omega arith))

pub returns-then-n-p : goal.returns-then-n-p
returns-then-n-p c = outside c.args.n (pair c.args.head.0 c.args.period.0) (λ r. omega (arith, r.fits, c.if-n-p.true))

pub returns-then-h-p : goal.returns-then-h-p
returns-then-h-p c = last-test c.args.n (pair c.args.head.0 c.args.period.0) c.if-n-p.false c.if-h-p.true

pub returns-else-h-p : goal.returns-else-h-p
returns-else-h-p c =
    le-ltb c.args.head.0 c.args.period.0 c.if-h-p.false ∙ outside c.args.n (pair c.args.head.0 c.args.period.0) (λ r. omega (arith, r.below, c.if-h-p.false))
