-- Laws of chains of squares: where one stands a block behind another, the blocks go on, and where none does, they end.
use mathlib.Core.Path.{◌≡◌, sym, ap, ◌∙◌}
use mathlib.Core.List.{List}
use Prim.Native.Nat.{ℕ, suc, ◌+◌, ◌-◌, ◌*◌, ◌≤◌}
use native.Mathlib.Nat.{suc-mul}
use native.Mathlib.Omega.{arith}
use lib.ListN.{length}
use lib.Dec.{T}
use Rattle.abelian.specs.Words.{vector, part}
use Rattle.abelian.specs.Squares.{is_square}
use Rattle.abelian.specs.Runs.{most, repeats, run_end}
use Rattle.abelian.proofs.Lists.{same_equal, equal_same}
use Rattle.abelian.proofs.Largest.{largest-most}
use Rattle.abelian.proofs.Blocks.{Blocks, two_blocks, one-block-more, blocks_largest, block_vector, first_vector}

-- squares of half length d stand at i, i + d and so on up to `last`, and their blocks repeat
pub record Chain (w : List ℕ) (d i last : ℕ) : Type 0 where
  pub steps : ℕ
  pub place : last ≡ i + steps * d
  pub blocks : Blocks w d i (suc (suc steps))

module _ (w : List ℕ) (d i : ℕ) (start : 1 ≤ i) where
  -- a square by itself
  pub chain_one : i + 2 * d ≤ length w + 1 → T (is_square w d i) → Chain w d i i
  chain_one within square = record { steps = 0; place = omega arith; blocks = two_blocks w d i start within square }

  module _ (last : ℕ) (c : Chain w d i last) where
    -- the second block of the last square, and the one behind it, by their numbers
    second : block_vector w d i (suc c.steps) ≡ vector (part w (last + d - 1) d)
    second =
        let e : i - 1 + suc c.steps * d ≡ last + d - 1 = omega (arith, c.place, suc-mul c.steps d) in
        ap (λ (k : ℕ). vector (part w k d)) e

    behind : block_vector w d i (suc (suc c.steps)) ≡ vector (part w (last + d - 1 + d) d)
    behind =
        let e : i - 1 + suc (suc c.steps) * d ≡ last + d - 1 + d = omega (arith, c.place, suc-mul (suc c.steps) d, suc-mul c.steps d) in
        ap (λ (k : ℕ). vector (part w k d)) e

    -- a square one block further on is one block more
    pub chain_more : last + 3 * d ≤ length w + 1 → T (is_square w d (last + d)) → Chain w d i (last + d)
    unfolding is_square
    chain_more within square =
        let k : ℕ = suc (suc c.steps) in
        let alike : vector (part w (last + d - 1) d) ≡ vector (part w (last + d - 1 + d) d) =
        same_equal (vector (part w (last + d - 1) d)) (vector (part w (last + d - 1 + d) d)) square in
        let next : block_vector w d i k ≡ first_vector w d i = behind ∙ sym alike ∙ sym second ∙ c.blocks.equal (suc c.steps) (omega arith) in
        record {
          steps = suc c.steps;
          place = omega (arith, c.place, suc-mul c.steps d);
          blocks = one-block-more w d i k c.blocks (omega (arith, c.place, suc-mul (suc c.steps) d, suc-mul c.steps d)) next;
        }

    -- where no square stands there, the blocks end with the last square
    pub chain_end : 1 ≤ d → (last + 3 * d ≤ length w + 1 → T (is_square w d (last + d)) → ⊥) → last - 1 + 2 * d ≡ run_end w d i
    unfolding run_end is_square
    chain_end size none =
        let k : ℕ = suc (suc c.steps) in
        let n : most (repeats w d i) (length w) ≡ k =
        largest-most (repeats w d i) (length w) k
        (blocks_largest w d i k size c.blocks (λ h e.
        none (omega (arith, c.place, suc-mul (suc c.steps) d, suc-mul c.steps d))
        (equal_same (vector (part w (last + d - 1) d)) (vector (part w (last + d - 1 + d) d))
        (sym second ∙ c.blocks.equal (suc c.steps) (omega arith) ∙ sym e ∙ behind)))) in
        omega (arith, ap (λ (m : ℕ). m * d) n, c.place, suc-mul (suc c.steps) d, suc-mul c.steps d)
