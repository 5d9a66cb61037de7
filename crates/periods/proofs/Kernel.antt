-- Laws of the test `is_period` on a word of letters and a pair in range: what a head, a block or a tail that breaks the rule says, and
-- that nothing else is left to ask. There the lengths of head and tail need no test, since both are below p.
use mathlib.Core.Path.{◌≡◌, sym}
use mathlib.Core.Bool.{true, false}
use mathlib.Core.Logic.{⊎_elim, ◌≢◌}
use mathlib.Core.List.{List}
use Prim.Native.Nat.{ℕ, suc, ◌+◌, ◌-◌, ◌*◌, ◌≤◌, ◌<◌}
use native.Mathlib.Nat.{suc-mul, le-div_iff_mul-le}
use native.Mathlib.Omega.{arith}
use lib.ListN.{length, drop, length-drop}
use lib.Seq.{take_all}
use lib.Arith.{digits_div}
use lib.Dec.{T, eqb}
use borrow.Author.Tests.{eqb-true, eqb-false}
use Rattle.abelian.specs.Lists.{same}
use Rattle.abelian.specs.Words.{of_letters, vector, none_above, part}
use Rattle.abelian.specs.Periods.{Pair, head_of, block, whole_blocks, tail_of, is_period}
use Rattle.abelian.proofs.Tests.{is_false, passes, fails, decided, iff_equal}
use Rattle.abelian.proofs.Lists.{equal_same}
use Rattle.abelian.proofs.Counts.{letters-take, letters-drop, letters-part, shorter_contained, contained-none_above}
use Rattle.abelian.proofs.Pairs.{InRange}
use Rattle.abelian.proofs.Definition1.{Alike, period_conditions, conditions_period, block-length, head_length_lem}
use Rattle.periods.proofs.OnceEnded.{Reach, reach}

-- block 1 begins behind the head
pub first_block : (w : List ℕ) (x : Pair) → block w x 1 ≡ part w x.head x.period
unfolding block
first_block w x = let e : x.head + (1 - 1) * x.period ≡ x.head = omega arith in rw e

module _ (w : List ℕ) (x : Pair) where
  pub head_above : none_above (vector (head_of w x)) (vector (block w x 1)) ≡ false → is_period w x ≡ false
  head_above e =
      is_false (is_period w x)
      (λ p. fails (none_above (vector (head_of w x)) (vector (block w x 1))) e (contained-none_above (vector (head_of w x)) (vector (block w x 1)) (period_conditions w x p).head_contained))

  pub block_unlike : (k : ℕ) → 1 ≤ k → k ≤ whole_blocks (length w) x → same (vector (block w x k)) (vector (block w x 1)) ≡ false → is_period w x ≡ false
  block_unlike k l u e =
      is_false (is_period w x)
      (λ p. fails (same (vector (block w x k)) (vector (block w x 1))) e (equal_same (vector (block w x k)) (vector (block w x 1)) ((period_conditions w x p).alike k l u)))

module _ (w : List ℕ) (x : Pair) (t : T (of_letters w)) (r : InRange (length w) x) where
  -- the tail is shorter than a block
  pub tail_short : length (tail_of w x) < x.period
  unfolding tail_of
  tail_short =
      let e : Reach (length w) x = reach (length w) x r.positive in
      simp length-drop (omega (arith, e.low, e.high, r.fits))

  head_letters : T (of_letters (head_of w x))
  unfolding head_of
  head_letters = letters-take x.head w t

  block-letters : T (of_letters (block w x 1))
  unfolding block
  block-letters = letters-part w (x.head + (1 - 1) * x.period) x.period t

  tail_letters : T (of_letters (tail_of w x))
  unfolding tail_of
  tail_letters = letters-drop (x.head + whole_blocks (length w) x * x.period) w t

  -- head and blocks meet the rule: the tail decides
  pub tail_decides : none_above (vector (head_of w x)) (vector (block w x 1)) ≡ true → Alike w x → is_period w x ≡ none_above (vector (tail_of w x)) (vector (block w x 1))
  tail_decides h a =
      iff_equal (is_period w x) (none_above (vector (tail_of w x)) (vector (block w x 1)))
      (λ p. contained-none_above (vector (tail_of w x)) (vector (block w x 1)) (period_conditions w x p).tail_contained)
      (λ n. conditions_period w x
      (record {
        range = r;
        head_contained =
            shorter_contained (head_of w x) (block w x 1) head_letters block-letters (passes (none_above (vector (head_of w x)) (vector (block w x 1))) h)
            (omega (arith, head_length_lem w x r, block-length w x r, r.below));
        alike = a;
        tail_contained =
            shorter_contained (tail_of w x) (block w x 1) tail_letters block-letters n (omega (arith, tail_short, block-length w x r));
      }))

-- ---- how far the blocks have been passed

-- the first whole blocks end at a position, and all of them have block 1's vector
pub record Passed (w : List ℕ) (x : Pair) (at : ℕ) : Type 0 where
  pub blocks : ℕ
  pub some : 1 ≤ blocks
  pub reached : at ≡ x.head + blocks * x.period
  pub within : at ≤ length w
  pub alike : (k : ℕ) → 1 ≤ k → k ≤ blocks → vector (block w x k) ≡ vector (block w x 1)

module _ (w : List ℕ) (x : Pair) (r : InRange (length w) x) where
  pub first_passed : Passed w x (x.head + x.period)
  first_passed =
      record {
        blocks = 1;
        some = omega arith;
        reached = let e : 1 * x.period ≡ x.period = omega arith in omega arith;
        within = r.fits;
        alike = λ k l u. let e : k ≡ 1 = omega arith in rw e;
      }

  module _ (at : ℕ) (p : Passed w x at) where
    -- the next block, where one more is whole
    pub next_block : block w x (suc p.blocks) ≡ part w at x.period
    unfolding block
    next_block =
        let e : suc p.blocks - 1 ≡ p.blocks = omega arith in
        rw (e, ← p.reached)

    pub next_whole : x.period ≤ length w - at → suc p.blocks ≤ whole_blocks (length w) x
    unfolding whole_blocks
    next_whole l =
        (le-div_iff_mul-le r.positive).1 (omega (arith, suc-mul p.blocks x.period, p.reached, p.within))

    pub next_passed : x.period ≤ length w - at → vector (part w at x.period) ≡ vector (block w x 1) → Passed w x (at + x.period)
    next_passed l e =
        record {
          blocks = suc p.blocks;
          some = omega arith;
          reached = omega (arith, suc-mul p.blocks x.period, p.reached);
          within = omega (arith, p.within);
          alike = λ k m u.
              ⊎_elim (λ (q : eqb k (suc p.blocks) ≡ true). let f : k ≡ suc p.blocks = eqb-true k (suc p.blocks) q in rw (f, next_block) e)
              (λ (q : eqb k (suc p.blocks) ≡ false). let n : k ≢ suc p.blocks = eqb-false k (suc p.blocks) q in p.alike k m (omega arith))
              (decided (eqb k (suc p.blocks)));
        }

    -- no more is whole: the blocks passed are all of them, and the tail is what is left
    pub all_passed_lem : length w - at < x.period → whole_blocks (length w) x ≡ p.blocks
    unfolding whole_blocks
    all_passed_lem l =
        let e : length w - x.head ≡ p.blocks * x.period + (length w - at) = omega (arith, p.reached, p.within) in
        rw e (digits_div p.blocks l)

    pub tail_left : length w - at < x.period → tail_of w x ≡ part w at (length w - at)
    unfolding tail_of
    tail_left l =
        rw (all_passed_lem l, ← p.reached) (sym (take_all (length w - at) (drop at w) (omega (arith, length-drop at w))))
