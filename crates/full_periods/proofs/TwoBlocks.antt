-- Document 003's full Abelian periods: of a word of letters, a number is in the list of full periods exactly where the word is two or more blocks of so many letters
-- with equal vectors; and the list rises.
use mathlib.Core.Path.{◌≡◌, refl, sym, ap, subst, ◌∙◌}
use mathlib.Core.Logic.{◌↔◌}
use mathlib.Core.List.Memᴰ
use mathlib.Core.List.{List, [], ◌∷◌, ◌++◌, map, append-nil, Memᴰ}
use Prim.Native.Nat.{ℕ, zero, suc, ◌+◌, ◌*◌, ◌≤◌, ◌<◌, ◌∣◌}
use native.Mathlib.Nat.{zero-mul, one-mul, suc-mul, dvd-mul_left}
use native.Mathlib.Omega.{arith}
use lib.ListN.{length, length-append}
use lib.Dec.{T}
use Rattle.abelian.specs.Lists.{up_from, join, Ordered}
use Rattle.abelian.specs.Words.{of_letters, vector, contained}
use Rattle.abelian.specs.Periods.{Pair, pair, head_of, block, whole_blocks, is_period}
use Rattle.abelian.specs.FullPeriods.{proper_divisor, is_full, full_periods, FullPeriod}
use Rattle.abelian.proofs.Tests.{both}
use Rattle.abelian.proofs.Lists.{mem-up_from, ordered_keep, ordered_up_from}
use Rattle.abelian.proofs.Counts.{letters_left, letters_right, vector-length}
use Rattle.abelian.proofs.Definition1.{Conditions, block-length, word_split, length-join, letters-join, definition_period}
use Rattle.full_periods.proofs.Divisors.{dvd_proper}
use Rattle.full_periods.proofs.Blocks.{empty_contained, whole_all, divisor_tail, full_divides, full_below, full_conditions, full_listed}

module _ (w : List ℕ) (p : ℕ) where
  abbrev x : Pair
  x = pair 0 p

  -- ---- from the test to the blocks

  two_blocks : T (is_full w p) → (j : ℕ) × (whole_blocks (length w) x ≡ suc (suc j))
  two_blocks f = go (whole_blocks (length w) x) refl (whole_all p (length w) (full_divides w p f))
    where
      go : (k : ℕ) → whole_blocks (length w) x ≡ k → k * p ≡ length w → (j : ℕ) × (whole_blocks (length w) x ≡ suc (suc j))
      go zero e q = absurd (omega (arith, full_below w p f, zero-mul p))
      go (suc zero) e q = absurd (omega (arith, full_below w p f, one-mul p))
      go (suc (suc j)) e q = (j, e)

  full_blocks : T (is_full w p) → FullPeriod w p
  unfolding head_of
  full_blocks f =
      let b : (j : ℕ) × (whole_blocks (length w) x ≡ suc (suc j)) = two_blocks f in
      let c : Conditions w x = full_conditions w p f in
      record {
        first = block w x 1;
        second = block w x 2;
        others = map (block w x) (up_from 3 b.0);
        whole = rw (divisor_tail w p (full_divides w p f), append-nil) at (word_split w x (suc b.0) b.1);
        equal = λ u m.
            let r : (k : ℕ) × Memᴰ k (up_from 2 (suc b.0)) × (block w x k ≡ u) = Memᴰ.of_map (block w x) (up_from 2 (suc b.0)) m in
            let l : (2 ≤ r.0) × (r.0 < 2 + suc b.0) = mem-up_from 2 (suc b.0) r.1 in
            ap vector (sym r.2) ∙ c.alike r.0 (omega arith) (omega (arith, b.1));
        period_length = block-length w x c.range;
        positive = c.range.positive;
      }

  -- ---- and back

  module _ (t : T (of_letters w)) (d : FullPeriod w p) where
    abbrev bs : List (List ℕ)
    bs = d.second ∷ d.others

    letters_whole : T (of_letters (d.first ++ join bs))
    letters_whole = subst (λ (l : List ℕ). T (of_letters l)) d.whole t

    letters_first : T (of_letters d.first)
    letters_first = letters_left d.first (join bs) letters_whole

    -- all blocks have p letters
    sized : (u : List ℕ) → Memᴰ u bs → length u ≡ p
    sized u m = vector-length u d.first (letters-join bs u (letters_right d.first (join bs) letters_whole) m) letters_first (d.equal u m) ∙ d.period_length

    blocks_length : length w ≡ suc (length bs) * p
    blocks_length = ap length d.whole ∙ omega (arith, length-append d.first (join bs), d.period_length, length-join p bs sized, suc-mul (length bs) p)

    blocks_full : T (is_full w p)
    unfolding is_full
    blocks_full =
        both (proper_divisor p (length w)) (is_period w x)
        (dvd_proper p (length w) (subst (λ (n : ℕ). p ∣ n) (sym blocks_length) (dvd-mul_left p (suc (length bs))))
        (omega (arith, blocks_length, d.positive, suc-mul (length bs) p, suc-mul (length d.others) p)))
        (definition_period w x t record {
          head = [];
          first = d.first;
          others = bs;
          tail = [];
          whole = d.whole ∙ ap (λ (l : List ℕ). d.first ++ l) (sym (append-nil (join bs)));
          equal = d.equal;
          head_contained = none;
          tail_contained = none;
          head_length = refl;
          period_length = d.period_length;
        })
      where
        none : T (contained (vector []) (vector d.first))
        none = empty_contained d.first letters_first (omega (arith, d.period_length, d.positive))

-- ---- the theorems

-- a number is in the list of full periods exactly where document 003's definition holds
pub full_definition : (w : List ℕ) (p : ℕ) → T (of_letters w) → Memᴰ p (full_periods w) ↔ FullPeriod w p
full_definition w p t = (λ m. full_blocks w p ((full_listed w p).0 m), λ d. (full_listed w p).1 (blocks_full w p t d))

-- the list rises strictly
pub full_rising : (w : List ℕ) → Ordered ◌<◌ (full_periods w)
unfolding full_periods
full_rising w = ordered_keep ◌<◌ (is_full w) (up_from 1 (length w)) (ordered_up_from 1 (length w))
