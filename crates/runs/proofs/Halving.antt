-- Laws of stretches beside a place: what is contained stays so when it is shortened, so that the longest is found by halving.
use mathlib.Core.Path.{◌≡◌, refl, sym, ap}
use mathlib.Core.List.{List}
use Prim.Native.Nat.{ℕ, suc, ◌+◌, ◌-◌, ◌≤◌, ◌<◌, min}
use native.Mathlib.Omega.{arith}
use lib.ListN.{length, take, drop, length-take, length-drop}
use lib.Dec.{T}
use Rattle.abelian.specs.Words.{of_letters, count, vector, none_above, part}
use Rattle.abelian.proofs.Counts.{count-part, count-take_rises, none_above_counts, counts_none_above, letters-part, contained_shorter, shorter_contained, contained-none_above}
use Rattle.abelian.proofs.Largest.{largest-most}
use Rattle.runs.specs.declared.hands.Side.{Side}
use Rattle.runs.specs.declared.hands.Side.TheVariants.{Before, Behind}
use Rattle.runs.specs.Hands.{beside, room, beside_fits, hand_of}

module _ (w : List ℕ) where
  -- ---- stretches

  letters-beside : T (of_letters w) → (side : Side) (at k : ℕ) → T (of_letters (beside w side at k))
  letters-beside t Before at k = letters-part w (at - k) k t
  letters-beside t Behind at k = letters-part w at k t

  length-beside : (side : Side) (at k : ℕ) → at ≤ length w → k ≤ room w side at → length (beside w side at k) ≡ k
  length-beside Before at k h l = omega (arith, length-take k (drop (at - k) w), length-drop (at - k) w)
  length-beside Behind at k h l = omega (arith, length-take k (drop at w), length-drop at w)

  -- a longer stretch has no fewer of a letter
  count-beside_rises : (c : ℕ) (side : Side) (at k m : ℕ) → k ≤ m → m ≤ room w side at → count c (beside w side at k) ≤ count c (beside w side at m)
  count-beside_rises c Before at k m l u =
      let e : at - k + k ≡ at = omega arith in
      let f : at - m + m ≡ at = omega arith in
      let g : count c (take (at - k + k) w) ≡ count c (take at w) = ap (λ (a : ℕ). count c (take a w)) e in
      let h : count c (take (at - m + m) w) ≡ count c (take at w) = ap (λ (a : ℕ). count c (take a w)) f in
      let o : at - m ≤ at - k = omega arith in
      omega (arith, count-part c (at - k) k w, count-part c (at - m) m w, g, h, count-take_rises c w o)
  count-beside_rises c Behind at k m l u =
      let o : at + k ≤ at + m = omega arith in
      omega (arith, count-part c at k w, count-part c at m w, count-take_rises c w o)

  -- a stretch of no letters has none
  count-beside-none : (c : ℕ) (side : Side) (at : ℕ) → count c (beside w side at 0) ≡ 0
  unfolding count
  count-beside-none c Before at = refl
  count-beside-none c Behind at = refl

-- ---- which of them are contained in the block of d letters from position i on

-- a block and a place of a word of letters
pub record Placed (w : List ℕ) (d i at : ℕ) : Type 0 where
  pub letters : T (of_letters w)
  pub start : 1 ≤ i
  pub whole : i + d ≤ length w + 1
  pub inside : at ≤ length w

-- a stretch of `hand` letters is contained, and none of `past` letters or more
pub record Halving (w : List ℕ) (d i : ℕ) (side : Side) (at hand past : ℕ) : Type 0 where
  pub below : hand < past
  pub within : past ≤ suc (room w side at)
  pub short : past ≤ d
  pub holds : T (beside_fits w d i side at hand)
  pub none : (m : ℕ) → past ≤ m → m ≤ room w side at → T (beside_fits w d i side at m) → ⊥

module _ (w : List ℕ) (d i : ℕ) (side : Side) (at : ℕ) (p : Placed w d i at) where
  abbrev block : List ℕ
  block = part w (i - 1) d

  length-block : length block ≡ d
  length-block = omega (arith, length-take d (drop (i - 1) w), length-drop (i - 1) w, p.start, p.whole)

  module _ (k : ℕ) (there : k ≤ room w side at) where
    abbrev stretch : List ℕ
    stretch = beside w side at k

    -- one that is shorter than the block, where no count is above the block's
    pub fits_none_above : k < d → T (none_above (vector stretch) (vector block)) → T (beside_fits w d i side at k)
    unfolding beside_fits
    fits_none_above l n =
        shorter_contained stretch block (letters-beside w p.letters side at k) (letters-part w (i - 1) d p.letters) n
        (omega (arith, length-beside w side at k p.inside there, length-block))

    pub none_above_fits : T (beside_fits w d i side at k) → T (none_above (vector stretch) (vector block))
    unfolding beside_fits
    none_above_fits f = contained-none_above (vector stretch) (vector block) f

    -- none that is as long as the block
    pub fits_short : T (beside_fits w d i side at k) → k < d
    unfolding beside_fits
    fits_short f =
        let l : length stretch < length block = contained_shorter stretch block (letters-beside w p.letters side at k) (letters-part w (i - 1) d p.letters) f in
        omega (arith, l, length-beside w side at k p.inside there, length-block)

  -- what is contained stays so when it is shortened
  pub fits_shorter : (k m : ℕ) → k ≤ m → m ≤ room w side at → T (beside_fits w d i side at m) → T (beside_fits w d i side at k)
  fits_shorter k m l u f =
      fits_none_above k (omega arith) (omega (arith, fits_short m u f))
      (counts_none_above (beside w side at k) block
      (λ c e. omega (arith, count-beside_rises w c side at k m l u, none_above_counts (beside w side at m) block (none_above_fits m u f) c e)))

  -- ---- halving

  -- before anything is looked at
  pub halving_first : (past : ℕ) → 1 ≤ d → past ≡ min d (suc (room w side at)) → Halving w d i side at 0 past
  halving_first past size e =
      record {
        below = omega arith;
        within = omega arith;
        short = omega arith;
        holds = fits_none_above 0 (omega arith) size (counts_none_above (beside w side at 0) block (λ c e. omega (arith, count-beside-none w c side at)));
        none = λ m l u f. omega (arith, fits_short m u f);
      }

  module _ (hand past : ℕ) (h : Halving w d i side at hand past) where
    module _ (middle : ℕ) (low : hand < middle) (high : middle < past) where
      -- the stretch in the middle has a count above the block's
      pub halving_down : (T (none_above (vector (beside w side at middle)) (vector block)) → ⊥) → Halving w d i side at hand middle
      halving_down none =
          record {
            below = low;
            within = omega (arith, h.within);
            short = omega (arith, h.short);
            holds = h.holds;
            none = λ m l u f. none (none_above_fits middle (omega arith) (fits_shorter middle m l u f));
          }

      -- it has none
      pub halving_up : T (none_above (vector (beside w side at middle)) (vector block)) → Halving w d i side at middle past
      halving_up n =
          record {
            below = high;
            within = h.within;
            short = h.short;
            holds = fits_none_above middle (omega (arith, h.within)) (omega (arith, h.short)) n;
            none = h.none;
          }

    -- two neighbours are left
    pub halving_done : past ≤ hand + 1 → hand ≡ hand_of w d i side at
    unfolding hand_of
    halving_done l =
        sym
        (largest-most (beside_fits w d i side at) (room w side at) hand
        (record { within = omega (arith, h.below, h.within); passes = h.holds; none = λ m u v f. h.none m (omega arith) v f }))
