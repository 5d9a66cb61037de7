-- Laws of a head's reach, the greatest position of an occurrence number 2c of a letter that the head has c times: what L(h) is by it, and how it grows by one letter.
use mathlib.Core.Path.{◌≡◌, refl, sym, ap, ap₂, ◌∙◌}
use mathlib.Core.Bool.{true, false}
use mathlib.Core.Logic.{⊎_elim}
use mathlib.Core.List.Memᴰ
use mathlib.Core.List.{List, [], ◌∷◌, map, Memᴰ}
use Prim.Native.Nat.{ℕ, zero, suc, ◌+◌, ◌-◌, ◌*◌, ◌≤◌, ◌<◌, max}
use native.Mathlib.Omega.{arith}
use lib.ListN.{length, take, drop, get_or}
use lib.Dec.{eqb, ltb}
use borrow.Author.Tests.{eqb-true, eqb-false, lt-ltb}
use Rattle.abelian.specs.Lists.{pick, largest}
use Rattle.abelian.specs.Words.{letters, count}
use Rattle.abelian.specs.Trials.{occurrence, greatest_gap, occurrence_bound, lowest_tried}
use Rattle.abelian.proofs.Tests.{decided}
use Rattle.abelian.proofs.Lists.{le-largest}
use Rattle.listers.specs.Lowest.{lowest_above}
use Rattle.listers.proofs.Select.{count_here, count_elsewhere, occurrence_rises}

module _ (w : List ℕ) where
  -- the position that a head asks for of the letter d, which it has c times: that of d's occurrence number 2c, or 0 where c is 0
  abbrev asked : ℕ → ℕ → ℕ
  asked d zero = 0
  asked d (suc c) = occurrence d (2 * suc c) w

  -- the position that the head h asks for of d
  abbrev asked_by : ℕ → ℕ → ℕ
  asked_by h d = asked d (count d (take h w))

  -- the greatest that it asks for
  pub reach_of : ℕ → ℕ
  reach_of h = largest (map (asked_by h) letters)

  -- the empty head asks for none
  pub reach_none : reach_of 0 ≡ 0
  unfolding reach_of letters count
  reach_none = refl

  -- a letter's bound is what its position lies behind the head
  bound_asked : (h d : ℕ) → occurrence_bound w h d ≡ asked_by h d - h
  unfolding occurrence_bound
  bound_asked h d = go (count d (take h w))
    where
      go : (c : ℕ) → pick (ltb 0 c) (occurrence d (2 * c) w - h) 0 ≡ asked d c - h
      go zero = omega arith
      go (suc c) = rw (lt-ltb 0 (suc c) (omega arith))

  bounds_asked : (h : ℕ) (ds : List ℕ) → largest (map (occurrence_bound w h) ds) ≡ largest (map (asked_by h) ds) - h
  bounds_asked h [] = omega arith
  bounds_asked h (d ∷ ds) = omega (arith, bound_asked h d, bounds_asked h ds)

  -- so L(h) is the largest of three numbers
  pub lowest_by_reach : (h : ℕ) → lowest_tried w h ≡ lowest_above h (reach_of h) (greatest_gap (drop h w))
  unfolding lowest_tried reach_of
  lowest_by_reach h = rw (bounds_asked h letters)

-- the greatest of three
max_shared : (a b t : ℕ) → max (max a b) t ≡ max (max a t) (max b t)
max_shared a b t = omega arith

-- one letter more: x, and the position that the longer head asks for of it
module _ (w : List ℕ) (h : ℕ) (l : h < length w) where
  abbrev x : ℕ
  x = get_or w h 0

  abbrev at : ℕ
  at = occurrence x (2 * count x (take (h + 1) w)) w

  asked_here : asked_by w (h + 1) x ≡ at
  asked_here = go (count x (take (h + 1) w)) (omega (arith, count_here w h l x refl))
    where
      go : (c : ℕ) → 0 < c → asked w x c ≡ occurrence x (2 * c) w
      go zero s = absurd (omega arith)
      go (suc c) s = refl

  module _ (enough : 2 * count x (take (h + 1) w) ≤ count x w) where
    -- the shorter head asks for none behind it of x
    asked_before : asked_by w h x ≤ at
    asked_before = go (count x (take h w)) (omega (arith, count_here w h l x refl))
      where
        go : (c : ℕ) → 2 * c ≤ 2 * count x (take (h + 1) w) → asked w x c ≤ at
        go zero s = omega arith
        go (suc c) s = occurrence_rises x (2 * suc c) (2 * count x (take (h + 1) w)) w (omega arith) s enough

    -- and of any other letter both ask for the same: the greater of a letter's position and this one is the same for both
    asked_more : (d : ℕ) → max (asked_by w (h + 1) d) at ≡ max (asked_by w h d) at
    asked_more d =
        ⊎_elim (λ (e : eqb x d ≡ true). rw (← eqb-true x d e) (omega (arith, asked_here, asked_before)))
        (λ (e : eqb x d ≡ false). ap (λ (c : ℕ). max (asked w d c) at) (count_elsewhere w h l d (eqb-false x d e)))
        (decided (eqb x d))

    all_asked_more : (ds : List ℕ) → max (largest (map (asked_by w (h + 1)) ds)) at ≡ max (largest (map (asked_by w h) ds)) at
    all_asked_more [] = refl
    all_asked_more (d ∷ ds) = max_shared _ _ at ∙ ap₂ max (asked_more d) (all_asked_more ds) ∙ sym (max_shared _ _ at)

    -- so the reach is the greater of that of the shorter head and the position
    pub reach_more : Memᴰ x letters → reach_of w (h + 1) ≡ max (reach_of w h) at
    unfolding reach_of
    reach_more m = omega (arith, all_asked_more letters, asked_here, le-largest (map (asked_by w (h + 1)) letters) (Memᴰ.map (asked_by w (h + 1)) m))
