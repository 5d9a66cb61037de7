-- Laws of the letters of a word that equal the first.
use mathlib.Core.Path.{◌≡◌}
use mathlib.Core.Bool.{Bool, true, false}
use mathlib.Core.List.{List}
use Prim.Native.Nat.{ℕ, ◌+◌, ◌≤◌, ◌<◌}
use native.Mathlib.Numerals.{add-one}
use lib.ListN.{length, drop, get_or, drop_of_length-le}
use lib.Seq.{drop-cons}
use lib.Dec.{eqb}
use Rattle.abelian.specs.Lists.{all}

-- the letters from i on are the first
abbrev pub equal_from : List ℕ → ℕ → Bool
equal_from w i = all (λ (x : ℕ). eqb x (get_or w 0 0)) (drop i w)

module _ (w : List ℕ) (i : ℕ) where
  -- the letter at i is another
  pub differs_here : i < length w → eqb (get_or w i 0) (get_or w 0 0) ≡ false → equal_from w i ≡ false
  differs_here h e = rw (drop-cons w i 0 h, e)

  -- the letter at i is the first
  pub equal_later : i < length w → eqb (get_or w i 0) (get_or w 0 0) ≡ true → equal_from w i ≡ equal_from w (i + 1)
  equal_later h e = rw (add-one i, drop-cons w i 0 h, e)

  -- every letter was passed
  pub all_passed : length w ≤ i → equal_from w i ≡ true
  all_passed h = rw (drop_of_length-le w h)
