-- Laws of the first position that holds no letter, found byte by byte.
use mathlib.Core.Path.{◌≡◌, refl}
use mathlib.Core.Bool.{true, false, ◌&&◌}
use mathlib.Core.List.{List, [], ◌∷◌, ◌++◌}
use mathlib.Core.List.Memᴰ as Memᴰ
use Prim.Native.Nat.{ℕ, suc, ◌+◌, ◌≤◌, ◌<◌}
use native.Mathlib.Numerals.{add-one}
use lib.ListN.{length, take, drop, get_or, drop_of_length-le}
use lib.Seq.{take-suc, drop-cons}
use Rattle.abelian.specs.Words.{alphabet_size, is_letter, outside_from, of_letters}
use Rattle.abelian.proofs.Tests.{iff_equal, both, left, right}
use Rattle.abelian.proofs.Counts.{letters_inside, letters_left, letters_last}

module _ (w : List ℕ) (i : ℕ) where
  -- one byte more is a letter, or not
  pub letters_more : i < length w → (of_letters (take i w) && is_letter alphabet_size (get_or w i 0)) ≡ of_letters (take (i + 1) w)
  letters_more h =
      let u : List ℕ = take i w in
      let x : ℕ = get_or w i 0 in
      rw (add-one i, take-suc w i 0 h)
      (iff_equal (of_letters u && is_letter alphabet_size x) (of_letters (u ++ (x ∷ [])))
      (λ t. letters_last u x (left (of_letters u) (is_letter alphabet_size x) t) (right (of_letters u) (is_letter alphabet_size x) t))
      (λ t. both (of_letters u) (is_letter alphabet_size x) (letters_left u (x ∷ []) t) (letters_inside (u ++ (x ∷ [])) t x (Memᴰ.append_right u (Memᴰ.head refl)))))

  -- the byte at i is no letter
  pub outside_here : i < length w → is_letter alphabet_size (get_or w i 0) ≡ false → outside_from alphabet_size (suc i) (drop i w) ≡ suc i
  unfolding outside_from
  outside_here h e = rw (drop-cons w i 0 h, e)

  -- the byte at i is a letter
  pub outside_later : i < length w → is_letter alphabet_size (get_or w i 0) ≡ true → outside_from alphabet_size (suc i) (drop i w) ≡ outside_from alphabet_size (suc (i + 1)) (drop (i + 1) w)
  unfolding outside_from
  outside_later h e = rw (add-one i, drop-cons w i 0 h, e)

  -- every byte was passed
  pub outside_none : length w ≤ i → outside_from alphabet_size (suc i) (drop i w) ≡ 0
  unfolding outside_from
  outside_none h = rw (drop_of_length-le w h)
