-- Laws of the number of places at which two vectors differ, and of a vector with one letter more.
use mathlib.Core.Path.{◌≡◌, refl, sym, ◌∙◌}
use mathlib.Core.Bool.{Bool, true, false, not, ◌&&◌}
use mathlib.Core.Logic.{⊎_elim}
use mathlib.Core.List.{List, [], ◌∷◌, ◌++◌}
use Prim.Native.Nat.{ℕ, zero, suc, ◌+◌, ◌-◌, ◌≤◌, ◌<◌}
use native.Mathlib.Omega.{arith}
use lib.ListN.{length, take, drop, get_or, set}
use lib.Seq.{drop-cons}
use lib.Dec.{T, eqb}
use mir.Val.{bool_byte}
use borrow.Author.Tests.{eqb-true, eqb-false, eq-eqb, ne_eqb}
use Rattle.abelian.specs.Lists.{one, same}
use Rattle.abelian.specs.Words.{alphabet_size, first_letter, of_letters, vector}
use Rattle.abelian.proofs.Tests.{decided}
use Rattle.abelian.proofs.Counts.{count-append, count-le-length, counts_vector}
use Rattle.words.proofs.OneMore.{flag_or_not}
use Rattle.words.proofs.Vectors.{vector_at, letter_at, vector-more, vector-take-more}
use Rattle.covers.specs.Differing.{differing, count_of, one_more}

-- ---- the number of places

-- 1 where two numbers differ, and 0 where they are equal
abbrev unlike : ℕ → ℕ → ℕ
unlike a b = one (not (eqb a b))

unlike_sym : (a b : ℕ) → unlike a b ≡ unlike b a
unlike_sym a b =
    ⊎_elim (λ (e : eqb a b ≡ true). rw (e, eq-eqb b a (sym (eqb-true a b e))) refl)
    (λ (e : eqb a b ≡ false). rw (e, ne_eqb b a (λ q. eqb-false a b e (sym q))) refl) (decided (eqb a b))

-- two vectors differ at as many places whichever comes first
pub differing_sym : (u v : List ℕ) → differing u v ≡ differing v u
unfolding differing
differing_sym [] [] = refl
differing_sym [] (b ∷ v) = refl
differing_sym (a ∷ u) [] = refl
differing_sym (a ∷ u) (b ∷ v) = omega (arith, unlike_sym a b, differing_sym u v)

-- equal vectors differ from equal vectors at as many places
pub differing_equal : {u v x y : List ℕ} → u ≡ x → v ≡ y → differing u v ≡ differing x y
differing_equal p q = cc

-- they differ at no more places than there are
pub differing-le-length : (u v : List ℕ) → differing u v ≤ length u
unfolding differing
differing-le-length [] v = omega arith
differing-le-length (a ∷ u) [] = omega arith
differing-le-length (a ∷ u) (b ∷ v) = omega (arith, unlike_le (eqb a b), differing-le-length u v)
  where
    unlike_le : (t : Bool) → one (not t) ≤ 1
    unlike_le true = omega arith
    unlike_le false = omega arith

-- they differ at no place exactly where they are the same
pub differing-none : (u v : List ℕ) → length u ≡ length v → eqb (differing u v) 0 ≡ same u v
unfolding differing
differing-none [] [] e = refl
differing-none [] (b ∷ v) e = absurd (omega arith)
differing-none (a ∷ u) [] e = absurd (omega arith)
differing-none (a ∷ u) (b ∷ v) e = go (eqb a b) (differing-none u v (omega arith))
  where
    go : (t : Bool) → eqb (differing u v) 0 ≡ same u v → eqb (one (not t) + differing u v) 0 ≡ (t && same u v)
    go true h = let z : 0 + differing u v ≡ differing u v = omega arith in rw z h
    go false h = ne_eqb (1 + differing u v) 0 (λ z. omega arith)

-- a new count at one place changes the number by what changes at that place
differing-set : (u v : List ℕ) (j x : ℕ) → j < length u → j < length v
    → differing (set u j x) v + unlike (get_or u j 0) (get_or v j 0) ≡ differing u v + unlike x (get_or v j 0)
unfolding differing
differing-set [] v j x h l = absurd (omega arith)
differing-set (a ∷ u) [] j x h l = absurd (omega arith)
differing-set (a ∷ u) (b ∷ v) zero x h l = omega arith
differing-set (a ∷ u) (b ∷ v) (suc j) x h l = omega (arith, differing-set u v j x (omega arith) (omega arith))

-- ---- one letter more

-- One more of a letter in the first vector, where both have a place for it: the number falls by 1 where the letter's counts have become equal, and rises by 1 where they were
-- equal before.
pub differing-one_more : (u v : List ℕ) (x : ℕ) → x - first_letter < length u → x - first_letter < length v
    → differing (one_more u x) v + bool_byte (eqb (count_of u x + 1) (count_of v x)) ≡ differing u v + bool_byte (eqb (count_of u x) (count_of v x))
unfolding one_more
differing-one_more u v x h l =
    omega
    (arith, differing-set u v (x - first_letter) (count_of u x + 1) h l, flag_or_not (eqb (count_of u x) (count_of v x)), flag_or_not (eqb (count_of u x + 1) (count_of v x)))

-- a letter in front of the others is one count more
pub vector_in_front : (u : List ℕ) (x : ℕ) → first_letter ≤ x → x < first_letter + alphabet_size → one_more (vector u) x ≡ vector (x ∷ u)
unfolding one_more
vector_in_front u x low high =
    vector-more u x low high
    ∙ counts_vector (u ++ (x ∷ [])) (x ∷ u) (λ c m. omega (arith, count-append c u (x ∷ []), count-append c (x ∷ []) u))

-- a vector has no count above the length
pub count_of-le-length : (u : List ℕ) (x : ℕ) → first_letter ≤ x → x < first_letter + alphabet_size → count_of (vector u) x ≤ length u
count_of-le-length u x low high = omega (arith, vector_at u (x - first_letter) (omega arith), count-le-length (first_letter + (x - first_letter)) u)

module _ (w : List ℕ) (t : T (of_letters w)) where
  -- the vector of the first letters, with one more
  pub vector_first_more : (i : ℕ) {u : List ℕ} → i < length w → u ≡ vector (take i w) → one_more u (get_or w i 0) ≡ vector (take (i + 1) w)
  unfolding one_more
  vector_first_more i h e = rw e (vector-take-more w i t h)

  -- the vector of the last letters, with one more
  pub vector_last_more : (i : ℕ) {u : List ℕ} → 1 ≤ i → i ≤ length w → u ≡ vector (drop i w) → one_more u (get_or w (i - 1) 0) ≡ vector (drop (i - 1) w)
  vector_last_more i l h e =
      let b : (first_letter ≤ get_or w (i - 1) 0) × (get_or w (i - 1) 0 < first_letter + alphabet_size) = letter_at w (i - 1) t (omega arith) in
      let s : suc (i - 1) ≡ i = omega arith in
      rw (e, drop-cons w (i - 1) 0 (omega arith), s) (vector_in_front (drop i w) (get_or w (i - 1) 0) b.0 b.1)
