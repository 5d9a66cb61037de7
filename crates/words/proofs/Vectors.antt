-- Laws of count vectors by their places: place j, from 0, is that of the letter `first_letter + j`.
use mathlib.Core.Path.{◌≡◌, refl, sym, ap, subst, ◌∙◌}
use mathlib.Core.Bool.{true, false}
use mathlib.Core.Logic.{◌≢◌, ⊎_elim}
use mathlib.Core.List.{List, [], ◌∷◌, ◌++◌, map, Memᴰ}
use Prim.Native.Nat.{ℕ, zero, suc, ◌+◌, ◌-◌, ◌≤◌, ◌<◌}
use native.Mathlib.Omega.{arith}
use native.Mathlib.Numerals.{add-one}
use lib.ListN.{length, take, get_or, set, length-map, length-set, length-take}
use lib.Seq.{ext_get_or, take-suc, take_all, get_or-set_same, get_or-set_other}
use lib.Dec.{T, eqb}
use borrow.Author.Tests.{eqb-true, eqb-false}
use Rattle.abelian.specs.Lists.{one, up_from}
use Rattle.abelian.specs.Words.{alphabet_size, first_letter, letters, of_letters, count, vector}
use Rattle.abelian.proofs.Tests.{decided}
use Rattle.abelian.proofs.Lists.{mem-up_from, up_from-mem, length-up_from}
use Rattle.abelian.proofs.Counts.{count-append, count-le-length, letter_bounds, letters_inside}

-- ---- letters and their places

-- the letter of each place is a letter
pub place_letter : (j : ℕ) → j < alphabet_size → Memᴰ (first_letter + j) letters
unfolding letters
place_letter j h = up_from-mem first_letter alphabet_size (first_letter + j) (omega arith) (omega arith)

-- each letter has a place
pub letter_place : {c : ℕ} → Memᴰ c letters → (j : ℕ) × (j < alphabet_size) × (c ≡ first_letter + j)
unfolding letters
letter_place {c} m =
    let h : (first_letter ≤ c) × (c < first_letter + alphabet_size) = mem-up_from first_letter alphabet_size m in
    (c - first_letter, omega arith, omega arith)

-- what holds of the letter of each place holds of each letter
pub places-letters : (P : ℕ → Type 0) → ((j : ℕ) → j < alphabet_size → P (first_letter + j)) → (c : ℕ) → Memᴰ c letters → P c
places-letters P h c m =
    let p : (j : ℕ) × (j < alphabet_size) × (c ≡ first_letter + j) = letter_place m in
    subst P (sym p.2) (h p.0 p.1)

-- ---- a vector's places

-- place j of the list that f makes of the numbers from a on
pub map-up_from_at : {A : Type 0} (f : ℕ → A) (a n j : ℕ) (d : A) → j < n → get_or (map f (up_from a n)) j d ≡ f (a + j)
map-up_from_at f a zero j d h = absurd (omega arith)
map-up_from_at f a (suc n) zero d h = ap f (omega arith)
map-up_from_at f a (suc n) (suc j) d h = map-up_from_at f (suc a) n j d (omega arith) ∙ ap f (omega arith)

module _ (u : List ℕ) where
  -- a vector has one place for each letter
  pub length-vector : length (vector u) ≡ alphabet_size
  unfolding vector letters
  length-vector = length-map letters (λ (c : ℕ). count c u) ∙ length-up_from first_letter alphabet_size

  -- place j has the count of its letter
  pub vector_at : (j : ℕ) → j < alphabet_size → get_or (vector u) j 0 ≡ count (first_letter + j) u
  unfolding vector letters
  vector_at j h = map-up_from_at (λ (c : ℕ). count c u) first_letter alphabet_size j 0 h

  -- a list of that length with these counts is the vector
  pub counts_are_vector : (l : List ℕ) → length l ≡ alphabet_size → ((j : ℕ) → j < alphabet_size → get_or l j 0 ≡ count (first_letter + j) u) → l ≡ vector u
  counts_are_vector l e h =
      ext_get_or 0 l (vector u) (e ∙ sym length-vector) (λ j m. let b : j < alphabet_size = rw e at m in h j b ∙ sym (vector_at j b))

-- ---- one letter more

-- what stands in a list at a place is in the list
at_mem : (w : List ℕ) (i : ℕ) → i < length w → Memᴰ (get_or w i 0) w
at_mem [] i h = absurd (omega arith)
at_mem (x ∷ w) zero h = Memᴰ.head refl
at_mem (x ∷ w) (suc i) h = Memᴰ.tail (at_mem w i (omega arith))

-- the byte at each position of a word of letters is a letter
pub letter_at : (w : List ℕ) (i : ℕ) → T (of_letters w) → i < length w → (first_letter ≤ get_or w i 0) × (get_or w i 0 < first_letter + alphabet_size)
letter_at w i t h = letter_bounds alphabet_size (get_or w i 0) (letters_inside w t (get_or w i 0) (at_mem w i h))

-- a letter behind the others is one more of that letter
count-more : (u : List ℕ) (x c : ℕ) → count c (u ++ (x ∷ [])) ≡ count c u + one (eqb x c)
unfolding count
count-more u x c = let h : count c (u ++ (x ∷ [])) ≡ count c u + count c (x ∷ []) = count-append c u (x ∷ []) in omega arith

-- a letter behind the others is one count more, at the letter's place
pub vector-more : (u : List ℕ) (x : ℕ) → first_letter ≤ x → x < first_letter + alphabet_size
    → set (vector u) (x - first_letter) (get_or (vector u) (x - first_letter) 0 + 1) ≡ vector (u ++ (x ∷ []))
vector-more u x low high =
    counts_are_vector (u ++ (x ∷ [])) (set (vector u) (x - first_letter) (get_or (vector u) (x - first_letter) 0 + 1)) (simp (length-set, length-vector)) (λ j b.
    let s : count (first_letter + j) (u ++ (x ∷ [])) ≡ count (first_letter + j) u + one (eqb x (first_letter + j)) = count-more u x (first_letter + j) in
    let v : get_or (vector u) j 0 ≡ count (first_letter + j) u = vector_at u j b in
    ⊎_elim
    (λ (e : eqb x (first_letter + j) ≡ true).
    let q : x ≡ first_letter + j = eqb-true x (first_letter + j) e in
    let o : one (eqb x (first_letter + j)) ≡ 1 = ap one e in
    let p : x - first_letter ≡ j = omega arith in
    let l : j < length (vector u) = omega (arith, length-vector u) in
    rw (p, get_or-set_same (vector u) j (get_or (vector u) j 0 + 1) 0 l) (omega arith))
    (λ (e : eqb x (first_letter + j) ≡ false).
    let q : x ≢ first_letter + j = eqb-false x (first_letter + j) e in
    let o : one (eqb x (first_letter + j)) ≡ 0 = ap one e in
    let p : j ≢ x - first_letter = λ r. q (omega arith) in
    rw (get_or-set_other (vector u) (x - first_letter) j (get_or (vector u) (x - first_letter) 0 + 1) 0 p) (omega arith))
    (decided (eqb x (first_letter + j))))

module _ (w : List ℕ) (i : ℕ) where
  -- a prefix that is one letter longer has one count more, at that letter's place
  pub vector-take-more : T (of_letters w) → i < length w
      → set (vector (take i w)) (get_or w i 0 - first_letter) (get_or (vector (take i w)) (get_or w i 0 - first_letter) 0 + 1) ≡ vector (take (i + 1) w)
  vector-take-more t h =
      let b : (first_letter ≤ get_or w i 0) × (get_or w i 0 < first_letter + alphabet_size) = letter_at w i t h in
      rw (add-one i, take-suc w i 0 h) (vector-more (take i w) (get_or w i 0) b.0 b.1)

  -- a prefix that has the whole word has its counts however much longer it is asked to be
  pub vector-take-all : length w ≤ i → vector (take i w) ≡ vector (take (i + 1) w)
  vector-take-all h = let h' : length w ≤ i + 1 = omega arith in rw (take_all i w h, take_all (i + 1) w h')

-- an entry of a prefix's vector is at most the prefix's length
pub entry_le : (w : List ℕ) (i j : ℕ) → j < alphabet_size → get_or (vector (take i w)) j 0 ≤ i
entry_le w i j b = omega (arith, vector_at (take i w) j b, count-le-length (first_letter + j) (take i w), length-take i w)
