-- The list of the words without an Abelian square is right: a word is in it exactly where it has n letters, each one of the first k, and no square; and the list is in
-- alphabetical order, so that it has each word once.
use Prim.Native.Nat.{ℕ, zero, suc, ◌+◌, ◌≤◌, ◌<◌}
use native.Mathlib.Omega.{arith}
use mathlib.Core.Path.{◌≡◌, refl, ap}
use mathlib.Core.Logic.{◌↔◌, inl, inr, ⊎_elim, ◌≢◌}
use mathlib.Core.List.{List, [], ◌∷◌, map, Memᴰ}
use lib.ListN.{length}
use lib.Dec.{T}
use Rattle.abelian.specs.Lists.{up_from, Ordered}
use Rattle.abelian.specs.Words.{first_letter}
use Rattle.abelian.specs.Patterns.{words_over, square_free, square_free_words}
use Rattle.abelian.proofs.Lists.{mem-each, each-mem, mem-keep, keep-mem, mem-up_from, up_from-mem, ordered_each, ordered_map, ordered_keep, ordered_up_from}
use Rattle.patterns.specs.SquareFree.{Over, SquareFree, WordBefore}
use Rattle.patterns.proofs.Beginnings.{square_free_exactly}

-- ---- the words over the first k letters

module _ (k : ℕ) where
  -- the words that begin with c: c before each word of one letter less
  abbrev beginning : ℕ → ℕ → List (List ℕ)
  beginning n c = map (λ (w : List ℕ). c ∷ w) (words_over k n)

  -- a word of the list has n letters, each one of the first k
  over_letters : (n : ℕ) (w : List ℕ) → Memᴰ w (words_over k n) → (length w ≡ n) × Over k w
  unfolding words_over
  over_letters zero w m = let e : w ≡ [] = mathlib.Core.List.Memᴰ.eq_of_singleton m in rw e (refl, λ c i. absurd (mathlib.Core.List.Memᴰ.not-nil i))
  over_letters (suc n) w m =
      let r : (c : ℕ) × Memᴰ c (up_from first_letter k) × Memᴰ w (beginning n c) = mem-each (beginning n) (up_from first_letter k) m in
      let s : (v : List ℕ) × Memᴰ v (words_over k n) × ((r.0 ∷ v) ≡ w) = mathlib.Core.List.Memᴰ.of_map (λ (v : List ℕ). r.0 ∷ v) (words_over k n) r.2 in
      let h : (length s.0 ≡ n) × Over k s.0 = over_letters n s.0 s.1 in
      rw (← s.2)
      (ap suc h.0, λ c i. ⊎_elim (λ (e : c ≡ r.0). rw e (mem-up_from first_letter k r.1)) (h.1 c) (mathlib.Core.List.Memᴰ.cases_cons i))

  -- a word of n letters, each one of the first k, is in the list
  letters_over : (n : ℕ) (w : List ℕ) → length w ≡ n → Over k w → Memᴰ w (words_over k n)
  unfolding words_over
  letters_over zero [] e h = mathlib.Core.List.Memᴰ.head refl
  letters_over zero (c ∷ w) e h = absurd (omega arith)
  letters_over (suc n) [] e h = absurd (omega arith)
  letters_over (suc n) (c ∷ w) e h =
      let l : (first_letter ≤ c) × (c < first_letter + k) = h c (mathlib.Core.List.Memᴰ.head refl) in
      each-mem (beginning n) (up_from first_letter k) (up_from-mem first_letter k c l.0 l.1)
      (mathlib.Core.List.Memᴰ.map (λ (v : List ℕ). c ∷ v) (letters_over n w (omega arith) (λ d i. h d (mathlib.Core.List.Memᴰ.tail i))))

-- the words over the first k letters of length n, and no other, are in words_over
pub words_over_exactly : (k n : ℕ) (w : List ℕ) → Memᴰ w (words_over k n) ↔ ((length w ≡ n) × Over k w)
words_over_exactly k n w = (over_letters k n w, λ h. letters_over k n w h.0 h.1)

-- C-20's list has a word exactly where this has n letters, each one of the first k, and no square
pub square_free_definition : (k n : ℕ) (w : List ℕ) → Memᴰ w (square_free_words k n) ↔ SquareFree k n w
unfolding square_free_words
square_free_definition k n w = (
  λ m.
      let r : Memᴰ w (words_over k n) × T (square_free w) = mem-keep square_free (words_over k n) m in
      let h : (length w ≡ n) × Over k w = over_letters k n w r.0 in
      record { long = h.0; over = h.1; free = (square_free_exactly w).0 r.1 },
  λ r. keep-mem square_free (words_over k n) (letters_over k n w r.long r.over) ((square_free_exactly w).1 r.free),
)

-- ---- alphabetical order

-- words with different first letters stand in the order of these
first_letter_first : (k n c d : ℕ) → c < d → (u v : List ℕ) → Memᴰ u (beginning k n c) → Memᴰ v (beginning k n d) → WordBefore u v
first_letter_first k n c d l u v i j =
    let r : (x : List ℕ) × Memᴰ x (words_over k n) × ((c ∷ x) ≡ u) = mathlib.Core.List.Memᴰ.of_map (λ (w : List ℕ). c ∷ w) (words_over k n) i in
    let s : (y : List ℕ) × Memᴰ y (words_over k n) × ((d ∷ y) ≡ v) = mathlib.Core.List.Memᴰ.of_map (λ (w : List ℕ). d ∷ w) (words_over k n) j in
    rw (← r.2, ← s.2) (inl l)

-- the words over the first k letters are in alphabetical order
pub words_rise : (k n : ℕ) → Ordered WordBefore (words_over k n)
unfolding words_over
words_rise k zero = (λ y m. absurd (mathlib.Core.List.Memᴰ.not-nil m), tt)
words_rise k (suc n) =
    ordered_each ◌<◌ WordBefore (beginning k n) (λ c. ordered_map WordBefore WordBefore (λ (w : List ℕ). c ∷ w) (λ u v b. inr (refl, b)) (words_over k n) (words_rise k n))
    (first_letter_first k n) (up_from first_letter k) (ordered_up_from first_letter k)

-- and so are those without a square
pub square_free_rises : (k n : ℕ) → Ordered WordBefore (square_free_words k n)
unfolding square_free_words
square_free_rises k n = ordered_keep WordBefore square_free (words_over k n) (words_rise k n)

-- a word does not stand before itself, so each word is in these lists once
pub before_differs : (u v : List ℕ) → WordBefore u v → u ≢ v
before_differs u [] b e = b
before_differs [] (y ∷ v) b e = let z : ◌≡◌ {A = ℕ} 0 1 = cc in omega arith
before_differs (x ∷ u) (y ∷ v) b e = ⊎_elim (λ (l : x < y). let h : x ≡ y = cc in omega arith) (λ (r : (x ≡ y) × WordBefore u v). before_differs u v r.1 (cc)) b
