-- Squares of a word and of its beginnings: a beginning's squares are the word's, and a letter behind a square-free word leaves it square-free exactly where no square ends with it.
use mathlib.Core.Path.{◌≡◌, refl, sym, ap, ◌∙◌}
use mathlib.Core.Logic.{◌↔◌, ⊎_elim}
use mathlib.Core.List.Memᴰ
use mathlib.Core.List.{List, [], ◌∷◌, ◌++◌, Memᴰ}
use Prim.Native.Nat.{ℕ, suc, ◌+◌, ◌-◌, ◌*◌, ◌≤◌}
use native.Mathlib.Omega.{arith}
use lib.ListN.{length, take, drop, length-append, length-drop}
use lib.Seq.{take-append-le, drop-append-le}
use lib.Dec.{T, eqb, eqb→eq}
use Rattle.abelian.specs.Words.{vector, part}
use Rattle.abelian.specs.Output.{square_word}
use Rattle.abelian.specs.Squares.{square_words}
use Rattle.abelian.specs.Patterns.{square_free}
use Rattle.abelian.proofs.Lists.{below_or_not}
use Rattle.squares.specs.Squares.{AbelianSquare}
use Rattle.squares.proofs.Squares.{word_square, square_word_lem}

-- ---- what the test says

-- a list of no elements has none
none_in : (l : List ℕ) {x : ℕ} → length l ≡ 0 → Memᴰ x l → ⊥
none_in [] e m = Memᴰ.not-nil m
none_in (y ∷ l) e m = omega arith

-- and one that has none has length 0
empty : (l : List ℕ) → ((x : ℕ) → Memᴰ x l → ⊥) → T (eqb (length l) 0)
empty [] h = tt
empty (x ∷ l) h = absurd (h x (Memᴰ.head refl))

-- a word passes exactly where it has no square, of no half length and at no start
pub square_free_exactly : (w : List ℕ) → T (square_free w) ↔ ((q i : ℕ) → AbelianSquare w q i → ⊥)
unfolding square_free
square_free_exactly w = (
  λ t q i s. none_in (square_words w) (eqb→eq (length (square_words w)) 0 t) (square_word_lem w s),
  λ h. empty (square_words w) (λ x m. let r : (q : ℕ) × (i : ℕ) × AbelianSquare w q i × (square_word q i ≡ x) = word_square w m in h r.0 r.1 r.2),
)

-- the word of no letters has none
pub empty_free : T (square_free [])
empty_free = (square_free_exactly []).1 (λ q i s. omega (arith, s.half, s.start, s.within))

-- ---- squares of beginnings

module _ (u v : List ℕ) where
  -- a stretch that lies in a beginning is one of the word
  pub part_beginning : (from size : ℕ) → from + size ≤ length u → part (u ++ v) from size ≡ part u from size
  part_beginning from size h =
      let l : size ≤ length (drop from u) = omega (arith, length-drop from u) in
      ap (take size) (drop-append-le from u v (omega arith)) ∙ take-append-le size (drop from u) v l

  module _ (q i : ℕ) where
    -- the vectors of a square's halves, in a beginning in which it lies
    first_half_lem : 1 ≤ i → i + 2 * q - 1 ≤ length u → vector (part (u ++ v) (i - 1) q) ≡ vector (part u (i - 1) q)
    first_half_lem l h = ap vector (part_beginning (i - 1) q (omega arith))

    second_half_lem : 1 ≤ i → i + 2 * q - 1 ≤ length u → vector (part (u ++ v) (i - 1 + q) q) ≡ vector (part u (i - 1 + q) q)
    second_half_lem l h = ap vector (part_beginning (i - 1 + q) q (omega arith))

    -- a square of a beginning is one of the word
    pub square_later : AbelianSquare u q i → AbelianSquare (u ++ v) q i
    square_later s =
        record {
          half = s.half;
          start = s.start;
          within = omega (arith, s.within, length-append u v);
          alike = first_half_lem s.start s.within ∙ s.alike ∙ sym (second_half_lem s.start s.within);
        }

    -- a square of the word that lies in a beginning is one of the beginning
    pub square_before : i + 2 * q - 1 ≤ length u → AbelianSquare (u ++ v) q i → AbelianSquare u q i
    square_before h s =
        record { half = s.half; start = s.start; within = h; alike = sym (first_half_lem s.start h) ∙ s.alike ∙ second_half_lem s.start h }

  -- a beginning of a square-free word is square-free
  pub beginning_free : T (square_free (u ++ v)) → T (square_free u)
  beginning_free t = (square_free_exactly u).1 (λ q i s. (square_free_exactly (u ++ v)).0 t q i (square_later q i s))

-- ---- one letter more

-- a square of half length q ends where the word ends
abbrev pub SquareAtEnd : List ℕ → ℕ → Type 0
SquareAtEnd w q = AbelianSquare w q (suc (length w) - 2 * q)

-- a letter behind a square-free word leaves it square-free exactly where no square ends with the letter
pub letter_free : (w : List ℕ) (c : ℕ) → T (square_free w) → ((q : ℕ) → SquareAtEnd (w ++ (c ∷ [])) q → ⊥) ↔ T (square_free (w ++ (c ∷ [])))
letter_free w c t = (λ h. (square_free_exactly x).1 (none h), λ f q. (square_free_exactly x).0 f q (suc (length x) - 2 * q))
  where
    x : List ℕ
    x = w ++ (c ∷ [])

    none : ((q : ℕ) → SquareAtEnd x q → ⊥) → (q i : ℕ) → AbelianSquare x q i → ⊥
    none h q i s =
        ⊎_elim (λ l. let e : i ≡ suc (length x) - 2 * q = omega (arith, s.within, length-append w (c ∷ [])) in h q (rw e at s))
        (λ l. (square_free_exactly w).0 t q i (square_before w (c ∷ []) q i l s)) (below_or_not (length w) (i + 2 * q - 1))
