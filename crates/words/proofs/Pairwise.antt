-- Laws of two vectors, place by place: none above, the same, and the difference.
use mathlib.Core.Path.{◌≡◌, refl, sym, ap, ◌∙◌}
use mathlib.Core.Bool.{Bool, true, false, not, ◌&&◌, ◌||◌, and_assoc, and-true}
use mathlib.Core.Logic.{⊎_elim}
use mathlib.Core.List.{List, [], ◌∷◌, ◌++◌}
use Prim.Native.Nat.{ℕ, zero, suc, ◌+◌, ◌-◌, ◌≤◌, ◌<◌}
use native.Mathlib.Numerals.{add-one}
use native.Mathlib.Omega.{arith}
use lib.ListN.{length, take, get_or, replicate}
use lib.Seq.{take_all}
use lib.Dec.{T, leb, ltb, leb→le}
use borrow.Author.Tests.{leb-true, leb-false, lt-ltb, le-ltb}
use Rattle.abelian.specs.Words.{none_above}
use Rattle.abelian.proofs.Tests.{left, right, decided}
use Rattle.words.specs.Differences.{minus}

-- what fails in one of two parts
not_and : (a b : Bool) → not (a && b) ≡ (not a || not b)
not_and true b = refl
not_and false b = refl

-- above is not at most
pub above_not_le : (a b : ℕ) → ltb b a ≡ not (leb a b)
above_not_le a b =
    ⊎_elim (λ (l : leb a b ≡ true). rw l (le-ltb b a (leb-true a b l))) (λ (g : leb a b ≡ false). rw g (lt-ltb b a (leb-false a b g))) (decided (leb a b))

-- a test that goes through two lists place by place, and whether it has failed at some place so far
module _ (test : ℕ → ℕ → Bool) (through : List ℕ → List ℕ → Bool) (none : through [] [] ≡ true)
    (cons : (a b : ℕ) (u v : List ℕ) → through (a ∷ u) (b ∷ v) ≡ (test a b && through u v)) where
  through_more : (u v : List ℕ) (j : ℕ) → j < length u → j < length v → through (take (suc j) u) (take (suc j) v) ≡ (through (take j u) (take j v) && test (get_or u j 0) (get_or v j 0))
  through_more [] v j l m = absurd (omega arith)
  through_more (a ∷ u) [] j l m = absurd (omega arith)
  through_more (a ∷ u) (b ∷ v) zero l m = rw (cons a b [] [], none) (and-true (test a b))
  through_more (a ∷ u) (b ∷ v) (suc j) l m =
      rw (cons, cons, through_more u v j (omega arith) (omega arith)) (sym (and_assoc (test a b) (through (take j u) (take j v)) (test (get_or u j 0) (get_or v j 0))))

  -- zeros behind both lists change nothing, where the test passes two zeros
  zeros_pass : test 0 0 ≡ true → (k : ℕ) → through (replicate k 0) (replicate k 0) ≡ true
  zeros_pass z zero = none
  zeros_pass z (suc k) = rw (cons, z, zeros_pass z k)

  pub through_zeros : test 0 0 ≡ true → (k : ℕ) (u v : List ℕ) → length u ≡ length v → through (u ++ replicate k 0) (v ++ replicate k 0) ≡ through u v
  through_zeros z k [] [] e = zeros_pass z k ∙ sym none
  through_zeros z k [] (b ∷ v) e = absurd (omega arith)
  through_zeros z k (a ∷ u) [] e = absurd (omega arith)
  through_zeros z k (a ∷ u) (b ∷ v) e = rw (cons, cons, through_zeros z k u v (omega arith))

  module _ (u v : List ℕ) (found : Bool) (j : ℕ) (e : found ≡ not (through (take j u) (take j v))) where
    -- one place more
    pub fails_more : (fails : Bool) → j < length u → j < length v → fails ≡ not (test (get_or u j 0) (get_or v j 0)) → (found || fails) ≡ not (through (take (j + 1) u) (take (j + 1) v))
    fails_more fails l m f = rw (add-one, through_more u v j l m, f, e) (sym (not_and (through (take j u) (take j v)) (test (get_or u j 0) (get_or v j 0))))

    -- all places
    pub fails_all : length u ≤ j → length v ≤ j → found ≡ not (through u v)
    fails_all l m = rw (take_all j u l, take_all j v m) at e

-- where no count is above, that at each place is not
pub none_above_at : (u v : List ℕ) → T (none_above u v) → (j : ℕ) → j < length u → get_or u j 0 ≤ get_or v j 0
unfolding none_above
none_above_at [] v t j l = absurd (omega arith)
none_above_at (a ∷ u) [] t j l = absurd t
none_above_at (a ∷ u) (b ∷ v) t zero l = leb→le a b (left (leb a b) (none_above u v) t)
none_above_at (a ∷ u) (b ∷ v) t (suc j) l = none_above_at u v (right (leb a b) (none_above u v) t) j (omega arith)

-- the difference at a place
pub minus_at : (u v : List ℕ) (j : ℕ) → length u ≡ length v → get_or (minus u v) j 0 ≡ get_or u j 0 - get_or v j 0
unfolding minus
minus_at [] [] j e = refl
minus_at [] (b ∷ v) j e = absurd (omega arith)
minus_at (a ∷ u) [] j e = absurd (omega arith)
minus_at (a ∷ u) (b ∷ v) zero e = refl
minus_at (a ∷ u) (b ∷ v) (suc j) e = minus_at u v j (omega arith)

pub length-minus : (u v : List ℕ) → length u ≡ length v → length (minus u v) ≡ length u
unfolding minus
length-minus [] v e = refl
length-minus (a ∷ u) [] e = absurd (omega arith)
length-minus (a ∷ u) (b ∷ v) e = ap suc (length-minus u v (omega arith))
