-- Laws of lists that are kept, tried and measured, one element after the other.
use mathlib.Core.Path.{◌≡◌, refl, ap, ◌∙◌}
use mathlib.Core.Bool.{Bool, true, false, ◌&&◌}
use mathlib.Core.List.{List, [], ◌∷◌, ◌++◌, append-nil}
use Prim.Native.Nat.{ℕ, suc, ◌+◌, ◌-◌, max}
use native.Mathlib.Omega.{arith}
use Rattle.abelian.specs.Lists.{up_from, keep, all, largest}
use Rattle.abelian.specs.FullPeriods.{distances}
use Rattle.abelian.proofs.Lists.{up_from_last, keep_append}

module _ {A : Type 0} (f : A → Bool) where
  -- two lists pass where both pass
  pub all_append : (xs ys : List A) → all f (xs ++ ys) ≡ (all f xs && all f ys)
  all_append [] ys = refl
  all_append (x ∷ xs) ys = rw (all_append xs ys) (go (f x))
    where
      go : (b : Bool) → (b && (all f xs && all f ys)) ≡ ((b && all f xs) && all f ys)
      go true = refl
      go false = refl

module _ (f : ℕ → Bool) (a n : ℕ) where
  -- one number more that passes is kept behind the others
  pub keep-more : f (a + n) ≡ true → keep f (up_from a (suc n)) ≡ keep f (up_from a n) ++ ((a + n) ∷ [])
  keep-more e = ap (keep f) (up_from_last a n) ∙ keep_append f (up_from a n) ((a + n) ∷ []) ∙ rw e

  -- one that fails is not
  pub keep_no_more : f (a + n) ≡ false → keep f (up_from a (suc n)) ≡ keep f (up_from a n)
  keep_no_more e = ap (keep f) (up_from_last a n) ∙ keep_append f (up_from a n) ((a + n) ∷ []) ∙ rw e (append-nil (keep f (up_from a n)))

  -- one number more is tried behind the others
  pub all_more : all f (up_from a (suc n)) ≡ (all f (up_from a n) && f (a + n))
  all_more = ap (all f) (up_from_last a n) ∙ all_append f (up_from a n) ((a + n) ∷ []) ∙ ap (λ (b : Bool). all f (up_from a n) && b) (go (f (a + n)))
    where
      go : (b : Bool) → (b && true) ≡ b
      go true = refl
      go false = refl

-- ---- the largest number, and distances between neighbours

-- the largest with one number more
pub largest-more : (xs : List ℕ) (x : ℕ) → largest (xs ++ (x ∷ [])) ≡ max (largest xs) x
largest-more [] x = omega arith
largest-more (y ∷ xs) x = let e : largest (xs ++ (x ∷ [])) ≡ max (largest xs) x = largest-more xs x in omega arith

-- the last number of a list, or x where there is none
unfoldable pub last_of : ℕ → List ℕ → ℕ
last_of x [] = x
last_of x (y ∷ ys) = last_of y ys

pub last_of_more : (x : ℕ) (ys : List ℕ) (z : ℕ) → last_of x (ys ++ (z ∷ [])) ≡ z
unfolding last_of
last_of_more x [] z = refl
last_of_more x (y ∷ ys) z = last_of_more y ys z

-- one number more behind the others is one distance more, from the last of them
pub distances-more : (x : ℕ) (ys : List ℕ) (z : ℕ) → distances x (ys ++ (z ∷ [])) ≡ distances x ys ++ ((z - last_of x ys) ∷ [])
unfolding distances last_of
distances-more x [] z = refl
distances-more x (y ∷ ys) z = ap (λ (l : List ℕ). (y - x) ∷ l) (distances-more y ys z)
