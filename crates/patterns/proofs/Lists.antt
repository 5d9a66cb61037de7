-- General laws of the lists that a function gives for the elements of a list, one behind the other.
use mathlib.Core.Path.{◌≡◌, refl, ap, ap₂, ◌∙◌}
use mathlib.Core.Bool.{Bool}
use mathlib.Core.List.{List, [], ◌∷◌, ◌++◌, map, map-append, Memᴰ}
use Prim.Native.Nat.{ℕ, zero, suc, ◌+◌, ◌*◌, ◌≤◌}
use native.Mathlib.Nat.{mul-suc}
use native.Mathlib.Omega.{arith}
use lib.ListN.{length, length-append}
use Rattle.abelian.specs.Lists.{up_from, keep, each}
use Rattle.abelian.proofs.Lists.{keep_append}

module _ {A B : Type 0} where
  -- lists of at most b elements each
  pub length-each-le : (f : A → List B) (b : ℕ) → ((a : A) → length (f a) ≤ b) → (xs : List A) → length (each xs f) ≤ b * length xs
  length-each-le f b h [] = omega arith
  length-each-le f b h (x ∷ xs) = omega (arith, length-append (f x) (each xs f), h x, length-each-le f b h xs, mul-suc b (length xs))

  -- functions that agree on a list give the same lists
  pub each_agree : (f g : A → List B) (xs : List A) → ((a : A) → Memᴰ a xs → f a ≡ g a) → each xs f ≡ each xs g
  each_agree f g [] h = refl
  each_agree f g (x ∷ xs) h = ap₂ (λ (l r : List B). l ++ r) (h x (Memᴰ.head refl)) (each_agree f g xs (λ a m. h a (Memᴰ.tail m)))

  -- what passes a test, list by list
  pub keep-each : (t : B → Bool) (f : A → List B) (xs : List A) → keep t (each xs f) ≡ each xs (λ (x : A). keep t (f x))
  keep-each t f [] = refl
  keep-each t f (x ∷ xs) = keep_append t (f x) (each xs f) ∙ ap (λ (l : List B). keep t (f x) ++ l) (keep-each t f xs)

-- what g gives for the elements, list by list
pub map_each : {A B C : Type 0} (g : B → C) (f : A → List B) (xs : List A) → map g (each xs f) ≡ each xs (λ (x : A). map g (f x))
map_each g f [] = refl
map_each {C} g f (x ∷ xs) = map-append g (f x) (each xs f) ∙ ap (λ (l : List C). map g (f x) ++ l) (map_each g f xs)

-- the numbers from b + a on are those from a on, each with b added
pub each_shift : {B : Type 0} (f : ℕ → List B) (b a n : ℕ) → each (up_from (b + a) n) f ≡ each (up_from a n) (λ (c : ℕ). f (b + c))
each_shift f b a zero = refl
each_shift {B} f b a (suc n) =
    let e : suc (b + a) ≡ b + suc a = omega arith in
    ap (λ (l : List B). f (b + a) ++ l) (rw e (each_shift f b (suc a) n))
