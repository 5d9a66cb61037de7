-- The few functions on lists and tests that the definitions are made of.
use Rattle.std.specs.Prelude.{ℕ, zero, suc, ◌+◌, max, Bool, true, false, ◌&&◌, eqb, Option, Some, None}
use mathlib.Core.List.{List, [], ◌∷◌, ◌++◌, Memᴰ}

-- the first of two where the test passes, and the second where it fails
abbrev pub pick {ℓ} : {A : Type ℓ} → Bool → A → A → A
pick true a b = a
pick false a b = b

-- 1 where the test passes, and 0 where it fails
abbrev pub one : Bool → ℕ
one true = 1
one false = 0

-- a number that says by 0 that there is none
abbrev pub nonzero : ℕ → Option ℕ
nonzero zero = None
nonzero (suc k) = Some (suc k)

-- the n numbers from a on: a, a + 1, ..
abbrev pub up_from : ℕ → ℕ → List ℕ
up_from a zero = []
up_from a (suc n) = a ∷ up_from (suc a) n

-- the numbers' sum
abbrev pub sum : List ℕ → ℕ
sum [] = 0
sum (x ∷ xs) = x + sum xs

-- the largest of the numbers, or 0 where there is none
abbrev pub largest : List ℕ → ℕ
largest [] = 0
largest (x ∷ xs) = max x (largest xs)

-- the first number that passes the test, or 0 where none does
abbrev pub first_passing : (ℕ → Bool) → List ℕ → ℕ
first_passing f [] = 0
first_passing f (x ∷ xs) = pick (f x) x (first_passing f xs)

-- two lists of numbers have the same numbers in the same order
abbrev pub same : List ℕ → List ℕ → Bool
same [] [] = true
same [] (y ∷ ys) = false
same (x ∷ xs) [] = false
same (x ∷ xs) (y ∷ ys) = eqb x y && same xs ys

module _ {A : Type 0} where
  -- x in front of the list where the test passes, and the list alone where it fails
  abbrev pub put : Bool → A → List A → List A
  put true x xs = x ∷ xs
  put false x xs = xs

  -- the elements that pass the test, in their order
  abbrev pub keep : (A → Bool) → List A → List A
  keep f [] = []
  keep f (x ∷ xs) = put (f x) x (keep f xs)

  -- every element passes the test
  abbrev pub all : (A → Bool) → List A → Bool
  all f [] = true
  all f (x ∷ xs) = f x && all f xs

  -- the lists' elements, one list behind the other
  abbrev pub join : List (List A) → List A
  join [] = []
  join (x ∷ xs) = x ++ join xs

module _ {A B : Type 0} where
  -- the lists that f gives for the elements, one behind the other
  abbrev pub each : List A → (A → List B) → List B
  each [] f = []
  each (x ∷ xs) f = f x ++ each xs f

module _ {A : Type 0} (R : A → A → Type 0) where
  -- each element of the list stands in the relation R to all behind it
  abbrev pub Ordered : List A → Type 0
  Ordered [] = Unit {0}
  Ordered (x ∷ xs) = ((y : A) → Memᴰ y xs → R x y) × Ordered xs
