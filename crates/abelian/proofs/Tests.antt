-- Laws of tests: a test that passes is true, both parts of a conjunction pass, and what a test picks is one of two.
use mathlib.Core.Path.{◌≡◌, refl, sym, subst}
use mathlib.Core.Bool.{Bool, true, false, ◌&&◌}
use mathlib.Core.Logic.{◌⊎◌, inl, inr}
use lib.Dec.{T}
use Rattle.abelian.specs.Lists.{pick}

pub is_true : (b : Bool) → T b → b ≡ true
is_true true t = refl
is_true false t = absurd t

pub is_false : (b : Bool) → (T b → ⊥) → b ≡ false
is_false true f = absurd (f tt)
is_false false f = refl

pub passes : (b : Bool) → b ≡ true → T b
passes b e = subst T (sym e) tt

pub fails : (b : Bool) → b ≡ false → T b → ⊥
fails b e t = subst T e t

-- a test passes or fails
pub decided : (b : Bool) → (b ≡ true) ⊎ (b ≡ false)
decided true = inl refl
decided false = inr refl

-- what holds of two holds of the one that is picked
pub picked : {A : Type 0} (P : A → Type 0) (b : Bool) {x y : A} → P x → P y → P (pick b x y)
picked P true p q = p
picked P false p q = q

pub both : (a b : Bool) → T a → T b → T (a && b)
both true b s t = t
both false b s t = s

pub left : (a b : Bool) → T (a && b) → T a
left true b t = tt
left false b t = t

pub right : (a b : Bool) → T (a && b) → T b
right true b t = t
right false b t = absurd t

-- two tests that pass in the same cases are equal
pub iff_equal : (a b : Bool) → (T a → T b) → (T b → T a) → a ≡ b
iff_equal true true f g = refl
iff_equal true false f g = absurd (f tt)
iff_equal false true f g = absurd (g tt)
iff_equal false false f g = refl
