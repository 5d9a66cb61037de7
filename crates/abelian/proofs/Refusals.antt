-- Laws of refusals.
use mathlib.Core.Path.{◌≡◌, refl, sym}
use mathlib.Core.Bool.{Bool, true, false}
use mathlib.Core.Option.{none, some}
use mathlib.Core.List.{List, [], ◌∷◌, ◌++◌}
use Prim.Native.Nat.{ℕ, ◌≤◌}
use native.Mathlib.Omega.{arith}
use Rattle.abelian.specs.Lists.{pick}
use Rattle.abelian.specs.Refusals.{number_of, Condition, first_holding}
use Rattle.abelian.specs.declared.Refusal.{Refusal}
use Rattle.abelian.specs.declared.Refusal.TheVariants.{TooLong, NotALetter, SliceTooShort, TrackerFull, TrackerEmpty, TrackerDamaged, PairOutOfRange, PatternEmpty, RecordTooLong, OneLetter, SquareFreeAlphabet, SquareFreeLength}

-- a refusal is not the want of one
pub some-none : {r : Refusal} → some r ≡ none → ⊥
some-none e = let z : ◌≡◌ {A = ℕ} 0 1 = cc in omega arith

-- its number is not that of acceptance
pub refusal_number : (r : Refusal) → 1 ≤ number_of r
refusal_number TooLong = omega arith
refusal_number (NotALetter position) = omega arith
refusal_number (SliceTooShort needed) = omega arith
refusal_number TrackerFull = omega arith
refusal_number TrackerEmpty = omega arith
refusal_number TrackerDamaged = omega arith
refusal_number PairOutOfRange = omega arith
refusal_number PatternEmpty = omega arith
refusal_number RecordTooLong = omega arith
refusal_number OneLetter = omega arith
refusal_number SquareFreeAlphabet = omega arith
refusal_number SquareFreeLength = omega arith

-- ---- conditions in their order

-- where no condition holds, the first does not, and none of the others does
pub none_holds : (c : Condition) (cs : List Condition) → first_holding (c ∷ cs) ≡ none → (c.holds ≡ false) × (first_holding cs ≡ none)
unfolding first_holding
none_holds c cs e = go c.holds e
  where
    go : (b : Bool) → pick b (some c.refusal) (first_holding cs) ≡ none → (b ≡ false) × (first_holding cs ≡ none)
    go true q = absurd (some-none q)
    go false q = (refl, q)

-- the first refusal is given whatever conditions are read behind it
pub holding_first : (cs ds : List Condition) {r : Refusal} → first_holding cs ≡ some r → first_holding (cs ++ ds) ≡ some r
unfolding first_holding
holding_first [] ds e = absurd (some-none (sym e))
holding_first (c ∷ cs) ds {r} e = go c.holds (holding_first cs ds) e
  where
    go : (b : Bool) → (first_holding cs ≡ some r → first_holding (cs ++ ds) ≡ some r) → pick b (some c.refusal) (first_holding cs) ≡ some r → pick b (some c.refusal) (first_holding (cs ++ ds)) ≡ some r
    go true h q = q
    go false h q = h q

-- where none holds, the conditions behind are read
pub holding_behind : (cs ds : List Condition) → first_holding cs ≡ none → first_holding (cs ++ ds) ≡ first_holding ds
unfolding first_holding
holding_behind [] ds e = refl
holding_behind (c ∷ cs) ds e = let h : (c.holds ≡ false) × (first_holding cs ≡ none) = none_holds c cs e in rw h.0 (holding_behind cs ds h.1)
