-- Laws of the excess of one vector's counts over another's, modulo 2^8.
use Rattle.std.proofs.Common.{◌≡◌, ℕ, zero, suc, ◌+◌, ◌-◌, ◌%◌, ◌^◌, ◌<◌, ◌≤◌, Bool, true, false, not, ◌&&◌, eqb, List, [], ◌∷◌, length, get_or, set, take, sym, refl, ap, ◌∙◌, ⊎_elim, mod-eq_of_lt, arith, eq-eqb, ne_eqb, eqb-true}
use native.Mathlib.Nat.{mod-add-mod, add-mod_right}
use borrow.Author.Tests.{eqb-false}
use Rattle.abelian.specs.Lists.{one, same}
use Rattle.abelian.proofs.Tests.{decided}
use Rattle.abelian.proofs.Lists.{below_or_not}
use Rattle.windows.specs.Excess.{excess_of, excess, nonzero}

-- ---- two counts

module _ (a b : ℕ) where
  -- one more
  pub one_more_lem : b ≤ 2 ^ 8 → (excess_of a b + 1) % 2 ^ 8 ≡ excess_of (a + 1) b
  unfolding excess_of
  one_more_lem h = mod-add-mod (2 ^ 8 + a - b) (2 ^ 8) 1 ∙ ap (λ (k : ℕ). k % 2 ^ 8) (omega arith)

  -- one less: 255 more, modulo 2^8
  pub one_less : b ≤ 2 ^ 8 → 1 ≤ a → (excess_of a b + 255) % 2 ^ 8 ≡ excess_of (a - 1) b
  unfolding excess_of
  one_less h p =
      let e : 2 ^ 8 + a - b + 255 ≡ 2 ^ 8 + (a - 1) - b + 2 ^ 8 = omega arith in
      mod-add-mod (2 ^ 8 + a - b) (2 ^ 8) 255 ∙ ap (λ (k : ℕ). k % 2 ^ 8) e ∙ add-mod_right (2 ^ 8 + (a - 1) - b) (2 ^ 8)

  -- as a machine takes b away
  pub wrapped_excess : b ≤ 2 ^ 8 → (a + (2 ^ 8 - b)) % 2 ^ 8 ≡ excess_of a b
  unfolding excess_of
  wrapped_excess h = ap (λ (k : ℕ). k % 2 ^ 8) (omega arith)

  -- counts of 8 bits exceed each other by 0 exactly where they are equal
  pub zero_excess : a < 2 ^ 8 → b < 2 ^ 8 → eqb (excess_of a b) 0 ≡ eqb a b
  unfolding excess_of
  zero_excess l m =
      ⊎_elim
      (λ (h : a < b).
      let e : (2 ^ 8 + a - b) % 2 ^ 8 ≡ 2 ^ 8 + a - b = mod-eq_of_lt (omega arith) in
      ne_eqb ((2 ^ 8 + a - b) % 2 ^ 8) 0 (λ z. omega arith) ∙ sym (ne_eqb a b (λ z. omega arith)))
      (λ (h : b ≤ a).
      let s : 2 ^ 8 + a - b ≡ a - b + 2 ^ 8 = omega arith in
      let e : (2 ^ 8 + a - b) % 2 ^ 8 ≡ a - b = ap (λ (k : ℕ). k % 2 ^ 8) s ∙ add-mod_right (a - b) (2 ^ 8) ∙ mod-eq_of_lt (omega arith) in
      ap (λ (k : ℕ). eqb k 0) e
      ∙ ⊎_elim (λ (t : eqb a b ≡ true). let q : a ≡ b = eqb-true a b t in eq-eqb (a - b) 0 (omega arith) ∙ sym t)
      (λ (t : eqb a b ≡ false). let q : a ≡ b → ⊥ = eqb-false a b t in ne_eqb (a - b) 0 (λ z. q (omega arith)) ∙ sym t) (decided (eqb a b)))
      (below_or_not a b)

-- ---- place by place

pub length-excess : (u v : List ℕ) → length u ≡ length v → length (excess u v) ≡ length u
unfolding excess
length-excess [] v e = refl
length-excess (a ∷ u) [] e = absurd (omega arith)
length-excess (a ∷ u) (b ∷ v) e = ap suc (length-excess u v (omega arith))

pub excess_at : (u v : List ℕ) (j : ℕ) → j < length u → j < length v → get_or (excess u v) j 0 ≡ excess_of (get_or u j 0) (get_or v j 0)
unfolding excess
excess_at [] v j l m = absurd (omega arith)
excess_at (a ∷ u) [] j l m = absurd (omega arith)
excess_at (a ∷ u) (b ∷ v) zero l m = refl
excess_at (a ∷ u) (b ∷ v) (suc j) l m = excess_at u v j (omega arith) (omega arith)

-- one count changed
pub excess-set : (u v : List ℕ) (j x : ℕ) → j < length u → j < length v → set (excess u v) j (excess_of x (get_or v j 0)) ≡ excess (set u j x) v
unfolding excess
excess-set [] v j x l m = absurd (omega arith)
excess-set (a ∷ u) [] j x l m = absurd (omega arith)
excess-set (a ∷ u) (b ∷ v) zero x l m = refl
excess-set (a ∷ u) (b ∷ v) (suc j) x l m = ap (λ (l : List ℕ). excess_of a b ∷ l) (excess-set u v j x (omega arith) (omega arith))

-- ---- how many are not 0

-- a number is 0 or not
pub zero_or_not : (b : Bool) → one b + one (not b) ≡ 1
zero_or_not true = refl
zero_or_not false = refl

-- one number more
pub nonzero-more : (u : List ℕ) (j : ℕ) → j < length u → nonzero (take (suc j) u) ≡ nonzero (take j u) + one (not (eqb (get_or u j 0) 0))
unfolding nonzero
nonzero-more [] j l = absurd (omega arith)
nonzero-more (a ∷ u) zero l = omega arith
nonzero-more (a ∷ u) (suc j) l = omega (arith, nonzero-more u j (omega arith))

-- no more than there are
pub nonzero-le : (u : List ℕ) → nonzero u ≤ length u
unfolding nonzero
nonzero-le [] = omega arith
nonzero-le (a ∷ u) = omega (arith, zero_or_not (eqb a 0), nonzero-le u)

-- each that is not 0 is one of them
pub nonzero_at : (u : List ℕ) (j : ℕ) → j < length u → one (not (eqb (get_or u j 0) 0)) ≤ nonzero u
unfolding nonzero
nonzero_at [] j l = absurd (omega arith)
nonzero_at (a ∷ u) zero l = omega arith
nonzero_at (a ∷ u) (suc j) l = omega (arith, nonzero_at u j (omega arith))

-- one number changed
pub nonzero-set : (u : List ℕ) (j x : ℕ) → j < length u → nonzero (set u j x) + one (not (eqb (get_or u j 0) 0)) ≡ nonzero u + one (not (eqb x 0))
unfolding nonzero
nonzero-set [] j x l = absurd (omega arith)
nonzero-set (a ∷ u) zero x l = omega arith
nonzero-set (a ∷ u) (suc j) x l = omega (arith, nonzero-set u j x (omega arith))

-- of two vectors with counts of 8 bits none exceeds the other exactly where they are the same
pub no_excess : (u v : List ℕ) → length u ≡ length v → ((j : ℕ) → j < length u → get_or u j 0 < 2 ^ 8) → ((j : ℕ) → j < length v → get_or v j 0 < 2 ^ 8)
    → eqb (nonzero (excess u v)) 0 ≡ same u v
unfolding excess nonzero
no_excess [] [] e f g = refl
no_excess [] (b ∷ v) e f g = absurd (omega arith)
no_excess (a ∷ u) [] e f g = absurd (omega arith)
no_excess (a ∷ u) (b ∷ v) e f g =
    rw (zero_excess a b (f 0 (omega arith)) (g 0 (omega arith)))
    (go (eqb a b) (no_excess u v (omega arith) (λ j l. f (suc j) (omega arith)) (λ j l. g (suc j) (omega arith))))
  where
    go : (t : Bool) → eqb (nonzero (excess u v)) 0 ≡ same u v → eqb (one (not t) + nonzero (excess u v)) 0 ≡ (t && same u v)
    go true h = let z : 0 + nonzero (excess u v) ≡ nonzero (excess u v) = omega arith in rw z h
    go false h = ne_eqb (1 + nonzero (excess u v)) 0 (λ z. omega arith)
