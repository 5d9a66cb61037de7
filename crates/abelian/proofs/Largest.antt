-- Laws of the largest number up to n that passes a test: it is the one that is found.
use mathlib.Core.Path.{◌≡◌, subst}
use mathlib.Core.Logic.{◌⊎◌, inl, inr, ⊎_elim}
use mathlib.Core.Bool.{Bool}
use mathlib.Core.List.{Memᴰ}
use Prim.Native.Nat.{ℕ, suc, ◌+◌, ◌≤◌, ◌<◌}
use native.Mathlib.Omega.{arith}
use lib.Dec.{T}
use Rattle.abelian.specs.Lists.{up_from, keep}
use Rattle.abelian.specs.Runs.{most, Largest}
use Rattle.abelian.proofs.Lists.{mem-keep, keep-mem, mem-up_from, up_from-mem, below_or_not, le-largest, largest-found}

module _ (f : ℕ → Bool) (n : ℕ) where
  -- the number found is 0, or is at most n and passes
  most-found : (most f n ≡ 0) ⊎ ((most f n ≤ n) × T (f (most f n)))
  unfolding most
  most-found =
      ⊎_elim inl
      (λ m.
      let k : Memᴰ (most f n) (up_from 0 (suc n)) × T (f (most f n)) = mem-keep f (up_from 0 (suc n)) m in
      let b : (0 ≤ most f n) × (most f n < 0 + suc n) = mem-up_from 0 (suc n) k.0 in
      inr (omega arith, k.1))
      (largest-found (keep f (up_from 0 (suc n))))

  -- so it is at most n
  pub most-le : most f n ≤ n
  most-le = ⊎_elim (λ e. omega arith) (λ k. k.0) most-found

  -- each number up to n that passes is at most the number found
  pub le-most : (k : ℕ) → k ≤ n → T (f k) → k ≤ most f n
  unfolding most
  le-most k l t = le-largest (keep f (up_from 0 (suc n))) (keep-mem f (up_from 0 (suc n)) (up_from-mem 0 (suc n) k (omega arith) (omega arith)) t)

  -- where one passes, the number found passes
  pub most_passes : (k : ℕ) → k ≤ n → T (f k) → T (f (most f n))
  most_passes k l t =
      ⊎_elim (λ e. let q : k ≡ most f n = omega (arith, le-most k l t) in subst (λ (m : ℕ). T (f m)) q t) (λ m. m.1) most-found

  -- where 0 passes, the number found is the largest that passes
  pub most-largest : T (f 0) → Largest f n (most f n)
  most-largest t = record { within = most-le; passes = most_passes 0 (omega arith) t; none = λ m l u p. omega (arith, le-most m u p) }

  -- the largest that passes is the number found
  pub largest-most : (k : ℕ) → Largest f n k → most f n ≡ k
  largest-most k l =
      ⊎_elim (λ u. absurd (l.none (most f n) u most-le (most_passes k l.within l.passes)))
      (λ u. omega (arith, le-most k l.within l.passes)) (below_or_not k (most f n))
