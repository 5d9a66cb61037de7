-- Laws of count vectors with zeros behind them, as the rows of prefix counts have them: their places, and their differences.
use mathlib.Core.Path.{◌≡◌, refl, ap, ◌∙◌}
use mathlib.Core.List.{List, [], ◌∷◌, ◌++◌}
use mathlib.Core.Logic.{⊎_elim}
use Prim.Native.Nat.{ℕ, zero, suc, ◌+◌, ◌-◌, ◌≤◌, ◌<◌}
use native.Mathlib.Omega.{arith}
use lib.ListN.{length, get_or, set, replicate, get_or-append}
use lib.Seq.{set-append_left, get_or-append-add}
use Rattle.abelian.specs.Words.{alphabet_size}
use Rattle.abelian.proofs.Lists.{below_or_not}
use Rattle.words.specs.Differences.{minus}
use Rattle.words.specs.Prefixes.{width, padded}

-- no entry of a list of zeros is another number
pub zeros_at : (n k : ℕ) → ◌≡◌ {A = ℕ} (get_or (replicate n 0) k 0) 0
zeros_at zero k = refl
zeros_at (suc n) zero = refl
zeros_at (suc n) (suc k) = zeros_at n k

-- ---- the places of a row

abbrev zeros : List ℕ
zeros = replicate (width - alphabet_size) 0

module _ (v : List ℕ) (e : length v ≡ alphabet_size) where
  -- the counts are the first places
  pub padded_at : (j : ℕ) → j < alphabet_size → get_or (padded v) j 0 ≡ get_or v j 0
  unfolding padded
  padded_at j l = get_or-append v zeros 0 j (omega (arith, e))

  padded_behind : (j : ℕ) → alphabet_size ≤ j → get_or (padded v) j 0 ≡ 0
  unfolding padded
  padded_behind j l =
      let k : j ≡ length v + (j - alphabet_size) = omega (arith, e) in
      ap (λ (i : ℕ). get_or (padded v) i 0) k ∙ get_or-append-add v zeros (j - alphabet_size) 0 ∙ zeros_at (width - alphabet_size) (j - alphabet_size)

  -- what bounds the counts bounds every place
  pub padded-le : (b : ℕ) → ((j : ℕ) → j < alphabet_size → get_or v j 0 ≤ b) → (j : ℕ) → get_or (padded v) j 0 ≤ b
  padded-le b h j = ⊎_elim (λ l. omega (arith, padded_at j l, h j l)) (λ l. omega (arith, padded_behind j l)) (below_or_not j alphabet_size)

  -- another count at a letter's place
  pub padded-set : (j x : ℕ) → j < alphabet_size → set (padded v) j x ≡ padded (set v j x)
  unfolding padded
  padded-set j x l = set-append_left v zeros j x (omega (arith, e))

-- ---- differences

minus_zeros : (k : ℕ) (u v : List ℕ) → length u ≡ length v → minus (u ++ replicate k 0) (v ++ replicate k 0) ≡ minus u v ++ replicate k 0
unfolding minus
minus_zeros zero [] [] e = refl
minus_zeros (suc k) [] [] e = ap (λ (z : List ℕ). 0 ∷ z) (minus_zeros k [] [] refl)
minus_zeros k [] (b ∷ v) e = absurd (omega arith)
minus_zeros k (a ∷ u) [] e = absurd (omega arith)
minus_zeros k (a ∷ u) (b ∷ v) e = ap (λ (z : List ℕ). (a - b) ∷ z) (minus_zeros k u v (omega arith))

pub minus-padded : (u v : List ℕ) → length u ≡ length v → minus (padded u) (padded v) ≡ padded (minus u v)
unfolding padded
minus-padded = minus_zeros (width - alphabet_size)
