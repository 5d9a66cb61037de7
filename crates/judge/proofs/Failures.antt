-- Laws of a walk over the blocks and, in each, over the letters: what it has found where no failure is met yet, and what the definition
-- answers where one is met, or none at the end.
use mathlib.Core.Path.{◌≡◌, ap, ◌∙◌}
use mathlib.Core.Bool.{true, false}
use mathlib.Core.List.{List, [], ◌∷◌, ◌++◌, map}
use Prim.Native.Nat.{ℕ, suc, ◌+◌, ◌-◌, ◌≤◌, ◌<◌}
use native.Mathlib.Nat.{zero-add}
use native.Mathlib.Numerals.{add-one}
use native.Mathlib.Omega.{arith}
use lib.ListN.{length}
use Rattle.abelian.specs.Lists.{up_from, keep, each}
use Rattle.abelian.specs.Words.{alphabet_size, first_letter, letters}
use Rattle.abelian.specs.Periods.{Pair, whole_blocks}
use Rattle.abelian.specs.Judge.{Failure, breaks, failures}
use Rattle.abelian.specs.Answers.{deciding}
use Rattle.abelian.specs.Calls.{first_failure}
use Rattle.abelian.proofs.Lists.{up_from_last, up_from-append, keep_append, each_append, each_last}

module _ (w : List ℕ) (x : Pair) where
  -- the failures in block number k
  abbrev pub failures_in : ℕ → List Failure
  failures_in k = map (λ (c : ℕ). record { block = k; letter = c }) (keep (breaks w x k) letters)

  -- no letter breaks the rule in a block before block number k
  abbrev pub Passed : ℕ → Type 0
  Passed k = each (up_from 0 k) failures_in ≡ []

  -- none of the first j letters breaks the rule in block number k
  abbrev pub Tried : ℕ → ℕ → Type 0
  Tried k j = keep (breaks w x k) (up_from first_letter j) ≡ []

  -- one letter more
  pub next_letter : (k j : ℕ) → Tried k j → breaks w x k (first_letter + j) ≡ false → Tried k (j + 1)
  next_letter k j t b =
      ap (λ (n : ℕ). keep (breaks w x k) (up_from first_letter n)) (add-one j)
      ∙ ap (keep (breaks w x k)) (up_from_last first_letter j)
      ∙ keep_append (breaks w x k) (up_from first_letter j) ((first_letter + j) ∷ [])
      ∙ rw (t, b)

  -- one block more
  pub next_block : (k : ℕ) → Passed k → Tried k alphabet_size → Passed (k + 1)
  unfolding letters
  next_block k p t = ap (λ (n : ℕ). each (up_from 0 n) failures_in) (add-one k) ∙ each_last failures_in 0 k ∙ rw (p, zero-add k, t)

  -- all blocks are passed: yes
  pub no_failure : Passed (whole_blocks (length w) x + 2) → first_failure (failures w x) ≡ deciding 1 0 0 0
  unfolding failures first_failure
  no_failure p = rw p

  -- the failures from the first block on that is not passed
  failures_from : (k : ℕ) → k ≤ whole_blocks (length w) x + 1 → Passed k → failures w x ≡ failures_in k ++ each (up_from (suc k) (whole_blocks (length w) x + 1 - k)) failures_in
  unfolding failures
  failures_from k u p =
      let e : whole_blocks (length w) x + 2 ≡ k + suc (whole_blocks (length w) x + 1 - k) = omega arith in
      ap (λ (n : ℕ). each (up_from 0 n) failures_in) e
      ∙ ap (λ (l : List ℕ). each l failures_in) (up_from-append 0 k (suc (whole_blocks (length w) x + 1 - k)))
      ∙ each_append failures_in (up_from 0 k) (up_from (0 + k) (suc (whole_blocks (length w) x + 1 - k)))
      ∙ rw (p, zero-add k)

  -- the letters that break the rule, from the first letter on that does
  breaking_from : (k j : ℕ) → j < alphabet_size → Tried k j → breaks w x k (first_letter + j) ≡ true
      → keep (breaks w x k) letters ≡ (first_letter + j) ∷ keep (breaks w x k) (up_from (suc (first_letter + j)) (alphabet_size - suc j))
  unfolding letters
  breaking_from k j v t b =
      let e : alphabet_size ≡ j + suc (alphabet_size - suc j) = omega arith in
      ap (λ (n : ℕ). keep (breaks w x k) (up_from first_letter n)) e
      ∙ ap (keep (breaks w x k)) (up_from-append first_letter j (suc (alphabet_size - suc j)))
      ∙ keep_append (breaks w x k) (up_from first_letter j) (up_from (first_letter + j) (suc (alphabet_size - suc j)))
      ∙ rw (t, b)

  -- a letter breaks the rule, and none before it did: it is the answer
  pub failure_met : (k j : ℕ) → k ≤ whole_blocks (length w) x + 1 → j < alphabet_size → Passed k → Tried k j → breaks w x k (first_letter + j) ≡ true
      → first_failure (failures w x) ≡ deciding 0 k (first_letter + j) 0
  unfolding first_failure
  failure_met k j u v p t b = rw (failures_from k u p, breaking_from k j v t b)
