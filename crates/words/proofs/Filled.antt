-- Laws of a table whose rows are filled one behind the other.
use mathlib.Core.Path.{◌≡◌, refl, ◌∙◌}
use mathlib.Core.Bool.{true, false}
use mathlib.Core.Logic.{⊎_elim, ◌≢◌}
use mathlib.Core.List.{List, []}
use Prim.Native.Nat.{ℕ, zero, suc, ◌+◌, ◌≤◌, ◌<◌}
use native.Mathlib.Omega.{arith}
use lib.ListN.{length, get_or, set, length-set}
use lib.Seq.{get_or-set_same, get_or-set_other}
use lib.Dec.{eqb}
use borrow.Author.Tests.{eqb-true, eqb-false}
use Rattle.abelian.specs.Words.{longest}
use Rattle.abelian.proofs.Tests.{decided}
use Rattle.words.specs.Prefixes.{prefix_counts}
use Rattle.words.proofs.Prefixes.{prefix_row, rows_are_prefix_counts}

-- row k is that of the first k letters, for each k up to i
pub Rows : List ℕ → List (List ℕ) → ℕ → Type 0
Rows word table i = (k : ℕ) → k ≤ i → get_or table k [] ≡ prefix_row word k

-- the table whose rows up to row i are filled, and the running row, which is row i
pub record Filled (word : List ℕ) (table : List (List ℕ)) (row : List ℕ) (i : ℕ) : Type 0 where
  pub running : row ≡ prefix_row word i
  pub size : length table ≡ suc longest
  pub rows : Rows word table i

-- before the first letter: the first row alone
rows_first : (word : List ℕ) (table : List (List ℕ)) → get_or table 0 [] ≡ prefix_row word 0 → Rows word table 0
unfolding Rows
rows_first word table e zero h = e
rows_first word table e (suc k) h = absurd (omega arith)

pub filled_none : (word : List ℕ) (table : List (List ℕ)) {row : List ℕ} → length table ≡ suc longest → row ≡ prefix_row word 0 → Filled word (set table 0 row) row 0
filled_none word table {row} size e = record {
  running = e;
  size = length-set table 0 row ∙ size;
  rows = rows_first word (set table 0 row) (get_or-set_same table 0 row [] (omega (arith, size)) ∙ e);
}

module _ (word : List ℕ) (table : List (List ℕ)) where
  -- one row more
  rows_more : (i : ℕ) → i + 1 < length table → Rows word table i → Rows word (set table (i + 1) (prefix_row word (i + 1))) (i + 1)
  unfolding Rows
  rows_more i l h k b =
      ⊎_elim
      (λ (e : eqb k (i + 1) ≡ true). let q : k ≡ i + 1 = eqb-true k (i + 1) e in rw q (get_or-set_same table (i + 1) (prefix_row word (i + 1)) [] l))
      (λ (e : eqb k (i + 1) ≡ false). let q : k ≢ i + 1 = eqb-false k (i + 1) e in get_or-set_other table (i + 1) k (prefix_row word (i + 1)) [] q ∙ h k (omega arith))
      (decided (eqb k (i + 1)))

  module _ {row : List ℕ} {i : ℕ} (h : Filled word table row i) where
    -- one letter more
    pub filled_more : {next : List ℕ} → i < longest → next ≡ prefix_row word (i + 1) → Filled word (set table (i + 1) next) next (i + 1)
    filled_more {next} l e = rw e (record {
      running = refl;
      size = length-set table (i + 1) _ ∙ h.size;
      rows = rows_more i (omega (arith, h.size)) h.rows;
    })

    -- all letters
    pub filled_all : longest ≤ i → table ≡ prefix_counts word
    unfolding Rows
    filled_all l = rows_are_prefix_counts word table h.size (λ k b. h.rows k (omega arith))
