-- Tables of marks: one entry for each number from 0 to the longest word's length, 1 where the number is marked and 0 where not.
use Rattle.std.specs.Prelude.{ℕ, suc, ◌*◌, ◌/◌, ◌≤◌, ◌<◌, ◌≡◌, Bool, ◌&&◌, List, map, length, get_or, T, eqb, leb, Result, Ok, Err}
use Rattle.std.specs.Int.{◌∣◌}
use Rattle.abelian.specs.Lists.{one, up_from, keep, all}
use Rattle.abelian.specs.Words.{longest}
use Rattle.abelian.specs.FullPeriods.{is_full, is_scaled}
use Rattle.abelian.specs.Output.{fill}
use Rattle.abelian.specs.declared.Refusal.{Refusal}
use Rattle.abelian.specs.declared.Refusal.TheVariants.{SliceTooShort}

-- the table that marks the numbers that pass the test
unfoldable pub marks : (ℕ → Bool) → List ℕ
marks f = map (λ (k : ℕ). one (f k)) (up_from 0 (suc longest))

-- the table marks k
unfoldable pub is_marked : List ℕ → ℕ → Bool
is_marked table k = eqb (get_or table k 0) 1

-- the numbers from 1 to n that the table marks, by rising number
unfoldable pub marked : ℕ → List ℕ → List ℕ
marked n table = keep (is_marked table) (up_from 1 n)

-- up to n the table marks multiples of the step only, and n is one
pub record Steps (step n : ℕ) (table : List ℕ) : Type 0 where
  pub end : step ∣ n
  pub multiples : (k : ℕ) → k ≤ n → T (is_marked table k) → step ∣ k

-- the table marks every multiple of p from p to n
unfoldable pub marks_multiples : List ℕ → ℕ → ℕ → Bool
marks_multiples table n p = all (λ (i : ℕ). is_marked table (i * p)) (up_from 1 (n / p))

-- the table of the word's full periods
unfoldable pub full_marks : List ℕ → List ℕ
full_marks w = marks (is_full w)

-- the table of the word's scaled positions
unfoldable pub scaled_marks : List ℕ → List ℕ
scaled_marks w = marks (λ (k : ℕ). leb k (length w) && is_scaled w k)

-- how a list of words ends: they fill the first places, and their number is answered; or they are more than the places, and the slice stays as it came
abbrev pub Listed : List ℕ → List ℕ → Result ℕ Refusal → List ℕ → Type 0
Listed ws out (Ok k) new = (k ≡ length ws) × (length ws ≤ length out) × (new ≡ fill ws out)
Listed ws out (Err r) new = (r ≡ SliceTooShort (length ws)) × (length out < length ws) × (new ≡ out)
