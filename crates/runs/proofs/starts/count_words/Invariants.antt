-- `runs::starts::count_words`: the words of the runs of the block lengths below `period` are counted.
use Rattle.std.proofs.Common.{◌≡◌, ◌≤◌, ◌-◌, ◌*◌, ℕ, List, length}
use Rattle.runs.proofs.Rows.{rows_below}
use Rattle.runs.proofs.starts.count_words.Given as goal

-- the words of the runs of the block lengths below q are counted
pub record Counting (w : List ℕ) (found q : ℕ) : Type 0 where
  pub within : 2 * (q - 1) ≤ length w
  pub counted : found ≡ length (rows_below w q)

abbrev pub invariant-loop-period : goal.invariant-loop-period
invariant-loop-period l = Counting l.marked.word.now l.found l.period
