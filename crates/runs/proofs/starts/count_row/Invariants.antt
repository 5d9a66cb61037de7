-- `runs::starts::count_row`: the words of the runs at the starts below `start` are counted.
use Rattle.std.proofs.Common.{◌≡◌, ◌≤◌, ◌-◌, ◌*◌, ℕ, suc, List, length}
use Rattle.runs.proofs.Rows.{words_up_to}
use Rattle.runs.proofs.starts.count_row.Given as goal

-- the words of the runs at the starts below s are counted
pub record Counting (w : List ℕ) (d found s : ℕ) : Type 0 where
  pub within : s - 1 ≤ suc (length w) - 2 * d
  pub counted : found ≡ length (words_up_to w d (s - 1))
  pub few : found ≤ 2 * (s - 1)

abbrev pub invariant-loop-start : goal.invariant-loop-start
invariant-loop-start l = Counting l.row.word.now l.row.period l.found l.start
