-- `runs::output::write_row`: the words of the runs at the starts below `start` are written, and they end at a place.
use Rattle.std.proofs.Common.{◌≡◌, ◌≤◌, ◌-◌, ◌*◌, ℕ, suc, List, length}
use Rattle.abelian.specs.Output.{fill}
use Rattle.runs.proofs.Rows.{words_up_to}
use Rattle.runs.proofs.output.write_row.Given as goal

-- the words of the runs at the starts below s are written, and they end at a place
pub record Writing (w : List ℕ) (d : ℕ) (before out : List ℕ) (at s : ℕ) : Type 0 where
  pub within : s - 1 ≤ suc (length w) - 2 * d
  pub reached : at ≡ length (words_up_to w d (s - 1))
  pub few : at ≤ 2 * (s - 1)
  pub written : out ≡ fill (words_up_to w d (s - 1)) before

abbrev pub invariant-loop-start : goal.invariant-loop-start
invariant-loop-start l = Writing l.row.word.now l.row.period l.initial.out l.out l.at l.start
