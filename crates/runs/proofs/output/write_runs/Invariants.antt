-- `runs::output::write_runs`: the words of the runs of the block lengths below `period` are written, and they end at a place.
use Rattle.std.proofs.Common.{◌≡◌, ◌≤◌, ◌-◌, ◌*◌, ℕ, List, length}
use Rattle.abelian.specs.Output.{fill}
use Rattle.runs.proofs.Rows.{rows_below}
use Rattle.runs.proofs.output.write_runs.Given as goal

-- the words of the runs of the block lengths below q are written, and they end at a place
pub record Writing (w before out : List ℕ) (at q : ℕ) : Type 0 where
  pub within : 2 * (q - 1) ≤ length w
  pub reached : at ≡ length (rows_below w q)
  pub written : out ≡ fill (rows_below w q) before

abbrev pub invariant-loop-period : goal.invariant-loop-period
invariant-loop-period l = Writing l.marked.word.now l.initial.out l.out l.at l.period
