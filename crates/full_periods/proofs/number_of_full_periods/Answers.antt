-- `full_periods::number_of_full_periods` meets its contract: the path's table is that of the full periods.
use Rattle.std.proofs.Common.{ap, ◌∙◌}
use Rattle.full_periods.specs.declared.scaled.ScaledPath.{ScaledPath}
use Rattle.full_periods.proofs.Listing.{path_steps, marked-count}
use Rattle.full_periods.proofs.number_of_full_periods.Goals as goal

pub invariant_of-marked-clause-steps : goal.invariant_of-marked-clause-steps
invariant_of-marked-clause-steps c = path_steps c.len.ensures.word c.len.ensures.value c.find_path-s.ensures

pub returns : goal.returns
returns c = c.count.ensures ∙ marked-count c.len.ensures.word c.len.ensures.value (ap (λ (x : ScaledPath). x.marks) c.find_path-s.ensures)
