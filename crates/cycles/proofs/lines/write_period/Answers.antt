-- The line has the head and the period.
use Rattle.cycles.specs.Lines.{period_line}
use Rattle.cycles.proofs.lines.write_period.Goals as goal

pub write_line-requires : goal.write_line-requires
unfolding period_line
write_line-requires c = c.requires

pub returns : goal.returns
unfolding period_line
returns c = c.write_line.ensures
