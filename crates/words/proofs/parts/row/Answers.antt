-- `words::parts::row` meets its contract: the table has a row for each length up to the longest.
use Rattle.std.proofs.Common.{arith}
use Rattle.abelian.specs.Words.{longest}
use Rattle.words.proofs.parts.row.Goals as goal

pub offset_bounds-table-at : goal.offset_bounds-table-at
unfolding longest
offset_bounds-table-at c = omega (arith, c.requires)

pub bounds-table-at : goal.bounds-table-at
unfolding longest
bounds-table-at c = omega (arith, c.requires)
