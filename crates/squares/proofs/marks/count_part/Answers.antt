-- `squares::marks::count_part` meets its contract: the counts of a part are the difference of two rows.
use Rattle.std.proofs.Common.{arith}
use Rattle.words.proofs.Prefixes.{counted_rises, counted_part}
use Rattle.squares.proofs.marks.count_part.Goals as goal

pub difference-requires : goal.difference-requires
difference-requires c = counted_rises c.len.ensures.counted _ _ c.row.ensures c.row-2.ensures (omega arith) c.requires

pub returns-clause-value : goal.returns-clause-value
returns-clause-value c = counted_part c.len.ensures.counted c.args.from c.args.size c.row.ensures c.row-2.ensures c.requires c.difference.ensures
