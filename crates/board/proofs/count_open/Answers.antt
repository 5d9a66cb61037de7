-- `board::count_open` meets its contract: by the laws of the loop over the rows.
use Rattle.std.proofs.Common.{arith}
use Rattle.abelian.specs.Words.{longest}
use Rattle.board.proofs.RowByRow.{no_row_counted, next_on_board, on_board, lent_short, lent_few, row_counted, rows_counted}
use Rattle.board.proofs.count_open.Goals as goal

pub loop-p-init : goal.loop-p-init
loop-p-init c = no_row_counted _ c.requires c.told-board

pub loop-p-preserved : goal.loop-p-preserved
unfolding longest
loop-p-preserved c = row_counted _ c.requires c.told-board c.loop-p.invariant (omega arith) c.row_heads.ensures c.count_zeros-found.ensures c.row_heads-start.ensures

pub returns : goal.returns
returns c = rows_counted _ c.requires c.told-board c.loop-p.invariant (omega arith)

pub overflow_add-p-end : goal.overflow_add-p-end
unfolding longest
overflow_add-p-end c = omega (arith, c.requires)

pub overflow_add-end : goal.overflow_add-end
overflow_add-end c = omega (arith, on_board _ c.requires c.told-board c.loop-p.invariant.row (omega arith) c.row_heads.ensures)

pub slice_bounds-count_zeros-end : goal.slice_bounds-count_zeros-end
slice_bounds-count_zeros-end c = omega (arith, on_board _ c.requires c.told-board c.loop-p.invariant.row (omega arith) c.row_heads.ensures)

pub count_zeros-found-requires : goal.count_zeros-found-requires
count_zeros-found-requires c = lent_short _ c.requires c.told-board c.loop-p.invariant.row (omega arith) c.row_heads.ensures

pub overflow_add-found : goal.overflow_add-found
unfolding longest
overflow_add-found c = omega (arith, c.requires, c.loop-p.invariant.few, lent_few _ c.requires c.told-board c.loop-p.invariant.row (omega arith) c.row_heads.ensures, c.count_zeros-found.ensures)

pub row_heads-start-requires : goal.row_heads-start-requires
unfolding longest
row_heads-start-requires c = omega arith

pub overflow_add-start : goal.overflow_add-start
unfolding longest
overflow_add-start c = omega (arith, next_on_board _ c.requires c.told-board c.loop-p.invariant.row (omega arith) c.row_heads-start.ensures)
