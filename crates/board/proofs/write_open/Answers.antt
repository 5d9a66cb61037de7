-- `board::write_open` meets its contract: by the laws of the loop over the rows.
use Rattle.std.proofs.Common.{◌≤◌, ◌+◌, ◌-◌, arith, length, take, drop, length-take, length-drop}
use Rattle.abelian.specs.Words.{longest, count}
use Rattle.board.proofs.RowByRow.{no_row_written, next_on_board, on_board, lent_short, places_left, row_written, rows_written}
use Rattle.board.proofs.write_open.Goals as goal
use Rattle.board.proofs.write_open.Goals.{After-row_heads}

-- the words of the row have places
places : (c : After-row_heads) → c.loop-row.written + count 0 (take (c.loop-row.start + c.row_heads.result - c.loop-row.start) (drop c.loop-row.start c.args.board.now)) ≤ length c.loop-row.out
places c = places_left _ c.requires.n_le_longest c.told-board c.requires.board_in_bounds c.loop-row.invariant (omega arith) c.row_heads.ensures

pub loop-row-init : goal.loop-row-init
loop-row-init c = no_row_written _ c.requires.n_le_longest c.told-board

pub loop-row-preserved : goal.loop-row-preserved
unfolding longest
loop-row-preserved c =
    row_written _ c.requires.n_le_longest c.told-board c.requires.board_in_bounds c.loop-row.invariant (omega arith) c.row_heads.ensures
    c.write_row-written.ensures.value c.write_row-written.ensures.out_after c.row_heads-start.ensures

pub returns : goal.returns
returns c = rows_written _ c.requires.n_le_longest c.told-board c.requires.board_in_bounds c.loop-row.invariant (omega arith)

pub overflow_add-row-end : goal.overflow_add-row-end
unfolding longest
overflow_add-row-end c = omega (arith, c.requires.n_le_longest)

pub overflow_add-end : goal.overflow_add-end
overflow_add-end c = omega (arith, on_board _ c.requires.n_le_longest c.told-board c.loop-row.invariant.row (omega arith) c.row_heads.ensures)

pub slice_bounds-write_row-end : goal.slice_bounds-write_row-end
slice_bounds-write_row-end c = omega (arith, on_board _ c.requires.n_le_longest c.told-board c.loop-row.invariant.row (omega arith) c.row_heads.ensures)

pub offset_bounds-out-written : goal.offset_bounds-out-written
offset_bounds-out-written c = omega (arith, places (goal.at.offset_bounds-out-written c).After-row_heads)

pub slice_bounds-write_row-count-in-loop-row : goal.slice_bounds-write_row-count-in-loop-row
slice_bounds-write_row-count-in-loop-row c = omega (arith, places (goal.at.slice_bounds-write_row-count-in-loop-row c).After-row_heads)

pub slice_bounds-write_row-start-in-loop-row : goal.slice_bounds-write_row-start-in-loop-row
slice_bounds-write_row-start-in-loop-row c = omega (arith, places (goal.at.slice_bounds-write_row-start-in-loop-row c).After-row_heads)

pub write_row-written-requires-clause-row_len_bound : goal.write_row-written-requires-clause-row_len_bound
write_row-written-requires-clause-row_len_bound c =
    (lent_short _ c.requires.n_le_longest c.told-board c.loop-row.invariant.row (omega arith) c.row_heads.ensures, omega (arith, c.requires.n_le_longest))

pub write_row-written-requires-clause-row_in_bounds : goal.write_row-written-requires-clause-row_in_bounds
write_row-written-requires-clause-row_in_bounds c =
    omega (
      arith,
      places (goal.at.write_row-written-requires-clause-row_in_bounds c).After-row_heads,
      length-take (length c.loop-row.out - c.loop-row.written) (drop c.loop-row.written c.loop-row.out),
      length-drop c.loop-row.written c.loop-row.out,
    )

pub overflow_add-written : goal.overflow_add-written
overflow_add-written c = omega (arith, places (goal.at.overflow_add-written c).After-row_heads, c.write_row-written.ensures.value)

pub row_heads-start-requires : goal.row_heads-start-requires
unfolding longest
row_heads-start-requires c = omega (arith, c.requires.n_le_longest)

pub overflow_add-start : goal.overflow_add-start
unfolding longest
overflow_add-start c = omega (arith, next_on_board _ c.requires.n_le_longest c.told-board c.loop-row.invariant.row (omega arith) c.row_heads-start.ensures)
