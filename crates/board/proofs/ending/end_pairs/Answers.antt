-- `board::ending::end_pairs` meets its contract: by the laws of the loop over the rows.
use Rattle.std.proofs.Common.{◌+◌, arith}
use Rattle.abelian.specs.Words.{longest}
use Rattle.board.proofs.Places.{board_long}
use Rattle.board.proofs.EndedBoards.{Gone, none_gone, next_gone, gone_board, gone_tried, gone_live}
use Rattle.board.proofs.ending.end_pairs.Goals as goal
use Rattle.board.proofs.ending.end_pairs.Goals.{After-end_row-row}

pub loop-p-init : goal.loop-p-init
loop-p-init c = none_gone _ _ (board_long _ c.told-board)

-- a row more
next : (c : After-end_row-row) → Gone c.args.word.now c.args.board.now c.end_row-row.new.board (c.loop-p.tried + c.end_row-row.result.tried) (c.loop-p.live + c.end_row-row.result.live) (c.loop-p.p + 1)
next c =
    next_gone _ _ _ _ _ _ _ _ c.loop-p.p (board_long _ c.told-board) c.len-n.ensures.counted.short (omega arith) c.loop-p.invariant
    c.end_row-row.ensures.tried_value c.end_row-row.ensures.live_value c.end_row-row.ensures.board_after

pub loop-p-preserved : goal.loop-p-preserved
loop-p-preserved c = next (goal.at.loop-p-preserved c).After-end_row-row

pub returns-clause-tried_value : goal.returns-clause-tried_value
returns-clause-tried_value c = gone_tried (board_long _ c.told-board) c.len-n.ensures.counted.short c.loop-p.invariant (omega arith)

pub returns-clause-live_value : goal.returns-clause-live_value
returns-clause-live_value c = gone_live (board_long _ c.told-board) c.len-n.ensures.counted.short c.loop-p.invariant (omega arith)

pub returns-clause-board_after : goal.returns-clause-board_after
returns-clause-board_after c = gone_board (board_long _ c.told-board) c.len-n.ensures.counted.short c.loop-p.invariant (omega arith)

pub overflow_add-p-end : goal.overflow_add-p-end
unfolding longest
overflow_add-p-end c = omega (arith, c.len-n.ensures.counted.short)

pub overflow_add-tried : goal.overflow_add-tried
unfolding longest
overflow_add-tried c = omega (arith, (next (goal.at.overflow_add-tried c).After-end_row-row).few_tried, c.len-n.ensures.counted.short)

pub overflow_add-live : goal.overflow_add-live
unfolding longest
overflow_add-live c = omega (arith, (next (goal.at.overflow_add-live c).After-end_row-row).few_live, c.len-n.ensures.counted.short)
