-- `board::ending::end_row` meets its contract: by the laws of the loop over the heads.
use Rattle.std.proofs.Common.{arith}
use lib.Seq.{set-get_or}
use Rattle.abelian.specs.Words.{longest}
use Rattle.board.proofs.HeadByHead.{AtPeriod, on_board, row_long, head_in_range, first_head, passed_head, live_head, ended_head, row_gone, row_tried, row_live}
use Rattle.board.proofs.ending.end_row.Goals as goal
use Rattle.board.proofs.ending.end_row.Goals.{After-row_heads-heads, then-entry-eq0+then-not-holds, then-entry-eq0+else-not-holds, else-entry-eq0}

-- what the calls before the loop say
the_row : (c : After-row_heads-heads) → AtPeriod c.copied-word.result c.args.board.now c.args.period.0 c.len-n.result c.row_start-start.result c.row_heads-heads.result
the_row c = record {
  long = c.told-board;
  from = c.requires.0;
  to = rw c.copied-word.ensures c.requires.1;
  short = c.len-n.ensures.counted.short;
  letters = c.len-n.ensures.value;
  begins = c.row_start-start.ensures;
  has = c.row_heads-heads.ensures;
}

pub overflow_add-entry-items : goal.overflow_add-entry-items
overflow_add-entry-items c = omega (arith, on_board (the_row (goal.at.overflow_add-entry-items c).After-row_heads-heads))

pub slice_bounds-entry-items-end : goal.slice_bounds-entry-items-end
slice_bounds-entry-items-end c = omega (arith, on_board (the_row (goal.at.slice_bounds-entry-items-end c).After-row_heads-heads))

pub loop-h-init : goal.loop-h-init
loop-h-init c = first_head (the_row (goal.at.loop-h-init c).After-row_heads-heads)

-- an entry that is not stored to comes back as it was read
pub loop-h-preserved : goal.loop-h-preserved
loop-h-preserved c =
    let r = the_row (goal.at.loop-h-preserved c).After-row_heads-heads in
    elim c.if-entry-eq0.branch [
      | then-entry-eq0+then-not-holds w ↦ rw (w.entry-items-is, w.tried-is, w.ended-is) (ended_head r _ c.loop-h.invariant (omega (arith, row_long r)) (omega arith) w.if-entry-eq0.true w.holds.ensures w.if-not-holds.true)
      | then-entry-eq0+else-not-holds w ↦ rw (w.entry-items-is, w.tried-is, w.ended-is, set-get_or c.loop-h.entry-items c.loop-h.h 0) (live_head r _ c.loop-h.invariant (omega (arith, row_long r)) (omega arith) w.if-entry-eq0.true w.holds.ensures w.if-not-holds.false)
      | else-entry-eq0 w ↦ rw (w.entry-items-is, w.tried-is, w.ended-is, set-get_or c.loop-h.entry-items c.loop-h.h 0) (passed_head r _ c.loop-h.invariant (omega (arith, row_long r)) (omega arith) w.if-entry-eq0.false)
    ]

pub returns-clause-tried_value : goal.returns-clause-tried_value
returns-clause-tried_value c =
    let r = the_row (goal.at.returns-clause-tried_value c).After-row_heads-heads in
    rw c.copied-word.ensures at (row_tried r _ c.loop-h.invariant (omega (arith, row_long r)))

pub returns-clause-live_value : goal.returns-clause-live_value
returns-clause-live_value c =
    let r = the_row (goal.at.returns-clause-live_value c).After-row_heads-heads in
    rw c.copied-word.ensures at (row_live r _ c.loop-h.invariant (omega (arith, row_long r)))

pub returns-clause-board_after : goal.returns-clause-board_after
returns-clause-board_after c =
    let r = the_row (goal.at.returns-clause-board_after c).After-row_heads-heads in
    rw c.copied-word.ensures at (row_gone r _ c.loop-h.invariant (omega (arith, row_long r)))

pub holds-requires : goal.holds-requires
holds-requires c =
    let r = the_row (goal.at.holds-requires c).After-row_heads-heads in
    head_in_range r c.loop-h.h (omega (arith, row_long r))

pub overflow_cast-entry : goal.overflow_cast-entry
unfolding longest
overflow_cast-entry c = omega arith
