-- `listers::passing::pass_row` meets its contract: an entry that is stored is that of a pair in range, made anew.
use Rattle.std.proofs.Common.{◌≡◌, ◌∙◌, ap, ℕ, ◌+◌, ◌-◌, arith, length-take, length-drop}
use borrow.Rule.Slice.PartMut.{put_same}
use Rattle.abelian.specs.Words.{longest}
use Rattle.abelian.specs.Periods.{heads}
use Rattle.abelian.specs.EndedLengths.{board_of}
use Rattle.abelian.specs.Trackers.{board_size}
use Rattle.abelian.proofs.Pairs.{heads-in_range}
use Rattle.board.proofs.Places.{board_long}
use Rattle.board.proofs.Rows.{row_end, heads-le}
use Rattle.board.proofs.EndedRows.{below, none_below, all_below}
use Rattle.listers.specs.Passing.{entry_passed, row_passed}
use Rattle.listers.proofs.Passed.{out_of_range_kept, next_below_passed}
use Rattle.listers.proofs.passing.pass_row.Goals as goal

pub overflow_cast-p : goal.overflow_cast-p
unfolding longest
overflow_cast-p c = omega (arith, c.requires.le_period)

pub overflow_add-entry-items : goal.overflow_add-entry-items
unfolding board_size
overflow_add-entry-items c = omega (arith, row_end c.args.n c.args.period.0 c.requires.le_period.0 c.requires.le_period.1 c.requires.n_le_longest)

pub slice_bounds-entry-items-end : goal.slice_bounds-entry-items-end
unfolding board_size
slice_bounds-entry-items-end c = omega (arith, row_end c.args.n c.args.period.0 c.requires.le_period.0 c.requires.le_period.1 c.requires.n_le_longest)

pub loop-h-init : goal.loop-h-init
loop-h-init c =
    put_same c.row_start-start.result (c.row_start-start.result + c.row_heads-heads.result - c.row_start-start.result) c.args.board.now
    ∙ none_below (entry_passed c.args.n c.args.lowest.now) c.args.period.0 c.args.board.now (board_long _ c.told-board)

pub bounds-lowest-h : goal.bounds-lowest-h
unfolding longest
bounds-lowest-h c = omega (arith, heads-le c.args.n c.args.period.0, c.requires.le_period, length-take {A = ℕ})

pub loop-h-preserved : goal.loop-h-preserved
loop-h-preserved c =
    next_below_passed c.args.n c.args.period.0 c.args.lowest.now c.args.board.now c.loop-h.entry-items _ _ c.loop-h.h _ (board_long _ c.told-board)
    (heads-in_range c.requires.le_period.0 c.requires.le_period.1 (omega (arith, length-take {A = ℕ})))
    c.requires.n_le_longest c.row_start-start.ensures (omega arith) c.loop-h.invariant c.passed_below.ensures

pub returns : goal.returns
unfolding row_passed board_size
returns c =
    let f = entry_passed c.args.n c.args.lowest.now in
    let e : c.loop-h.h ≡ heads c.args.n c.args.period.0 = omega
    (arith, row_end c.args.n c.args.period.0 c.requires.le_period.0 c.requires.le_period.1 c.requires.n_le_longest, length-take {A = ℕ}, length-drop {A = ℕ}) in
    c.loop-h.invariant ∙ ap (λ (k : ℕ). board_of (below f c.args.period.0 k c.args.board.now)) e
    ∙ all_below f c.args.period.0 c.args.board.now (board_long _ c.told-board) c.args.n (λ x i. out_of_range_kept c.args.n c.args.lowest.now x i)
