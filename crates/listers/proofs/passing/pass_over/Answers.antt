-- `listers::passing::pass_over` meets its contract: each row passed over is one more of those whose entries are made anew.
use Rattle.std.proofs.Common.{◌≡◌, ◌∙◌, ap, ℕ, ◌-◌, arith}
use Rattle.abelian.specs.EndedLengths.{board_of}
use Rattle.board.proofs.Places.{board_long}
use Rattle.board.proofs.EndedBoards.{up_to, none_up_to, all_up_to}
use Rattle.listers.specs.Passing.{entry_passed, all_passed}
use Rattle.listers.proofs.Passed.{out_of_range_kept, next_passed}
use Rattle.listers.proofs.passing.pass_over.Goals as goal

pub loop-p-init : goal.loop-p-init
loop-p-init c = none_up_to (entry_passed c.args.n c.args.lowest.now) c.args.board.now (board_long _ c.told-board)

pub loop-p-preserved : goal.loop-p-preserved
loop-p-preserved c =
    next_passed c.args.n c.args.lowest.now c.args.board.now c.loop-p.board _ c.loop-p.p (board_long _ c.told-board) (omega arith) c.loop-p.invariant c.pass_row.ensures

pub returns : goal.returns
unfolding all_passed
returns c =
    let f = entry_passed c.args.n c.args.lowest.now in
    let e : c.loop-p.p - 1 ≡ c.args.n = omega arith in
    c.loop-p.invariant ∙ ap (λ (m : ℕ). board_of (up_to f m c.args.board.now)) e
    ∙ all_up_to f c.args.board.now (board_long _ c.told-board) c.args.n (λ x i. out_of_range_kept c.args.n c.args.lowest.now x i)
