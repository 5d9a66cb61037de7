-- `in_place::count` meets its contract: a damaged tracker is refused, and else the open pairs are counted, whatever the totals are.
use Rattle.std.proofs.Common.{sym, arith}
use Rattle.abelian.specs.Words.{longest}
use Rattle.abelian.specs.declared.Tracker.{Tracker}
use Rattle.tracker.specs.Fields.{of_fields}
use Rattle.tracker.proofs.Damage.{sound_held, damaged_held, refused_held, short_held}
use Rattle.tracker.proofs.Steps.{count-damaged, count_accepted}
use Rattle.tracker.proofs.in_place.count.Goals as goal

pub returns-in_err-check_held : goal.returns-in_err-check_held
returns-in_err-check_held c live ended =
    let old : Tracker = of_fields c.args.len c.args.bytes.now c.args.board.now live ended in
    rw (refused_held old c.from_residual.result c.from_residual.ensures.1 c.in_err-check_held.ensures)
    (sym (count-damaged old (damaged_held old c.in_err-check_held.ensures).0))

pub count_open-requires : goal.count_open-requires
unfolding longest
count_open-requires c =
    omega (arith, short_held (of_fields c.args.len c.args.bytes.now c.args.board.now 0 0) c.in_ok-check_held.ensures)

pub returns : goal.returns
returns c live ended =
    sym
    (count_accepted (of_fields c.args.len c.args.bytes.now c.args.board.now live ended) (sound_held _ c.in_ok-check_held.ensures) c.count_open.ensures)
