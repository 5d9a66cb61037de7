-- `in_place::list` meets its contract: each refusal in its turn, and else the open pairs in the first places, whatever the totals are.
use Rattle.std.proofs.Common.{◌∙◌, sym, ap, arith}
use Rattle.abelian.specs.declared.Tracker.{Tracker}
use Rattle.abelian.specs.Words.{longest}
use Rattle.tracker.specs.Fields.{of_fields}
use Rattle.tracker.proofs.Damage.{sound_held, damaged_held, refused_held, short_held}
use Rattle.tracker.proofs.Steps.{listed, listing-damaged, listing_short, listing_written}
use Rattle.tracker.proofs.in_place.list.Goals as goal

pub returns-in_err-check_held : goal.returns-in_err-check_held
returns-in_err-check_held c live ended =
    let old : Tracker = of_fields c.args.len c.args.bytes.now c.args.board.now live ended in
    rw (refused_held old c.from_residual.result c.from_residual.ensures.1 c.in_err-check_held.ensures)
    (sym (listing-damaged old c.args.out.now (damaged_held old c.in_err-check_held.ensures).0))

pub count_open-words-requires : goal.count_open-words-requires
unfolding longest
count_open-words-requires c =
    omega (arith, short_held (of_fields c.args.len c.args.bytes.now c.args.board.now 0 0) c.in_ok-check_held.ensures)

pub returns-then-out-words : goal.returns-then-out-words
returns-then-out-words c live ended =
    let old : Tracker = of_fields c.args.len c.args.bytes.now c.args.board.now live ended in
    sym (listing_short old c.args.out.now (sound_held old c.in_ok-check_held.ensures) c.count_open-words.ensures c.if-out-words.true)

pub write_open-requires-clause-n_le_longest : goal.write_open-requires-clause-n_le_longest
unfolding longest
write_open-requires-clause-n_le_longest c =
    omega (arith, short_held (of_fields c.args.len c.args.bytes.now c.args.board.now 0 0) c.in_ok-check_held.ensures)

pub write_open-requires-clause-board_in_bounds : goal.write_open-requires-clause-board_in_bounds
write_open-requires-clause-board_in_bounds c = omega (arith, c.count_open-words.ensures, c.if-out-words.false)

pub returns : goal.returns
returns c live ended =
    let old : Tracker = of_fields c.args.len c.args.bytes.now c.args.board.now live ended in
    ap (listed old _) c.write_open.ensures
    ∙ sym (listing_written old c.args.out.now (sound_held old c.in_ok-check_held.ensures) c.count_open-words.ensures c.if-out-words.false)
