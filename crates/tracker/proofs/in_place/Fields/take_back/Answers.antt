-- `Fields::take_back` meets its contract: each refusal in its turn, with the fields as they came, and else the tracker with its last letter gone.
use Rattle.std.proofs.Common.{◌∙◌, sym, ap, arith}
use Rattle.abelian.specs.declared.Tracker.{Tracker}
use Rattle.tracker.specs.Lent.{lent}
use Rattle.tracker.proofs.Damage.{sound_held, damaged_held, refused_held, short_held}
use Rattle.tracker.proofs.Steps.{accepted, taking_back-damaged, taking_back_empty, taking_back_accepted, letter_gone}
use Rattle.tracker.proofs.in_place.Fields.take_back.Goals as goal

pub returns-in_err-check_held-clause-step : goal.returns-in_err-check_held-clause-step
returns-in_err-check_held-clause-step c =
    rw (refused_held (lent c.args.self.now) c.from_residual.result c.from_residual.ensures.1 c.in_err-check_held.ensures)
    (sym (taking_back-damaged (lent c.args.self.now) (damaged_held _ c.in_err-check_held.ensures).0))

pub returns-then-held-eq0-clause-step : goal.returns-then-held-eq0-clause-step
returns-then-held-eq0-clause-step c =
    sym (taking_back_empty (lent c.args.self.now) (sound_held _ c.in_ok-check_held.ensures) c.if-held-eq0.true)

pub remove_last-live-requires-clause-held_le_longest : goal.remove_last-live-requires-clause-held_le_longest
remove_last-live-requires-clause-held_le_longest c =
    short_held (lent c.args.self.now) c.in_ok-check_held.ensures

pub set_totals-requires-clause-short : goal.set_totals-requires-clause-short
set_totals-requires-clause-short c =
    omega (arith, short_held (lent c.args.self.now) c.in_ok-check_held.ensures)

pub returns-clause-step : goal.returns-clause-step
returns-clause-step c =
    let old : Tracker = lent c.args.self.now in
    let removed = c.remove_last-live.ensures in
    ap accepted (c.set_totals.ensures.value ∙ letter_gone old removed.bytes_after removed.board_after)
    ∙ sym (taking_back_accepted old (sound_held _ c.in_ok-check_held.ensures) c.if-held-eq0.false)
