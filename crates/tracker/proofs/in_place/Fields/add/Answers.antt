-- `Fields::add` meets its contract: each refusal in its turn, with the fields as they came, and else the tracker with one letter more.
use Rattle.std.proofs.Common.{◌∙◌, sym, ap, arith}
use Rattle.abelian.specs.Words.{longest}
use Rattle.abelian.specs.declared.Tracker.{Tracker}
use Rattle.tracker.specs.Lent.{lent}
use Rattle.tracker.proofs.Damage.{sound_held, damaged_held, refused_held, undamaged, short_held}
use Rattle.tracker.proofs.Steps.{accepted, adding-damaged, adding_outside, adding_full, adding_accepted, letter_added}
use Rattle.tracker.proofs.in_place.Fields.add.Goals as goal

pub returns-in_err-check_held-clause-step : goal.returns-in_err-check_held-clause-step
returns-in_err-check_held-clause-step c =
    rw (refused_held (lent c.args.self.now) c.from_residual.result c.from_residual.ensures.1 c.in_err-check_held.ensures)
    (sym (adding-damaged (lent c.args.self.now) c.args.letter (damaged_held _ c.in_err-check_held.ensures).0))

pub returns-then-not-is_letter-clause-step : goal.returns-then-not-is_letter-clause-step
returns-then-not-is_letter-clause-step c =
    sym (adding_outside (lent c.args.self.now) c.args.letter (sound_held _ c.in_ok-check_held.ensures) (sym c.is_letter.ensures ∙ c.if-not-is_letter.true))

pub returns-then-at-eq-LONGEST-clause-step : goal.returns-then-at-eq-LONGEST-clause-step
unfolding longest
returns-then-at-eq-LONGEST-clause-step c =
    sym
    (adding_full (lent c.args.self.now) c.args.letter (sound_held _ c.in_ok-check_held.ensures) (sym c.is_letter.ensures ∙ c.if-not-is_letter.false) c.if-at-eq-LONGEST.true)

pub store_letter-live-requires-clause-room : goal.store_letter-live-requires-clause-room
unfolding longest
store_letter-live-requires-clause-room c =
    omega (arith, short_held (lent c.args.self.now) c.in_ok-check_held.ensures, c.if-at-eq-LONGEST.false)

pub store_letter-live-requires-clause-letters : goal.store_letter-live-requires-clause-letters
store_letter-live-requires-clause-letters c = (undamaged (lent c.args.self.now) (sound_held _ c.in_ok-check_held.ensures)).1

pub overflow_add-at : goal.overflow_add-at
unfolding longest
overflow_add-at c = omega (arith, short_held (lent c.args.self.now) c.in_ok-check_held.ensures)

pub set_totals-requires-clause-short : goal.set_totals-requires-clause-short
unfolding longest
set_totals-requires-clause-short c =
    omega (arith, short_held (lent c.args.self.now) c.in_ok-check_held.ensures, c.if-at-eq-LONGEST.false)

pub returns-clause-step : goal.returns-clause-step
unfolding longest
returns-clause-step c =
    let old : Tracker = lent c.args.self.now in
    let stored = c.store_letter-live.ensures in
    ap accepted (c.set_totals.ensures.value ∙ letter_added old c.args.letter stored.bytes_after stored.board_after)
    ∙ sym (adding_accepted old c.args.letter (sound_held _ c.in_ok-check_held.ensures) (sym c.is_letter.ensures ∙ c.if-not-is_letter.false) c.if-at-eq-LONGEST.false)
