-- `letters::reopen` meets its contract: one entry more has been made anew.
use Rattle.std.proofs.Common.{◌<◌, length, ap, arith, get_or, length-append, length-drop}
use Rattle.std.proofs.Math.ListN.{length-take, length-map}
use Rattle.std.proofs.lemmas.List.{get_or_default}
use Rattle.std.proofs.lemmas.List.Edits.{map_over_more}
use Rattle.tracker.specs.Steps.{entry_reopened}
use Rattle.tracker.proofs.letters.reopen.Goals as goal

pub loop-entry-preserved : goal.loop-entry-preserved
loop-entry-preserved c =
    let board = c.loop-entry.board in
    let i = c.loop-entry.entry-index in
    let within : i < length board = omega (arith, simp (length-append, length-map, length-take, length-drop) at (ap length c.loop-entry.invariant)) in
    rw c.entry_reopened.ensures
    (map_over_more (entry_reopened c.args.len) c.args.board.now board i (get_or board i 0) (omega arith) c.loop-entry.invariant (get_or_default board i 0 (get_or board i 0) within))
