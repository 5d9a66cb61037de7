-- `letters::check_held` meets its contract: a length above the longest is found first, and then the bytes within it are checked as a word.
use Rattle.std.proofs.Common.{sym}
use Rattle.abelian.specs.Words.{longest}
use Rattle.words.proofs.Refusals.{accepted_none, refused_some}
use Rattle.tracker.proofs.Damage.{long-damaged, accepted_undamaged, refused_damaged}
use Rattle.tracker.proofs.letters.check_held.Goals as goal

pub returns-then-len-gt-LONGEST : goal.returns-then-len-gt-LONGEST
unfolding longest
returns-then-len-gt-LONGEST c = rw (long-damaged c.args.len c.args.bytes.now c.if-len-gt-LONGEST.true)

pub returns-in-Err : goal.returns-in-Err
unfolding longest
returns-in-Err c =
    let damage = refused_damaged c.args.len c.args.bytes.now c.if-len-gt-LONGEST.false (refused_some _ _ _ (sym c.in-Err.ensures)) in
    rw damage

pub returns-in-Ok : goal.returns-in-Ok
unfolding longest
returns-in-Ok c =
    let sound = accepted_undamaged c.args.len c.args.bytes.now c.if-len-gt-LONGEST.false (accepted_none _ _ (sym c.in-Ok.ensures)) in
    rw sound
