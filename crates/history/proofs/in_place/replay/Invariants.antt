-- The references are those that were lent, and the tracker behind them and the number of refusals are the machine's for the bytes read so far.
use Rattle.tracker.specs.Lent.{lent, SameFields}
use Rattle.history.proofs.Replays.{FirstReplayed}
use Rattle.history.proofs.in_place.replay.Given as goal

abbrev pub invariant-loop-byte : goal.invariant-loop-byte
invariant-loop-byte l = record {
  same : SameFields l.initial.fields l.fields;
  replayed : FirstReplayed l.calls l.byte-index (lent l.fields) l.refused;
}
