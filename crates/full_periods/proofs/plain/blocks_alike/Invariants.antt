-- `full_periods::plain::blocks_alike`: `from` is a multiple of the period, and the blocks before it have the first one's vector.
use Rattle.full_periods.proofs.Alike.{Alike}
use Rattle.full_periods.proofs.plain.blocks_alike.Given as goal

abbrev pub invariant-loop-from : goal.invariant-loop-from
invariant-loop-from l = Alike l.word l.p l.first l.from
