-- The machine's call that a call of a log is.
use Rattle.history.specs.Machine as machine
use Rattle.history.specs.declared.in_place.Call.{Call}
use Rattle.history.specs.declared.in_place.Call.TheVariants.{Add, TakeBack, Clear}

-- a log has no list and no count
abbrev pub made : Call → machine.Call
made (Add b) = machine.Call.add b
made TakeBack = machine.Call.take_back
made Clear = machine.Call.clear
