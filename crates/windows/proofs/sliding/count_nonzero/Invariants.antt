-- `windows::sliding::count_nonzero`: as many of the entries passed are not 0 as were found.
use Rattle.std.proofs.Common.{◌≡◌, take}
use Rattle.windows.specs.Excess.{nonzero}
use Rattle.windows.proofs.sliding.count_nonzero.Given as goal

abbrev pub invariant-loop-entry : goal.invariant-loop-entry
invariant-loop-entry l = l.found ≡ nonzero (take l.entry-index l.entry-items)
