-- `runs::places` meets its contract, by the bound on the words of runs.
use native.Mathlib.Omega.{arith}
use Rattle.runs.proofs.Bound.{places_enough, bound_number}
use Rattle.runs.proofs.places.Goals as goal

pub returns : goal.returns
returns c w h = omega (arith, places_enough w h, bound_number)
