-- `patterns::search::ends_square`: the halves of no length that was passed agree.
use Rattle.std.proofs.Common.{◌≡◌, ℕ, ◌≤◌, ◌<◌, false}
use Rattle.patterns.specs.Search.{halves_agree}
use Rattle.patterns.proofs.search.ends_square.Given as goal

abbrev pub invariant-loop-half : goal.invariant-loop-half
invariant-loop-half l = (q : ℕ) → 1 ≤ q → q < l.half → halves_agree l.totals q ≡ false
