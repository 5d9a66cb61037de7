-- `windows::sliding::subtract`: the entries of the letters passed are the excesses.
use Rattle.std.proofs.Common.{◌≡◌, ℕ, ◌<◌, length, get_or}
use Rattle.windows.specs.Excess.{excess_of}
use Rattle.windows.proofs.sliding.subtract.Given as goal

abbrev pub invariant-loop-j : goal.invariant-loop-j
invariant-loop-j l = (length l.entries ≡ length l.counts) × ((k : ℕ) → k < l.j → get_or l.entries k 0 ≡ excess_of (get_or l.counts k 0) (get_or l.wanted k 0))
