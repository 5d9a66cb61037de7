-- `covers::cover_length`: the counts are those of the letters passed from each end, and what is found is the smallest cover length that they show.
use Rattle.covers.proofs.Search.{Passed}
use Rattle.covers.proofs.cover_length.Given as goal

abbrev pub invariant-loop-left : goal.invariant-loop-left
invariant-loop-left l = Passed l.letters l.first l.last l.differ l.found l.left
