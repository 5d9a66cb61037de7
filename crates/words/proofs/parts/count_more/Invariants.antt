-- `words::parts::count_more`: the places passed hold what they hold with one more at the place.
use Rattle.words.proofs.OneMore.{Raised}
use Rattle.words.proofs.parts.count_more.Given as goal

abbrev pub invariant-loop-j : goal.invariant-loop-j
invariant-loop-j g l = Raised l.counts l.place l.more l.j
