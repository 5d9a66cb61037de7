-- `patterns::search::search`: it calls itself with one letter less. In its loop the words behind the letters tried are found, and the totals of the beginning are kept.
use Rattle.patterns.proofs.Tried.{Tried}
use Rattle.patterns.proofs.search.+search.Given as goal

abbrev pub decreases-search : goal.decreases-search
decreases-search l = l.left.0

abbrev pub invariant-loop-c : goal.invariant-loop-c
invariant-loop-c l = Tried l.alphabet.0 l.last l.initial.totals l.number l.at l.initial.out l.next l.totals l.out l.to l.weight l.c
