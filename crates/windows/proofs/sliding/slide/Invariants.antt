-- `windows::sliding::slide`: the windows before `at` have been passed.
use Rattle.windows.proofs.Slides.{Passed}
use Rattle.windows.proofs.sliding.slide.Given as goal

abbrev pub invariant-loop-at : goal.invariant-loop-at
invariant-loop-at l = Passed l.search.pattern l.events l.initial.out l.rest l.out l.entries l.differing l.found l.at
