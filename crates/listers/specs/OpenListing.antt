-- The list of a board's open pairs, as both listers end.
use Rattle.std.specs.Prelude.{ℕ, List, length, ltb}
use Rattle.abelian.specs.Lists.{pick}
use Rattle.abelian.specs.Output.{fill}
use Rattle.abelian.specs.Trackers.{open_words}
use Rattle.abelian.specs.Answers.{Answer, refusing, writing}
use Rattle.abelian.specs.declared.Refusal.TheVariants.{SliceTooShort}

-- refusal 3 where the slice has too few places, else the words in the first places, their number, and the trials
unfoldable pub words_listed : List ℕ → ℕ → List ℕ → Answer
words_listed ws trials out =
    pick (ltb (length out) (length ws)) (refusing (SliceTooShort (length ws)) out) (writing (length ws) trials 0 0 (fill ws out))

-- the words of the pairs in range for n whose entry is 0
unfoldable pub open_listing : ℕ → List ℕ → ℕ → List ℕ → Answer
open_listing n board trials out = words_listed (open_words n board) trials out
