-- `windows::list_counted` meets its contract: the number found is that of the list's words, and where they are few enough, the words found with it are the list's.
use Rattle.std.proofs.Common.{◌∙◌, arith}
use Rattle.abelian.specs.Windows.{window_words}
use Rattle.windows.proofs.Places.{kept_words, copied_words}
use Rattle.windows.proofs.Answers.{list_short, list_written, list_slid}
use Rattle.windows.proofs.list_counted.Goals as goal

pub returns-then-out-needed : goal.returns-then-out-needed
returns-then-out-needed c = let found = c.slide-needed.ensures in list_short _ _ found.readable _ _ found.value (omega arith)

pub returns-then-needed-le-FIRST_WORDS : goal.returns-then-needed-le-FIRST_WORDS
returns-then-needed-le-FIRST_WORDS c =
    let found = c.slide-needed.ensures in
    let words = window_words c.args.search.now.pattern c.args.search.now.events in
    list_written _ _ found.readable _ _ found.value _
    (copied_words words _ found.value (c.copy_from_slice.ensures.after ∙ kept_words words _ found.value found.out_after (omega arith))) (omega arith)

pub returns-else-needed-le-FIRST_WORDS : goal.returns-else-needed-le-FIRST_WORDS
returns-else-needed-le-FIRST_WORDS c =
    let found = c.slide-needed.ensures in
    list_slid _ _ found.readable _ _ found.value _ c.slide.ensures.out_after (omega arith)
