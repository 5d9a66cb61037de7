-- `runs::starts::count_words` meets its contract: each block length adds the words of its runs.
use Rattle.std.proofs.Common.{◌≡◌, ◌∙◌, ◌+◌, ◌*◌, ◌≤◌, ◌<◌, ℕ, List, ap, ap₂, arith, length, length-append}
use Rattle.abelian.specs.Runs.{run_words}
use Rattle.runs.specs.Rows.{row_words}
use Rattle.runs.proofs.Rows.{rows_below, all_rows, rows_more, rows_fit}
use Rattle.runs.proofs.Bound.{places_enough, bound_number}
use Rattle.runs.proofs.starts.count_words.Invariants.{Counting}
use Rattle.runs.proofs.starts.count_words.Goals as goal
use Rattle.runs.proofs.starts.count_words.Goals.{After-of}

-- what is known once the words of a block length are counted
module _ (c : After-of) {count : ℕ} (counted : count ≡ length (row_words c.of.result.word.now c.of.result.period)) where
  abbrev w : List ℕ
  w = c.args.marked.now.word.now

  abbrev q : ℕ
  q = c.loop-period.period

  fits : 2 * q ≤ length w
  fits = omega arith

  row_counted : count ≡ length (row_words w q)
  row_counted = counted ∙ ap₂ (λ (v : List ℕ) (d : ℕ). length (row_words v d)) c.of.ensures.word c.of.ensures.period

  counted_further : Counting w (c.loop-period.found + count) (q + 1)
  counted_further =
      record {
        within = omega (arith, fits);
        counted = omega (arith, c.loop-period.invariant.counted, row_counted, ap length (rows_more w q c.loop-period.auto.period), length-append (rows_below w q) (row_words w q));
      }

  -- the words are few
  few : c.loop-period.found + count ≤ 17682
  few = omega (arith, c.loop-period.invariant.counted, row_counted, rows_fit w q c.loop-period.auto.period fits, places_enough w c.len-period-end.ensures.counted.short, bound_number)

pub overflow_add-found : goal.overflow_add-found
overflow_add-found c = omega (arith, few (goal.at.overflow_add-found c).After-of c.count_row-found.ensures)

pub loop-period-preserved : goal.loop-period-preserved
loop-period-preserved c = counted_further (goal.at.loop-period-preserved c).After-of c.count_row-found.ensures

-- past the longest block there are no more words
all_counted : {w : List ℕ} {found q : ℕ} → Counting w found q → length w < 2 * q → found ≡ length (run_words w)
all_counted {w} {found} {q} h past = h.counted ∙ ap length (all_rows w q h.within past)

pub returns : goal.returns
returns c = all_counted c.loop-period.invariant (omega arith)

pub returns-2 : goal.returns-2
returns-2 c = all_counted (counted_further (goal.at.returns-2 c).After-of c.count_row-found.ensures) (omega arith)
