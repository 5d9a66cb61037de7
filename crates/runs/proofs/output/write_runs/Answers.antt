-- `runs::output::write_runs` meets its contract: each block length's words stand behind those of the smaller ones.
use Rattle.std.proofs.Common.{◌≡◌, ◌∙◌, ◌+◌, ◌-◌, ◌*◌, ◌≤◌, ◌<◌, ℕ, List, ◌++◌, refl, sym, ap, ap₂, arith, length, take, drop, length-append, length-take, length-drop}
use borrow.Rule.Slice.PartMut.{put_mid}
use Rattle.abelian.specs.Output.{fill}
use Rattle.abelian.specs.Runs.{run_words}
use Rattle.words.proofs.Lists.{fill_lent}
use Rattle.runs.specs.Rows.{row_words}
use Rattle.runs.proofs.Rows.{rows_below, all_rows, rows_more, rows_fit}
use Rattle.runs.proofs.Bound.{places_enough, bound_number}
use Rattle.runs.proofs.output.write_runs.Invariants.{Writing}
use Rattle.runs.proofs.output.write_runs.Goals as goal
use Rattle.runs.proofs.output.write_runs.Goals.{After-of}

pub loop-period-init : goal.loop-period-init
unfolding fill
loop-period-init c = record { within = omega arith; reached = refl; written = refl }

-- what is known once the candidates of a block length are at hand
module _ (c : After-of) where
  abbrev w : List ℕ
  w = c.args.marked.now.word.now

  abbrev q : ℕ
  q = c.loop-period.period

  fits : 2 * q ≤ length w
  fits = omega arith

  -- the words are the block length's
  same : row_words c.of.result.word.now c.of.result.period ≡ row_words w q
  same = ap₂ row_words c.of.ensures.word c.of.ensures.period

  -- which have places, and are few
  places-left : c.loop-period.at + length (row_words w q) ≤ length c.loop-period.out
  places-left = omega (arith, c.loop-period.invariant.reached, rows_fit w q c.loop-period.auto.period fits)

  few : c.loop-period.at + length (row_words w q) ≤ 17682
  few = omega (arith, c.loop-period.invariant.reached, rows_fit w q c.loop-period.auto.period fits, places_enough w c.len-period-end.ensures.counted.short, bound_number)

  -- and stand behind the others once they are written
  written_further : {count : ℕ} {lent : List ℕ} → count ≡ length (row_words c.of.result.word.now c.of.result.period)
      → lent ≡ fill (row_words c.of.result.word.now c.of.result.period) (take (length c.loop-period.out - c.loop-period.at) (drop c.loop-period.at c.loop-period.out))
      → Writing w c.args.out.now (put_mid c.loop-period.at (length c.loop-period.out - c.loop-period.at) c.loop-period.out lent) (c.loop-period.at + count) (q + 1)
  written_further {count} {lent} counted written =
      let before : List ℕ = c.args.out.now in
      let out : List ℕ = c.loop-period.out in
      let at : ℕ = c.loop-period.at in
      let h : Writing w before out at q = c.loop-period.invariant in
      let more : rows_below w (q + 1) ≡ rows_below w q ++ row_words w q = rows_more w q c.loop-period.auto.period in
      record {
        within = omega (arith, fits);
        reached = omega (arith, h.reached, counted, ap length same, ap length more, length-append (rows_below w q) (row_words w q));
        written =
            fill_lent (rows_below w q) (row_words w q) before out lent at h.written h.reached
            (written ∙ ap (λ (l : List ℕ). fill l (take (length out - at) (drop at out))) same)
            ∙ ap (λ (l : List ℕ). fill l before) (sym more);
      }

pub offset_bounds-out-at : goal.offset_bounds-out-at
offset_bounds-out-at c = omega (arith, few (goal.at.offset_bounds-out-at c).After-of)

pub slice_bounds-write_row-count : goal.slice_bounds-write_row-count
slice_bounds-write_row-count c = omega (arith, places-left (goal.at.slice_bounds-write_row-count c).After-of)

pub slice_bounds-write_row-start : goal.slice_bounds-write_row-start
slice_bounds-write_row-start c = omega (arith, places-left (goal.at.slice_bounds-write_row-start c).After-of)

pub write_row-at-requires : goal.write_row-at-requires
write_row-at-requires c =
    let k = (goal.at.write_row-at-requires c).After-of in
    let out = c.loop-period.out in
    let at = c.loop-period.at in
    omega (arith, ap length (same k), places-left k, length-take (length out - at) (drop at out), length-drop at out)

pub overflow_add-at : goal.overflow_add-at
overflow_add-at c =
    let k = (goal.at.overflow_add-at c).After-of in
    omega (arith, few k, c.write_row-at.ensures.value, ap length (same k))

pub loop-period-preserved : goal.loop-period-preserved
loop-period-preserved c = written_further (goal.at.loop-period-preserved c).After-of c.write_row-at.ensures.value c.write_row-at.ensures.out_after

-- past the longest block there are no more words
all_written : {w before out : List ℕ} {at q : ℕ} → Writing w before out at q → length w < 2 * q → out ≡ fill (run_words w) before
all_written {w} {before} {out} {at} {q} h past = h.written ∙ ap (λ (l : List ℕ). fill l before) (all_rows w q h.within past)

pub returns : goal.returns
returns c = all_written c.loop-period.invariant (omega arith)

pub returns-2 : goal.returns-2
returns-2 c = all_written (written_further (goal.at.returns-2 c).After-of c.write_row-at.ensures.value c.write_row-at.ensures.out_after) (omega arith)
