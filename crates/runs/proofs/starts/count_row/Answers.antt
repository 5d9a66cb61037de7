-- `runs::starts::count_row` meets its contract: a start of a run adds two words.
use Rattle.std.proofs.Common.{◌≡◌, ◌∙◌, ◌+◌, ◌-◌, ◌*◌, ◌≤◌, ◌<◌, ℕ, suc, List, true, false, sym, ap, subst, arith, length, length-append}
use Rattle.abelian.specs.Runs.{run_at, words_of_run}
use Rattle.runs.proofs.Marks.{row_length}
use Rattle.runs.specs.Rows.{starts_run, row_words}
use Rattle.runs.proofs.Rows.{words_up_to, all_starts, words_one_more, words_no_more}
use Rattle.runs.proofs.starts.count_row.Invariants.{Counting}
use Rattle.runs.proofs.starts.count_row.Goals as goal
use Rattle.runs.proofs.starts.count_row.Goals.{Joined-starts_run, then-starts_run, else-starts_run}

module _ {w : List ℕ} {d found s : ℕ} (h : Counting w d found s) (positive : 1 ≤ s) (within : s ≤ suc (length w) - 2 * d) where
  -- two words more, or none
  one_more_lem : starts_run w d s ≡ true → Counting w d (found + 2) (s + 1)
  unfolding words_of_run
  one_more_lem t =
      record {
        within = omega arith;
        counted = omega (arith, h.counted, ap length (words_one_more w d s positive t), length-append (words_up_to w d (s - 1)) (words_of_run (run_at w d s)));
        few = omega (arith, h.few);
      }

  no_more : starts_run w d s ≡ false → Counting w d found (s + 1)
  no_more t = record { within = omega arith; counted = h.counted ∙ ap length (sym (words_no_more w d s positive t)); few = omega (arith, h.few) }

-- past the last start they are those of the row
all_counted : {w : List ℕ} {d found s : ℕ} → Counting w d found s → suc (length w) - 2 * d < s → found ≡ length (row_words w d)
all_counted {w} {d} {found} {s} h past = h.counted ∙ ap length (all_starts w d (s - 1) (omega (arith, h.within)))

-- how far the candidates go
module _ (c : Joined-starts_run) where
  size : length c.args.row.now.marks.now ≡ suc (length c.args.row.now.word.now) - 2 * c.args.row.now.period
  size = row_length c.args.row.now.word.now c.args.row.now.period c.args.row.now.marked

  counted_further : Counting c.args.row.now.word.now c.args.row.now.period c.if-starts_run.found (c.loop-start.start + 1)
  counted_further =
      let row = c.args.row.now in
      let C : ℕ → Type 0 = λ n. Counting row.word.now row.period n (c.loop-start.start + 1) in
      let within : c.loop-start.start ≤ suc (length row.word.now) - 2 * row.period = omega (arith, size) in
      elim c.if-starts_run.branch [
        | then-starts_run w ↦ subst C (sym w.found-is) (one_more_lem c.loop-start.invariant c.loop-start.auto.start within (sym c.starts_run.ensures ∙ w.if-starts_run.true))
        | else-starts_run w ↦ subst C (sym w.found-is) (no_more c.loop-start.invariant c.loop-start.auto.start within (sym c.starts_run.ensures ∙ w.if-starts_run.false))
      ]

pub loop-start-preserved : goal.loop-start-preserved
loop-start-preserved c = counted_further (goal.at.loop-start-preserved c).Joined-starts_run

pub returns : goal.returns
returns c =
    let row = c.args.row.now in
    all_counted c.loop-start.invariant (omega (arith, row_length row.word.now row.period row.marked))

pub returns-after-starts_run : goal.returns-after-starts_run
returns-after-starts_run c =
    let j = (goal.at.returns-after-starts_run c).Joined-starts_run in
    all_counted (counted_further j) (omega (arith, size j))
