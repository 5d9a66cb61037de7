-- `runs::output::write_row` meets its contract: the words of a run stand behind those of the starts before it.
use Rattle.std.proofs.Common.{◌≡◌, ◌∙◌, ◌+◌, ◌-◌, ◌*◌, ◌≤◌, ◌<◌, ℕ, suc, List, true, false, refl, sym, ap, subst, arith, length, take, drop, length-append, length-take, length-drop}
use borrow.Rule.Slice.PartMut.{put_mid}
use Rattle.abelian.specs.Output.{fill}
use Rattle.abelian.specs.Runs.{run_at, words_of_run}
use Rattle.words.proofs.Lists.{fill_lent}
use Rattle.runs.specs.Rows.{starts_run, row_words}
use Rattle.runs.proofs.Marks.{row_length, starts_square}
use Rattle.runs.proofs.Rows.{words_up_to, all_starts, words_rise, words_one_more, words_no_more}
use Rattle.runs.proofs.output.write_row.Invariants.{Writing}
use Rattle.runs.proofs.output.write_row.Goals as goal
use Rattle.runs.proofs.output.write_row.Goals.{After-starts_run, Joined-starts_run, then-starts_run, else-starts_run}

pub loop-start-init : goal.loop-start-init
unfolding fill
loop-start-init c = record { within = omega arith; reached = refl; few = omega arith; written = refl }

module _ {w : List ℕ} {d : ℕ} {before out : List ℕ} {at s : ℕ} (h : Writing w d before out at s) (positive : 1 ≤ s) (within : s ≤ suc (length w) - 2 * d) where
  module _ (begins : starts_run w d s ≡ true) where
    -- a run has two words
    words-two : length (words_up_to w d (s + 1 - 1)) ≡ at + 2
    unfolding words_of_run
    words-two = omega (arith, h.reached, ap length (words_one_more w d s positive begins), length-append (words_up_to w d (s - 1)) (words_of_run (run_at w d s)))

    -- which have places
    places-left : length (row_words w d) ≤ length out → at + 2 ≤ length out
    places-left all =
        let e : s + 1 - 1 ≡ s = omega arith in
        omega (arith, words-two, ap (λ (k : ℕ). length (words_up_to w d k)) e, words_rise w d s within)

    -- and stand behind the others
    written_further : {lent : List ℕ} → lent ≡ fill (words_of_run (run_at w d s)) (take (length out - at) (drop at out)) → Writing w d before (put_mid at (length out - at) out lent) (at + 2) (s + 1)
    written_further {lent} e =
        record {
          within = omega arith;
          reached = sym words-two;
          few = omega (arith, h.few);
          written =
              fill_lent (words_up_to w d (s - 1)) (words_of_run (run_at w d s)) before out lent at h.written h.reached e
              ∙ ap (λ (l : List ℕ). fill l before) (sym (words_one_more w d s positive begins));
        }

  -- a start of no run is passed over
  passed_over : starts_run w d s ≡ false → Writing w d before out at (s + 1)
  passed_over t =
      let same : words_up_to w d (s + 1 - 1) ≡ words_up_to w d (s - 1) = words_no_more w d s positive t in
      record {
        within = omega arith;
        reached = h.reached ∙ ap length (sym same);
        few = omega (arith, h.few);
        written = h.written ∙ ap (λ (l : List ℕ). fill l before) (sym same);
      }

-- past the last start they are those of the row
module _ {w : List ℕ} {d : ℕ} {before out : List ℕ} {at s : ℕ} (h : Writing w d before out at s) (past : suc (length w) - 2 * d < s) where
  all : words_up_to w d (s - 1) ≡ row_words w d
  all = all_starts w d (s - 1) (omega (arith, h.within))

  all_reached : at ≡ length (row_words w d)
  all_reached = h.reached ∙ ap length all

  all_written : out ≡ fill (row_words w d) before
  all_written = h.written ∙ ap (λ (l : List ℕ). fill l before) all

-- what is known at a start
module _ (c : After-starts_run) where
  size : length c.args.row.now.marks.now ≡ suc (length c.args.row.now.word.now) - 2 * c.args.row.now.period
  size = row_length c.args.row.now.word.now c.args.row.now.period c.args.row.now.marked

  candidate : c.loop-start.start ≤ suc (length c.args.row.now.word.now) - 2 * c.args.row.now.period
  candidate = omega (arith, size)

  -- where a run begins there is room for its words
  room : c.starts_run.result ≡ true → c.loop-start.at + 2 ≤ length c.loop-start.out
  room t = places-left c.loop-start.invariant c.loop-start.auto.start candidate (sym c.starts_run.ensures ∙ t) (omega arith)

pub slice_bounds-write_run-count : goal.slice_bounds-write_run-count
slice_bounds-write_run-count c = omega (arith, room (goal.at.slice_bounds-write_run-count c).After-starts_run c.if-starts_run.true)

pub slice_bounds-write_run-start : goal.slice_bounds-write_run-start
slice_bounds-write_run-start c = omega (arith, room (goal.at.slice_bounds-write_run-start c).After-starts_run c.if-starts_run.true)

pub write_run-requires-clause-t : goal.write_run-requires-clause-t
write_run-requires-clause-t c = starts_square c.args.row.now.word.now c.args.row.now.period c.loop-start.start (sym c.starts_run.ensures ∙ c.if-starts_run.true)

pub write_run-requires-clause-in_bounds : goal.write_run-requires-clause-in_bounds
write_run-requires-clause-in_bounds c =
    let out = c.loop-start.out in
    let at = c.loop-start.at in
    omega (arith, room (goal.at.write_run-requires-clause-in_bounds c).After-starts_run c.if-starts_run.true, length-take (length out - at) (drop at out), length-drop at out)

-- the invariant at the next start
start_further : (c : Joined-starts_run) → Writing c.args.row.now.word.now c.args.row.now.period c.args.out.now c.if-starts_run.out c.if-starts_run.at (c.loop-start.start + 1)
start_further c =
    let row = c.args.row.now in
    let h = c.loop-start.invariant in
    let W : List ℕ → ℕ → Type 0 = λ out at. Writing row.word.now row.period c.args.out.now out at (c.loop-start.start + 1) in
    let within : c.loop-start.start ≤ suc (length row.word.now) - 2 * row.period = omega (arith, row_length row.word.now row.period row.marked) in
    elim c.if-starts_run.branch [
      | then-starts_run w ↦
          subst (λ (at : ℕ). W c.if-starts_run.out at) (sym w.at-is)
          (subst (λ (out : List ℕ). W out (c.loop-start.at + 2)) (sym w.out-is)
          (written_further h c.loop-start.auto.start within (sym c.starts_run.ensures ∙ w.if-starts_run.true) w.write_run.ensures))
      | else-starts_run w ↦
          subst (λ (at : ℕ). W c.if-starts_run.out at) (sym w.at-is)
          (subst (λ (out : List ℕ). W out c.loop-start.at) (sym w.out-is) (passed_over h c.loop-start.auto.start within (sym c.starts_run.ensures ∙ w.if-starts_run.false)))
    ]

pub loop-start-preserved : goal.loop-start-preserved
loop-start-preserved c = start_further (goal.at.loop-start-preserved c).Joined-starts_run

pub returns : goal.returns
returns c =
    let row = c.args.row.now in
    let past : suc (length row.word.now) - 2 * row.period < c.loop-start.start = omega (arith, row_length row.word.now row.period row.marked) in
    record { value = all_reached c.loop-start.invariant past; out_after = all_written c.loop-start.invariant past }

pub returns-after-starts_run : goal.returns-after-starts_run
returns-after-starts_run c =
    let row = c.args.row.now in
    let h = start_further (goal.at.returns-after-starts_run c).Joined-starts_run in
    let past : suc (length row.word.now) - 2 * row.period < c.loop-start.start + 1 = omega (arith, row_length row.word.now row.period row.marked) in
    record { value = all_reached h past; out_after = all_written h past }
