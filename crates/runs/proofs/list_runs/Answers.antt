-- `runs::list_runs` meets its contract: each of its three answers is the definition's, since the count is that of the definition's words.
use Rattle.std.proofs.Common.{◌≡◌, ◌∙◌, ◌≤◌, ℕ, List, false, ap, arith, length, take}
use Rattle.std.proofs.Math.Option.{none}
use Rattle.std.proofs.lemmas.Result.{err_from_is_err_and}
use Rattle.abelian.specs.Words.{longest}
use Rattle.abelian.specs.Output.{fill}
use Rattle.abelian.specs.Refusals.{word_refusal}
use Rattle.abelian.specs.Answers.{writing}
use Rattle.abelian.specs.Runs.{run_words}
use Rattle.abelian.specs.Calls.{run_listing}
use Rattle.words.proofs.Lists.{take-fill}
use Rattle.words.proofs.Listings.{refused_listing, given_word, accepted, accepted_word, counted_short, counted_written}
use Rattle.squares.specs.Marks.{square_marks}
use Rattle.squares.proofs.Candidates.{candidates_bound}
use Rattle.runs.proofs.list_runs.Goals as goal
use Rattle.runs.proofs.list_runs.Goals.{After-new-counted}

pub returns-in_err-word : goal.returns-in_err-word
unfolding run_listing
returns-in_err-word c =
    let p = err_from_is_err_and c.from_residual.result c.from_residual.ensures.1 in
    rw (p.1, p.2) (refused_listing c.args.word.now c.check_word.ensures c.args.out.now (run_words c.args.word.now) 0 0 0 c.in_err-word.was)

-- what is known once the word is accepted
module _ (c : After-new-counted) where
  abbrev w : List ℕ
  w = c.args.word.now

  -- it is the word that was given
  same : c.new-counted.result ≡ w
  same = c.new-counted.ensures ∙ given_word w c.check_word.ensures c.in_ok-word.was

  allowed : word_refusal w false 0 0 ≡ none
  allowed = accepted w c.check_word.ensures c.in_ok-word.was

  short : length c.new-counted.result ≤ longest
  short = omega (arith, ap length same, accepted_word w c.check_word.ensures c.in_ok-word.was)

  -- the number of the words of its runs, and these
  counted : {needed : ℕ} → needed ≡ length (run_words c.new-counted.result) → needed ≡ length (run_words w)
  counted e = e ∙ ap (λ (v : List ℕ). length (run_words v)) same

  written : {out : List ℕ} (before : List ℕ) → out ≡ fill (run_words c.new-counted.result) before → out ≡ fill (run_words w) before
  written {out} before e = e ∙ ap (λ (v : List ℕ). fill (run_words v) before) same

pub mark_squares-requires : goal.mark_squares-requires
unfolding longest
mark_squares-requires c = omega (arith, candidates_bound c.new-counted.result (short (goal.at.mark_squares-requires c).After-new-counted))

pub invariant_of-marked : goal.invariant_of-marked
invariant_of-marked c =
    let marks = square_marks c.new-counted.result in
    record { marked = ap (take (length marks)) c.mark_squares.ensures.marks_after ∙ take-fill marks _ }

pub returns-then-needed-out : goal.returns-then-needed-out
unfolding run_listing
returns-then-needed-out c =
    let k = (goal.at.returns-then-needed-out c).After-new-counted in
    counted_short (w k) c.args.out.now (run_words (w k)) 0 0 0 (allowed k) c.count_words-needed.result (counted k c.count_words-needed.ensures) c.if-needed-out.true

pub returns : goal.returns
unfolding run_listing
returns c =
    let k = (goal.at.returns c).After-new-counted in
    ap (writing c.count_words-needed.result 0 0 0) (written k c.args.out.now c.write_runs.ensures)
    ∙ counted_written (w k) c.args.out.now (run_words (w k)) 0 0 0 (allowed k) c.count_words-needed.result (counted k c.count_words-needed.ensures) (omega (arith, counted k c.count_words-needed.ensures))
