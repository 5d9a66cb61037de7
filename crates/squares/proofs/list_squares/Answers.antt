-- `squares::list_squares` meets its contract: each of its three answers is the definition's, since the count is that of the definition's words.
use Rattle.std.proofs.Common.{◌≡◌, ◌∙◌, ◌≤◌, ℕ, List, false, ap, arith, length, take}
use Rattle.std.proofs.Math.Option.{none}
use Rattle.std.proofs.lemmas.Result.{err_from_is_err_and}
use Rattle.abelian.specs.Words.{longest}
use Rattle.abelian.specs.Output.{fill}
use Rattle.abelian.specs.Refusals.{word_refusal}
use Rattle.abelian.specs.Answers.{writing}
use Rattle.abelian.specs.Squares.{square_words}
use Rattle.abelian.specs.Calls.{square_listing}
use Rattle.words.proofs.Lists.{take-fill}
use Rattle.words.proofs.Listings.{refused_listing, given_word, accepted, accepted_word, counted_short, counted_written}
use Rattle.squares.specs.Marks.{square_marks}
use Rattle.squares.proofs.Candidates.{candidates_bound}
use Rattle.squares.proofs.list_squares.Goals as goal
use Rattle.squares.proofs.list_squares.Goals.{After-new-counted}

pub returns-in_err-word : goal.returns-in_err-word
unfolding square_listing
returns-in_err-word c =
    let p = err_from_is_err_and c.from_residual.result c.from_residual.ensures.1 in
    rw (p.1, p.2) (refused_listing c.args.word.now c.check_word.ensures c.args.out.now (square_words c.args.word.now) 0 0 0 c.in_err-word.was)

-- what is known once the word is accepted
module _ (c : After-new-counted) where
  abbrev w : List ℕ
  w = c.args.word.now

  -- it is the word that was given
  same : c.new-counted.result ≡ w
  same = c.new-counted.ensures ∙ given_word w c.check_word.ensures c.in_ok-word.was

  allowed : word_refusal w false 0 0 ≡ none
  allowed = accepted w c.check_word.ensures c.in_ok-word.was

  short : length c.new-counted.result ≤ longest
  short = omega (arith, ap length same, accepted_word w c.check_word.ensures c.in_ok-word.was)

  -- the number of its squares, and their words
  counted : {needed : ℕ} → needed ≡ length (square_words c.new-counted.result) → needed ≡ length (square_words w)
  counted e = e ∙ ap (λ (v : List ℕ). length (square_words v)) same

  written : {out : List ℕ} (before : List ℕ) → out ≡ fill (square_words c.new-counted.result) before → out ≡ fill (square_words w) before
  written {out} before e = e ∙ ap (λ (v : List ℕ). fill (square_words v) before) same

pub mark_squares-needed-requires : goal.mark_squares-needed-requires
unfolding longest
mark_squares-needed-requires c = omega (arith, candidates_bound c.new-counted.result (short (goal.at.mark_squares-needed-requires c).After-new-counted))

pub returns-then-needed-out : goal.returns-then-needed-out
unfolding square_listing
returns-then-needed-out c =
    let k = (goal.at.returns-then-needed-out c).After-new-counted in
    counted_short (w k) c.args.out.now (square_words (w k)) 0 0 0 (allowed k) c.mark_squares-needed.result (counted k c.mark_squares-needed.ensures.value) c.if-needed-out.true

pub invariant_of-marked : goal.invariant_of-marked
invariant_of-marked c =
    let marks = square_marks c.new-counted.result in
    record { marked = ap (take (length marks)) c.mark_squares-needed.ensures.marks_after ∙ take-fill marks _ }

pub returns : goal.returns
unfolding square_listing
returns c =
    let k = (goal.at.returns c).After-new-counted in
    ap (writing c.mark_squares-needed.result 0 0 0) (written k c.args.out.now c.write_squares.ensures)
    ∙ counted_written (w k) c.args.out.now (square_words (w k)) 0 0 0 (allowed k) c.mark_squares-needed.result (counted k c.mark_squares-needed.ensures.value) (omega (arith, counted k c.mark_squares-needed.ensures.value))
