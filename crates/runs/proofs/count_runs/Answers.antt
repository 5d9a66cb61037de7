-- `runs::count_runs` meets its contract: it is refused for its word, or counts the words of the runs on the marks of the squares.
use Rattle.std.proofs.Common.{◌≡◌, ◌∙◌, List, ℕ, ap, arith, length, take}
use Rattle.std.proofs.lemmas.Result.{err_from_is_err_and}
use Rattle.abelian.specs.Words.{longest}
use Rattle.abelian.specs.Runs.{run_words}
use Rattle.abelian.specs.Calls.{run_count}
use Rattle.words.proofs.Lists.{take-fill}
use Rattle.words.proofs.Listings.{refused_count, given_word, accepted_word, accepted_count}
use Rattle.squares.specs.Marks.{square_marks}
use Rattle.squares.proofs.Candidates.{candidates_bound}
use Rattle.runs.proofs.count_runs.Goals as goal
use Rattle.runs.proofs.count_runs.Goals.{After-new-counted}

pub returns-in_err-word : goal.returns-in_err-word
unfolding run_count
returns-in_err-word c =
    let p = err_from_is_err_and c.from_residual.result c.from_residual.ensures.1 in
    rw (p.1, p.2) (refused_count c.args.word.now c.check_word.ensures (run_words c.args.word.now) c.in_err-word.was)

-- the word that is counted is the word that was given
same : (c : After-new-counted) → c.new-counted.result ≡ c.args.word.now
same c = c.new-counted.ensures ∙ given_word c.args.word.now c.check_word.ensures c.in_ok-word.was

pub mark_squares-requires : goal.mark_squares-requires
unfolding longest
mark_squares-requires c =
    let e = ap length (same (goal.at.mark_squares-requires c).After-new-counted) in
    omega (arith, candidates_bound c.new-counted.result (omega (arith, e, accepted_word c.args.word.now c.check_word.ensures c.in_ok-word.was)))

pub invariant_of-marked : goal.invariant_of-marked
invariant_of-marked c =
    let marks = square_marks c.new-counted.result in
    record { marked = ap (take (length marks)) c.mark_squares.ensures.marks_after ∙ take-fill marks _ }

pub returns : goal.returns
unfolding run_count
returns c =
    accepted_count c.args.word.now c.check_word.ensures c.in_ok-word.was (run_words c.args.word.now)
    (c.count_words.ensures ∙ ap (λ (v : List ℕ). length (run_words v)) (same (goal.at.returns c).After-new-counted))
