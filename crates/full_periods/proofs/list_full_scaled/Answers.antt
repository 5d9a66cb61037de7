-- `full_periods::list_full_scaled` meets its contract: it is refused for its word, or lists the path's table, which is that of the full periods.
use Rattle.std.proofs.Common.{◌≡◌, ℕ, List, map, ap, ◌∙◌}
use Rattle.std.proofs.lemmas.Result.{err_from_is_err_and}
use Rattle.abelian.specs.Output.{full_word}
use Rattle.abelian.specs.Answers.{writing}
use Rattle.full_periods.specs.Paths.{scaled_path}
use Rattle.abelian.specs.FullPeriods.{scale, scaled_gap}
use Rattle.abelian.specs.Calls.{full_words, scaled_listing}
use Rattle.words.proofs.Listings.{refused_listing, given_word, accepted}
use Rattle.full_periods.specs.declared.scaled.ScaledPath.{ScaledPath}
use Rattle.full_periods.specs.Marks.{marked}
use Rattle.full_periods.proofs.Listing.{path_steps, marked_words, listed_written, listed_short}
use Rattle.full_periods.proofs.list_full_scaled.Goals as goal
use Rattle.full_periods.proofs.list_full_scaled.Goals.{After-list}

pub returns-in_err-word : goal.returns-in_err-word
unfolding scaled_listing
returns-in_err-word c =
    let w : List ℕ = c.args.word.now in
    let p = err_from_is_err_and c.from_residual.result c.from_residual.ensures.1 in
    rw (p.1, p.2) (refused_listing w c.check_word.ensures c.args.out.now (full_words w) 0 (scale w) (scaled_gap w) c.in_err-word.was)

pub invariant_of-marked-clause-steps : goal.invariant_of-marked-clause-steps
invariant_of-marked-clause-steps c = path_steps c.len.ensures.word c.len.ensures.value c.find_path-s.ensures

-- the words that were listed are the definition's
listed : (c : After-list) → map (full_word c.len.result) (marked c.len.result c.find_path-s.result.marks) ≡ full_words c.args.word.now
listed c =
    marked_words c.len.ensures.word c.len.ensures.value (ap (λ (x : ScaledPath). x.marks) c.find_path-s.ensures)
    ∙ ap full_words (given_word c.args.word.now c.check_word.ensures c.in_ok-word.was)

pub returns-in_err-words : goal.returns-in_err-words
unfolding scaled_listing
returns-in_err-words c =
    let w : List ℕ = c.args.word.now in
    let p = err_from_is_err_and c.from_residual-in_err-words.result c.from_residual-in_err-words.ensures.1 in
    rw (p.1, p.2) (listed_short w c.args.out.now (full_words w) (accepted w c.check_word.ensures c.in_ok-word.was) (scale w) (scaled_gap w)
    (rw (listed (goal.at.returns-in_err-words c).After-list) at c.in_err-words.ensures))

pub returns : goal.returns
unfolding scaled_listing
returns c =
    let w : List ℕ = c.args.word.now in
    let path = c.find_path-s.ensures ∙ ap scaled_path (given_word w c.check_word.ensures c.in_ok-word.was) in
    ap (λ (x : ScaledPath). writing c.in_ok-words.words 0 x.s x.t c.list.new.out) path
    ∙ listed_written w c.args.out.now (full_words w) (accepted w c.check_word.ensures c.in_ok-word.was) (scale w) (scaled_gap w)
    (rw (listed (goal.at.returns c).After-list) at c.in_ok-words.ensures)
