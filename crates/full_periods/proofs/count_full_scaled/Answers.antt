-- `full_periods::count_full_scaled` meets its contract: it is refused for its word, or gives the number of full periods.
use Rattle.std.proofs.Common.{ℕ, List, ap, ◌∙◌, length}
use Rattle.std.proofs.lemmas.Result.{err_from_is_err_and}
use Rattle.abelian.specs.Calls.{full_words, full_count}
use Rattle.words.proofs.Listings.{refused_count, given_word, accepted_count}
use Rattle.full_periods.proofs.count_full_scaled.Goals as goal

pub returns-in_err-word : goal.returns-in_err-word
unfolding full_count
returns-in_err-word c =
    let p = err_from_is_err_and c.from_residual.result c.from_residual.ensures.1 in
    rw (p.1, p.2) (refused_count c.args.word.now c.check_word.ensures (full_words c.args.word.now) c.in_err-word.was)

pub returns : goal.returns
unfolding full_count
returns c =
    let w : List ℕ = c.args.word.now in
    accepted_count w c.check_word.ensures c.in_ok-word.was (full_words w)
    (c.number_of_full_periods.ensures ∙ ap (λ (u : List ℕ). length (full_words u)) (given_word w c.check_word.ensures c.in_ok-word.was))
