-- `listers::count` meets its contract: the number of the Abelian periods of the word that was checked.
use Rattle.std.proofs.Common.{List, ℕ, length, ap, ◌∙◌}
use Rattle.std.proofs.lemmas.Result.{err_from_is_err_and}
use Rattle.abelian.specs.Calls.{period_words, period_count}
use Rattle.words.proofs.Listings.{refused_count, accepted_count, given_word}
use Rattle.listers.proofs.count.Goals as goal

pub returns-in_err-word : goal.returns-in_err-word
unfolding period_count
returns-in_err-word g c =
    let p = err_from_is_err_and c.from_residual.result c.from_residual.ensures.1 in
    rw (p.1, p.2) (refused_count c.args.word.now c.check_word.ensures (period_words c.args.word.now) c.in_err-word.was)

pub returns : goal.returns
unfolding period_count
returns g c =
    let w = c.args.word.now in
    accepted_count w c.check_word.ensures c.in_ok-word.was (period_words w) (c.number_left.ensures ∙ ap (λ (v : List ℕ). length (period_words v)) (given_word w c.check_word.ensures c.in_ok-word.was))
