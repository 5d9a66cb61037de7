-- `squares::count_squares` meets its contract: it is refused for its word, or gives the number of squares.
use Rattle.std.proofs.Common.{◌∙◌, List, ℕ, ap, length}
use Rattle.std.proofs.lemmas.Result.{err_from_is_err_and}
use Rattle.abelian.specs.Squares.{square_words}
use Rattle.abelian.specs.Calls.{square_count}
use Rattle.words.proofs.Listings.{refused_count, given_word, accepted_count}
use Rattle.squares.proofs.count_squares.Goals as goal

pub returns-in_err-word : goal.returns-in_err-word
unfolding square_count
returns-in_err-word c =
    let p = err_from_is_err_and c.from_residual.result c.from_residual.ensures.1 in
    rw (p.1, p.2) (refused_count c.args.word.now c.check_word.ensures (square_words c.args.word.now) c.in_err-word.was)

pub returns : goal.returns
unfolding square_count
returns c =
    let w = c.args.word.now in
    accepted_count w c.check_word.ensures c.in_ok-word.was (square_words w)
    (c.number_of_squares.ensures ∙ ap (λ (v : List ℕ). length (square_words v)) (given_word w c.check_word.ensures c.in_ok-word.was))
