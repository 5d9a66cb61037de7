-- `patterns::find_all` meets its contract: the totals of the empty beginning are one 0.
use Rattle.std.proofs.Common.{ℕ, List, length, ap, ◌∙◌, arith}
use Rattle.abelian.specs.Patterns.{pattern_words}
use Rattle.patterns.specs.Search.{Searched, stored}
use Rattle.patterns.proofs.Found.{no_letters_numbered, found_begun}
use Rattle.patterns.proofs.find_all.Goals as goal

pub search-requires-clause-numbered : goal.search-requires-clause-numbered
search-requires-clause-numbered c = no_letters_numbered c.sizes.inside.length.0 c.sizes.invariant.1

pub returns : goal.returns
returns c =
    let all = found_begun c.sizes.inside.length.0 c.sizes.invariant.1 c.sizes.inside.alphabet.0 c.sizes.invariant.0 ∙ ap (λ (s : Searched). pattern_words s.letters s.length) c.sizes.view_is in
    record {
      value = omega (arith, c.search.ensures.value, ap length all);
      out_after = c.search.ensures.out_after ∙ ap (λ (ws : List ℕ). stored 0 ws c.args.out.now) all;
    }
