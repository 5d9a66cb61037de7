-- The open pairs of one row, as output words.
use Rattle.std.specs.Prelude.{ℕ, suc, List, [], ◌∷◌, eqb}
use Rattle.abelian.specs.Lists.{put}
use Rattle.abelian.specs.Periods.{pair}
use Rattle.abelian.specs.Output.{period_word}

-- of a row's entries, the first of which is that of the head h: the words of the pairs whose entry is 0
unfoldable pub row_words : ℕ → ℕ → List ℕ → List ℕ
row_words p h [] = []
row_words p h (e ∷ es) = put (eqb e 0) (period_word (pair h p)) (row_words p (suc h) es)
