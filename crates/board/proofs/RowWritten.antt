-- Laws of the loop that writes the words of a row's open pairs.
use mathlib.Core.Path.{◌≡◌, refl, sym, ap, ap₂, ◌∙◌}
use mathlib.Core.Logic.{◌≢◌}
use mathlib.Core.Bool.{true, false}
use mathlib.Core.List.{List, [], ◌++◌, append-nil}
use Prim.Native.Nat.{ℕ, suc, ◌+◌, ◌≤◌, ◌<◌}
use native.Mathlib.Nat.{zero-add}
use native.Mathlib.Numerals.{add-one}
use native.Mathlib.Omega.{arith}
use lib.ListN.{length, take, get_or, set}
use lib.Dec.{eqb}
use borrow.Author.Tests.{eq-eqb, ne_eqb}
use Rattle.abelian.specs.Lists.{one, put}
use Rattle.abelian.specs.Words.{count}
use Rattle.abelian.specs.Periods.{pair}
use Rattle.abelian.specs.Output.{output_word, period_word, fill}
use Rattle.abelian.proofs.Counts.{count-take-more}
use Rattle.periods.proofs.OnceEnded.{count-take-le}
use Rattle.words.proofs.Lists.{length-fill, fill_more}
use Rattle.board.specs.Rows.{row_words}
use Rattle.board.proofs.Rows.{length-row_words, row_words-more}

-- the words of the entries below the head h stand in the first places
pub record Written (row : List ℕ) (p : ℕ) (old out : List ℕ) (written h : ℕ) : Type 0 where
  pub counted : written ≡ count 0 (take h row)
  pub filled : out ≡ fill (row_words p 0 (take h row)) old

module _ {row old : List ℕ} {p : ℕ} where
  pub none_written : Written row p old old 0 0
  unfolding count row_words fill
  none_written = record { counted = refl; filled = refl }

  module _ {out : List ℕ} {written h : ℕ} (room : count 0 row ≤ length old) (g : Written row p old out written h) where
    words : List ℕ
    words = row_words p 0 (take h row)

    as_many : written ≡ length (row_words p 0 (take h row))
    as_many = g.counted ∙ sym (length-row_words p 0 (take h row))

    -- the slice has kept its length
    pub same_places : length out ≡ length old
    same_places = ap length g.filled ∙ length-fill (row_words p 0 (take h row)) old (omega (arith, as_many, g.counted, count-take-le 0 h row))

    module _ (l : h < length row) where
      more_words : row_words p 0 (take (suc h) row) ≡ row_words p 0 (take h row) ++ put (eqb (get_or row h 0) 0) (period_word (pair h p)) []
      more_words = rw zero-add at (row_words-more p 0 row h l)

      -- a pair that is not open has no word
      pub none_more : get_or row h 0 ≢ 0 → Written row p old out written (h + 1)
      none_more n =
          let e : eqb (get_or row h 0) 0 ≡ false = ne_eqb (get_or row h 0) 0 n in
          let o : one (eqb (get_or row h 0) 0) ≡ 0 = ap one e in
          rw add-one (record {
            counted = omega (arith, g.counted, count-take-more 0 h row l);
            filled = g.filled ∙ ap (λ ws. fill ws old) (sym (more_words ∙ rw (e, append-nil)));
          })

      module _ (z : get_or row h 0 ≡ 0) where
        open_entry : one (eqb (get_or row h 0) 0) ≡ 1
        open_entry = ap one (eq-eqb (get_or row h 0) 0 z)

        -- an open one has a place left for its word
        pub place_left : written < length out
        place_left = omega (arith, same_places, g.counted, count-take-more 0 h row l, open_entry, count-take-le 0 (suc h) row)

        pub one_more : Written row p old (set out written (output_word 1 p h)) (written + 1) (h + 1)
        unfolding period_word
        one_more =
            let e : eqb (get_or row h 0) 0 ≡ true = eq-eqb (get_or row h 0) 0 z in
            rw (add-one h) (record {
              counted = omega (arith, g.counted, count-take-more 0 h row l, open_entry);
              filled =
                  ap₂ (λ o k. set o k (output_word 1 p h)) g.filled as_many
                  ∙ fill_more (row_words p 0 (take h row)) old (output_word 1 p h) (omega (arith, place_left, as_many, same_places))
                  ∙ ap (λ ws. fill ws old) (sym (more_words ∙ rw e));
            })
