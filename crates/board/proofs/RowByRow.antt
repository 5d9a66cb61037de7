-- Laws of the loops over the rows of a board: the start is carried from row to row, and the open pairs of the rows passed are counted or written.
use mathlib.Core.Path.{◌≡◌, refl, sym, ap, ◌∙◌}
use mathlib.Core.List.{List, ◌++◌, map, map-append}
use Prim.Native.Nat.{ℕ, suc, ◌+◌, ◌-◌, ◌*◌, ◌≤◌, ◌<◌}
use native.Mathlib.Omega.{arith}
use lib.ListN.{length, take, drop, length-map}
use Rattle.abelian.specs.Lists.{keep}
use Rattle.abelian.specs.Words.{longest, count, part}
use Rattle.abelian.specs.Periods.{Pair, heads, row}
use Rattle.abelian.specs.Output.{period_word, fill}
use Rattle.abelian.specs.Trackers.{board_size, open_pairs, open_words}
use Rattle.abelian.proofs.Counts.{count-le-length}
use Rattle.words.proofs.Lists.{length-fill, fill_lent}
use Rattle.board.specs.Places.{row_start, is_open}
use Rattle.board.specs.Rows.{row_words}
use Rattle.board.proofs.Places.{board_long}
use Rattle.board.proofs.Rows.{row_words_lem, open_up_to, open_up_to_more, open_up_to_counts, open_up_to_rises, open_up_to_all, row_end, row_lent, row_short, AtRow, first_row, ends_within, next_at_row}

-- the rows below p have been counted
pub record RowsCounted (n : ℕ) (board : List ℕ) (found start p : ℕ) : Type 0 where
  pub row : AtRow n p start
  pub few : found ≤ (p - 1) * longest
  pub counted : found ≡ length (open_up_to n board (p - 1))

-- the rows below p have been written
pub record RowsWritten (n : ℕ) (board old out : List ℕ) (written start p : ℕ) : Type 0 where
  pub row : AtRow n p start
  pub counted : written ≡ length (open_up_to n board (p - 1))
  pub filled : out ≡ fill (map period_word (open_up_to n board (p - 1))) old

module _ {n : ℕ} (board : List ℕ) (short : n ≤ longest) (long : length board ≡ 14520) where
  -- no row has been gone through
  pub no_row_counted : RowsCounted n board 0 0 1
  no_row_counted = record { row = first_row n; few = omega arith; counted = refl }

  pub no_row_written : {old : List ℕ} → RowsWritten n board old old 0 0 1
  unfolding fill
  no_row_written = record { row = first_row n; counted = refl; filled = refl }

  -- ---- a row

  module _ {p start : ℕ} (r : AtRow n p start) (l : p < n + 1) where
    within : row_start p + heads n p ≤ length board
    within = omega (arith, row_end n p r.from (omega arith) short, board_long board long)

    more_open : length (open_up_to n board p) ≡ length (open_up_to n board (p - 1)) + count 0 (part board (row_start p) (heads n p))
    more_open = open_up_to_counts n board p r.from within

    -- the next row begins on the board
    pub next_on_board : {next : ℕ} → next ≡ heads longest p → start + next ≤ 14520
    unfolding board_size
    next_on_board e = ends_within r (omega arith) (omega arith) e

    module _ {size : ℕ} (e : size ≡ heads n p) where
      pub on_board : start + size ≤ 14520
      unfolding board_size
      on_board = ends_within r (omega arith) short e

      -- the part that is lent is the row
      lent : take (start + size - start) (drop start board) ≡ part board (row_start p) (heads n p)
      lent = row_lent board r.begins e

      pub lent_short : length (take (start + size - start) (drop start board)) ≤ longest
      lent_short = rw lent (row_short board n p (omega arith) short)

      pub lent_few : count 0 (take (start + size - start) (drop start board)) ≤ longest
      lent_few = omega (arith, lent_short, count-le-length 0 (take (start + size - start) (drop start board)))

  -- ---- counted

  module _ {found start p : ℕ} (g : RowsCounted n board found start p) where
    pub row_counted : p < n + 1 → {size found_here next : ℕ} → size ≡ heads n p → found_here ≡ count 0 (take (start + size - start) (drop start board)) → next ≡ heads longest p
        → RowsCounted n board (found + found_here) (start + next) (p + 1)
    unfolding longest
    row_counted l {size} {found_here} {next} h z m =
        let e : p + 1 - 1 ≡ p = omega arith in
        record {
          row = next_at_row g.row (omega arith) short m;
          few = omega (arith, g.few, g.row.from, z, lent_few g.row l h);
          counted = rw e (omega (arith, g.counted, more_open g.row l, z ∙ ap (count 0) (lent g.row l h)));
        }

    pub rows_counted : p ≡ suc n → found ≡ length (open_pairs n board)
    rows_counted l =
        let e : p - 1 ≡ n = omega arith in
        g.counted ∙ ap (λ (m : ℕ). length (open_up_to n board m)) e ∙ ap length (open_up_to_all n board short (board_long board long))

  -- ---- written

  module _ {old out : List ℕ} {written start p : ℕ} (room : length (open_pairs n board) ≤ length old) (g : RowsWritten n board old out written start p) where
    words : List ℕ
    words = map period_word (open_up_to n board (p - 1))

    as_many : written ≡ length (map period_word (open_up_to n board (p - 1)))
    as_many = g.counted ∙ sym (length-map (open_up_to n board (p - 1)) period_word)

    all_fit : length (open_up_to n board n) ≤ length old
    all_fit = rw (open_up_to_all n board short (board_long board long)) room

    same_places : length out ≡ length old
    same_places =
        let f : length (open_up_to n board (p - 1)) ≤ length (open_up_to n board n) = open_up_to_rises n board (omega (arith, g.row.to)) in
        ap length g.filled ∙ length-fill (map period_word (open_up_to n board (p - 1))) old (omega (arith, as_many, g.counted, all_fit))

    -- the words of the row have places
    pub places_left : p < n + 1 → {size : ℕ} → size ≡ heads n p → written + count 0 (take (start + size - start) (drop start board)) ≤ length out
    places_left l h =
        let f : length (open_up_to n board p) ≤ length (open_up_to n board n) = open_up_to_rises n board (omega arith) in
        omega (arith, g.counted, more_open g.row l, ap (count 0) (lent g.row l h), all_fit, same_places)

    pub row_written : p < n + 1 → {size more next : ℕ} {new : List ℕ} → size ≡ heads n p → more ≡ count 0 (take (start + size - start) (drop start board))
        → new ≡ fill (row_words p 0 (take (start + size - start) (drop start board))) (take (length out - written) (drop written out)) → next ≡ heads longest p
        → RowsWritten n board old (take written out ++ (new ++ drop (length out - written) (drop written out))) (written + more) (start + next) (p + 1)
    row_written l {size} {more} {next} {new} h z f m =
        let e : p + 1 - 1 ≡ p = omega arith in
        let opened : List Pair = keep (is_open board) (row n p) in
        let these : row_words p 0 (take (start + size - start) (drop start board)) ≡ map period_word opened = ap (row_words p 0) (lent g.row l h) ∙ row_words_lem board n p (within g.row l) in
        let joined : map period_word (open_up_to n board p) ≡ map period_word (open_up_to n board (p - 1)) ++ map period_word opened =
        ap (map period_word) (open_up_to_more n board p g.row.from) ∙ map-append period_word (open_up_to n board (p - 1)) opened in
        record {
          row = next_at_row g.row (omega arith) short m;
          counted = rw e (omega (arith, g.counted, more_open g.row l, z ∙ ap (count 0) (lent g.row l h)));
          filled = rw (e, joined) (fill_lent (map period_word (open_up_to n board (p - 1))) (map period_word opened) old out new written g.filled as_many
              (f ∙ ap (λ (ws : List ℕ). fill ws (take (length out - written) (drop written out))) these));
        }

    pub rows_written : p ≡ suc n → out ≡ fill (open_words n board) old
    rows_written l =
        let e : p - 1 ≡ n = omega arith in
        g.filled ∙ ap (λ (m : ℕ). fill (map period_word (open_up_to n board m)) old) e
        ∙ ap (λ (xs : List Pair). fill (map period_word xs) old) (open_up_to_all n board short (board_long board long))
