-- Laws of a board whose entries are made anew row by row.
use mathlib.Core.Path.{◌≡◌, refl, sym, ap, ap₂, ◌∙◌}
use mathlib.Core.Logic.{⊎_elim, ◌≢◌}
use mathlib.Core.Bool.{true, false}
use mathlib.Core.List.{List}
use Prim.Native.Nat.{ℕ, zero, suc, ◌+◌, ◌-◌, ◌*◌, ◌≤◌, ◌<◌}
use native.Mathlib.Omega.{arith}
use lib.ListN.{length, length-append}
use lib.Dec.{T, eqb, leb}
use borrow.Author.Tests.{eqb-true, eqb-false, le-leb, lt-leb, leb-true, leb-false}
use Rattle.abelian.specs.Lists.{pick, keep}
use Rattle.abelian.specs.Words.{longest}
use Rattle.abelian.specs.Periods.{Pair, in_range, row, pairs}
use Rattle.abelian.specs.EndedLengths.{board_of}
use Rattle.abelian.specs.Trackers.{board_size, entries, entry_added, open_pairs}
use Rattle.abelian.proofs.Tests.{is_false, decided}
use Rattle.abelian.proofs.Lists.{keep_agree, keep_shorter}
use Rattle.abelian.proofs.Pairs.{InRange, in_range_lem, range_in, in_range_longer, mem-row}
use Rattle.periods.proofs.PairCount.{length-row}
use Rattle.board.specs.Places.{entry_at, is_open}
use Rattle.board.specs.Ending.{entry_in_row, row_ended, row_open, all_ended}
use Rattle.board.proofs.Places.{length-board_of, board_of_at, board_of_agree, board_of-entries, entries_of, entries-board_of, entry_made}
use Rattle.board.proofs.Rows.{open_up_to, open_up_to_more, open_up_to_all, heads-le}
use Rattle.board.proofs.EndedRows.{out_of_range_kept}

-- the open pairs of a row are known by the row's entries
row_agree : (g : Pair → ℕ) (board : List ℕ) (n p : ℕ) → 1 ≤ p → n ≤ longest → ((x : Pair) → T (in_range longest x) → x.period ≡ p → g x ≡ entry_at board x)
    → row_open n (board_of g) p ≡ keep (is_open board) (row n p)
unfolding row_open
row_agree g board n p l u h =
    keep_agree (is_open (board_of g)) (is_open board) (row n p)
    (λ x m.
    let r : InRange n x × (x.period ≡ p) = mem-row n p l m in
    let i : T (in_range longest x) = range_in longest x (in_range_longer r.0 u) in
    ap (λ (k : ℕ). eqb k 0) (board_of_at g x i ∙ h x i r.1))

-- the rows up to m gone through
abbrev pub up_to : (Pair → ℕ → ℕ) → ℕ → List ℕ → Pair → ℕ
up_to f m board x = pick (leb x.period m) (f x (entry_at board x)) (entry_at board x)

module _ (f : Pair → ℕ → ℕ) (board : List ℕ) (long : length board ≡ board_size) where
  pub none_up_to : board ≡ board_of (up_to f 0 board)
  none_up_to =
      board_of-entries board long
      ∙ board_of_agree (entry_at board) (up_to f 0 board) (λ x s. let r : InRange longest x = in_range_lem longest x s in rw (lt-leb x.period 0 r.positive))

  -- one row more
  pub next_up_to : (m : ℕ) → entries (entry_in_row f (suc m)) (pairs longest) (board_of (up_to f m board)) ≡ board_of (up_to f (suc m) board)
  unfolding entry_in_row
  next_up_to m =
      entries-board_of (entry_in_row f (suc m)) (up_to f m board)
      ∙ board_of_agree (λ (x : Pair). entry_in_row f (suc m) x (up_to f m board x)) (up_to f (suc m) board) agree
    where
      agree : (x : Pair) → T (in_range longest x) → entry_in_row f (suc m) x (up_to f m board x) ≡ up_to f (suc m) board x
      agree x s =
          ⊎_elim
          (λ (e : eqb x.period (suc m) ≡ true).
          let q : x.period ≡ suc m = eqb-true x.period (suc m) e in
          rw (e, lt-leb x.period m (omega arith), le-leb x.period (suc m) (omega arith)))
          (λ (e : eqb x.period (suc m) ≡ false).
          let q : x.period ≢ suc m = eqb-false x.period (suc m) e in
          ⊎_elim (λ (l : leb x.period m ≡ true). rw (e, l, le-leb x.period (suc m) (let k : x.period ≤ m = leb-true x.period m l in omega arith)))
          (λ (l : leb x.period m ≡ false). rw (e, l, lt-leb x.period (suc m) (let k : m < x.period = leb-false x.period m l in omega arith)))
          (decided (leb x.period m)))
          (decided (eqb x.period (suc m)))

  -- a row that has not been gone through yet is open as it was
  row_untouched : (m n : ℕ) → n ≤ longest → row_open n (board_of (up_to f m board)) (suc m) ≡ keep (is_open board) (row n (suc m))
  row_untouched m n u =
      row_agree (up_to f m board) board n (suc m) (omega arith) u
      (λ x i e. let later : leb x.period m ≡ false = lt-leb x.period m (omega (arith, e)) in rw later)

  -- and one that has just been gone through is open as it will be
  row_gone : (m n : ℕ) → n ≤ longest → row_open n (board_of (up_to f (suc m) board)) (suc m) ≡ keep (is_open (entries f (pairs longest) board)) (row n (suc m))
  row_gone m n u =
      row_agree (up_to f (suc m) board) (entries f (pairs longest) board) n (suc m) (omega arith) u
      (λ x i e. let gone : leb x.period (suc m) ≡ true = le-leb x.period (suc m) (omega (arith, e)) in rw gone (sym (entry_made f board x long i)))

  -- all rows, where f keeps what is not in range for n
  pub all_up_to : (n : ℕ) → ((x : Pair) (e : ℕ) → in_range n x ≡ false → f x e ≡ e) → board_of (up_to f n board) ≡ entries f (pairs longest) board
  all_up_to n kept =
      board_of_agree (up_to f n board) (λ (x : Pair). f x (entry_at board x)) agree ∙ sym (entries_of f board long)
    where
      agree : (x : Pair) → T (in_range longest x) → up_to f n board x ≡ f x (entry_at board x)
      agree x s =
          ⊎_elim (λ (l : leb x.period n ≡ true). rw l)
          (λ (l : leb x.period n ≡ false).
          rw l (sym (kept x (entry_at board x)
          (is_false (in_range n x) (λ t. let r : InRange n x = in_range_lem n x t in let k : n < x.period = leb-false x.period n l in omega (arith, r.fits))))))
          (decided (leb x.period n))

-- a board has as many entries after all rows
pub length_ended : (w board : List ℕ) → length board ≡ board_size → length (all_ended w board) ≡ board_size
unfolding all_ended
length_ended w board long = ap length (entries_of (entry_added w) board long) ∙ length-board_of (λ (x : Pair). entry_added w x (entry_at board x))

-- the rows below p have been gone through: how many pairs were tried, how many of them are live, and what is left
pub record Gone (w old board : List ℕ) (tried live p : ℕ) : Type 0 where
  pub from : 1 ≤ p
  pub to : p ≤ suc (length w)
  pub few_tried : tried ≤ (p - 1) * longest
  pub few_live : live ≤ (p - 1) * longest
  pub counted : tried ≡ length (open_up_to (length w) old (p - 1))
  pub left_open : live ≡ length (open_up_to (length w) (all_ended w old) (p - 1))
  pub ended : board ≡ board_of (up_to (entry_added w) (p - 1) old)

-- a row has no more open pairs than heads
pub few_in_row : (w board : List ℕ) (p : ℕ) → p ≤ length w → length w ≤ longest → length (row_open (length w) board p) ≤ longest
unfolding row_open
few_in_row w board p l u = omega (arith, keep_shorter (is_open board) (row (length w) p), length-row (length w) p, heads-le (length w) p)

pub none_gone : (w old : List ℕ) → length old ≡ board_size → Gone w old old 0 0 1
none_gone w old long =
    record { from = omega arith; to = omega arith; few_tried = omega arith; few_live = omega arith; counted = refl; left_open = refl; ended = none_up_to (entry_added w) old long }

few_more : (k r m : ℕ) → k ≤ (suc m - 1) * longest → r ≤ longest → k + r ≤ (suc m + 1 - 1) * longest
unfolding longest
few_more k r m f g = omega arith

-- one row more has so many open pairs more
open_more : (n : ℕ) (board : List ℕ) (m k r : ℕ) → k ≡ length (open_up_to n board m) → r ≡ length (keep (is_open board) (row n (suc m)))
    → k + r ≡ length (open_up_to n board (suc m))
open_more n board m k r e f =
    let d : suc m - 1 ≡ m = omega arith in
    ap₂ (λ (a b : ℕ). a + b) e f
    ∙ sym (ap length (open_up_to_more n board (suc m) (omega arith)) ∙ length-append (open_up_to n board (suc m - 1)) (keep (is_open board) (row n (suc m)))
    ∙ ap (λ (j : ℕ). length (open_up_to n board j) + length (keep (is_open board) (row n (suc m)))) d)

pub next_gone : (w old board board' : List ℕ) (tried live r s p : ℕ) → length old ≡ board_size → length w ≤ longest → p ≤ length w → Gone w old board tried live p
    → r ≡ length (row_open (length w) board p) → s ≡ length (row_open (length w) board' p) → board' ≡ row_ended w p board → Gone w old board' (tried + r) (live + s) (p + 1)
unfolding row_ended all_ended
next_gone w old board board' tried live r s zero long u l g e e' f = absurd (omega (arith, g.from))
next_gone w old board board' tried live r s (suc m) long u l g e e' f =
    let d : suc m - 1 ≡ m = omega arith in
    let d' : suc m + 1 - 1 ≡ suc m = omega arith in
    let now : board ≡ board_of (up_to (entry_added w) m old) = rw d at g.ended in
    let next : board' ≡ board_of (up_to (entry_added w) (suc m) old) = f ∙ ap (row_ended w (suc m)) now ∙ next_up_to (entry_added w) old long m in
    let opened : r ≡ length (keep (is_open old) (row (length w) (suc m))) =
    e ∙ ap (λ (b : List ℕ). length (row_open (length w) b (suc m))) now ∙ ap length (row_untouched (entry_added w) old long m (length w) u) in
    let left : s ≡ length (keep (is_open (all_ended w old)) (row (length w) (suc m))) =
    e' ∙ ap (λ (b : List ℕ). length (row_open (length w) b (suc m))) next ∙ ap length (row_gone (entry_added w) old long m (length w) u) in
    record {
      from = omega arith;
      to = omega arith;
      few_tried = few_more tried r m g.few_tried (omega (arith, e, few_in_row w board (suc m) l u));
      few_live = few_more live s m g.few_live (omega (arith, e', few_in_row w board' (suc m) l u));
      counted = rw d' (open_more (length w) old m tried r (rw d at g.counted) opened);
      left_open = rw d' (open_more (length w) (all_ended w old) m live s (rw d at g.left_open) left);
      ended = rw d' next;
    }

-- the row behind a loop's last
module _ {w old board : List ℕ} {tried live p : ℕ} (long : length old ≡ board_size) (short : length w ≤ longest) (g : Gone w old board tried live p) (l : p ≡ suc (length w)) where
  last : p - 1 ≡ length w
  last = omega arith

  pub gone_board : board ≡ all_ended w old
  unfolding all_ended
  gone_board = g.ended ∙ ap (λ (m : ℕ). board_of (up_to (entry_added w) m old)) last ∙ all_up_to (entry_added w) old long (length w) (out_of_range_kept w)

  pub gone_tried : tried ≡ length (open_pairs (length w) old)
  gone_tried = g.counted ∙ ap (λ (m : ℕ). length (open_up_to (length w) old m)) last ∙ ap length (open_up_to_all (length w) old short long)

  pub gone_live : live ≡ length (open_pairs (length w) board)
  gone_live =
      g.left_open ∙ ap (λ (m : ℕ). length (open_up_to (length w) (all_ended w old) m)) last
      ∙ ap length (open_up_to_all (length w) (all_ended w old) short (length_ended w old long))
      ∙ ap (λ (b : List ℕ). length (open_pairs (length w) b)) (sym gone_board)
