-- Laws of rows: the open pairs of a board, row by row, and their output words.
use mathlib.Core.Path.{◌≡◌, refl, sym, ap, ap₂, ◌∙◌}
use mathlib.Core.Bool.{Bool, true, false}
use mathlib.Core.List.{List, [], ◌∷◌, ◌++◌, map, map-append}
use Prim.Native.Nat.{ℕ, zero, suc, ◌+◌, ◌-◌, ◌*◌, ◌≤◌, ◌<◌}
use native.Mathlib.Nat.{mul-le-mul}
use native.Mathlib.Numerals.{add-one}
use native.Mathlib.Omega.{arith}
use mir.Syntax.{w64}
use mir.Val.{Fits}
use lib.ListN.{length, take, drop, get_or, set, length-append, length-take, length-map}
use lib.Seq.{sets, drop-cons}
use lib.Dec.{T, eqb, leb}
use borrow.Author.Tests.{leb-true}
use Rattle.abelian.specs.Lists.{one, up_from, all, each, put, keep}
use Rattle.abelian.specs.Words.{longest, count, part}
use Rattle.abelian.specs.Periods.{Pair, pair, heads, row, pairs}
use Rattle.abelian.specs.Output.{period_word}
use Rattle.abelian.specs.Trackers.{board_size, open_pairs}
use Rattle.abelian.proofs.Tests.{is_true}
use Rattle.abelian.proofs.Lists.{all-mem, up_from-mem, up_from-append, keep_append, each_append, each_last}
use Rattle.board.specs.Places.{row_start, place_of, is_open}
use Rattle.board.specs.Rows.{row_words}
use Rattle.board.proofs.Places.{next_row, pairs_where-in_range}

-- ---- stores one behind the other

pub sets_append : (l : List ℕ) (i : ℕ) (vs ws : List ℕ) → sets l i (vs ++ ws) ≡ sets (sets l i vs) (i + length vs) ws
sets_append l i [] ws = let e : i + 0 ≡ i = omega arith in rw e
sets_append l i (v ∷ vs) ws = let e : i + suc (length vs) ≡ suc i + length vs = omega arith in rw e (sets_append (set l i v) (suc i) vs ws)

-- ---- a row's words

pub length-row_words : (p h : ℕ) (es : List ℕ) → length (row_words p h es) ≡ count 0 es
unfolding row_words count
length-row_words p h [] = refl
length-row_words p h (e ∷ es) = go (eqb e 0) (length-row_words p (suc h) es)
  where
    go : (b : Bool) → length (row_words p (suc h) es) ≡ count 0 es → length (put b (period_word (pair h p)) (row_words p (suc h) es)) ≡ one b + count 0 es
    go true i = omega arith
    go false i = omega arith

-- one entry more
pub row_words-more : (p h : ℕ) (es : List ℕ) (i : ℕ) → i < length es
    → row_words p h (take (suc i) es) ≡ row_words p h (take i es) ++ put (eqb (get_or es i 0) 0) (period_word (pair (h + i) p)) []
unfolding row_words
row_words-more p h [] i l = absurd (omega arith)
row_words-more p h (e ∷ es) zero l = let q : h + 0 ≡ h = omega arith in rw q
row_words-more p h (e ∷ es) (suc i) l = let q : h + suc i ≡ suc h + i = omega arith in rw q (go (eqb e 0) (row_words-more p (suc h) es i (omega arith)))
  where
    last : List ℕ
    last = put (eqb (get_or es i 0) 0) (period_word (pair (suc h + i) p)) []

    go : (b : Bool) → row_words p (suc h) (take (suc i) es) ≡ row_words p (suc h) (take i es) ++ last
        → put b (period_word (pair h p)) (row_words p (suc h) (take (suc i) es)) ≡ put b (period_word (pair h p)) (row_words p (suc h) (take i es)) ++ last
    go true q = ap (λ (ws : List ℕ). period_word (pair h p) ∷ ws) q
    go false q = q

-- ---- the open pairs

-- the words of a row are those of its open pairs
heads_words : (board : List ℕ) (p a m : ℕ) → row_start p + a + m ≤ length board
    → row_words p a (part board (row_start p + a) m) ≡ map period_word (keep (is_open board) (map (λ (h : ℕ). pair h p) (up_from a m)))
unfolding row_words place_of
heads_words board p a zero l = refl
heads_words board p a (suc m) l =
    let e : suc (row_start p + a) ≡ row_start p + suc a = omega arith in
    let i : row_words p (suc a) (part board (suc (row_start p + a)) m) ≡ map period_word (keep (is_open board) (map (λ (h : ℕ). pair h p) (up_from (suc a) m))) =
    rw e (heads_words board p (suc a) m (omega arith)) in
    rw (drop-cons board (row_start p + a) 0 (omega arith)) (go (eqb (get_or board (row_start p + a) 0) 0) i)
  where
    rest : List Pair
    rest = keep (is_open board) (map (λ (h : ℕ). pair h p) (up_from (suc a) m))

    go : (b : Bool) → row_words p (suc a) (part board (suc (row_start p + a)) m) ≡ map period_word rest
        → put b (period_word (pair a p)) (row_words p (suc a) (part board (suc (row_start p + a)) m)) ≡ map period_word (put b (pair a p) rest)
    go true q = ap (λ (ws : List ℕ). period_word (pair a p) ∷ ws) q
    go false q = q

pub row_words_lem : (board : List ℕ) (n p : ℕ) → row_start p + heads n p ≤ length board → row_words p 0 (part board (row_start p) (heads n p)) ≡ map period_word (keep (is_open board) (row n p))
unfolding row
row_words_lem board n p l =
    let e : row_start p + 0 ≡ row_start p = omega arith in
    rw e at (heads_words board p 0 (heads n p) (omega arith))

-- a row has as many open pairs as entries that are 0
row_count : (board : List ℕ) (n p : ℕ) → row_start p + heads n p ≤ length board → length (keep (is_open board) (row n p)) ≡ count 0 (part board (row_start p) (heads n p))
row_count board n p l =
    sym (length-map (keep (is_open board) (row n p)) period_word) ∙ ap length (sym (row_words_lem board n p l)) ∙ length-row_words p 0 (part board (row_start p) (heads n p))

-- the open pairs with the periods 1 to m
abbrev pub open_up_to : ℕ → List ℕ → ℕ → List Pair
open_up_to n board m = keep (is_open board) (each (up_from 1 m) (row n))

-- one row more
pub open_up_to_more : (n : ℕ) (board : List ℕ) (p : ℕ) → 1 ≤ p → open_up_to n board p ≡ open_up_to n board (p - 1) ++ keep (is_open board) (row n p)
open_up_to_more n board zero l = absurd (omega arith)
open_up_to_more n board (suc m) l =
    let e : suc m - 1 ≡ m = omega arith in
    let f : 1 + m ≡ suc m = omega arith in
    rw e
    (ap (keep (is_open board)) (each_last (row n) 1 m)
    ∙ keep_append (is_open board) (each (up_from 1 m) (row n)) (row n (1 + m))
    ∙ ap (λ (k : ℕ). open_up_to n board m ++ keep (is_open board) (row n k)) f)

-- which is as many open pairs more as the row has entries that are 0
pub open_up_to_counts : (n : ℕ) (board : List ℕ) (p : ℕ) → 1 ≤ p → row_start p + heads n p ≤ length board
    → length (open_up_to n board p) ≡ length (open_up_to n board (p - 1)) + count 0 (part board (row_start p) (heads n p))
open_up_to_counts n board p l u =
    let opened = keep (is_open board) (row n p) in
    omega (arith, ap length (open_up_to_more n board p l), length-append (open_up_to n board (p - 1)) opened, row_count board n p u)

-- a row's words stored behind those of the rows before it
pub row-stored : (n : ℕ) (board old out : List ℕ) (at p : ℕ) → 1 ≤ p → row_start p + heads n p ≤ length board → at ≡ length (open_up_to n board (p - 1)) → out ≡ sets old 0 (map period_word (open_up_to n board (p - 1)))
    → sets out at (row_words p 0 (part board (row_start p) (heads n p))) ≡ sets old 0 (map period_word (open_up_to n board p))
row-stored n board old out at p l u a o =
    let before = open_up_to n board (p - 1) in
    let opened = keep (is_open board) (row n p) in
    let words : map period_word (open_up_to n board p) ≡ map period_word before ++ map period_word opened =
    ap (map period_word) (open_up_to_more n board p l) ∙ map-append period_word before opened in
    let placed : at ≡ 0 + length (map period_word before) = omega (arith, a, length-map before period_word) in
    rw (row_words_lem board n p u, placed, o, words) (sym (sets_append old 0 (map period_word before) (map period_word opened)))

-- more rows have no fewer open pairs
pub open_up_to_rises : (n : ℕ) (board : List ℕ) {m k : ℕ} → m ≤ k → length (open_up_to n board m) ≤ length (open_up_to n board k)
open_up_to_rises n board {m} {k} l =
    let e : m + (k - m) ≡ k = omega arith in
    let later = each (up_from (1 + m) (k - m)) (row n) in
    let s : open_up_to n board k ≡ open_up_to n board m ++ keep (is_open board) later =
    ap (λ (j : ℕ). open_up_to n board j) (sym e)
    ∙ ap (λ (ps : List ℕ). keep (is_open board) (each ps (row n))) (up_from-append 1 m (k - m))
    ∙ ap (keep (is_open board)) (each_append (row n) (up_from 1 m) (up_from (1 + m) (k - m)))
    ∙ keep_append (is_open board) (each (up_from 1 m) (row n)) later in
    omega (arith, ap length s, length-append (open_up_to n board m) (keep (is_open board) later))

-- all rows
pub open_up_to_all : (n : ℕ) (board : List ℕ) → n ≤ longest → length board ≡ board_size → open_up_to n board n ≡ open_pairs n board
unfolding open_pairs pairs
open_up_to_all n board l e = sym (pairs_where-in_range (λ (i : ℕ). eqb i 0) n board l e)

-- ---- the rows lie on the board

-- a product of two numbers up to 122, half of the longest length and two, fits a machine word
pub product_fits : (a b : ℕ) → a ≤ 122 → b ≤ 122 → Fits w64 (a * b)
product_fits a b l m = omega (arith, mul-le-mul l m)

rows_end : T (all (λ (p : ℕ). leb (row_start p + heads longest p) board_size) (up_from 1 longest))
unfolding row_start heads longest board_size
rows_end = tt

pub row_end : (n p : ℕ) → 1 ≤ p → p ≤ n → n ≤ longest → row_start p + heads n p ≤ board_size
unfolding heads
row_end n p l m u =
    let b : row_start p + heads longest p ≤ board_size =
    leb-true _ _ (is_true _ (all-mem (λ (q : ℕ). leb (row_start q + heads longest q) board_size) (up_from 1 longest) rows_end (up_from-mem 1 longest p l (omega arith)))) in
    omega arith

pub heads-le : (n p : ℕ) → heads n p ≤ p
unfolding heads
heads-le n p = omega arith

-- what is lent of a board from the row's start to its end is the row
pub row_lent : (board : List ℕ) {start size a m : ℕ} → start ≡ a → size ≡ m → take (start + size - start) (drop start board) ≡ part board a m
row_lent board {start} {size} begins has =
    let e : start + size - start ≡ size = omega arith in
    ap₂ (λ k a. take k (drop a board)) (e ∙ has) begins

-- no row has more entries than the longest word has letters
pub row_short : (board : List ℕ) (n p : ℕ) → p ≤ n → n ≤ longest → length (part board (row_start p) (heads n p)) ≤ longest
row_short board n p l u = omega (arith, length-take (heads n p) (drop (row_start p) board), heads-le n p)

-- ---- from row to row

-- a loop over the rows for words of n letters has come to the row of p, which begins at `start`
pub record AtRow (n p start : ℕ) : Type 0 where
  pub from : 1 ≤ p
  pub to : p ≤ suc n
  pub begins : start ≡ row_start p

pub first_row : (n : ℕ) → AtRow n 1 0
unfolding row_start
first_row n = record { from = omega arith; to = omega arith; begins = refl }

-- its pairs for words of m letters lie on the board
pub ends_within : {n m p start size : ℕ} → AtRow n p start → p ≤ m → m ≤ longest → size ≡ heads m p → start + size ≤ board_size
ends_within {n} {m} {p} r l u h = omega (arith, r.begins, row_end m p r.from l u)

-- and the next row begins behind those for the longest word
pub next_at_row : {n p start size : ℕ} → AtRow n p start → p ≤ n → n ≤ longest → size ≡ heads longest p → AtRow n (p + 1) (start + size)
next_at_row {n} {p} r l u h =
    let e : row_start (suc p) ≡ row_start p + heads longest p = next_row p r.from (omega arith) in
    record { from = omega arith; to = omega arith; begins = rw add-one (omega (arith, r.begins)) }
