-- Laws of a row of a board whose entries are made anew head by head, and of the entries that the tracker's add makes.
use mathlib.Core.Path.{◌≡◌, refl, sym, ap, ap₂, ◌∙◌}
use mathlib.Core.Logic.{⊎_elim, ◌≢◌}
use mathlib.Core.Bool.{Bool, true, false, ◌&&◌, and-false}
use mathlib.Core.List.{List, [], ◌∷◌, ◌++◌, map, map-append}
use Prim.Native.Nat.{ℕ, suc, ◌+◌, ◌≤◌, ◌<◌}
use native.Mathlib.Numerals.{add-one}
use native.Mathlib.Omega.{arith}
use lib.ListN.{length, set, length-append}
use lib.Seq.{set-get_or}
use lib.Dec.{T, eqb, ltb}
use borrow.Author.Tests.{eqb-true, eqb-false, eq-eqb, ne_eqb, lt-ltb, le-ltb, ltb-true, ltb-false}
use Rattle.abelian.specs.Lists.{pick, one, up_from, put, keep}
use Rattle.abelian.specs.Words.{longest}
use Rattle.abelian.specs.Periods.{Pair, pair, in_range, heads, pairs, is_period}
use Rattle.abelian.specs.EndedLengths.{board_of}
use Rattle.abelian.specs.Trackers.{board_size, entries, entry_added}
use Rattle.abelian.proofs.Tests.{is_true, is_false, decided}
use Rattle.abelian.proofs.Lists.{keep_append, up_from_last}
use Rattle.abelian.proofs.Pairs.{InRange, in_range_lem, range_in}
use Rattle.board.specs.Places.{place_of, entry_at, is_open}
use Rattle.board.specs.Ending.{entry_in_row, row_ended}
use Rattle.board.proofs.Places.{board_of_at, board_of_agree, board_of-entries, entries_of, entry_made, set-board_of, place_injective}

-- a pair that is not in range keeps its entry
pub out_of_range_kept : (w : List ℕ) (x : Pair) (e : ℕ) → in_range (length w) x ≡ false → entry_added w x e ≡ e
unfolding entry_added
out_of_range_kept w x e o = rw (o, and-false)

-- an entry above 0 is kept, and so is that of an Abelian period
pub ended_kept : (w : List ℕ) (x : Pair) (e : ℕ) → e ≢ 0 → entry_added w x e ≡ e
unfolding entry_added
ended_kept w x e n = rw (ne_eqb e 0 n)

pub period_kept : (w : List ℕ) (x : Pair) (e : ℕ) → is_period w x ≡ true → entry_added w x e ≡ e
unfolding entry_added
period_kept w x e p = rw (p, and-false)

-- the entry 0 of a pair in range that is no Abelian period is set to the length
pub open_ended : (w : List ℕ) (x : Pair) (e : ℕ) → e ≡ 0 → in_range (length w) x ≡ true → is_period w x ≡ false → entry_added w x e ≡ length w
unfolding entry_added
open_ended w x e z r p = rw (z, r, p)

-- ---- a row, head by head

-- the row of p gone through up to the head h, each entry being made anew by f
abbrev pub below : (Pair → ℕ → ℕ) → ℕ → ℕ → List ℕ → Pair → ℕ
below f p h board x = pick (eqb x.period p && ltb x.head h) (f x (entry_at board x)) (entry_at board x)

-- a head behind the row's last is out of range
beyond-heads : (n p : ℕ) (x : Pair) → x.period ≡ p → heads n p ≤ x.head → in_range n x ≡ false
unfolding heads
beyond-heads n p x e l = is_false (in_range n x) (λ t. let r : InRange n x = in_range_lem n x t in omega (arith, r.below, r.fits))

module _ (f : Pair → ℕ → ℕ) (p : ℕ) (board : List ℕ) (long : length board ≡ board_size) where
  pub none_below : board ≡ board_of (below f p 0 board)
  none_below =
      board_of-entries board long
      ∙ board_of_agree (entry_at board) (below f p 0 board) (λ x s. rw (le-ltb x.head 0 (omega arith), and-false))

  module _ (h : ℕ) (i : T (in_range longest (pair h p))) where
    -- the pair's entry has not been touched yet
    pub entry_untouched : entry_at (board_of (below f p h board)) (pair h p) ≡ entry_at board (pair h p)
    entry_untouched = board_of_at (below f p h board) (pair h p) i ∙ rw (le-ltb h h (omega arith), and-false)

    -- with its new entry stored, the row is gone through up to the next head
    pub next_below : set (board_of (below f p h board)) (place_of (pair h p)) (f (pair h p) (entry_at board (pair h p))) ≡ board_of (below f p (suc h) board)
    next_below =
        set-board_of (below f p h board) (pair h p) (f (pair h p) (entry_at board (pair h p))) i
        ∙ board_of_agree _ (below f p (suc h) board) agree
      where
        agree : (x : Pair) → T (in_range longest x)
            → pick (eqb (place_of x) (place_of (pair h p))) (f (pair h p) (entry_at board (pair h p))) (below f p h board x) ≡ below f p (suc h) board x
        agree x s =
            ⊎_elim
            (λ (e : eqb (place_of x) (place_of (pair h p)) ≡ true).
            let q : x ≡ pair h p = place_injective x (pair h p) s i (eqb-true (place_of x) (place_of (pair h p)) e) in
            rw (e, q, eq-eqb p p refl, lt-ltb h (suc h) (omega arith)))
            (λ (e : eqb (place_of x) (place_of (pair h p)) ≡ false). rw e (other x (eqb-false (place_of x) (place_of (pair h p)) e)))
            (decided (eqb (place_of x) (place_of (pair h p))))
          where
            other : (y : Pair) → place_of y ≢ place_of (pair h p) → below f p h board y ≡ below f p (suc h) board y
            other y n =
                ⊎_elim
                (λ (e : eqb y.period p ≡ true).
                let f : y.period ≡ p = eqb-true y.period p e in
                ⊎_elim (λ (l : ltb y.head h ≡ true). rw (l, lt-ltb y.head (suc h) (let m : y.head < h = ltb-true y.head h l in omega arith)))
                (λ (l : ltb y.head h ≡ false).
                let m : h ≤ y.head = ltb-false y.head h l in
                let d : y.head ≢ h = λ q. n (ap₂ (λ a b. place_of (pair a b)) q f) in
                rw (l, le-ltb y.head (suc h) (omega arith)))
                (decided (ltb y.head h)))
                (λ (e : eqb y.period p ≡ false). rw e)
                (decided (eqb y.period p))

    -- an entry that stays
    pub kept_below : f (pair h p) (entry_at board (pair h p)) ≡ entry_at board (pair h p) → board_of (below f p h board) ≡ board_of (below f p (suc h) board)
    kept_below e =
        let at = place_of (pair h p) in
        sym (set-get_or (board_of (below f p h board)) at 0) ∙ ap (set (board_of (below f p h board)) at) (entry_untouched ∙ sym e) ∙ next_below

  -- the whole row, where f keeps what is not in range for n
  pub all_below : (n : ℕ) → ((x : Pair) (e : ℕ) → in_range n x ≡ false → f x e ≡ e) → board_of (below f p (heads n p) board) ≡ entries (entry_in_row f p) (pairs longest) board
  unfolding entry_in_row
  all_below n kept =
      board_of_agree (below f p (heads n p) board) (λ (x : Pair). entry_in_row f p x (entry_at board x)) agree
      ∙ sym (entries_of (entry_in_row f p) board long)
    where
      agree : (x : Pair) → T (in_range longest x) → below f p (heads n p) board x ≡ entry_in_row f p x (entry_at board x)
      agree x s =
          ⊎_elim
          (λ (e : eqb x.period p ≡ true).
          ⊎_elim (λ (l : ltb x.head (heads n p) ≡ true). rw (e, l))
          (λ (l : ltb x.head (heads n p) ≡ false).
          rw (e, l) (sym (kept x (entry_at board x) (beyond-heads n p x (eqb-true x.period p e) (ltb-false x.head (heads n p) l)))))
          (decided (ltb x.head (heads n p))))
          (λ (e : eqb x.period p ≡ false). rw e)
          (decided (eqb x.period p))

-- the open pairs of the row up to the head h
abbrev pub open_below : List ℕ → ℕ → ℕ → List Pair
open_below board p h = keep (is_open board) (map (λ (k : ℕ). pair k p) (up_from 0 h))

pub open_below_more : (board : List ℕ) (p h : ℕ) → length (open_below board p (suc h)) ≡ length (open_below board p h) + one (is_open board (pair h p))
open_below_more board p h =
    let e : 0 + h ≡ h = omega arith in
    let heads-before = map (λ (k : ℕ). pair k p) (up_from 0 h) in
    let s : open_below board p (suc h) ≡ open_below board p h ++ put (is_open board (pair h p)) (pair h p) [] =
    ap (λ (ks : List ℕ). keep (is_open board) (map (λ (k : ℕ). pair k p) ks)) (up_from_last 0 h)
    ∙ ap (λ (j : ℕ). keep (is_open board) (map (λ (k : ℕ). pair k p) (up_from 0 h ++ (j ∷ [])))) e
    ∙ ap (keep (is_open board)) (map-append (λ (k : ℕ). pair k p) (up_from 0 h) (h ∷ []))
    ∙ keep_append (is_open board) heads-before (pair h p ∷ []) in
    ap length s ∙ length-append (open_below board p h) (put (is_open board (pair h p)) (pair h p) [])
    ∙ ap (λ (k : ℕ). length (open_below board p h) + k) (length-put (is_open board (pair h p)))
  where
    length-put : (b : Bool) → length (put b (pair h p) []) ≡ one b
    length-put true = refl
    length-put false = refl

-- one head more whose pair is open is one trial more, and one that has ended is none
pub open_below_lem : (board : List ℕ) (p h : ℕ) → entry_at board (pair h p) ≡ 0 → length (open_below board p (suc h)) ≡ length (open_below board p h) + 1
open_below_lem board p h e = open_below_more board p h ∙ ap (λ (b : Bool). length (open_below board p h) + one b) (eq-eqb (entry_at board (pair h p)) 0 e)

pub ended_below : (board : List ℕ) (p h : ℕ) → entry_at board (pair h p) ≢ 0 → length (open_below board p (suc h)) ≡ length (open_below board p h) + 0
ended_below board p h n = open_below_more board p h ∙ ap (λ (b : Bool). length (open_below board p h) + one b) (ne_eqb (entry_at board (pair h p)) 0 n)

-- the entry of a pair of the row, after the row has been gone through
row_entry : (w board : List ℕ) (h p : ℕ) → length board ≡ board_size → T (in_range longest (pair h p))
    → entry_at (row_ended w p board) (pair h p) ≡ entry_added w (pair h p) (entry_at board (pair h p))
unfolding row_ended entry_in_row
row_entry w board h p long i = entry_made (entry_in_row (entry_added w) p) board (pair h p) long i ∙ rw (eq-eqb p p refl)

-- the row of p has been gone through up to the head h: how many pairs were tried, how many of them have ended, and what is left
pub record RowGone (w old : List ℕ) (p : ℕ) (board : List ℕ) (tried ended h : ℕ) : Type 0 where
  pub few : tried ≤ h
  pub counted : tried ≡ length (open_below old p h)
  pub left_open : tried ≡ length (open_below (row_ended w p old) p h) + ended
  pub gone : board ≡ board_of (below (entry_added w) p h old)

module _ (w old : List ℕ) (p : ℕ) (long : length old ≡ board_size) where
  pub no_head_gone : RowGone w old p old 0 0 0
  no_head_gone = record { few = omega arith; counted = refl; left_open = refl; gone = none_below (entry_added w) p old long }

  module _ {board : List ℕ} {tried ended h : ℕ} (g : RowGone w old p board tried ended h) (r : InRange (length w) (pair h p)) (i : T (in_range longest (pair h p))) where
    abbrev x : Pair
    x = pair h p

    -- the entry of the pair, as it was and as it is when the row has been gone through
    abbrev e : ℕ
    e = entry_at old x

    abbrev new : ℕ
    new = entry_at (row_ended w p old) x

    -- the entry that is read is the old one
    pub entry_read : entry_at board x ≡ e
    entry_read = ap (λ (b : List ℕ). entry_at b x) g.gone ∙ entry_untouched (entry_added w) p old long h i

    kept : entry_added w x e ≡ e → board ≡ board_of (below (entry_added w) p (suc h) old)
    kept k = g.gone ∙ kept_below (entry_added w) p old long h i k

    -- a pair that had ended is passed
    pub head_passed : e ≢ 0 → RowGone w old p board tried ended (h + 1)
    head_passed n =
        let k : entry_added w x e ≡ e = ended_kept w x e n in
        let m : new ≢ 0 = λ z. n (sym k ∙ sym (row_entry w old h p long i) ∙ z) in
        rw add-one
        (record {
          few = omega (arith, g.few);
          counted = omega (arith, g.counted, ended_below old p h n);
          left_open = omega (arith, g.left_open, ended_below (row_ended w p old) p h m);
          gone = kept k;
        })

    -- an open pair that is an Abelian period is live
    pub head_live : e ≡ 0 → is_period w x ≡ true → RowGone w old p board (tried + 1) ended (h + 1)
    head_live z t =
        let k : entry_added w x e ≡ e = period_kept w x e t in
        rw (add-one h)
        (record {
          few = omega (arith, g.few);
          counted = omega (arith, g.counted, open_below_lem old p h z);
          left_open = omega (arith, g.left_open, open_below_lem (row_ended w p old) p h (row_entry w old h p long i ∙ k ∙ z));
          gone = kept k;
        })

    -- and one that is none ends
    pub head_ended : e ≡ 0 → is_period w x ≡ false → RowGone w old p (set board (place_of x) (length w)) (tried + 1) (ended + 1) (h + 1)
    head_ended z f =
        let k : entry_added w x e ≡ length w = open_ended w x e z (is_true (in_range (length w) x) (range_in (length w) x r)) f in
        let n : new ≢ 0 = λ q. let q' : length w ≡ 0 = sym k ∙ sym (row_entry w old h p long i) ∙ q in omega (arith, r.positive, r.fits) in
        rw (add-one h)
        (record {
          few = omega (arith, g.few);
          counted = omega (arith, g.counted, open_below_lem old p h z);
          left_open = omega (arith, g.left_open, ended_below (row_ended w p old) p h n);
          gone = ap₂ (λ b v. set b (place_of x) v) g.gone (sym k) ∙ next_below (entry_added w) p old long h i;
        })
