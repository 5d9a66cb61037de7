-- Laws of places: the pairs in range for 240, in pair order, stand at the places 0, 1, 2 and so on; so a board is known by its entries
-- at the pairs.
use mathlib.Core.Path.{◌≡◌, refl, sym, ap, ap₂, ◌∙◌}
use mathlib.Core.Logic.{⊎_elim}
use mathlib.Core.Bool.{Bool, true, false, not, ◌&&◌}
use mathlib.Core.List.Memᴰ
use mathlib.Core.List.{List, [], ◌∷◌, ◌++◌, map, map-append, Memᴰ}
use Prim.Native.Nat.{ℕ, zero, suc, ◌+◌, ◌≤◌, ◌<◌}
use native.Mathlib.Omega.{arith}
use lib.ListN.{length, get_or, set, length-append, length-map, length-set, get_or-map}
use lib.Seq.{ext_get_or, get_or-set_same, get_or-set_other}
use lib.Dec.{T, eqb}
use borrow.Author.Tests.{eqb-true, eqb-false}
use Rattle.abelian.specs.Lists.{pick, up_from, all, each, put, keep}
use Rattle.abelian.specs.Words.{longest}
use Rattle.abelian.specs.Periods.{Pair, pair, in_range, heads, row, pairs, Before}
use Rattle.abelian.specs.EndedLengths.{board_of}
use Rattle.abelian.specs.Trackers.{board_size, entries, pairs_where, open_pairs, ended_pairs}
use Rattle.abelian.proofs.Tests.{is_true, both, left, right, decided}
use Rattle.abelian.proofs.Lists.{all-mem, up_from-mem, mem-keep, keep-mem, up_from-append, ordered_keep, keep_or_not}
use Rattle.abelian.proofs.Pairs.{InRange, in_range_lem, range_in, in_range_longer, pairs-in_range, in_range-pairs, pairs_rising, rising_equal}
use Rattle.periods.proofs.PairCount.{length-row, pair-count}
use Rattle.board.specs.Places.{row_start, place_of, entry_at}

-- ---- rows

-- the rule of the row starts, computed at all 240 rows: each begins where the one before it ends
rows_follow : T (all (λ (p : ℕ). eqb (row_start (suc p)) (row_start p + heads longest p)) (up_from 1 longest))
unfolding row_start heads longest
rows_follow = tt

pub next_row : (p : ℕ) → 1 ≤ p → p ≤ longest → row_start (suc p) ≡ row_start p + heads longest p
next_row p l u =
    eqb-true (row_start (suc p)) (row_start p + heads longest p)
    (is_true _ (all-mem (λ (q : ℕ). eqb (row_start (suc q)) (row_start q + heads longest q)) (up_from 1 longest) rows_follow (up_from-mem 1 longest p l (omega arith))))

-- a row's pairs stand one behind the other from its start on
heads-places : (p a m : ℕ) → map place_of (map (λ (h : ℕ). pair h p) (up_from a m)) ≡ up_from (row_start p + a) m
unfolding place_of
heads-places p a zero = refl
heads-places p a (suc m) =
    let e : suc (row_start p + a) ≡ row_start p + suc a = omega arith in
    rw e (ap (λ (l : List ℕ). (row_start p + a) ∷ l) (heads-places p (suc a) m))

row-places : (n p : ℕ) → map place_of (row n p) ≡ up_from (row_start p) (heads n p)
unfolding row
row-places n p = let e : row_start p + 0 ≡ row_start p = omega arith in rw e at (heads-places p 0 (heads n p))

rows_places : (a m : ℕ) → 1 ≤ a → a + m ≤ suc longest → map place_of (each (up_from a m) (row longest)) ≡ up_from (row_start a) (length (each (up_from a m) (row longest)))
rows_places a zero l u = refl
rows_places a (suc m) l u =
    let r : List Pair = row longest a in
    let rest : List Pair = each (up_from (suc a) m) (row longest) in
    let n : length (r ++ rest) ≡ heads longest a + length rest = length-append r rest ∙ ap (λ (k : ℕ). k + length rest) (length-row longest a) in
    rw (map-append, row-places longest a, rows_places (suc a) m (omega arith) (omega arith), next_row a l (omega arith), n)
    (sym (up_from-append (row_start a) (heads longest a) (length rest)))

-- the pairs in range for 240 stand at the places from 0 on, in pair order
pub pairs-places : map place_of (pairs longest) ≡ up_from 0 (length (pairs longest))
unfolding pairs row_start
pairs-places = rows_places 1 longest (omega arith) (omega arith)

-- ---- boards

pub board_length : length (pairs longest) ≡ board_size
unfolding board_size longest
board_length = pair-count longest

-- what stands at place k in the list of pairs has the place k
module _ (d : Pair) where
  up_from_at : (a n k e : ℕ) → k < n → get_or (up_from a n) k e ≡ a + k
  up_from_at a zero k e l = absurd (omega arith)
  up_from_at a (suc n) zero e l = omega arith
  up_from_at a (suc n) (suc k) e l = up_from_at (suc a) n k e (omega arith) ∙ omega arith

  pub place_of_at : (k : ℕ) → k < length (pairs longest) → place_of (get_or (pairs longest) k d) ≡ k
  place_of_at k l =
      sym (get_or-map place_of (pairs longest) k d)
      ∙ ap (λ (ks : List ℕ). get_or ks k (place_of d)) pairs-places
      ∙ up_from_at 0 (length (pairs longest)) k (place_of d) l
      ∙ omega arith

  mem_at : (xs : List Pair) {x : Pair} → Memᴰ x xs → (k : ℕ) × (k < length xs) × (get_or xs k d ≡ x)
  mem_at [] m = absurd (Memᴰ.not-nil m)
  mem_at (y ∷ xs) {x} m =
      ⊎_elim (λ (q : x ≡ y). (0, omega arith, sym q))
      (λ m'. let r : (k : ℕ) × (k < length xs) × (get_or xs k d ≡ x) = mem_at xs m' in (suc r.0, omega (arith, r.1), r.2)) (Memᴰ.cases_cons m)

  -- a pair in range stands at its place
  pub pair_at_place : (x : Pair) → T (in_range longest x) → (place_of x < length (pairs longest)) × (get_or (pairs longest) (place_of x) d ≡ x)
  pair_at_place x t =
      let r : (k : ℕ) × (k < length (pairs longest)) × (get_or (pairs longest) k d ≡ x) = mem_at (pairs longest) (in_range-pairs longest x t) in
      let e : place_of x ≡ r.0 = ap place_of (sym r.2) ∙ place_of_at r.0 r.1 in
      rw e (r.1, r.2)

pub place_below : (x : Pair) → T (in_range longest x) → place_of x < board_size
place_below x t = omega (arith, (pair_at_place (pair 0 0) x t).0, board_length)

-- the length of an array of a board's size
pub board_long : (board : List ℕ) → length board ≡ 14520 → length board ≡ board_size
unfolding board_size
board_long board e = e

pub length-board_of : (f : Pair → ℕ) → length (board_of f) ≡ board_size
unfolding board_of
length-board_of f = length-map (pairs longest) f ∙ board_length

-- within a list the default does not count
get_d_default : (xs : List ℕ) (k d e : ℕ) → k < length xs → get_or xs k d ≡ get_or xs k e
get_d_default [] k d e l = absurd (omega arith)
get_d_default (x ∷ xs) zero d e l = refl
get_d_default (x ∷ xs) (suc k) d e l = get_d_default xs k d e (omega arith)

-- the entry at a pair's place is that of the pair
pub board_of_at : (f : Pair → ℕ) (x : Pair) → T (in_range longest x) → get_or (board_of f) (place_of x) 0 ≡ f x
unfolding board_of
board_of_at f x t =
    let d : Pair = pair 0 0 in
    let r : (place_of x < length (pairs longest)) × (get_or (pairs longest) (place_of x) d ≡ x) = pair_at_place d x t in
    let l : place_of x < length (map f (pairs longest)) = omega (arith, length-map (pairs longest) f, r.0) in
    get_d_default (map f (pairs longest)) (place_of x) 0 (f d) l ∙ get_or-map f (pairs longest) (place_of x) d ∙ ap f r.1

-- a board is that of its own entries
pub board_of-entries : (board : List ℕ) → length board ≡ board_size → board ≡ board_of (entry_at board)
unfolding board_of
board_of-entries board e =
    let d : Pair = pair 0 0 in
    ext_get_or 0 board (map (entry_at board) (pairs longest)) (omega (arith, length-map (pairs longest) (entry_at board), board_length))
    (λ k l.
    let m : k < length (pairs longest) = omega (arith, board_length) in
    let n : k < length (map (entry_at board) (pairs longest)) = omega (arith, length-map (pairs longest) (entry_at board)) in
    sym (get_d_default (map (entry_at board) (pairs longest)) k 0 (entry_at board d) n ∙ get_or-map (entry_at board) (pairs longest) k d ∙ ap (λ (j : ℕ). get_or board j 0) (place_of_at d k m)))

-- boards that agree at every pair are equal
pub board_of_agree : (f g : Pair → ℕ) → ((x : Pair) → T (in_range longest x) → f x ≡ g x) → board_of f ≡ board_of g
unfolding board_of
board_of_agree f g h = map_agree (pairs longest) (λ x m. h x (pairs-in_range longest x m))
  where
    map_agree : (xs : List Pair) → ((x : Pair) → Memᴰ x xs → f x ≡ g x) → map f xs ≡ map g xs
    map_agree [] k = refl
    map_agree (x ∷ xs) k =
        let e : f x ≡ g x = k x (Memᴰ.head refl) in
        let t : map f xs ≡ map g xs = map_agree xs (λ y m. k y (Memᴰ.tail m)) in
        cc

-- entries made anew from pairs and entries
pub entries-board_of : (f : Pair → ℕ → ℕ) (g : Pair → ℕ) → entries f (pairs longest) (board_of g) ≡ board_of (λ (x : Pair). f x (g x))
unfolding board_of entries
entries-board_of f g = go (pairs longest)
  where
    go : (xs : List Pair) → entries f xs (map g xs) ≡ map (λ (x : Pair). f x (g x)) xs
    go [] = refl
    go (x ∷ xs) = ap (λ (l : List ℕ). f x (g x) ∷ l) (go xs)

-- pairs picked by a test of pair and entry
pub pairs_where-board_of : (f : Pair → ℕ → Bool) (g : Pair → ℕ) → pairs_where f (pairs longest) (board_of g) ≡ keep (λ (x : Pair). f x (g x)) (pairs longest)
unfolding board_of pairs_where
pairs_where-board_of f g = go (pairs longest)
  where
    go : (xs : List Pair) → pairs_where f xs (map g xs) ≡ keep (λ (x : Pair). f x (g x)) xs
    go [] = refl
    go (x ∷ xs) = ap (put (f x (g x)) x) (go xs)

-- of the pairs in range for 240, those in range for n
pub keep-in_range : (n : ℕ) (f : Pair → Bool) → n ≤ longest → keep (λ (x : Pair). in_range n x && f x) (pairs longest) ≡ keep f (pairs n)
keep-in_range n f l =
    let t : Pair → Bool = λ (x : Pair). in_range n x && f x in
    rising_equal (keep t (pairs longest)) (keep f (pairs n)) (ordered_keep Before t (pairs longest) (pairs_rising longest)) (ordered_keep Before f (pairs n) (pairs_rising n))
    (λ z m.
    let p : T (in_range n z && f z) = (mem-keep t (pairs longest) m).1 in
    keep-mem f (pairs n) (in_range-pairs n z (left (in_range n z) (f z) p)) (right (in_range n z) (f z) p))
    (λ z m.
    let i : T (in_range n z) = pairs-in_range n z (mem-keep f (pairs n) m).0 in
    let r : InRange n z = in_range_lem n z i in
    let w : T (in_range longest z) = range_in longest z (in_range_longer r l) in
    keep-mem t (pairs longest) (in_range-pairs longest z w) (both (in_range n z) (f z) i (mem-keep f (pairs n) m).1))

-- the pairs in range for n whose entry passes a test, on any board
pub pairs_where-in_range : (f : ℕ → Bool) (n : ℕ) (board : List ℕ) → n ≤ longest → length board ≡ board_size
    → pairs_where (λ (x : Pair) (e : ℕ). in_range n x && f e) (pairs longest) board ≡ keep (λ (x : Pair). f (entry_at board x)) (pairs n)
pairs_where-in_range f n board l long =
    ap (pairs_where (λ (x : Pair) (e : ℕ). in_range n x && f e) (pairs longest)) (board_of-entries board long)
    ∙ pairs_where-board_of (λ (x : Pair) (e : ℕ). in_range n x && f e) (entry_at board)
    ∙ keep-in_range n (λ (x : Pair). f (entry_at board x)) l

-- each pair in range is live or has ended
pub open_and_ended : (n : ℕ) (board : List ℕ) → n ≤ longest → length board ≡ board_size → length (open_pairs n board) + length (ended_pairs n board) ≡ length (pairs n)
unfolding open_pairs ended_pairs
open_and_ended n board l long =
    ap₂ (λ (live ended : List Pair). length live + length ended) (pairs_where-in_range (λ (e : ℕ). eqb e 0) n board l long) (pairs_where-in_range (λ (e : ℕ). not (eqb e 0)) n board l long)
    ∙ keep_or_not (λ (x : Pair). eqb (entry_at board x) 0) (pairs n)

-- entries made anew, on any board
pub entries_of : (f : Pair → ℕ → ℕ) (board : List ℕ) → length board ≡ board_size → entries f (pairs longest) board ≡ board_of (λ (x : Pair). f x (entry_at board x))
entries_of f board e = ap (entries f (pairs longest)) (board_of-entries board e) ∙ entries-board_of f (entry_at board)

-- the entry of a pair that has been made anew
pub entry_made : (f : Pair → ℕ → ℕ) (board : List ℕ) (x : Pair) → length board ≡ board_size → T (in_range longest x) → entry_at (entries f (pairs longest) board) x ≡ f x (entry_at board x)
entry_made f board x long i = ap (λ (b : List ℕ). entry_at b x) (entries_of f board long) ∙ board_of_at (λ (y : Pair). f y (entry_at board y)) x i

-- pairs at one place are one pair
pub place_injective : (x y : Pair) → T (in_range longest x) → T (in_range longest y) → place_of x ≡ place_of y → x ≡ y
place_injective x y s t e =
    let d : Pair = pair 0 0 in
    sym (pair_at_place d x s).1 ∙ ap (λ (k : ℕ). get_or (pairs longest) k d) e ∙ (pair_at_place d y t).1

-- a store at a pair's place changes that pair's entry alone
pub set-board_of : (f : Pair → ℕ) (y : Pair) (v : ℕ) → T (in_range longest y) → set (board_of f) (place_of y) v ≡ board_of (λ (x : Pair). pick (eqb (place_of x) (place_of y)) v (f x))
set-board_of f y v t =
    let new = set (board_of f) (place_of y) v in
    let long : length new ≡ board_size = length-set (board_of f) (place_of y) v ∙ length-board_of f in
    board_of-entries new long
    ∙ board_of_agree (entry_at new) (λ (x : Pair). pick (eqb (place_of x) (place_of y)) v (f x))
    (λ x s.
    ⊎_elim
    (λ (e : eqb (place_of x) (place_of y) ≡ true).
    rw (e, eqb-true (place_of x) (place_of y) e) (get_or-set_same (board_of f) (place_of y) v 0 (omega (arith, place_below y t, length-board_of f))))
    (λ (e : eqb (place_of x) (place_of y) ≡ false). rw e (get_or-set_other (board_of f) (place_of y) (place_of x) v 0 (eqb-false (place_of x) (place_of y) e) ∙ board_of_at f x s))
    (decided (eqb (place_of x) (place_of y))))
