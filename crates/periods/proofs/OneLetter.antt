-- C-17's "a report in which every pair is a cycle": all letters of a word are equal exactly where every pair in range is an Abelian period.
use mathlib.Core.Path.{◌≡◌, refl, sym, ap, subst, ◌∙◌}
use mathlib.Core.Bool.{Bool, true, false}
use mathlib.Core.Logic.{◌↔◌}
use mathlib.Core.List.Memᴰ
use mathlib.Core.List.{List, [], ◌∷◌, Memᴰ}
use Prim.Native.Nat.{ℕ, suc, ◌+◌, ◌-◌, ◌*◌, ◌≤◌, ◌<◌}
use native.Mathlib.Nat.{le-div_iff_mul-le}
use native.Mathlib.Omega.{arith}
use lib.ListN.{length, take, drop, get_or, take-append-drop}
use lib.Seq.{drop-cons}
use lib.Dec.{T, eqb, eqb→eq}
use borrow.Author.Tests.{eq-eqb}
use Rattle.abelian.specs.Lists.{one, all}
use Rattle.abelian.specs.Words.{letters, of_letters, all_equal, count, vector, none_above, part}
use Rattle.abelian.specs.Periods.{Pair, pair, in_range, head_of, block, whole_blocks, tail_of, is_period}
use Rattle.abelian.proofs.Tests.{both, is_true}
use Rattle.abelian.proofs.Lists.{all-mem}
use Rattle.abelian.proofs.Counts.{vector_counts, counts_vector, counts_none_above, is_letter-mem, letters_inside}
use Rattle.abelian.proofs.Pairs.{InRange, in_range_lem, range_in}
use Rattle.abelian.proofs.Definition1.{Alike, Conditions, period_conditions, block-length, head_length_lem}
use Rattle.periods.proofs.OnceEnded.{whole_length}
use Rattle.periods.proofs.Kernel.{tail_short, tail_decides}

-- ---- from equal letters to every pair

-- every letter of the stretch is a
abbrev Only : ℕ → List ℕ → Type 0
Only a u = (x : ℕ) → Memᴰ x u → x ≡ a

module _ (a : ℕ) where
  -- so is every letter of a part
  only_take : (k : ℕ) (w : List ℕ) → Only a w → Only a (take k w)
  only_take k w h x m = h x (subst (Memᴰ x) (take-append-drop k w) (Memᴰ.append_left (drop k w) m))

  only_drop : (k : ℕ) (w : List ℕ) → Only a w → Only a (drop k w)
  only_drop k w h x m = h x (subst (Memᴰ x) (take-append-drop k w) (Memᴰ.append_right (take k w) m))

  only_part : (w : List ℕ) (from size : ℕ) → Only a w → Only a (part w from size)
  only_part w from size h = only_take size (drop from w) (only_drop from w h)

  -- of stretches of one letter, one that is no longer has no count above the other's
  only_counts : (u v : List ℕ) → Only a u → Only a v → length u ≤ length v → (c : ℕ) → count c u ≤ count c v
  unfolding count
  only_counts [] v hu hv l c = omega arith
  only_counts (x ∷ u) [] hu hv l c = absurd (omega arith)
  only_counts (x ∷ u) (y ∷ v) hu hv l c =
      let e : one (eqb x c) ≡ one (eqb y c) = ap (λ (z : ℕ). one (eqb z c)) (hu x (Memᴰ.head refl) ∙ sym (hv y (Memᴰ.head refl))) in
      let h : count c u ≤ count c v = only_counts u v (λ z m. hu z (Memᴰ.tail m)) (λ z m. hv z (Memᴰ.tail m)) (omega arith) c in
      omega arith

  -- a word of one letter and a pair in range: blocks are alike, since they are equally long, and head and tail are shorter
  module _ (w : List ℕ) (x : Pair) (t : T (of_letters w)) (only : Only a w) (r : InRange (length w) x) where
    only_block : (k : ℕ) → Only a (block w x k)
    unfolding block
    only_block k = only_part w (x.head + (k - 1) * x.period) x.period only

    blocks_alike_lem : Alike w x
    blocks_alike_lem k l m =
        let e : length (block w x k) ≡ length (block w x 1) = whole_length w x r k l m ∙ sym (block-length w x r) in
        counts_vector (block w x k) (block w x 1)
        (λ c i. omega (
          arith,
          only_counts (block w x k) (block w x 1) (only_block k) (only_block 1) (omega arith) c,
          only_counts (block w x 1) (block w x k) (only_block 1) (only_block k) (omega arith) c,
        ))

    head_within : T (none_above (vector (head_of w x)) (vector (block w x 1)))
    unfolding head_of
    head_within =
        counts_none_above (head_of w x) (block w x 1)
        (λ c i. only_counts (head_of w x) (block w x 1) (only_take x.head w only) (only_block 1) (omega (arith, head_length_lem w x r, block-length w x r, r.below)) c)

    tail_within : T (none_above (vector (tail_of w x)) (vector (block w x 1)))
    unfolding tail_of
    tail_within =
        counts_none_above (tail_of w x) (block w x 1)
        (λ c i. only_counts (tail_of w x) (block w x 1) (only_drop (x.head + whole_blocks (length w) x * x.period) w only) (only_block 1)
        (omega (arith, tail_short w x t r, block-length w x r)) c)

    only_period : T (is_period w x)
    only_period = rw (tail_decides w x t r (is_true (none_above (vector (head_of w x)) (vector (block w x 1))) head_within) blocks_alike_lem) tail_within

every_pair : (w : List ℕ) → T (of_letters w) → T (all_equal w) → (x : Pair) → T (in_range (length w) x) → T (is_period w x)
unfolding all_equal
every_pair w t e x r =
    only_period (get_or w 0 0) w x t (λ y m. eqb→eq y (get_or w 0 0) (all-mem (λ (z : ℕ). eqb z (get_or w 0 0)) w e m)) (in_range_lem (length w) x r)

-- ---- from the pair (0, 1) to equal letters

-- a test that every place's number passes
all_at : (f : ℕ → Bool) (w : List ℕ) → ((i : ℕ) → i < length w → T (f (get_or w i 0))) → T (all f w)
all_at f [] h = tt
all_at f (x ∷ w) h = both (f x) (all f w) (h 0 (omega arith)) (all_at f w (λ i l. h (suc i) (omega arith)))

-- a block of one letter
letter_block : (w : List ℕ) (i : ℕ) → i < length w → block w (pair 0 1) (suc i) ≡ get_or w i 0 ∷ []
unfolding block
letter_block w i l = let e : 0 + (suc i - 1) * 1 ≡ i = omega arith in rw (e, drop-cons w i 0 l)

-- two blocks of one letter with one vector have the same letter
same_letter : (x y : ℕ) → Memᴰ y letters → vector (x ∷ []) ≡ vector (y ∷ []) → T (eqb x y)
unfolding count
same_letter x y m e = go (eqb x y) (vector_counts (x ∷ []) (y ∷ []) e y m)
  where
    go : (b : Bool) → one b + 0 ≡ one (eqb y y) + 0 → T b
    go true q = tt
    go false q = absurd (let o : one (eqb y y) ≡ 1 = ap one (eq-eqb y y refl) in omega arith)

-- the blocks of (0, 1) are the letters
letters_equal : (w : List ℕ) → T (of_letters w) → ((x : Pair) → T (in_range (length w) x) → T (is_period w x)) → T (all_equal w)
unfolding all_equal whole_blocks
letters_equal [] t h = tt
letters_equal (y ∷ v) t h =
    let w : List ℕ = y ∷ v in
    let c : Conditions w (pair 0 1) =
    period_conditions w (pair 0 1) (h (pair 0 1) (range_in (length w) (pair 0 1) (record { positive = omega arith; below = omega arith; fits = omega arith }))) in
    all_at (λ (x : ℕ). eqb x y) w
    (λ i l.
    same_letter (get_or w i 0) y (is_letter-mem y (letters_inside w t y (Memᴰ.head refl)))
    (ap vector (sym (letter_block w i l)) ∙ c.alike (suc i) (omega arith) ((le-div_iff_mul-le c.range.positive).1 (omega arith))
    ∙ ap vector (letter_block w 0 (omega arith))))

-- ---- the theorem

-- of every word of letters, and so of one of two or more letters: all are equal exactly where every pair in range is an Abelian period
pub all_equal_exactly : (w : List ℕ) → T (of_letters w) → T (all_equal w) ↔ ((x : Pair) → T (in_range (length w) x) → T (is_period w x))
all_equal_exactly w t = (every_pair w t, letters_equal w t)
