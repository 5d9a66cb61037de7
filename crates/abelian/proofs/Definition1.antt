-- Definition 1 of documents 002 and 004, word for word: for words of letters the test `is_period` passes exactly where the record
-- `AbelianPeriod` holds. So a pair is in the list of periods exactly where the record holds, and the list rises by p and then h.
use mathlib.Core.Path.{◌≡◌, refl, sym, ap, subst, ◌∙◌}
use mathlib.Core.Logic.{⊎_elim, ◌↔◌}
use mathlib.Core.Bool.{Bool, ◌&&◌}
use mathlib.Core.List.Memᴰ
use mathlib.Core.List.{List, [], ◌∷◌, ◌++◌, map, append_assoc, Memᴰ}
use Prim.Native.Nat.{ℕ, zero, suc, ◌+◌, ◌-◌, ◌*◌, ◌/◌, ◌≤◌, ◌<◌}
use native.Mathlib.Nat.{suc-mul, add-zero, le-div_iff_mul-le, mul-le-mul_right}
use native.Mathlib.Omega.{arith}
use lib.Arith.{digits_div}
use lib.ListN.{length, take, drop, get_or, length-append, length-take, length-drop, take-append-drop}
use lib.Seq.{take_at, drop_at, drop-drop, length-take-le, drop-append-add}
use lib.Dec.{T}
use Rattle.abelian.specs.Lists.{up_from, same, all, join}
use Rattle.abelian.specs.Words.{of_letters, vector, contained}
use Rattle.abelian.specs.Periods.{Pair, in_range, pairs, head_of, block, whole_blocks, tail_of, is_period, periods, AbelianPeriod, Before, Rising}
use Rattle.abelian.proofs.Tests.{both, left, right}
use Rattle.abelian.proofs.Lists.{same_equal, equal_same, mem-keep, keep-mem, all-mem, mem-all, mem-up_from, up_from-mem, ordered_keep}
use Rattle.abelian.proofs.Counts.{letters_left, letters_right, vector-length, contained_shorter}
use Rattle.abelian.proofs.Pairs.{InRange, in_range_lem, range_in, in_range-pairs, pairs_rising}

-- ---- the test's four conditions

-- all whole blocks have block 1's vector
abbrev pub Alike : List ℕ → Pair → Type 0
Alike w x = (k : ℕ) → 1 ≤ k → k ≤ whole_blocks (length w) x → vector (block w x k) ≡ vector (block w x 1)

pub record Conditions (w : List ℕ) (x : Pair) : Type 0 where
  pub range : InRange (length w) x
  pub head_contained : T (contained (vector (head_of w x)) (vector (block w x 1)))
  pub alike : Alike w x
  pub tail_contained : T (contained (vector (tail_of w x)) (vector (block w x 1)))

module _ (w : List ℕ) (x : Pair) where
  abbrev r : Bool
  r = in_range (length w) x

  abbrev h : Bool
  h = contained (vector (head_of w x)) (vector (block w x 1))

  abbrev alike_test : ℕ → Bool
  alike_test k = same (vector (block w x k)) (vector (block w x 1))

  abbrev a : Bool
  a = all alike_test (up_from 1 (whole_blocks (length w) x))

  abbrev t : Bool
  t = contained (vector (tail_of w x)) (vector (block w x 1))

  pub period_conditions : T (is_period w x) → Conditions w x
  unfolding is_period
  period_conditions p =
      let rha : T (r && h && a) = left (r && h && a) t p in
      let rh : T (r && h) = left (r && h) a rha in
      record {
        range = in_range_lem (length w) x (left r h rh);
        head_contained = right r h rh;
        alike = λ k l u.
            same_equal (vector (block w x k)) (vector (block w x 1))
            (all-mem alike_test (up_from 1 (whole_blocks (length w) x)) (right (r && h) a rha) (up_from-mem 1 (whole_blocks (length w) x) k l (omega arith)));
        tail_contained = right (r && h && a) t p;
      }

  pub conditions_period : Conditions w x → T (is_period w x)
  unfolding is_period
  conditions_period c =
      both (r && h && a) t
      (both (r && h) a (both r h (range_in (length w) x c.range) c.head_contained)
      (mem-all alike_test (up_from 1 (whole_blocks (length w) x))
      (λ k m.
      let b : (1 ≤ k) × (k < 1 + whole_blocks (length w) x) = mem-up_from 1 (whole_blocks (length w) x) m in
      equal_same (vector (block w x k)) (vector (block w x 1)) (c.alike k b.0 (omega arith)))))
      c.tail_contained

-- ---- from the test to the record

-- block number i + 1 and what is left behind it are what is left behind block i
block_rest : (w : List ℕ) (x : Pair) (i : ℕ) → block w x (suc i) ++ drop (x.head + suc i * x.period) w ≡ drop (x.head + i * x.period) w
unfolding block
block_rest w x i =
    let j : ℕ = x.head + i * x.period in
    let e : suc i - 1 ≡ i = omega arith in
    let f : x.head + suc i * x.period ≡ j + x.period = omega (arith, suc-mul i x.period) in
    rw (e, f, ← drop-drop x.period j w) (take-append-drop x.period (drop j w))

blocks_rest : (w : List ℕ) (x : Pair) (i m : ℕ) → join (map (block w x) (up_from (suc i) m)) ++ drop (x.head + (i + m) * x.period) w ≡ drop (x.head + i * x.period) w
blocks_rest w x i zero = rw add-zero refl
blocks_rest w x i (suc m) =
    let e : i + suc m ≡ suc i + m = omega arith in
    rw (e, append_assoc, blocks_rest w x (suc i) m) (block_rest w x i)

-- the word is its head, its blocks and its tail
pub word_split : (w : List ℕ) (x : Pair) (k : ℕ) → whole_blocks (length w) x ≡ suc k → w ≡ head_of w x ++ (block w x 1 ++ (join (map (block w x) (up_from 2 k)) ++ tail_of w x))
unfolding head_of tail_of
word_split w x k e =
    let z : x.head + 0 * x.period ≡ x.head = omega arith in
    let o : 0 + suc k ≡ suc k = omega arith in
    let b : (block w x 1 ++ join (map (block w x) (up_from 2 k))) ++ drop (x.head + suc k * x.period) w ≡ drop x.head w =
    rw (o, z) at (blocks_rest w x 0 (suc k)) in
    rw (e, ← append_assoc (block w x 1), b) (sym (take-append-drop x.head w))

-- a pair in range has at least one whole block, and the blocks fit the word
module _ (w : List ℕ) (x : Pair) (r : InRange (length w) x) where
  pub block-length : length (block w x 1) ≡ x.period
  unfolding block
  block-length = simp (length-take, length-drop) (omega (arith, r.fits))

  pub head_length_lem : length (head_of w x) ≡ x.head
  unfolding head_of
  head_length_lem = length-take-le x.head w (omega (arith, r.fits))

  pub some_block : (k : ℕ) × (whole_blocks (length w) x ≡ suc k)
  unfolding whole_blocks
  some_block = go ((length w - x.head) / x.period) refl ((le-div_iff_mul-le r.positive).1 (omega (arith, r.fits)))
    where
      go : (q : ℕ) → (length w - x.head) / x.period ≡ q → 1 ≤ (length w - x.head) / x.period → (k : ℕ) × ((length w - x.head) / x.period ≡ suc k)
      go zero e l = absurd (omega arith)
      go (suc k) e l = (k, e)

pub period_definition : (w : List ℕ) (x : Pair) → T (is_period w x) → AbelianPeriod w x
period_definition w x p =
    let c : Conditions w x = period_conditions w x p in
    let b : (k : ℕ) × (whole_blocks (length w) x ≡ suc k) = some_block w x c.range in
    record {
      head = head_of w x;
      first = block w x 1;
      others = map (block w x) (up_from 2 b.0);
      tail = tail_of w x;
      whole = word_split w x b.0 b.1;
      equal = λ u m.
          let r : (k : ℕ) × Memᴰ k (up_from 2 b.0) × (block w x k ≡ u) = Memᴰ.of_map (block w x) (up_from 2 b.0) m in
          let l : (2 ≤ r.0) × (r.0 < 2 + b.0) = mem-up_from 2 b.0 r.1 in
          ap vector (sym r.2) ∙ c.alike r.0 (omega arith) (omega (arith, b.1));
      head_contained = c.head_contained;
      tail_contained = c.tail_contained;
      head_length = head_length_lem w x c.range;
      period_length = block-length w x c.range;
    }

-- ---- from the record to the test

-- all of one length
abbrev pub Sized : ℕ → List (List ℕ) → Type 0
Sized p bs = (u : List ℕ) → Memᴰ u bs → length u ≡ p

pub length-join : (p : ℕ) (bs : List (List ℕ)) → Sized p bs → length (join bs) ≡ length bs * p
length-join p [] s = omega arith
length-join p (b ∷ bs) s =
    let e : length b ≡ p = s b (Memᴰ.head refl) in
    let i : length (join bs) ≡ length bs * p = length-join p bs (λ u m. s u (Memᴰ.tail m)) in
    omega (arith, length-append b (join bs), suc-mul (length bs) p)

-- of stretches of p letters, one behind the other, the one at place j begins after j * p letters
joined_at : (p : ℕ) (bs : List (List ℕ)) (v : List ℕ) (j : ℕ) → Sized p bs → j < length bs → take p (drop (j * p) (join bs ++ v)) ≡ get_or bs j []
joined_at p [] v j s l = absurd (omega arith)
joined_at p (b ∷ bs) v zero s l =
    let z : 0 * p ≡ 0 = omega arith in
    rw (z, append_assoc) (take_at b (join bs ++ v) p (s b (Memᴰ.head refl)))
joined_at p (b ∷ bs) v (suc j) s l =
    let e : length b ≡ p = s b (Memᴰ.head refl) in
    let m : suc j * p ≡ length b + j * p = omega (arith, suc-mul j p) in
    rw (m, append_assoc, drop-append-add) (joined_at p bs v j (λ u i. s u (Memᴰ.tail i)) (omega arith))

-- a word that is a head, blocks of p letters and a tail of fewer has just these parts
module _ (u : List ℕ) (bs : List (List ℕ)) (v : List ℕ) (x : Pair) (e : length u ≡ x.head) (s : Sized x.period bs) (l : length v < x.period) where
  joined_length : length (u ++ (join bs ++ v)) ≡ x.head + (length bs * x.period + length v)
  joined_length = omega (arith, length-append u (join bs ++ v), length-append (join bs) v, length-join x.period bs s)

  joined_blocks : whole_blocks (length (u ++ (join bs ++ v))) x ≡ length bs
  unfolding whole_blocks
  joined_blocks =
      let n : length (u ++ (join bs ++ v)) - x.head ≡ length bs * x.period + length v = omega (arith, joined_length) in
      rw n (digits_div (length bs) l)

  joined_head : head_of (u ++ (join bs ++ v)) x ≡ u
  unfolding head_of
  joined_head = take_at u (join bs ++ v) x.head e

  joined_block : (k : ℕ) → k < length bs → block (u ++ (join bs ++ v)) x (suc k) ≡ get_or bs k []
  unfolding block
  joined_block k i =
      let f : suc k - 1 ≡ k = omega arith in
      rw (f, ← e, drop-append-add) (joined_at x.period bs v k s i)

  joined_tail : tail_of (u ++ (join bs ++ v)) x ≡ v
  unfolding tail_of
  joined_tail = rw (joined_blocks, ← e, drop-append-add) (drop_at (join bs) v (length bs * x.period) (length-join x.period bs s))

  joined_range : 1 ≤ length bs → length u < x.period → InRange (length (u ++ (join bs ++ v))) x
  joined_range i m =
      let k : 1 * x.period ≤ length bs * x.period = mul-le-mul_right x.period i in
      record { positive = omega arith; below = omega arith; fits = omega (arith, joined_length) }

mem-get_or : (bs : List (List ℕ)) (k : ℕ) → k < length bs → Memᴰ (get_or bs k []) bs
mem-get_or [] k l = absurd (omega arith)
mem-get_or (b ∷ bs) zero l = Memᴰ.head refl
mem-get_or (b ∷ bs) (suc k) l = Memᴰ.tail (mem-get_or bs k (omega arith))

pub letters-join : (bs : List (List ℕ)) (u : List ℕ) → T (of_letters (join bs)) → Memᴰ u bs → T (of_letters u)
letters-join [] u t m = absurd (Memᴰ.not-nil m)
letters-join (b ∷ bs) u t m =
    ⊎_elim (λ (q : u ≡ b). subst (λ (l : List ℕ). T (of_letters l)) (sym q) (letters_left b (join bs) t))
    (letters-join bs u (letters_right b (join bs) t)) (Memᴰ.cases_cons m)

pub definition_period : (w : List ℕ) (x : Pair) → T (of_letters w) → AbelianPeriod w x → T (is_period w x)
definition_period w x t d =
    let bs : List (List ℕ) = d.first ∷ d.others in
    let u : List ℕ = d.head in
    let v : List ℕ = d.tail in
    let whole : w ≡ u ++ (join bs ++ v) = d.whole ∙ ap (λ (l : List ℕ). u ++ l) (sym (append_assoc d.first (join d.others) v)) in
    let tw : T (of_letters (u ++ (join bs ++ v))) = subst (λ (l : List ℕ). T (of_letters l)) whole t in
    let tu : T (of_letters u) = letters_left u (join bs ++ v) tw in
    let tb : T (of_letters (join bs)) = letters_left (join bs) v (letters_right u (join bs ++ v) tw) in
    let tv : T (of_letters v) = letters_right (join bs) v (letters_right u (join bs ++ v) tw) in
    let tf : T (of_letters d.first) = letters-join bs d.first tb (Memᴰ.head refl) in
    let equal : (b : List ℕ) → Memᴰ b bs → vector b ≡ vector d.first =
    λ b m. ⊎_elim (ap vector) (d.equal b) (Memᴰ.cases_cons m) in
    let s : (b : List ℕ) → Memᴰ b bs → length b ≡ x.period =
    λ b m. vector-length b d.first (letters-join bs b tb m) tf (equal b m) ∙ d.period_length in
    let l : length v < x.period = omega (arith, contained_shorter v d.first tv tf d.tail_contained, d.period_length) in
    let h : length u < x.period = omega (arith, contained_shorter u d.first tu tf d.head_contained, d.period_length) in
    let e : length u ≡ x.head = d.head_length in
    let W : List ℕ = u ++ (join bs ++ v) in
    let first : block W x 1 ≡ d.first = joined_block u bs v x e s l 0 (omega arith) in
    subst (λ (word : List ℕ). T (is_period word x)) (sym whole)
    (conditions_period W x
    (record {
      range = joined_range u bs v x e s l (omega arith) h;
      head_contained = rw (joined_head u bs v x e s l, first) d.head_contained;
      alike = alike_blocks W x bs (joined_blocks u bs v x e s l) (joined_block u bs v x e s l) equal first;
      tail_contained = rw (joined_tail u bs v x e s l, first) d.tail_contained;
    }))
  where
    alike_blocks : (W : List ℕ) (x : Pair) (bs : List (List ℕ)) → whole_blocks (length W) x ≡ length bs
        → ((k : ℕ) → k < length bs → block W x (suc k) ≡ get_or bs k [])
        → ((b : List ℕ) → Memᴰ b bs → vector b ≡ vector d.first) → block W x 1 ≡ d.first → Alike W x
    alike_blocks W x bs n at eq first zero i k = absurd (omega arith)
    alike_blocks W x bs n at eq first (suc j) i k =
        let q : j < length bs = omega arith in
        ap vector (at j q) ∙ eq (get_or bs j []) (mem-get_or bs j q) ∙ ap vector (sym first)

-- ---- the theorem

-- for a word of letters the test passes exactly where Definition 1 holds
pub definition_1 : (w : List ℕ) (x : Pair) → T (of_letters w) → T (is_period w x) ↔ AbelianPeriod w x
definition_1 w x t = (period_definition w x, definition_period w x t)

-- a pair is in the list of periods exactly where Definition 1 holds
pub periods_definition : (w : List ℕ) (x : Pair) → T (of_letters w) → Memᴰ x (periods w) ↔ AbelianPeriod w x
unfolding periods
periods_definition w x t = (
  λ m. period_definition w x (mem-keep (is_period w) (pairs (length w)) m).1,
  λ d.
      let p : T (is_period w x) = definition_period w x t d in
      keep-mem (is_period w) (pairs (length w)) (in_range-pairs (length w) x (range_in (length w) x (period_conditions w x p).range)) p,
)

-- the list of periods rises strictly by p and then h
pub periods_rising : (w : List ℕ) → Rising (periods w)
unfolding periods
periods_rising w = ordered_keep Before (is_period w) (pairs (length w)) (pairs_rising (length w))
