-- Laws of `occurrence`, the select function of document 004: a position at which a letter has been counted k times for the first time is the position
-- of its occurrence number k, there is one where the letter occurs so often, and none elsewhere.
use mathlib.Core.Path.{◌≡◌}
use mathlib.Core.Bool.{Bool, true, false}
use mathlib.Core.Logic.{⊎_elim, ◌≢◌}
use mathlib.Core.List.{List}
use Prim.Native.Nat.{ℕ, zero, suc, ◌+◌, ◌-◌, ◌≤◌, ◌<◌}
use native.Mathlib.Numerals.{add-one}
use native.Mathlib.Decide.{dec_le}
use native.Mathlib.Omega.{arith}
use lib.ListN.{length, take, drop, get_or, length-drop}
use lib.Seq.{take-length}
use lib.Dec.{eqb, eqb→eq}
use borrow.Author.Tests.{eqb-true, eqb-false, eq-eqb, ne_eqb}
use Rattle.abelian.specs.Lists.{one, up_from, first_passing}
use Rattle.abelian.specs.Words.{count}
use Rattle.abelian.specs.Trials.{occurrence}
use Rattle.abelian.proofs.Tests.{decided}
use Rattle.abelian.proofs.Lists.{none-first_passing}
use Rattle.abelian.proofs.Counts.{count-take-drop, count-part, count-take_rises, count-take-more}
use Rattle.periods.proofs.OnceEnded.{count-take-le}

one-le : (b : Bool) → one b ≤ 1
one-le true = omega arith
one-le false = omega arith

-- one letter more is one more of that letter, and none more of any other
module _ (w : List ℕ) (i : ℕ) (l : i < length w) where
  pub count_here : (c : ℕ) → get_or w i 0 ≡ c → count c (take (i + 1) w) ≡ count c (take i w) + 1
  count_here c e = rw (add-one i, count-take-more c i w l, eq-eqb (get_or w i 0) c e)

  pub count_elsewhere : (c : ℕ) → get_or w i 0 ≢ c → count c (take (i + 1) w) ≡ count c (take i w)
  count_elsewhere c n = rw (add-one i, count-take-more c i w l, ne_eqb (get_or w i 0) c n) (omega arith)

-- the first number from a on that passes is o
first_passing_is : (f : ℕ → Bool) (a n o : ℕ) → a ≤ o → o < a + n → f o ≡ true → ((m : ℕ) → m < o → f m ≡ false) → first_passing f (up_from a n) ≡ o
first_passing_is f a zero o l u t b = absurd (omega arith)
first_passing_is f a (suc n) o l u t b =
    ⊎_elim (λ (e : eqb a o ≡ true). let q : a ≡ o = eqb-true a o e in rw (q, t))
    (λ (e : eqb a o ≡ false). let q : a ≢ o = eqb-false a o e in
    rw (b a (omega arith)) (first_passing_is f (suc a) n o (omega arith) (omega arith) t b))
    (decided (eqb a o))

-- o is the position of c's occurrence number k
pub record Occurs (c k : ℕ) (w : List ℕ) (o : ℕ) : Type 0 where
  pub some : 1 ≤ o
  pub within : o ≤ length w
  pub reached : count c (take o w) ≡ k
  pub before : count c (take (o - 1) w) < k

module _ (c k : ℕ) (w : List ℕ) where
  -- the occurrence's position is the number that `occurrence` gives
  pub occurrence_is : {o : ℕ} → Occurs c k w o → occurrence c k w ≡ o
  unfolding occurrence
  occurrence_is {o} s =
      first_passing_is (λ (m : ℕ). eqb (count c (take m w)) k) 1 (length w) o s.some (omega (arith, s.within)) (eq-eqb (count c (take o w)) k s.reached)
      (λ m l. ne_eqb (count c (take m w)) k
      (λ e. let b : m ≤ o - 1 = omega arith in omega (arith, count-take_rises c w b, s.before)))

  -- a prefix that has k of the letter has the occurrence number k
  reaches : (q : ℕ) → 1 ≤ k → q ≤ length w → k ≤ count c (take q w) → (o : ℕ) × Occurs c k w o × (o ≤ q)
  unfolding count
  reaches zero p l r = absurd (omega arith)
  reaches (suc q) p l r = go (dec_le k (count c (take q w))) (reaches q p (omega arith))
    where
      go : Dec (k ≤ count c (take q w)) → (k ≤ count c (take q w) → (o : ℕ) × Occurs c k w o × (o ≤ q)) → (o : ℕ) × Occurs c k w o × (o ≤ suc q)
      go (yes b) ih = let found = ih b in (found.0, found.1, omega (arith, found.2))
      go (no b) ih =
          let e : suc q - 1 ≡ q = omega arith in (
            suc q,
            record {
              some = omega arith;
              within = l;
              reached = omega (arith, count-take-more c q w l, one-le (eqb (get_or w q 0) c));
              before = rw e (omega arith);
            },
            omega arith,
          )

  -- so the position is in that prefix
  pub occurrence-le : (q : ℕ) → 1 ≤ k → q ≤ length w → k ≤ count c (take q w) → occurrence c k w ≤ q
  occurrence-le q p l r = let found = reaches q p l r in rw (occurrence_is found.1) found.2

  -- a letter that occurs k times has an occurrence number k
  pub occurrence-found : 1 ≤ k → k ≤ count c w → Occurs c k w (occurrence c k w)
  occurrence-found p r =
      let found = reaches (length w) p (omega arith) (rw take-length r) in
      rw (occurrence_is found.1) found.1

  -- a letter that occurs less often has none
  pub occurrence-none : count c w < k → occurrence c k w ≡ 0
  unfolding occurrence
  occurrence-none l =
      none-first_passing (λ (m : ℕ). eqb (count c (take m w)) k) (up_from 1 (length w))
      (λ m i t. let e : count c (take m w) ≡ k = eqb→eq (count c (take m w)) k t in omega (arith, count-take-le c m w))

  -- so a position above 0 says that the letter occurs so often
  pub occurrence-some : occurrence c k w ≢ 0 → k ≤ count c w
  occurrence-some n = go (dec_le k (count c w))
    where
      go : Dec (k ≤ count c w) → k ≤ count c w
      go (yes l) = l
      go (no l) = absurd (n (occurrence-none (omega arith)))

  -- and 0 says that it does not
  pub occurrence_zero : 1 ≤ k → occurrence c k w ≡ 0 → count c w < k
  occurrence_zero p z = go (dec_le k (count c w))
    where
      go : Dec (k ≤ count c w) → count c w < k
      go (yes l) = absurd (omega (arith, (occurrence-found p l).some))
      go (no l) = omega arith

  -- a position is within the word
  pub occurrence-length : 1 ≤ k → occurrence c k w ≤ length w
  occurrence-length p = go (dec_le k (count c w))
    where
      go : Dec (k ≤ count c w) → occurrence c k w ≤ length w
      go (yes l) = (occurrence-found p l).within
      go (no l) = rw (occurrence-none (omega arith)) (omega arith)

-- positions rise with the number of the occurrence
pub occurrence_rises : (c k m : ℕ) (w : List ℕ) → 1 ≤ k → k ≤ m → m ≤ count c w → occurrence c k w ≤ occurrence c m w
occurrence_rises c k m w p l r = let o = occurrence-found c m w (omega arith) r in occurrence-le c k w (occurrence c m w) p o.within (omega (arith, o.reached))

-- the first occurrence behind the first a letters is the one that follows those in them
pub occurrence-drop : (c a : ℕ) (w : List ℕ) → occurrence c 1 (drop a w) ≡ occurrence c (count c (take a w) + 1) w - a
occurrence-drop c a w = go (dec_le 1 (count c (drop a w)))
  where
    go : Dec (1 ≤ count c (drop a w)) → occurrence c 1 (drop a w) ≡ occurrence c (count c (take a w) + 1) w - a
    go (yes l) =
        let o : ℕ = occurrence c 1 (drop a w) in
        let s : Occurs c 1 (drop a w) o = occurrence-found c 1 (drop a w) (omega arith) l in
        let e : a + o - 1 ≡ a + (o - 1) = omega (arith, s.some) in
        let f : occurrence c (count c (take a w) + 1) w ≡ a + o =
        occurrence_is c (count c (take a w) + 1) w
        (record {
          some = omega (arith, s.some);
          within = omega (arith, s.within, s.some, length-drop a w);
          reached = omega (arith, count-part c a o w, s.reached);
          before = rw e (omega (arith, count-part c a (o - 1) w, s.before));
        }) in
        omega arith
    go (no l) =
        omega (arith, occurrence-none c 1 (drop a w) (omega arith), occurrence-none c (count c (take a w) + 1) w (omega (arith, count-take-drop c a w)))
