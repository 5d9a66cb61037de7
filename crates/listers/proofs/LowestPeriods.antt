-- Laws of the table of the lowest periods: the entry of a head, how the table is found head by head, and that a pair in range is tried exactly where its period is not
-- below its head's entry.
use mathlib.Core.Path.{◌≡◌, refl, sym, ap, ◌∙◌}
use mathlib.Core.Bool.{Bool, true, false, not, ◌&&◌, and-false}
use mathlib.Core.Logic.{⊎_elim, ◌≢◌}
use mathlib.Core.List.{List, Memᴰ}
use Prim.Native.Nat.{ℕ, suc, ◌+◌, ◌*◌, ◌≤◌, ◌<◌, max}
use native.Mathlib.Nat.{zero-add}
use native.Mathlib.Omega.{arith}
use lib.ListN.{length, take, drop, get_or, set, replicate, length-map, length-set, length-replicate, get_or-replicate}
use lib.Seq.{ext_get_or, get_or-set_same, get_or-set_other}
use lib.Dec.{T, eqb, leb}
use borrow.Author.Tests.{eqb-true, eqb-false, le-leb, lt-leb, lt-ltb, le-ltb}
use Rattle.abelian.specs.Lists.{pick, up_from, all}
use Rattle.abelian.specs.Words.{alphabet_size, longest, letters, of_letters, count}
use Rattle.abelian.specs.Periods.{Pair, in_range}
use Rattle.abelian.specs.Trials.{ruled_out, occurrence, greatest_gap, lowest_tried, is_candidate}
use Rattle.abelian.proofs.Tests.{is_true, is_false, passes, fails, decided}
use Rattle.abelian.proofs.Lists.{mem-all, all-mem, length-up_from, below_or_not}
use Rattle.abelian.proofs.Counts.{is_letter-mem, bounds_letter, count-take_rises}
use Rattle.abelian.proofs.Pairs.{InRange, in_range_lem}
use Rattle.words.proofs.Vectors.{letter_at, map-up_from_at}
use Rattle.listers.specs.Lowest.{lowest_above, untried, lowest_period, lowest_periods}
use Rattle.listers.proofs.Select.{count_here, count_elsewhere, occurrence-some, occurrence_zero, occurrence-length}
use Rattle.listers.proofs.Reach.{reach_of, reach_none, lowest_by_reach, reach_more}

-- what stands at a position of a word of letters is among the letters
pub letter_mem : (w : List ℕ) (i : ℕ) → T (of_letters w) → i < length w → Memᴰ (get_or w i 0) letters
letter_mem w i t l = let b = letter_at w i t l in is_letter-mem (get_or w i 0) (bounds_letter alphabet_size (get_or w i 0) b.0 b.1)

-- ---- the entry of a head

module _ (w : List ℕ) (h : ℕ) where
  abbrev allowed_test : ℕ → Bool
  allowed_test d = leb (2 * count d (take h w)) (count d w)

  -- a head that has at most half of each letter's occurrences is not ruled out
  pub allowed_head : ((d : ℕ) → Memᴰ d letters → 2 * count d (take h w) ≤ count d w) → ruled_out w h ≡ false
  unfolding ruled_out
  allowed_head a =
      ap not (is_true (all allowed_test letters)
      (mem-all allowed_test letters (λ d m. passes (allowed_test d) (le-leb (2 * count d (take h w)) (count d w) (a d m)))))

  -- one that has more of some letter is, and no pair is tried with it
  ruled_untried : (d : ℕ) → Memᴰ d letters → count d w < 2 * count d (take h w) → lowest_period w h ≡ untried
  unfolding lowest_period ruled_out
  ruled_untried d m l =
      let no : all allowed_test letters ≡ false =
      is_false (all allowed_test letters) (λ t. fails (allowed_test d) (lt-leb (2 * count d (take h w)) (count d w) l) (all-mem allowed_test letters t m)) in
      rw (no, and-false)

  -- nor is one with a head that is too long for a pair in range
  long-untried : length w ≤ 2 * h → lowest_period w h ≡ untried
  unfolding lowest_period
  long-untried l = rw (le-ltb (2 * h) (length w) l)

  -- with any other it is L(h)
  lowest_allowed : 2 * h < length w → ruled_out w h ≡ false → lowest_period w h ≡ lowest_above h (reach_of w h) (greatest_gap (drop h w))
  unfolding lowest_period
  lowest_allowed l a = rw (lt-ltb (2 * h) (length w) l, a) (lowest_by_reach w h)

-- ---- the table

-- no period is as large as the entry of a head with which no pair is tried
longest-untried : longest < untried
unfolding longest untried
longest-untried = omega arith

module _ (w : List ℕ) where
  -- there is an entry for each head, 0 to the longest word's length
  pub length_lowest : length (lowest_periods w) ≡ suc longest
  unfolding lowest_periods
  length_lowest = length-map (up_from 0 (suc longest)) (lowest_period w) ∙ length-up_from 0 (suc longest)

  pub lowest_at : (h : ℕ) → h ≤ longest → get_or (lowest_periods w) h 0 ≡ lowest_period w h
  unfolding lowest_periods
  lowest_at h l = map-up_from_at (lowest_period w) 0 (suc longest) h 0 (omega arith) ∙ ap (lowest_period w) (zero-add h)

  -- the entries of the heads below h are found, and those from h on say that no pair is tried
  pub record Entries (lowest : List ℕ) (h : ℕ) : Type 0 where
    pub size : length lowest ≡ suc longest
    pub found : (i : ℕ) → i < h → get_or lowest i 0 ≡ lowest_period w i
    pub left : (i : ℕ) → h ≤ i → i ≤ longest → get_or lowest i 0 ≡ untried

  -- one entry more
  next_entry : (lowest : List ℕ) (h entry : ℕ) → h ≤ longest → entry ≡ lowest_period w h → Entries lowest h → Entries (set lowest h entry) (h + 1)
  next_entry lowest h entry l e f =
      record {
        size = length-set lowest h entry ∙ f.size;
        found = λ i m.
            ⊎_elim (λ (q : eqb i h ≡ true). rw (eqb-true i h q) (get_or-set_same lowest h entry 0 (omega (arith, f.size)) ∙ e))
            (λ (q : eqb i h ≡ false). let n : i ≢ h = eqb-false i h q in get_or-set_other lowest h i entry 0 n ∙ f.found i (omega arith))
            (decided (eqb i h));
        left = λ i m b. get_or-set_other lowest h i entry 0 (omega arith) ∙ f.left i (omega arith) b;
      }

  -- where no pair is tried with the heads from h on, the table is whole
  untried_whole : (lowest : List ℕ) (h : ℕ) → ((i : ℕ) → h ≤ i → lowest_period w i ≡ untried) → Entries lowest h → lowest ≡ lowest_periods w
  untried_whole lowest h u f =
      ext_get_or 0 lowest (lowest_periods w) (f.size ∙ sym length_lowest)
      (λ i m.
      let b : i ≤ longest = omega (arith, f.size) in
      ⊎_elim (λ (l : i < h). f.found i l) (λ (l : h ≤ i). f.left i l b ∙ sym (u i l)) (below_or_not i h) ∙ sym (lowest_at i b))

  -- a pair in range is tried exactly where its period is not below its head's entry
  pub candidate_entry : (x : Pair) → length w ≤ longest → T (in_range (length w) x) → is_candidate w x ≡ leb (get_or (lowest_periods w) x.head 0) x.period
  unfolding is_candidate lowest_period
  candidate_entry x s i =
      let r : InRange (length w) x = in_range_lem (length w) x i in
      let inside : 2 * x.head < length w = omega (arith, r.below, r.fits) in
      let above : leb untried x.period ≡ false = lt-leb untried x.period (omega (arith, r.fits, longest-untried)) in
      rw (lowest_at x.head (omega arith), lt-ltb (2 * x.head) (length w) inside) (go (ruled_out w x.head) above)
    where
      go : (b : Bool) → leb untried x.period ≡ false → (not b && leb (lowest_tried w x.head) x.period) ≡ leb (pick (not b) (lowest_tried w x.head) untried) x.period
      go true e = sym e
      go false e = refl

-- ---- the loop that finds the table

-- the entries of the heads below h are found, the head h is not ruled out, and its reach is at hand
pub record Heads (w lowest : List ℕ) (reach h : ℕ) : Type 0 where
  pub within : 2 * h ≤ suc (length w)
  pub entries : Entries w lowest h
  pub allowed : (d : ℕ) → 2 * count d (take h w) ≤ count d w
  pub near : reach ≤ length w
  pub reached : reach ≡ reach_of w h

-- before the first head
pub first_head : (w : List ℕ) → Heads w (replicate (suc longest) untried) 0 0
unfolding count
first_head w =
    record {
      within = omega arith;
      entries = record {
        size = length-replicate (suc longest) untried;
        found = λ i l. absurd (omega arith);
        left = λ i l b. get_or-replicate (suc longest) i untried 0 (omega arith);
      };
      allowed = λ d. omega arith;
      near = omega arith;
      reached = sym (reach_none w);
    }

-- behind the last head of a pair in range the table is whole
pub long_whole : {w lowest : List ℕ} {reach h : ℕ} → length w ≤ 2 * h → Heads w lowest reach h → lowest ≡ lowest_periods w
long_whole {w} {lowest} {h = h} l s = untried_whole w lowest h (λ i m. long-untried w i (omega arith)) s.entries

-- one head more: its entry, and the position of occurrence number 2c of the letter behind it, of which the longer head has c
module _ {w lowest : List ℕ} {reach h entry at : ℕ} (s : Heads w lowest reach h) (t : T (of_letters w)) (short : length w ≤ longest) (l : 2 * h < length w)
    (e : entry ≡ lowest_above h reach (greatest_gap (drop h w))) (o : at ≡ occurrence (get_or w h 0) (2 * count (get_or w h 0) (take (h + 1) w)) w) where
  abbrev x : ℕ
  x = get_or w h 0

  among : Memᴰ x letters
  among = letter_mem w h t (omega arith)

  entered : Entries w (set lowest h entry) (h + 1)
  entered =
      next_entry w lowest h entry (omega arith)
      (e ∙ ap (λ (r : ℕ). lowest_above h r (greatest_gap (drop h w))) s.reached ∙ sym (lowest_allowed w h l (allowed_head w h (λ d m. s.allowed d))))
      s.entries

  -- where there is no such occurrence, all longer heads are ruled out, and the table is whole
  pub ruled_whole : at ≡ 0 → set lowest h entry ≡ lowest_periods w
  ruled_whole z =
      let few : count x w < 2 * count x (take (h + 1) w) = occurrence_zero x (2 * count x (take (h + 1) w)) w (omega (arith, count_here w h (omega arith) x refl)) (sym o ∙ z) in
      untried_whole w (set lowest h entry) (h + 1) (λ i m. ruled_untried w i x among (omega (arith, count-take_rises x w m))) entered

  -- where there is one, the longer head is not ruled out, and reaches so far
  pub next_head : {reach' : ℕ} → at ≢ 0 → reach' ≡ max reach at → Heads w (set lowest h entry) reach' (h + 1)
  next_head n r =
      let enough : 2 * count x (take (h + 1) w) ≤ count x w = occurrence-some x (2 * count x (take (h + 1) w)) w (λ z. n (o ∙ z)) in
      record {
        within = omega arith;
        entries = entered;
        allowed = λ d.
            ⊎_elim (λ (q : eqb x d ≡ true). rw (← eqb-true x d q) enough)
            (λ (q : eqb x d ≡ false). rw (count_elsewhere w h (omega arith) d (eqb-false x d q)) (s.allowed d))
            (decided (eqb x d));
        near = omega (arith, s.near, occurrence-length x (2 * count x (take (h + 1) w)) w (omega (arith, count_here w h (omega arith) x refl)));
        reached = omega (arith, s.reached, reach_more w h (omega arith) enough among);
      }
