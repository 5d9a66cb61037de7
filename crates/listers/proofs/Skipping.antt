-- What the skipping lister passes over is no Abelian period (document 004, Propositions 3.4 and 3.6): a head that is ruled out is the head of none, and every Abelian
-- period with head h has a period of at least L(h).
use mathlib.Core.Path.{◌≡◌, refl, sym, ap, ◌∙◌}
use mathlib.Core.Bool.{Bool, true, false, not}
use mathlib.Core.Logic.{⊎_elim}
use mathlib.Core.List.{List, map, Memᴰ}
use Prim.Native.Nat.{ℕ, suc, ◌+◌, ◌-◌, ◌*◌, ◌/◌, ◌≤◌, ◌<◌}
use native.Mathlib.Nat.{max-le, suc-mul, div-mul-le_self, lt-div-mul-add, le-div_iff_mul-le}
use native.Mathlib.Decide.{dec_le}
use native.Mathlib.Omega.{arith}
use lib.ListN.{length, take, drop, get_or, length-drop}
use lib.Seq.{drop-drop, get_or-drop}
use lib.Dec.{T, leb, ltb}
use borrow.Author.Tests.{eq-eqb, le-leb, leb-true, ltb-true}
use Rattle.abelian.specs.Lists.{all}
use Rattle.abelian.specs.Words.{of_letters, letters, count, vector, part}
use Rattle.abelian.specs.Periods.{Pair, head_of, block, whole_blocks, is_period}
use Rattle.abelian.specs.Trials.{ruled_out, occurrence, distance, greatest_gap, occurrence_bound, lowest_tried, is_candidate}
use Rattle.abelian.proofs.Tests.{is_true, is_false, passes, fails, decided, both}
use Rattle.abelian.proofs.Lists.{mem-all, all-mem, largest-le}
use Rattle.abelian.proofs.Counts.{count-part, count-take_rises, count-take-more, vector_counts, none_above_counts, contained-none_above}
use Rattle.abelian.proofs.Definition1.{Conditions, period_conditions}
use Rattle.periods.proofs.OnceEnded.{count-take-le}
use Rattle.periods.proofs.Kernel.{first_block}
use Rattle.listers.proofs.Select.{occurrence-le, occurrence-length}
use Rattle.listers.proofs.Gaps.{gap_le}
use Rattle.listers.proofs.LowestPeriods.{letter_mem, allowed_head}

-- ---- an Abelian period

-- what is above h, above each letter's bound and above the gap's is at least L(h)
lowest_least : (w : List ℕ) (h b : ℕ) → suc h ≤ b → ((d : ℕ) → Memᴰ d letters → occurrence_bound w h d ≤ b) → (greatest_gap (drop h w) + 1) / 2 ≤ b → lowest_tried w h ≤ b
unfolding lowest_tried
lowest_least w h b l e g =
    max-le l
    (max-le
    (largest-le (map (occurrence_bound w h) letters) b (λ a m. let found = mathlib.Core.List.Memᴰ.of_map (occurrence_bound w h) letters m in rw (← found.2) (e found.0 found.1)))
    g)

module _ (w : List ℕ) (x : Pair) (c : Conditions w x) where
  abbrev h : ℕ
  h = x.head

  abbrev p : ℕ
  p = x.period

  -- head and block 1 together have each letter of the head twice as often
  twice : (d : ℕ) → Memᴰ d letters → 2 * count d (take h w) ≤ count d (take (h + p) w)
  unfolding head_of
  twice d m =
      let b : count d (take h w) ≤ count d (block w x 1) =
      none_above_counts (head_of w x) (block w x 1) (contained-none_above (vector (head_of w x)) (vector (block w x 1)) c.head_contained) d m in
      omega (arith, count-part d h p w, rw (first_block w x) at b)

  not_ruled_out : ruled_out w h ≡ false
  not_ruled_out = allowed_head w h (λ d m. omega (arith, twice d m, count-take-le d (h + p) w))

  -- the position of a letter's occurrence number twice its count in the head is within head and block 1
  occurrence_bound_lem : (d : ℕ) → Memᴰ d letters → occurrence_bound w h d ≤ p
  unfolding occurrence_bound
  occurrence_bound_lem d m =
      ⊎_elim
      (λ (e : ltb 0 (count d (take h w)) ≡ true).
      let s : 0 < count d (take h w) = ltb-true 0 (count d (take h w)) e in
      rw e (omega (arith, occurrence-le d (2 * count d (take h w)) w (h + p) (omega arith) c.range.fits (twice d m))))
      (λ (e : ltb 0 (count d (take h w)) ≡ false). rw e (omega arith))
      (decided (ltb 0 (count d (take h w))))

  -- a whole block that begins k blocks behind block 1 has each letter as often as block 1
  block_counts : (k d : ℕ) → Memᴰ d letters → h + k * p + p ≤ length w → count d (part w (h + k * p) p) ≡ count d (part w h p)
  unfolding block whole_blocks
  block_counts k d m l =
      let e : suc k - 1 ≡ k = omega arith in
      let n : count d (block w x (suc k)) ≡ count d (block w x 1) =
      vector_counts (block w x (suc k)) (block w x 1)
      (c.alike (suc k) (omega arith) ((le-div_iff_mul-le c.range.positive).1 (omega (arith, suc-mul k p)))) d m in
      rw (first_block w x, e) at n

  -- a letter behind the head occurs again among the next 2p − 1, if there are so many: its block and the next whole block have it alike
  gap_at : T (of_letters w) → (i : ℕ) → h ≤ i → i < length w → distance (get_or w i 0) (drop (suc i) w) ≤ 2 * p - 1
  unfolding distance
  gap_at t i l u = go (dec_le (length w) (i + 2 * p))
    where
      d : ℕ
      d = get_or w i 0

      k : ℕ
      k = (i - h) / p

      go : Dec (length w ≤ i + 2 * p) → occurrence d 1 (drop (suc i) w) ≤ 2 * p - 1
      go (yes b) = omega (arith, occurrence-length d 1 (drop (suc i) w) (omega arith), length-drop (suc i) w)
      go (no b) =
          let low : k * p ≤ i - h = div-mul-le_self (i - h) p in
          let high : i - h < k * p + p = lt-div-mul-add c.range.positive in
          let m : Memᴰ d letters = letter_mem w i t u in
          let next : h + suc k * p ≡ h + k * p + p = omega (arith, suc-mul k p) in
          let here : count d (take (suc i) w) ≡ count d (take i w) + 1 = rw (eq-eqb d d refl) at (count-take-more d i w u) in
          let first : h + k * p ≤ i = omega arith in
          let second : suc i ≤ h + k * p + p = omega arith in
          let third : suc i ≤ h + suc k * p = omega arith in
          let fourth : h + suc k * p + p ≤ suc i + (2 * p - 1) = omega (arith, c.range.positive) in
          let same : count d (part w (h + suc k * p) p) ≡ count d (part w (h + k * p) p) =
          block_counts (suc k) d m (omega arith) ∙ sym (block_counts k d m (omega arith)) in
          occurrence-le d 1 (drop (suc i) w) (2 * p - 1) (omega arith) (omega (arith, length-drop (suc i) w))
          (omega (
            arith,
            count-part d (h + k * p) p w,
            count-part d (h + suc k * p) p w,
            count-part d (suc i) (2 * p - 1) w,
            count-take_rises d w first,
            count-take_rises d w second,
            count-take_rises d w third,
            count-take_rises d w fourth,
          ))

  gap_bound : T (of_letters w) → (greatest_gap (drop h w) + 1) / 2 ≤ p
  gap_bound t =
      let g : greatest_gap (drop h w) ≤ 2 * p - 1 =
      gap_le (drop h w) (2 * p - 1)
      (λ i l.
      let e : h + suc i ≡ suc (h + i) = omega arith in
      rw (get_or-drop, drop-drop, e) (gap_at t (h + i) (omega arith) (omega (arith, length-drop h w)))) in
      omega (arith, c.range.positive)

  lowest_bound : T (of_letters w) → lowest_tried w h ≤ p
  lowest_bound t = lowest_least w h p c.range.below occurrence_bound_lem (gap_bound t)

-- a head that is ruled out rules out all longer ones
pub ruled_out_longer : (w : List ℕ) (h k : ℕ) → h ≤ k → T (ruled_out w h) → T (ruled_out w k)
unfolding ruled_out
ruled_out_longer w h k l r = ⊎_elim (λ (e : all (test k) letters ≡ true). absurd (rw (shorter e) at r)) (λ (e : all (test k) letters ≡ false). rw e tt) (decided (all (test k) letters))
  where
    test : ℕ → ℕ → Bool
    test m d = leb (2 * count d (take m w)) (count d w)

    shorter : all (test k) letters ≡ true → all (test h) letters ≡ true
    shorter e =
        is_true (all (test h) letters)
        (mem-all (test h) letters
        (λ d m.
        let longer : 2 * count d (take k w) ≤ count d w =
        leb-true (2 * count d (take k w)) (count d w) (is_true (test k d) (all-mem (test k) letters (passes (all (test k) letters) e) m)) in
        passes (test h d) (le-leb (2 * count d (take h w)) (count d w) (omega (arith, count-take_rises d w l)))))

module _ (w : List ℕ) (x : Pair) where
  -- no Abelian period has a head that is ruled out
  pub ruled_out_no_period : T (ruled_out w x.head) → is_period w x ≡ false
  ruled_out_no_period r = is_false (is_period w x) (λ i. fails (ruled_out w x.head) (not_ruled_out w x (period_conditions w x i)) r)

  -- Proposition 3.4: nor one that is as long as a head that is ruled out, or longer
  pub proposition_3_4 : (h : ℕ) → T (ruled_out w h) → h ≤ x.head → is_period w x ≡ false
  proposition_3_4 h r l = ruled_out_no_period (ruled_out_longer w h x.head l r)

  -- Proposition 3.6: no Abelian period with the head h is below L(h)
  pub proposition_3_6 : T (of_letters w) → T (is_period w x) → lowest_tried w x.head ≤ x.period
  proposition_3_6 t i = lowest_bound w x (period_conditions w x i) t

  -- so the skipping lister tries every Abelian period
  pub period_candidate : T (of_letters w) → T (is_period w x) → T (is_candidate w x)
  unfolding is_candidate
  period_candidate t i =
      both (not (ruled_out w x.head)) (leb (lowest_tried w x.head) x.period)
      (passes (not (ruled_out w x.head)) (ap not (not_ruled_out w x (period_conditions w x i))))
      (passes (leb (lowest_tried w x.head) x.period) (le-leb (lowest_tried w x.head) x.period (proposition_3_6 t i)))
