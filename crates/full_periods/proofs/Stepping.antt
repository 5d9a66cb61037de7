-- Laws of loops that look at the multiples of a step alone: what the marks up to the last multiple give, and one multiple more.
use mathlib.Core.Path.{◌≡◌, refl, sym, ap, ap₂, ◌∙◌}
use mathlib.Core.Bool.{true}
use mathlib.Core.List.{List, [], ◌∷◌, ◌++◌, map, map-append}
use mathlib.Core.Logic.{⊎_elim, ◌≢◌}
use Prim.Native.Nat.{ℕ, ◌+◌, ◌-◌, ◌≤◌, ◌<◌, ◌∣◌, max}
use native.Mathlib.Nat.{zero-add, one-dvd, dvd-zero, dvd-add, dvd_refl}
use native.Mathlib.Omega.{arith}
use lib.ListN.{length, get_or, set, length-append, length-map, length-set}
use Rattle.abelian.specs.Lists.{largest}
use Rattle.abelian.specs.FullPeriods.{distances}
use Rattle.abelian.specs.Output.{full_word, fill}
use Rattle.abelian.proofs.Lists.{below_or_not}
use Rattle.words.proofs.Lists.{fill_more}
use Rattle.full_periods.specs.Marks.{Steps, is_marked, marked}
use Rattle.full_periods.proofs.Lists.{last_of}
use Rattle.full_periods.proofs.Tables.{one-marked, other_not_marked, step-within, marked_more, marked_no_more, marked_rises, gap_more, last_more}

-- where the step is 0 there is no number to look at, so any other does as well
pub steps_positive : {marks : List ℕ} {step n stride : ℕ} → Steps step n marks → stride ≡ max step 1 → Steps stride n marks
steps_positive {marks} {step} {n} {stride} h e =
    ⊎_elim
    (λ (z : step < 1).
    let s : stride ≡ 1 = omega arith in
    rw s (record { end = one-dvd n; multiples = λ k l m. one-dvd k }))
    (λ (p : 1 ≤ step). let s : stride ≡ step = omega arith in rw s h)
    (below_or_not step 1)

-- p is one step behind a multiple up to n
pub record Stepped (n step p : ℕ) : Type 0 where
  pub before : ℕ
  pub at : p ≡ before + step
  pub to : before ≤ n
  pub multiple : step ∣ before

-- before the first number
abbrev pub stepped_start : (n step : ℕ) → Stepped n step step
stepped_start n step = record { before = 0; at = sym (zero-add step); to = omega arith; multiple = dvd-zero step }

module _ {n step p : ℕ} (s : Stepped n step p) where
  -- the next one
  abbrev pub stepped_next : p ≤ n → Stepped n step (p + step)
  stepped_next l = record { before = p; at = refl; to = l; multiple = rw s.at (dvd-add step s.multiple (dvd_refl step)) }

module _ (marks : List ℕ) {n step p : ℕ} (s : Stepped n step p) (steps : Steps step n marks) (positive : 1 ≤ step) where
  -- behind the last one all up to n were looked at
  pub stepped_end : n < p → s.before ≡ n
  stepped_end l =
      ⊎_elim
      (λ (b : s.before < n). absurd (let h : s.before + step ≤ n = step-within marks steps s.multiple b in omega (arith, s.at)))
      (λ (b : n ≤ s.before). omega (arith, s.to)) (below_or_not s.before n)

  module _ (l : p ≤ n) where
    -- a marked number is one more
    pub stepped_more : get_or marks p 0 ≡ 1 → marked p marks ≡ marked s.before marks ++ (p ∷ [])
    stepped_more e = rw s.at (marked_more marks steps s.multiple (omega (arith, s.at)) (ap (is_marked marks) (sym s.at) ∙ one-marked marks p e))

    -- another is none
    pub stepped_same : get_or marks p 0 ≢ 1 → marked p marks ≡ marked s.before marks
    stepped_same e = rw s.at (marked_no_more marks steps s.multiple (omega (arith, s.at)) (ap (is_marked marks) (sym s.at) ∙ other_not_marked marks p e))

-- ---- counting

pub record Counted (marks : List ℕ) (n step count p : ℕ) : Type 0 where
  pub stepped : Stepped n step p
  pub counted : count ≡ length (marked stepped.before marks)
  pub small : count ≤ stepped.before

pub counted_start : (marks : List ℕ) (n step : ℕ) → Counted marks n step 0 step
unfolding marked
counted_start marks n step = record { stepped = stepped_start n step; counted = refl; small = omega arith }

module _ {marks : List ℕ} {n step count p : ℕ} (h : Counted marks n step count p) (steps : Steps step n marks) (positive : 1 ≤ step) where
  pub counted_more : p ≤ n → get_or marks p 0 ≡ 1 → Counted marks n step (count + 1) (p + step)
  counted_more l e = record {
    stepped = stepped_next h.stepped l;
    counted = omega (arith, h.counted, ap length (stepped_more marks h.stepped steps positive l e), length-append (marked h.stepped.before marks) (p ∷ []));
    small = omega (arith, h.small, h.stepped.at);
  }

  pub counted_same : p ≤ n → get_or marks p 0 ≢ 1 → Counted marks n step count (p + step)
  counted_same l e = record {
    stepped = stepped_next h.stepped l;
    counted = h.counted ∙ ap length (sym (stepped_same marks h.stepped steps positive l e));
    small = omega (arith, h.small, h.stepped.at);
  }

  pub counted_end : n < p → count ≡ length (marked n marks)
  counted_end l = h.counted ∙ ap (λ (k : ℕ). length (marked k marks)) (stepped_end marks h.stepped steps positive l)

-- ---- writing

pub record Written (marks : List ℕ) (n step : ℕ) (out₀ out : List ℕ) (at p : ℕ) : Type 0 where
  pub stepped : Stepped n step p
  pub words : at ≡ length (marked stepped.before marks)
  pub filled : out ≡ fill (map (full_word n) (marked stepped.before marks)) out₀
  pub size : length out ≡ length out₀

pub written_start : (marks : List ℕ) (n step : ℕ) (out : List ℕ) → Written marks n step out out 0 step
unfolding marked fill
written_start marks n step out = record { stepped = stepped_start n step; words = refl; filled = refl; size = refl }

module _ {marks : List ℕ} {n step : ℕ} {out₀ out : List ℕ} {at p : ℕ} (h : Written marks n step out₀ out at p) (steps : Steps step n marks) (positive : 1 ≤ step) where
  -- a marked number has a place for its word
  pub written_place : p ≤ n → get_or marks p 0 ≡ 1 → length (marked n marks) ≤ length out₀ → at < length out
  written_place l e r =
      omega (arith, h.words, h.size, ap length (stepped_more marks h.stepped steps positive l e), length-append (marked h.stepped.before marks) (p ∷ []), marked_rises marks l)

  -- its word is written there
  pub written_more : p ≤ n → get_or marks p 0 ≡ 1 → at < length out → {v : ℕ} → v ≡ full_word n p → Written marks n step out₀ (set out at v) (at + 1) (p + step)
  written_more l e r {v} q =
      let ms : List ℕ = marked h.stepped.before marks in
      let m : marked p marks ≡ ms ++ (p ∷ []) = stepped_more marks h.stepped steps positive l e in
      let k : length (map (full_word n) ms) ≡ at = length-map ms (full_word n) ∙ sym h.words in
      record {
        stepped = stepped_next h.stepped l;
        words = omega (arith, h.words, ap length m, length-append ms (p ∷ []));
        filled =
            ap (λ (l : List ℕ). set l at v) h.filled
            ∙ ap (λ (i : ℕ). set (fill (map (full_word n) ms) out₀) i v) (sym k)
            ∙ fill_more (map (full_word n) ms) out₀ v (omega (arith, h.size))
            ∙ ap (λ (x : ℕ). fill (map (full_word n) ms ++ (x ∷ [])) out₀) q
            ∙ ap (λ (ws : List ℕ). fill ws out₀) (sym (map-append (full_word n) ms (p ∷ [])) ∙ ap (map (full_word n)) (sym m));
        size = length-set out at v ∙ h.size;
      }

  -- a number that is not marked is passed over
  pub written_same : p ≤ n → get_or marks p 0 ≢ 1 → Written marks n step out₀ out at (p + step)
  written_same l e =
      let m : marked p marks ≡ marked h.stepped.before marks = stepped_same marks h.stepped steps positive l e in
      record {
        stepped = stepped_next h.stepped l;
        words = h.words ∙ ap length (sym m);
        filled = h.filled ∙ ap (λ (ps : List ℕ). fill (map (full_word n) ps) out₀) (sym m);
        size = h.size;
      }

  pub written_end : n < p → out ≡ fill (map (full_word n) (marked n marks)) out₀
  written_end l = h.filled ∙ ap (λ (k : ℕ). fill (map (full_word n) (marked k marks)) out₀) (stepped_end marks h.stepped steps positive l)

-- ---- measuring

pub record Measured (marks : List ℕ) (n step greatest last p : ℕ) : Type 0 where
  pub stepped : Stepped n step p
  pub behind : last ≤ stepped.before
  pub greatest_is : greatest ≡ largest (distances 0 (marked stepped.before marks))
  pub last_is : last ≡ last_of 0 (marked stepped.before marks)

pub measured_start : (marks : List ℕ) (n step : ℕ) → Measured marks n step 0 0 step
unfolding marked distances last_of
measured_start marks n step = record { stepped = stepped_start n step; behind = omega arith; greatest_is = refl; last_is = refl }

module _ {marks : List ℕ} {n step greatest last p : ℕ} (h : Measured marks n step greatest last p) (steps : Steps step n marks) (positive : 1 ≤ step) where
  -- a marked number is one distance more
  pub measured_more : p ≤ n → get_or marks p 0 ≡ 1 → Measured marks n step (max greatest (p - last)) p (p + step)
  measured_more l e =
      let s : Stepped n step p = h.stepped in
      let b : s.before < n = omega (arith, s.at) in
      let m : is_marked marks (s.before + step) ≡ true = ap (is_marked marks) (sym s.at) ∙ one-marked marks p e in
      record {
        stepped = stepped_next s l;
        behind = omega arith;
        greatest_is =
            ap₂ (λ (g k : ℕ). max g (p - k)) h.greatest_is h.last_is
            ∙ ap (λ (k : ℕ). max (largest (distances 0 (marked s.before marks))) (k - last_of 0 (marked s.before marks))) s.at
            ∙ sym (gap_more marks steps s.multiple b m)
            ∙ ap (λ (k : ℕ). largest (distances 0 (marked k marks))) (sym s.at);
        last_is = s.at ∙ sym (last_more marks steps s.multiple b m) ∙ ap (λ (k : ℕ). last_of 0 (marked k marks)) (sym s.at);
      }

  -- another is passed over
  pub measured_same : p ≤ n → get_or marks p 0 ≢ 1 → Measured marks n step greatest last (p + step)
  measured_same l e =
      let m : marked p marks ≡ marked h.stepped.before marks = stepped_same marks h.stepped steps positive l e in
      record {
        stepped = stepped_next h.stepped l;
        behind = omega (arith, h.behind, h.stepped.at);
        greatest_is = h.greatest_is ∙ ap (λ (xs : List ℕ). largest (distances 0 xs)) (sym m);
        last_is = h.last_is ∙ ap (last_of 0) (sym m);
      }

  pub measured_end : n < p → greatest ≡ largest (distances 0 (marked n marks))
  measured_end l = h.greatest_is ∙ ap (λ (k : ℕ). largest (distances 0 (marked k marks))) (stepped_end marks h.stepped steps positive l)
