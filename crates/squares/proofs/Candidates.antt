-- Laws of candidates and their marks: how the marks of one half length and of all half lengths are made, what they mark, and how many
-- there are.
use mathlib.Core.Path.{◌≡◌, refl, sym, ap, ap₂, ◌∙◌}
use mathlib.Core.Bool.{Bool, true, false}
use mathlib.Core.List.{List, [], ◌∷◌, ◌++◌, map, map-append, append-nil, append_assoc}
use Prim.Native.Nat.{ℕ, zero, suc, ◌+◌, ◌-◌, ◌*◌, ◌/◌, ◌≤◌, ◌<◌}
use native.Mathlib.Nat.{suc-mul, mul-suc, zero-mul, mul-le-mul}
use native.Mathlib.Numerals.{add-one}
use native.Mathlib.Omega.{arith}
use lib.ListN.{length, take, drop, get_or, set, length-map, length-append, length-take, take-append-drop}
use lib.Seq.{take_at, drop_at}
use lib.Dec.{eqb}
use borrow.Author.Tests.{eq-eqb, ne_eqb}
use Rattle.abelian.specs.Lists.{one, up_from, put, keep, each}
use Rattle.abelian.specs.Words.{longest}
use Rattle.abelian.specs.Output.{square_word, fill}
use Rattle.abelian.specs.Squares.{is_square, square_starts, square_words}
use Rattle.abelian.proofs.Lists.{length-up_from, mem-up_from, keep_agree, keep-more, length-keep-more, keep_shorter}
use Rattle.words.proofs.Vectors.{map-up_from_at}
use Rattle.squares.specs.Marks.{start_marks, square_marks, marked_starts}
use Rattle.words.proofs.Lists.{keep_rises, fill_more}
use Rattle.squares.proofs.Lists.{map_more, each_split, each_more, each_fits, each_rest}

-- ---- what marks mark

-- start k is marked
abbrev pub is_marked : List ℕ → ℕ → Bool
is_marked marks k = eqb (get_or marks (k - 1) 0) 1

-- those of the first i starts that are marked
abbrev pub marked_up_to : List ℕ → ℕ → List ℕ
marked_up_to marks i = keep (is_marked marks) (up_from 1 i)

module _ (marks : List ℕ) (i : ℕ) where
  -- they are no more than all that are marked
  pub marked_rises : i ≤ length marks → length (marked_up_to marks i) ≤ length (marked_starts marks)
  unfolding marked_starts
  marked_rises h = keep_rises (is_marked marks) 1 h

  -- one start more, and whether it is marked
  marked_next : marked_up_to marks (i + 1) ≡ marked_up_to marks i ++ put (eqb (get_or marks i 0) 1) (i + 1) []
  marked_next =
      let e : 1 + i ≡ i + 1 = omega arith in
      let p : i + 1 - 1 ≡ i = omega arith in
      ap (marked_up_to marks) (add-one i) ∙ keep-more (is_marked marks) 1 i
      ∙ ap (λ (k : ℕ). marked_up_to marks i ++ put (is_marked marks k) k []) e
      ∙ ap (λ (k : ℕ). marked_up_to marks i ++ put (eqb (get_or marks k 0) 1) (i + 1) []) p

  -- a start that is marked is written behind the others
  pub marked_more : get_or marks i 0 ≡ 1 → marked_up_to marks (i + 1) ≡ marked_up_to marks i ++ ((i + 1) ∷ [])
  marked_more h = rw (eq-eqb (get_or marks i 0) 1 h) at marked_next

  -- a start that is not is passed over
  pub marked_no_more : (get_or marks i 0 ≡ 1 → ⊥) → marked_up_to marks (i + 1) ≡ marked_up_to marks i
  marked_no_more h = (rw (ne_eqb (get_or marks i 0) 1 h) at marked_next) ∙ append-nil (marked_up_to marks i)

  -- the word of a start that is marked, behind those of the others
  pub write_more : (half at : ℕ) (out : List ℕ) → at ≡ length (marked_up_to marks i) → get_or marks i 0 ≡ 1 → at < length out
      → set (fill (map (square_word half) (marked_up_to marks i)) out) at (square_word half (i + 1)) ≡ fill (map (square_word half) (marked_up_to marks (i + 1))) out
  write_more half at out a h room =
      let ws : List ℕ = map (square_word half) (marked_up_to marks i) in
      let e : at ≡ length ws = a ∙ sym (length-map (marked_up_to marks i) (square_word half)) in
      rw (marked_more h, map-append, e) (fill_more ws out (square_word half (i + 1)) (omega (arith, e)))

module _ (w : List ℕ) where
  -- ---- one half length

  -- each start at which both halves lie in the word has a mark
  pub length-start_marks : (q : ℕ) → length (start_marks w q) ≡ suc (length w) - 2 * q
  unfolding start_marks
  length-start_marks q = length-map (up_from 1 (suc (length w) - 2 * q)) (λ (i : ℕ). one (is_square w q i)) ∙ length-up_from 1 (suc (length w) - 2 * q)

  -- the mark of a start is 1 where it is a square's, and else 0
  pub start_mark : (q i : ℕ) → 1 ≤ i → i ≤ suc (length w) - 2 * q → get_or (start_marks w q) (i - 1) 0 ≡ one (is_square w q i)
  unfolding start_marks
  start_mark q i l u =
      let e : 1 + (i - 1) ≡ i = omega arith in
      rw (map-up_from_at (λ (k : ℕ). one (is_square w q k)) 1 (suc (length w) - 2 * q) (i - 1) 0 (omega arith), e)

  -- so it says whether it is a square's
  pub start_marked : (q i : ℕ) → 1 ≤ i → i ≤ suc (length w) - 2 * q → eqb (get_or (start_marks w q) (i - 1) 0) 1 ≡ is_square w q i
  start_marked q i l u = rw (start_mark q i l u) (go (is_square w q i))
    where
      go : (b : Bool) → eqb (one b) 1 ≡ b
      go true = refl
      go false = refl

  -- the starts that are marked are those of the squares
  pub marked-square_starts : (q : ℕ) → marked_starts (start_marks w q) ≡ square_starts w q
  unfolding marked_starts square_starts
  marked-square_starts q =
      rw (length-start_marks q)
      (keep_agree (λ (i : ℕ). eqb (get_or (start_marks w q) (i - 1) 0) 1) (is_square w q) (up_from 1 (suc (length w) - 2 * q))
      (λ i m. let b : (1 ≤ i) × (i < 1 + (suc (length w) - 2 * q)) = mem-up_from 1 (suc (length w) - 2 * q) m in start_marked q i b.0 (omega (arith, b.1))))

  -- ---- the first starts of one half length

  -- the marks of the first i starts
  abbrev pub first_marks : ℕ → ℕ → List ℕ
  first_marks q i = map (λ (k : ℕ). one (is_square w q k)) (up_from 1 i)

  -- those of the first i starts that are a square's
  abbrev pub first_starts : ℕ → ℕ → List ℕ
  first_starts q i = keep (is_square w q) (up_from 1 i)

  pub length_first_marks : (q i : ℕ) → length (first_marks q i) ≡ i
  length_first_marks q i = length-map (up_from 1 i) (λ (k : ℕ). one (is_square w q k)) ∙ length-up_from 1 i

  module _ (q i : ℕ) where
    -- one start more is marked behind the others
    pub mark_more : (out : List ℕ) → i < length out → set (fill (first_marks q i) out) i (one (is_square w q (i + 1))) ≡ fill (first_marks q (i + 1)) out
    mark_more out h =
        let e : 1 + i ≡ i + 1 = omega arith in
        let more : first_marks q (i + 1) ≡ first_marks q i ++ (one (is_square w q (i + 1)) ∷ []) =
        ap (first_marks q) (add-one i) ∙ map_more (λ (k : ℕ). one (is_square w q k)) 1 i ∙ ap (λ (k : ℕ). first_marks q i ++ (one (is_square w q k) ∷ [])) e in
        rw more
        (ap (λ (k : ℕ). set (fill (first_marks q i) out) k (one (is_square w q (i + 1)))) (sym (length_first_marks q i))
        ∙ fill_more (first_marks q i) out (one (is_square w q (i + 1))) (omega (arith, length_first_marks q i)))

    -- and counted where it is a square's
    pub count-more : length (first_starts q i) + one (is_square w q (i + 1)) ≡ length (first_starts q (i + 1))
    count-more =
        let e : i + 1 ≡ 1 + i = omega arith in
        ap (λ (k : ℕ). length (first_starts q i) + one (is_square w q k)) e ∙ sym (length-keep-more (is_square w q) 1 i) ∙ ap (λ (k : ℕ). length (first_starts q k)) (sym (add-one i))

  -- halves that are longer than half the word have no start
  long_no_marks : (q : ℕ) → length w < 2 * q → start_marks w q ≡ []
  unfolding start_marks
  long_no_marks q h = let e : suc (length w) - 2 * q ≡ 0 = omega arith in rw e

  long_no_words : (q : ℕ) → length w < 2 * q → map (square_word q) (square_starts w q) ≡ []
  unfolding square_starts
  long_no_words q h = let e : suc (length w) - 2 * q ≡ 0 = omega arith in rw e

  -- no half length has more words than candidates
  pub fewer_words : (q : ℕ) → length (square_starts w q) ≤ length (start_marks w q)
  unfolding square_starts
  fewer_words q = omega (arith, keep_shorter (is_square w q) (up_from 1 (suc (length w) - 2 * q)), length-up_from 1 (suc (length w) - 2 * q), length-start_marks q)

  -- ---- the half lengths below q

  -- the marks of the half lengths below q
  abbrev pub marks_below : ℕ → List ℕ
  marks_below q = each (up_from 1 (q - 1)) (start_marks w)

  -- the words of one half length
  abbrev pub half_words : ℕ → List ℕ
  half_words q = map (square_word q) (square_starts w q)

  -- the words of the half lengths below q
  abbrev pub words_below : ℕ → List ℕ
  words_below q = each (up_from 1 (q - 1)) half_words

  -- past half the word there are no more marks and no more words
  module _ (q : ℕ) (within : 2 * (q - 1) ≤ length w) (past : length w < 2 * q) where
    pub all-marks : marks_below q ≡ square_marks w
    unfolding square_marks
    all-marks = let l : q - 1 ≤ length w = omega arith in sym (each_rest (start_marks w) l (λ k (l : q - 1 < k). long_no_marks k (omega arith)))

    pub all_words : words_below q ≡ square_words w
    unfolding square_words
    all_words = let l : q - 1 ≤ length w = omega arith in sym (each_rest half_words l (λ k (l : q - 1 < k). long_no_words k (omega arith)))

  -- a half length whose candidates lie in the word
  module _ (q : ℕ) (positive : 1 ≤ q) (fits : 2 * q ≤ length w) where
    -- its marks stand behind those of the half lengths below, and so do its words
    pub marks-more : marks_below (q + 1) ≡ marks_below q ++ start_marks w q
    marks-more = each_more (start_marks w) q positive

    pub words_more : words_below (q + 1) ≡ words_below q ++ half_words q
    words_more = each_more half_words q positive

    -- they are no more than those of all half lengths
    pub marks_fit : length (marks_below q) + (suc (length w) - 2 * q) ≤ length (square_marks w)
    unfolding square_marks
    marks_fit = omega (arith, each_fits (start_marks w) q (length w) positive (omega arith), length-start_marks q)

    pub words_fit : length (words_below q) + length (square_starts w q) ≤ length (square_words w)
    unfolding square_words
    words_fit = omega (arith, each_fits half_words q (length w) positive (omega arith), length-map (square_starts w q) (square_word q))

    -- where the marks of all half lengths stand, these stand behind those of the half lengths below
    pub marks_at : (marks : List ℕ) → take (length (square_marks w)) marks ≡ square_marks w
        → take (suc (length w) - 2 * q) (drop (length (marks_below q)) marks) ≡ start_marks w q
    unfolding square_marks
    marks_at marks e =
        let behind : List ℕ = drop (length (square_marks w)) marks in
        let later : List ℕ = each (up_from (suc q) (length w - q)) (start_marks w) in
        let whole : marks ≡ marks_below q ++ (start_marks w q ++ (later ++ behind)) =
        sym (take-append-drop (length (square_marks w)) marks)
        ∙ ap (λ (l : List ℕ). l ++ behind) (e ∙ each_split (start_marks w) q (length w) positive (omega arith))
        ∙ append_assoc (marks_below q) (start_marks w q ++ later) behind
        ∙ ap (λ (l : List ℕ). marks_below q ++ l) (append_assoc (start_marks w q) later behind) in
        ap (λ (l : List ℕ). take (suc (length w) - 2 * q) (drop (length (marks_below q)) l)) whole
        ∙ ap (take (suc (length w) - 2 * q)) (drop_at (marks_below q) (start_marks w q ++ (later ++ behind)) (length (marks_below q)) refl)
        ∙ take_at (start_marks w q) (later ++ behind) (suc (length w) - 2 * q) (length-start_marks q)

    -- so they are lent as the part of that length
    pub marks_lent : (marks : List ℕ) → take (length (square_marks w)) marks ≡ square_marks w → (from : ℕ) → from ≡ length (marks_below q)
        → take (from + (length w + 1 - 2 * q) - from) (drop from marks) ≡ start_marks w q
    marks_lent marks e from read =
        let s : from + (length w + 1 - 2 * q) - from ≡ suc (length w) - 2 * q = omega arith in
        ap₂ (λ (k m : ℕ). take k (drop m marks)) s read ∙ marks_at marks e

    -- and that part lies in the slice
    pub marks-within : (marks : List ℕ) → take (length (square_marks w)) marks ≡ square_marks w → (from : ℕ) → from ≡ length (marks_below q)
        → from + (suc (length w) - 2 * q) ≤ length marks
    marks-within marks e from read = omega (arith, read, marks_fit, ap length e, length-take (length (square_marks w)) marks)

    -- how many marks there are with those of one half length more
    pub length-marks-more : length (marks_below (q + 1)) ≡ length (marks_below q) + (suc (length w) - 2 * q)
    length-marks-more = omega (arith, ap length marks-more, length-append (marks_below q) (start_marks w q), length-start_marks q)

  -- ---- how many candidates there are

  -- the half lengths up to k have k * (n - k) candidates
  length-marks : (k : ℕ) → 2 * k ≤ length w → length (each (up_from 1 k) (start_marks w)) ≡ k * (length w - k)
  length-marks zero h = sym (zero-mul (length w - 0))
  length-marks (suc k) h =
      let m : ℕ = length w - suc k in
      let e : length w - k ≡ suc m = omega arith in
      let p : suc k - 1 ≡ k = omega arith in
      let n : suc k + 1 - 1 ≡ suc k = omega arith in
      let before : length (each (up_from 1 k) (start_marks w)) ≡ k * suc m = rw e at (length-marks k (omega arith)) in
      let more : each (up_from 1 (suc k)) (start_marks w) ≡ each (up_from 1 k) (start_marks w) ++ start_marks w (suc k) =
      rw (n, p) at (marks-more (suc k) (omega arith) h) in
      omega (arith, ap length more, length-append (each (up_from 1 k) (start_marks w)) (start_marks w (suc k)), length-start_marks (suc k), before, mul-suc k m, suc-mul k m)

  -- so the marks of a half length stand behind these, by its number alone
  pub marks_place : (q : ℕ) → 1 ≤ q → 2 * q ≤ length w → (q - 1) * (length w + 1 - q) ≡ length (marks_below q)
  marks_place q positive fits =
      let e : length w - (q - 1) ≡ length w + 1 - q = omega arith in
      sym (rw e at (length-marks (q - 1) (omega arith)))

  -- no word has more candidates than the longest
  pub candidates_bound : length w ≤ longest → length (square_marks w) ≤ (longest / 2) * (longest / 2)
  unfolding longest
  candidates_bound h =
      let k : ℕ = length w / 2 in
      let p : suc k - 1 ≡ k = omega arith in
      let all : each (up_from 1 k) (start_marks w) ≡ square_marks w = rw p at (all-marks (suc k) (omega arith) (omega arith)) in
      let l : k ≤ longest / 2 = omega arith in
      let m : length w - k ≤ longest / 2 = omega arith in
      rw (← all, length-marks k (omega arith)) (mul-le-mul l m)
