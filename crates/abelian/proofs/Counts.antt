-- Laws of counts and count vectors.
use mathlib.Core.Path.{◌≡◌, refl, sym, ap, subst, ◌∙◌}
use mathlib.Core.Logic.{◌⊎◌, inl, inr, ⊎_elim, ◌≢◌}
use mathlib.Core.Bool.{Bool, true, false}
use mathlib.Core.List.Memᴰ
use mathlib.Core.List.{List, [], ◌∷◌, ◌++◌, map, Memᴰ}
use Prim.Native.Nat.{ℕ, zero, suc, ◌+◌, ◌-◌, ◌≤◌, ◌<◌}
use native.Mathlib.Omega.{arith}
use lib.ListN.{length, take, drop, get_or, take-append-drop}
use lib.Seq.{take-add, take-suc}
use lib.Dec.{T, eqb, leb, ltb, leb→le, le→leb, ltb→lt, lt→ltb, eqb→eq}
use borrow.Author.Tests.{eqb-true, eqb-false, ne_eqb}
use Rattle.abelian.specs.Lists.{pick, one, up_from, sum}
use Rattle.abelian.specs.Words.{alphabet_size, first_letter, letters, is_letter, outside_from, first_outside, of_letters, count, vector, none_above, contained, part}
use Rattle.abelian.proofs.Tests.{is_true, both, left, right, decided}
use Rattle.abelian.proofs.Lists.{up_from-mem}

-- ---- counts of parts

pub count-append : (c : ℕ) (u v : List ℕ) → count c (u ++ v) ≡ count c u + count c v
unfolding count
count-append c [] v = omega arith
count-append c (x ∷ u) v = let h : count c (u ++ v) ≡ count c u + count c v = count-append c u v in omega arith

-- the first k letters and those behind them have the word's letters between them
pub count-take-drop : (c k : ℕ) (w : List ℕ) → count c (take k w) + count c (drop k w) ≡ count c w
count-take-drop c k w = sym (count-append c (take k w) (drop k w)) ∙ ap (count c) (take-append-drop k w)

-- a part's count is a difference of the counts of two prefixes
pub count-part : (c from size : ℕ) (w : List ℕ) → count c (take (from + size) w) ≡ count c (take from w) + count c (part w from size)
count-part c from size w = ap (count c) (take-add from size w) ∙ count-append c (take from w) (part w from size)

-- counts of prefixes rise
pub count-take_rises : (c : ℕ) {i j : ℕ} (w : List ℕ) → i ≤ j → count c (take i w) ≤ count c (take j w)
count-take_rises c {i} {j} w h =
    let e : i + (j - i) ≡ j = omega arith in
    let s : count c (take (i + (j - i)) w) ≡ count c (take i w) + count c (part w i (j - i)) = count-part c i (j - i) w in
    let s' : count c (take j w) ≡ count c (take i w) + count c (part w i (j - i)) = rw e at s in
    omega arith

-- one letter more
pub count-take-more : (c i : ℕ) (w : List ℕ) → i < length w → count c (take (suc i) w) ≡ count c (take i w) + one (eqb (get_or w i 0) c)
unfolding count
count-take-more c i w l =
    ap (count c) (take-suc w i 0 l) ∙ count-append c (take i w) (get_or w i 0 ∷ []) ∙ omega arith

-- a count is at most the length
pub count-le-length : (c : ℕ) (w : List ℕ) → count c w ≤ length w
unfolding count
count-le-length c [] = omega arith
count-le-length c (x ∷ w) =
    let h : count c w ≤ length w = count-le-length c w in
    let l : one (eqb x c) ≤ 1 = one-le (eqb x c) in
    omega arith
  where
    one-le : (b : Bool) → one b ≤ 1
    one-le true = omega arith
    one-le false = omega arith

-- ---- vectors

-- equal vectors have equal counts of every letter
module _ (u v : List ℕ) where
  map_counts : (cs : List ℕ) → map (λ (c : ℕ). count c u) cs ≡ map (λ (c : ℕ). count c v) cs → (c : ℕ) → Memᴰ c cs → count c u ≡ count c v
  map_counts [] e c m = absurd (Memᴰ.not-nil m)
  map_counts (d ∷ cs) e c m =
      let h : count d u ≡ count d v = cc in
      let t : map (λ (a : ℕ). count a u) cs ≡ map (λ (a : ℕ). count a v) cs = cc in
      ⊎_elim (λ (q : c ≡ d). ap (λ (a : ℕ). count a u) q ∙ h ∙ ap (λ (a : ℕ). count a v) (sym q)) (map_counts cs t c) (Memᴰ.cases_cons m)

  counts_map : (cs : List ℕ) → ((c : ℕ) → Memᴰ c cs → count c u ≡ count c v) → map (λ (c : ℕ). count c u) cs ≡ map (λ (c : ℕ). count c v) cs
  counts_map [] h = refl
  counts_map (d ∷ cs) h =
      let e : count d u ≡ count d v = h d (Memᴰ.head refl) in
      let t : map (λ (a : ℕ). count a u) cs ≡ map (λ (a : ℕ). count a v) cs = counts_map cs (λ c m. h c (Memᴰ.tail m)) in
      cc

  pub vector_counts : vector u ≡ vector v → (c : ℕ) → Memᴰ c letters → count c u ≡ count c v
  unfolding vector
  vector_counts e = map_counts letters e

  pub counts_vector : ((c : ℕ) → Memᴰ c letters → count c u ≡ count c v) → vector u ≡ vector v
  unfolding vector
  counts_vector h = counts_map letters h

  map-none_above : (cs : List ℕ) → T (none_above (map (λ (c : ℕ). count c u) cs) (map (λ (c : ℕ). count c v) cs)) → (c : ℕ) → Memᴰ c cs → count c u ≤ count c v
  unfolding none_above
  map-none_above [] t c m = absurd (Memᴰ.not-nil m)
  map-none_above (d ∷ cs) t c m =
      let rest : Bool = none_above (map (λ (a : ℕ). count a u) cs) (map (λ (a : ℕ). count a v) cs) in
      ⊎_elim (λ (q : c ≡ d). subst (λ (a : ℕ). count a u ≤ count a v) (sym q) (leb→le (count d u) (count d v) (left (leb (count d u) (count d v)) rest t)))
      (map-none_above cs (right (leb (count d u) (count d v)) rest t) c) (Memᴰ.cases_cons m)

  none_above-map : (cs : List ℕ) → ((c : ℕ) → Memᴰ c cs → count c u ≤ count c v) → T (none_above (map (λ (c : ℕ). count c u) cs) (map (λ (c : ℕ). count c v) cs))
  unfolding none_above
  none_above-map [] h = tt
  none_above-map (d ∷ cs) h =
      both (leb (count d u) (count d v)) (none_above (map (λ (a : ℕ). count a u) cs) (map (λ (a : ℕ). count a v) cs))
      (le→leb (count d u) (count d v) (h d (Memᴰ.head refl))) (none_above-map cs (λ c m. h c (Memᴰ.tail m)))

  -- no count above is no letter's count above
  pub none_above_counts : T (none_above (vector u) (vector v)) → (c : ℕ) → Memᴰ c letters → count c u ≤ count c v
  unfolding vector
  none_above_counts t = map-none_above letters t

  pub counts_none_above : ((c : ℕ) → Memᴰ c letters → count c u ≤ count c v) → T (none_above (vector u) (vector v))
  unfolding vector
  counts_none_above h = none_above-map letters h

-- ---- words of letters

-- b is a letter: it is at least the first and below the last
pub letter_bounds : (size b : ℕ) → T (is_letter size b) → (first_letter ≤ b) × (b < first_letter + size)
unfolding is_letter
letter_bounds size b t = (
  leb→le first_letter b (left (leb first_letter b) (ltb b (first_letter + size)) t),
  ltb→lt b (first_letter + size) (right (leb first_letter b) (ltb b (first_letter + size)) t),
)

pub bounds_letter : (size b : ℕ) → first_letter ≤ b → b < first_letter + size → T (is_letter size b)
unfolding is_letter
bounds_letter size b h l = both (leb first_letter b) (ltb b (first_letter + size)) (le→leb first_letter b h) (lt→ltb b (first_letter + size) l)

-- a letter is among the letters
pub is_letter-mem : (b : ℕ) → T (is_letter alphabet_size b) → Memᴰ b letters
unfolding letters
is_letter-mem b t = let h : (first_letter ≤ b) × (b < first_letter + alphabet_size) = letter_bounds alphabet_size b t in up_from-mem first_letter alphabet_size b h.0 h.1

-- of the numbers from a on none is x where x is below a, and one is where x is among them
sum-none : (x a n : ℕ) → x < a → sum (map (λ (c : ℕ). one (eqb x c)) (up_from a n)) ≡ 0
sum-none x a zero h = refl
sum-none x a (suc n) h =
    let e : eqb x a ≡ false = ne_eqb x a (omega arith) in
    let z : one (eqb x a) ≡ 0 = ap one e in
    let t : sum (map (λ (c : ℕ). one (eqb x c)) (up_from (suc a) n)) ≡ 0 = sum-none x (suc a) n (omega arith) in
    omega arith

sum_ones : (x a n : ℕ) → a ≤ x → x < a + n → sum (map (λ (c : ℕ). one (eqb x c)) (up_from a n)) ≡ 1
sum_ones x a zero h l = absurd (omega arith)
sum_ones x a (suc n) h l =
    ⊎_elim
    (λ (e : eqb x a ≡ true).
    let q : x ≡ a = eqb-true x a e in
    let z : one (eqb x a) ≡ 1 = ap one e in
    let t : sum (map (λ (c : ℕ). one (eqb x c)) (up_from (suc a) n)) ≡ 0 = sum-none x (suc a) n (omega arith) in
    omega arith)
    (λ (e : eqb x a ≡ false).
    let q : x ≢ a = eqb-false x a e in
    let z : one (eqb x a) ≡ 0 = ap one e in
    let t : sum (map (λ (c : ℕ). one (eqb x c)) (up_from (suc a) n)) ≡ 1 = sum_ones x (suc a) n (omega arith) (omega arith) in
    omega arith)
    (decided (eqb x a))

-- a letter is one of the letters, and once
sum_letter : (x : ℕ) → T (is_letter alphabet_size x) → sum (map (λ (c : ℕ). one (eqb x c)) letters) ≡ 1
unfolding letters
sum_letter x t =
    let b : (first_letter ≤ x) × (x < first_letter + alphabet_size) = letter_bounds alphabet_size x t in
    sum_ones x first_letter alphabet_size b.0 b.1

sum_counts_cons : (x : ℕ) (w cs : List ℕ) → sum (map (λ (c : ℕ). count c (x ∷ w)) cs) ≡ sum (map (λ (c : ℕ). one (eqb x c)) cs) + sum (map (λ (c : ℕ). count c w) cs)
unfolding count
sum_counts_cons x w [] = refl
sum_counts_cons x w (d ∷ cs) =
    let h : sum (map (λ (c : ℕ). count c (x ∷ w)) cs) ≡ sum (map (λ (c : ℕ). one (eqb x c)) cs) + sum (map (λ (c : ℕ). count c w) cs) = sum_counts_cons x w cs in
    omega arith

sum_counts_nil : (cs : List ℕ) → sum (map (λ (c : ℕ). count c []) cs) ≡ 0
unfolding count
sum_counts_nil [] = refl
sum_counts_nil (d ∷ cs) = let h : sum (map (λ (c : ℕ). count c []) cs) ≡ 0 = sum_counts_nil cs in omega arith

-- a position that holds no letter is found at or behind the first
outside_from_above : (size at : ℕ) (w : List ℕ) → (outside_from size at w ≡ 0) ⊎ (at ≤ outside_from size at w)
unfolding outside_from
outside_from_above size at [] = inl refl
outside_from_above size at (x ∷ w) = go (is_letter size x) (outside_from_above size (suc at) w)
  where
    go : (b : Bool) → (outside_from size (suc at) w ≡ 0) ⊎ (suc at ≤ outside_from size (suc at) w) → (pick b (outside_from size (suc at) w) at ≡ 0) ⊎ (at ≤ pick b (outside_from size (suc at) w) at)
    go true (inl e) = inl e
    go true (inr h) = inr (omega arith)
    go false r = inr (omega arith)

-- every letter is inside: a word of letters, one letter after the other
Inside : ℕ → List ℕ → Type 0
Inside size w = (x : ℕ) → Memᴰ x w → T (is_letter size x)

outside_from_inside : (size at : ℕ) (w : List ℕ) → 1 ≤ at → outside_from size at w ≡ 0 → Inside size w
unfolding outside_from Inside
outside_from_inside size at [] p e x m = absurd (Memᴰ.not-nil m)
outside_from_inside size at (y ∷ w) p e x m =
    let b : T (is_letter size y) = first (is_letter size y) e in
    let t : outside_from size (suc at) w ≡ 0 = rest (is_letter size y) e in
    ⊎_elim (λ (q : x ≡ y). subst (λ (z : ℕ). T (is_letter size z)) (sym q) b)
    (outside_from_inside size (suc at) w (omega arith) t x) (Memᴰ.cases_cons m)
  where
    first : (b : Bool) → pick b (outside_from size (suc at) w) at ≡ 0 → T b
    first true e' = tt
    first false e' = absurd (omega arith)

    rest : (b : Bool) → pick b (outside_from size (suc at) w) at ≡ 0 → outside_from size (suc at) w ≡ 0
    rest true e' = e'
    rest false e' = absurd (omega arith)

inside_outside_from : (size at : ℕ) (w : List ℕ) → Inside size w → outside_from size at w ≡ 0
unfolding outside_from Inside
inside_outside_from size at [] h = refl
inside_outside_from size at (x ∷ w) h =
    let e : is_letter size x ≡ true = is_true (is_letter size x) (h x (Memᴰ.head refl)) in
    rw e (inside_outside_from size (suc at) w (λ y m. h y (Memᴰ.tail m)))

-- a word of letters is one of which every element is a letter
pub letters_inside : (w : List ℕ) → T (of_letters w) → (x : ℕ) → Memᴰ x w → T (is_letter alphabet_size x)
unfolding of_letters first_outside Inside
letters_inside w t = outside_from_inside alphabet_size 1 w (omega arith) (eqb→eq (outside_from alphabet_size 1 w) 0 t)

pub inside_letters : (w : List ℕ) → ((x : ℕ) → Memᴰ x w → T (is_letter alphabet_size x)) → T (of_letters w)
unfolding of_letters first_outside Inside
inside_letters w h = subst (λ (k : ℕ). T (eqb k 0)) (sym (inside_outside_from alphabet_size 1 w h)) tt

-- the parts of a word of letters are words of letters
pub letters_left : (u v : List ℕ) → T (of_letters (u ++ v)) → T (of_letters u)
letters_left u v t = inside_letters u (λ x m. letters_inside (u ++ v) t x (Memᴰ.append_left v m))

pub letters_right : (u v : List ℕ) → T (of_letters (u ++ v)) → T (of_letters v)
letters_right u v t = inside_letters v (λ x m. letters_inside (u ++ v) t x (Memᴰ.append_right u m))

-- a letter behind a word of letters makes a word of letters
pub letters_last : (w : List ℕ) (b : ℕ) → T (of_letters w) → T (is_letter alphabet_size b) → T (of_letters (w ++ (b ∷ [])))
letters_last w b t l =
    inside_letters (w ++ (b ∷ []))
    (λ x m. ⊎_elim (letters_inside w t x) (λ n. subst (λ (c : ℕ). T (is_letter alphabet_size c)) (sym (Memᴰ.eq_of_singleton n)) l) (Memᴰ.append_cases w m))

pub letters-take : (k : ℕ) (w : List ℕ) → T (of_letters w) → T (of_letters (take k w))
letters-take k w t = letters_left (take k w) (drop k w) (subst (λ (l : List ℕ). T (of_letters l)) (sym (take-append-drop k w)) t)

pub letters-drop : (k : ℕ) (w : List ℕ) → T (of_letters w) → T (of_letters (drop k w))
letters-drop k w t = letters_right (take k w) (drop k w) (subst (λ (l : List ℕ). T (of_letters l)) (sym (take-append-drop k w)) t)

pub letters-part : (w : List ℕ) (from size : ℕ) → T (of_letters w) → T (of_letters (part w from size))
letters-part w from size t = letters-take size (drop from w) (letters-drop from w t)

-- the sum of a vector is the length
pub sum-vector : (w : List ℕ) → T (of_letters w) → sum (vector w) ≡ length w
unfolding vector
sum-vector [] t = sum_counts_nil letters
sum-vector (x ∷ w) t =
    let t' : T (of_letters w) = inside_letters w (λ y m. letters_inside (x ∷ w) t y (Memᴰ.tail m)) in
    let e : sum (map (λ (c : ℕ). count c w) letters) ≡ length w = sum-vector w t' in
    let o : sum (map (λ (c : ℕ). one (eqb x c)) letters) ≡ 1 = sum_letter x (letters_inside (x ∷ w) t x (Memᴰ.head refl)) in
    let s : sum (map (λ (c : ℕ). count c (x ∷ w)) letters) ≡ sum (map (λ (c : ℕ). one (eqb x c)) letters) + sum (map (λ (c : ℕ). count c w) letters) = sum_counts_cons x w letters in
    omega arith

-- equal vectors are those of equally long words
pub vector-length : (u v : List ℕ) → T (of_letters u) → T (of_letters v) → vector u ≡ vector v → length u ≡ length v
vector-length u v tu tv e = sym (sum-vector u tu) ∙ ap sum e ∙ sum-vector v tv

-- ---- contained

-- a word of letters is contained in another: no letter's count is above, and it is shorter
module _ (u v : List ℕ) (tu : T (of_letters u)) (tv : T (of_letters v)) where
  pub contained_shorter : T (contained (vector u) (vector v)) → length u < length v
  unfolding contained
  contained_shorter t =
      let h : sum (vector u) < sum (vector v) = ltb→lt (sum (vector u)) (sum (vector v)) (right (none_above (vector u) (vector v)) (ltb (sum (vector u)) (sum (vector v))) t) in
      omega (arith, sum-vector u tu, sum-vector v tv)

  pub shorter_contained : T (none_above (vector u) (vector v)) → length u < length v → T (contained (vector u) (vector v))
  unfolding contained
  shorter_contained t h =
      both (none_above (vector u) (vector v)) (ltb (sum (vector u)) (sum (vector v))) t
      (lt→ltb (sum (vector u)) (sum (vector v)) (omega (arith, sum-vector u tu, sum-vector v tv)))

pub contained-none_above : (u v : List ℕ) → T (contained u v) → T (none_above u v)
unfolding contained
contained-none_above u v t = left (none_above u v) (ltb (sum u) (sum v)) t
