-- Laws of the functions on lists that the definitions are made of.
use mathlib.Core.Path.{◌≡◌, refl, sym, ap, subst, ◌∙◌}
use mathlib.Core.Logic.{◌⊎◌, inl, inr, ⊎_elim, ◌≢◌}
use mathlib.Core.Bool.{Bool, true, false, not, ◌&&◌}
use mathlib.Core.List.Memᴰ
use mathlib.Core.List.{List, [], ◌∷◌, ◌++◌, map, append_assoc, append-nil, Memᴰ}
use Prim.Native.Nat.{ℕ, zero, suc, ◌+◌, ◌*◌, ◌≤◌, ◌<◌}
use native.Mathlib.Nat.{mul-suc}
use native.Mathlib.Omega.{arith}
use lib.ListN.{length, length-append}
use lib.Dec.{T, eqb, ltb, eqb→eq, eqb_refl}
use borrow.Author.Tests.{eqb-true, eqb-false, ltb-true, ltb-false, ne_eqb}
use Rattle.abelian.specs.Lists.{nonzero, pick, one, up_from, largest, same, put, keep, all, each, first_passing, Ordered}
use Rattle.std.specs.Prelude.{Some, None}
use Rattle.abelian.proofs.Tests.{is_false, picked, both, left, right, decided, passes, fails}

-- ---- equal lists of numbers

pub same_equal : (u v : List ℕ) → T (same u v) → u ≡ v
same_equal [] [] t = refl
same_equal [] (y ∷ v) t = absurd t
same_equal (x ∷ u) [] t = absurd t
same_equal (x ∷ u) (y ∷ v) t =
    let e : x ≡ y = eqb→eq x y (left (eqb x y) (same u v) t) in
    let es : u ≡ v = same_equal u v (right (eqb x y) (same u v) t) in
    cc

pub same_refl : (u : List ℕ) → T (same u u)
same_refl [] = tt
same_refl (x ∷ u) = both (eqb x x) (same u u) (eqb_refl x) (same_refl u)

pub equal_same : (u v : List ℕ) → u ≡ v → T (same u v)
equal_same u v e = subst (λ (l : List ℕ). T (same u l)) e (same_refl u)

-- ---- membership

module _ {A : Type 0} where
  -- what stands in `put b x xs` is x, where the test passes, or stands in xs
  mem-put : (b : Bool) (x : A) (xs : List A) {a : A} → Memᴰ a (put b x xs) → ((a ≡ x) × T b) ⊎ Memᴰ a xs
  mem-put true x xs m = ⊎_elim (λ q. inl (q, tt)) inr (Memᴰ.cases_cons m)
  mem-put false x xs m = inr m

  put-mem : (b : Bool) (x : A) (xs : List A) {a : A} → Memᴰ a xs → Memᴰ a (put b x xs)
  put-mem true x xs m = Memᴰ.tail m
  put-mem false x xs m = m

  put_head : (b : Bool) (x : A) (xs : List A) {a : A} → a ≡ x → T b → Memᴰ a (put b x xs)
  put_head true x xs q t = Memᴰ.head q
  put_head false x xs q t = absurd t

module _ {A : Type 0} (f : A → Bool) where
  -- what a list keeps is in the list and passes the test
  pub mem-keep : (xs : List A) {a : A} → Memᴰ a (keep f xs) → Memᴰ a xs × T (f a)
  mem-keep [] m = absurd (Memᴰ.not-nil m)
  mem-keep (x ∷ xs) {a} m =
      ⊎_elim (λ (q : (a ≡ x) × T (f x)). (Memᴰ.head q.0, subst (λ (y : A). T (f y)) (sym q.0) q.1))
      (λ m'. (Memᴰ.tail (mem-keep xs m').0, (mem-keep xs m').1)) (mem-put (f x) x (keep f xs) m)

  -- what is in the list and passes the test is kept
  pub keep-mem : (xs : List A) {a : A} → Memᴰ a xs → T (f a) → Memᴰ a (keep f xs)
  keep-mem [] m t = absurd (Memᴰ.not-nil m)
  keep-mem (x ∷ xs) {a} m t =
      ⊎_elim (λ (q : a ≡ x). put_head (f x) x (keep f xs) q (subst (λ (y : A). T (f y)) q t))
      (λ m'. put-mem (f x) x (keep f xs) (keep-mem xs m' t)) (Memᴰ.cases_cons m)

  pub all-mem : (xs : List A) {a : A} → T (all f xs) → Memᴰ a xs → T (f a)
  all-mem [] t m = absurd (Memᴰ.not-nil m)
  all-mem (x ∷ xs) {a} t m =
      ⊎_elim (λ (q : a ≡ x). subst (λ (y : A). T (f y)) (sym q) (left (f x) (all f xs) t))
      (λ m'. all-mem xs (right (f x) (all f xs) t) m') (Memᴰ.cases_cons m)

  pub mem-all : (xs : List A) → ((a : A) → Memᴰ a xs → T (f a)) → T (all f xs)
  mem-all [] h = tt
  mem-all (x ∷ xs) h = both (f x) (all f xs) (h x (Memᴰ.head refl)) (mem-all xs (λ a m. h a (Memᴰ.tail m)))

-- the numbers of `up_from a n` are those from a up to, not including, a + n
pub mem-up_from : (a n : ℕ) {k : ℕ} → Memᴰ k (up_from a n) → (a ≤ k) × (k < a + n)
mem-up_from a zero m = absurd (Memᴰ.not-nil m)
mem-up_from a (suc n) {k} m =
    ⊎_elim (λ (q : k ≡ a). omega arith) (λ m'. let h : (suc a ≤ k) × (k < suc a + n) = mem-up_from (suc a) n m' in omega arith)
    (Memᴰ.cases_cons m)

pub up_from-mem : (a n k : ℕ) → a ≤ k → k < a + n → Memᴰ k (up_from a n)
up_from-mem a zero k h l = absurd (omega arith)
up_from-mem a (suc n) k h l =
    ⊎_elim (λ e. Memᴰ.head (eqb-true k a e))
    (λ e. Memᴰ.tail (up_from-mem (suc a) n k (let ne : k ≢ a = eqb-false k a e in omega arith) (omega arith))) (decided (eqb k a))

pub length-up_from : (a n : ℕ) → length (up_from a n) ≡ n
length-up_from a zero = refl
length-up_from a (suc n) = ap suc (length-up_from (suc a) n)

module _ {A B : Type 0} (f : A → List B) where
  -- what stands in `each xs f` stands in f of some element
  pub mem-each : (xs : List A) {b : B} → Memᴰ b (each xs f) → (a : A) × Memᴰ a xs × Memᴰ b (f a)
  mem-each [] m = absurd (Memᴰ.not-nil m)
  mem-each (x ∷ xs) {b} m =
      ⊎_elim (λ (h : Memᴰ b (f x)). (x, Memᴰ.head refl, h))
      (λ m'. let r : (a : A) × Memᴰ a xs × Memᴰ b (f a) = mem-each xs m' in (r.0, Memᴰ.tail r.1, r.2))
      (Memᴰ.append_cases (f x) m)

  pub each-mem : (xs : List A) {a : A} {b : B} → Memᴰ a xs → Memᴰ b (f a) → Memᴰ b (each xs f)
  each-mem [] m h = absurd (Memᴰ.not-nil m)
  each-mem (x ∷ xs) {a} {b} m h =
      ⊎_elim (λ (q : a ≡ x). Memᴰ.append_left (each xs f) (subst (λ (y : A). Memᴰ b (f y)) q h))
      (λ m'. Memᴰ.append_right (f x) (each-mem xs m' h)) (Memᴰ.cases_cons m)

-- one number more stands at the end
pub up_from_last : (a n : ℕ) → up_from a (suc n) ≡ up_from a n ++ ((a + n) ∷ [])
up_from_last a zero = let e : a + 0 ≡ a = omega arith in rw e
up_from_last a (suc n) = let e : a + suc n ≡ suc a + n = omega arith in rw e (ap (λ (l : List ℕ). a ∷ l) (up_from_last (suc a) n))

-- the numbers from a on in two parts
pub up_from-append : (a m n : ℕ) → up_from a (m + n) ≡ up_from a m ++ up_from (a + m) n
up_from-append a zero n =
    let e : a + 0 ≡ a = omega arith in
    let f : 0 + n ≡ n = omega arith in
    rw (e, f)
up_from-append a (suc m) n =
    let e : suc m + n ≡ suc (m + n) = omega arith in
    let f : a + suc m ≡ suc a + m = omega arith in
    rw (e, f) (ap (λ (l : List ℕ). a ∷ l) (up_from-append (suc a) m n))

-- ---- one behind the other

pub keep_append : {A : Type 0} (f : A → Bool) (xs ys : List A) → keep f (xs ++ ys) ≡ keep f xs ++ keep f ys
keep_append f [] ys = refl
keep_append f (x ∷ xs) ys = go (f x) (keep_append f xs ys)
  where
    go : (b : Bool) → keep f (xs ++ ys) ≡ keep f xs ++ keep f ys → put b x (keep f (xs ++ ys)) ≡ put b x (keep f xs) ++ keep f ys
    go true e = ap (λ l. x ∷ l) e
    go false e = e

-- one number more is kept behind the others where it passes
pub keep-more : (f : ℕ → Bool) (a n : ℕ) → keep f (up_from a (suc n)) ≡ keep f (up_from a n) ++ put (f (a + n)) (a + n) []
keep-more f a n = ap (keep f) (up_from_last a n) ∙ keep_append f (up_from a n) ((a + n) ∷ [])

-- so one number more is one more kept, where it passes
pub length-keep-more : (f : ℕ → Bool) (a n : ℕ) → length (keep f (up_from a (suc n))) ≡ length (keep f (up_from a n)) + one (f (a + n))
length-keep-more f a n = ap length (keep-more f a n) ∙ length-append (keep f (up_from a n)) (put (f (a + n)) (a + n) []) ∙ ap (λ (k : ℕ). length (keep f (up_from a n)) + k) (go (f (a + n)))
  where
    go : (b : Bool) → length (put b (a + n) []) ≡ one b
    go true = refl
    go false = refl

-- no more are kept than there are
pub keep_shorter : {A : Type 0} (f : A → Bool) (xs : List A) → length (keep f xs) ≤ length xs
keep_shorter f [] = omega arith
keep_shorter f (x ∷ xs) = go (f x) (keep_shorter f xs)
  where
    go : (b : Bool) → length (keep f xs) ≤ length xs → length (put b x (keep f xs)) ≤ suc (length xs)
    go true h = omega arith
    go false h = omega arith

-- what passes a test and what fails it are together as many as there are
pub keep_or_not : {A : Type 0} (f : A → Bool) (xs : List A) → length (keep f xs) + length (keep (λ (x : A). not (f x)) xs) ≡ length xs
keep_or_not f [] = refl
keep_or_not {A} f (x ∷ xs) = go (f x) (keep_or_not f xs)
  where
    others : List A
    others = keep (λ (y : A). not (f y)) xs

    go : (b : Bool) → length (keep f xs) + length others ≡ length xs → length (put b x (keep f xs)) + length (put (not b) x others) ≡ suc (length xs)
    go true h = omega arith
    go false h = omega arith

-- where as many are kept as there are, all pass
pub keep_whole : {A : Type 0} (f : A → Bool) (xs : List A) → length (keep f xs) ≡ length xs → T (all f xs)
keep_whole f [] e = tt
keep_whole f (x ∷ xs) e = go (f x) (keep_whole f xs) e
  where
    go : (b : Bool) → (length (keep f xs) ≡ length xs → T (all f xs)) → length (put b x (keep f xs)) ≡ suc (length xs) → T (b && all f xs)
    go true h q = h (omega arith)
    go false h q = absurd (omega (arith, keep_shorter f xs))

-- kept by one test and then by another
pub keep-keep : {A : Type 0} (f g : A → Bool) (xs : List A) → keep f (keep g xs) ≡ keep (λ (x : A). f x && g x) xs
keep-keep f g [] = refl
keep-keep {A} f g (x ∷ xs) = go (f x) refl (g x) (keep-keep f g xs)
  where
    go : (a : Bool) → f x ≡ a → (b : Bool) → keep f (keep g xs) ≡ keep (λ (y : A). f y && g y) xs
        → keep f (put b x (keep g xs)) ≡ put (a && b) x (keep (λ (y : A). f y && g y) xs)
    go true e true h = rw e (ap (λ (l : List A). x ∷ l) h)
    go false e true h = rw e h
    go true e false h = h
    go false e false h = h

-- tests that agree on a list keep the same
pub keep_agree : {A : Type 0} (f g : A → Bool) (xs : List A) → ((a : A) → Memᴰ a xs → f a ≡ g a) → keep f xs ≡ keep g xs
keep_agree f g [] h = refl
keep_agree f g (x ∷ xs) h =
    let e : f x ≡ g x = h x (Memᴰ.head refl) in
    let t : keep f xs ≡ keep g xs = keep_agree f g xs (λ a m. h a (Memᴰ.tail m)) in
    rw (e, t)

pub each_append : {A B : Type 0} (f : A → List B) (xs ys : List A) → each (xs ++ ys) f ≡ each xs f ++ each ys f
each_append f [] ys = refl
each_append f (x ∷ xs) ys = ap (λ l. f x ++ l) (each_append f xs ys) ∙ sym (append_assoc (f x) (each xs f) (each ys f))

-- the lists of the elements of lists
pub each-each : {A B C : Type 0} (f : A → List B) (g : B → List C) (xs : List A) → each (each xs f) g ≡ each xs (λ (x : A). each (f x) g)
each-each f g [] = refl
each-each f g (x ∷ xs) = each_append g (f x) (each xs f) ∙ ap (λ l. each (f x) g ++ l) (each-each f g xs)

-- lists of k elements each
pub length-each : {A B : Type 0} (f : A → List B) (k : ℕ) → ((a : A) → length (f a) ≡ k) → (xs : List A) → length (each xs f) ≡ k * length xs
length-each f k h [] = omega arith
length-each f k h (x ∷ xs) = omega (arith, length-append (f x) (each xs f), h x, length-each f k h xs, mul-suc k (length xs))

-- of the numbers from a on, one more: its list stands at the end
pub each_last : {B : Type 0} (f : ℕ → List B) (a n : ℕ) → each (up_from a (suc n)) f ≡ each (up_from a n) f ++ f (a + n)
each_last f a n = ap (λ l. each l f) (up_from_last a n) ∙ each_append f (up_from a n) ((a + n) ∷ []) ∙ ap (λ l. each (up_from a n) f ++ l) (append-nil (f (a + n)))

-- ---- the first number that passes

module _ (f : ℕ → Bool) where
  -- the first number found is one of the list and passes
  pub first_passing-found : (xs : List ℕ) → first_passing f xs ≢ 0 → Memᴰ (first_passing f xs) xs × T (f (first_passing f xs))
  first_passing-found [] h = absurd (h refl)
  first_passing-found (x ∷ xs) h = go (f x) (passes (f x)) (first_passing-found xs) h
    where
      Found : ℕ → List ℕ → Type 0
      Found m ys = Memᴰ m ys × T (f m)

      go : (b : Bool) → (b ≡ true → T (f x)) → (first_passing f xs ≢ 0 → Found (first_passing f xs) xs) → pick b x (first_passing f xs) ≢ 0 → Found (pick b x (first_passing f xs)) (x ∷ xs)
      go true t rest h' = (Memᴰ.head refl, t refl)
      go false t rest h' = (Memᴰ.tail (rest h').0, (rest h').1)

  -- where nothing is found, and no number is 0, none passes
  pub first_passing-none : (xs : List ℕ) → ((k : ℕ) → Memᴰ k xs → 1 ≤ k) → first_passing f xs ≡ 0 → (k : ℕ) → Memᴰ k xs → T (f k) → ⊥
  first_passing-none [] h e k m t = Memᴰ.not-nil m
  first_passing-none (x ∷ xs) h e k m t =
      ⊎_elim (λ (y : f x ≡ true). let z : x ≡ 0 = rw y at e in let l : 1 ≤ x = h x (Memᴰ.head refl) in omega arith)
      (λ (n : f x ≡ false). let z : first_passing f xs ≡ 0 = rw n at e in
      ⊎_elim (λ (q : k ≡ x). fails (f x) n (subst (λ (j : ℕ). T (f j)) q t)) (λ m'. first_passing-none xs (λ j i. h j (Memᴰ.tail i)) z k m' t)
      (Memᴰ.cases_cons m))
      (decided (f x))

  -- where none passes, nothing is found
  pub none-first_passing : (xs : List ℕ) → ((k : ℕ) → Memᴰ k xs → T (f k) → ⊥) → first_passing f xs ≡ 0
  none-first_passing [] h = refl
  none-first_passing (x ∷ xs) h =
      let n : f x ≡ false = is_false (f x) (h x (Memᴰ.head refl)) in
      rw n (none-first_passing xs (λ k m. h k (Memᴰ.tail m)))

  -- the first of two lists has precedence
  pub first_passing-append : (xs ys : List ℕ) → ((k : ℕ) → Memᴰ k xs → 1 ≤ k) → first_passing f (xs ++ ys) ≡ pick (eqb (first_passing f xs) 0) (first_passing f ys) (first_passing f xs)
  first_passing-append [] ys h = refl
  first_passing-append (x ∷ xs) ys h =
      ⊎_elim
      (λ (y : f x ≡ true).
      let n : eqb x 0 ≡ false = ne_eqb x 0 (let l : 1 ≤ x = h x (Memᴰ.head refl) in omega arith) in
      rw (y, n))
      (λ (n : f x ≡ false). rw n (first_passing-append xs ys (λ k m. h k (Memᴰ.tail m))))
      (decided (f x))

module _ (f : ℕ → Bool) where
  -- of the numbers from a + 1 on, the first that passes is no larger than the last of them
  pub first_passing-within : (a n : ℕ) → first_passing f (up_from (suc a) n) ≤ a + n
  first_passing-within a zero = omega arith
  first_passing-within a (suc n) = picked (λ (k : ℕ). k ≤ a + suc n) (f (suc a)) (omega arith) (omega (arith, first_passing-within (suc a) n))

  -- of the numbers from a on, the first that passes is no larger than any other that does
  pub first_passing_least : (a n k : ℕ) → Memᴰ k (up_from a n) → T (f k) → first_passing f (up_from a n) ≤ k
  first_passing_least a zero k m t = absurd (Memᴰ.not-nil m)
  first_passing_least a (suc n) k m t =
      ⊎_elim (λ (y : f a ≡ true). let b : (a ≤ k) × (k < a + suc n) = mem-up_from a (suc n) m in rw y b.0)
      (λ (e : f a ≡ false).
      rw e
      (⊎_elim (λ (q : k ≡ a). absurd (fails (f a) e (subst (λ (j : ℕ). T (f j)) q t))) (λ i. first_passing_least (suc a) n k i t) (Memᴰ.cases_cons m)))
      (decided (f a))

-- tests that agree on a list find the same
pub first_passing_agree : (f g : ℕ → Bool) (xs : List ℕ) → ((k : ℕ) → Memᴰ k xs → f k ≡ g k) → first_passing f xs ≡ first_passing g xs
first_passing_agree f g [] h = refl
first_passing_agree f g (x ∷ xs) h =
    let e : f x ≡ g x = h x (Memᴰ.head refl) in
    let t : first_passing f xs ≡ first_passing g xs = first_passing_agree f g xs (λ k m. h k (Memᴰ.tail m)) in
    rw (e, t)

-- ---- the largest number

-- a number is below another or not
pub below_or_not : (k i : ℕ) → (k < i) ⊎ (i ≤ k)
below_or_not k i = ⊎_elim (λ e. inl (ltb-true k i e)) (λ e. inr (ltb-false k i e)) (decided (ltb k i))

-- each number of a list is at most the largest
pub le-largest : (xs : List ℕ) {x : ℕ} → Memᴰ x xs → x ≤ largest xs
le-largest [] m = absurd (Memᴰ.not-nil m)
le-largest (y ∷ xs) {x} m = ⊎_elim (λ (q : x ≡ y). omega arith) (λ i. omega (arith, le-largest xs i)) (Memᴰ.cases_cons m)

-- what no number exceeds the largest does not exceed
pub largest-le : (xs : List ℕ) (b : ℕ) → ((a : ℕ) → Memᴰ a xs → a ≤ b) → largest xs ≤ b
largest-le [] b h = omega arith
largest-le (x ∷ xs) b h = omega (arith, h x (Memᴰ.head refl), largest-le xs b (λ a m. h a (Memᴰ.tail m)))

-- the largest number is one of the list, or 0
pub largest-found : (xs : List ℕ) → (largest xs ≡ 0) ⊎ Memᴰ (largest xs) xs
largest-found [] = inl refl
largest-found (x ∷ xs) =
    ⊎_elim
    (λ (l : x < largest xs).
    let e : largest (x ∷ xs) ≡ largest xs = omega arith in
    ⊎_elim (λ z. inl (e ∙ z)) (λ m. inr (Memᴰ.tail (rw e m))) (largest-found xs))
    (λ (l : largest xs ≤ x). inr (Memᴰ.head (omega arith)))
    (below_or_not x (largest xs))

-- ---- order

module _ {A : Type 0} (R : A → A → Type 0) where
  -- ordered lists, one behind the other, are ordered where each element of the first stands in the relation to each of the second
  pub ordered_append : (xs ys : List A) → Ordered R xs → Ordered R ys → ((x y : A) → Memᴰ x xs → Memᴰ y ys → R x y) → Ordered R (xs ++ ys)
  ordered_append [] ys r s h = s
  ordered_append (x ∷ xs) ys r s h = (
    λ y m. ⊎_elim (r.0 y) (h x y (Memᴰ.head refl)) (Memᴰ.append_cases xs m),
    ordered_append xs ys r.1 s (λ a b m. h a b (Memᴰ.tail m)),
  )

  -- what an ordered list keeps is ordered
  pub ordered_keep : (f : A → Bool) (xs : List A) → Ordered R xs → Ordered R (keep f xs)
  ordered_keep f [] r = tt
  ordered_keep f (x ∷ xs) r = go (f x) (ordered_keep f xs r.1)
    where
      go : (b : Bool) → Ordered R (keep f xs) → Ordered R (put b x (keep f xs))
      go true s = (λ y m. r.0 y (mem-keep f xs m).0, s)
      go false s = s

-- the numbers from a on rise
pub ordered_up_from : (a n : ℕ) → Ordered ◌<◌ (up_from a n)
ordered_up_from a zero = tt
ordered_up_from a (suc n) = (λ y m. (mem-up_from (suc a) n m).0, ordered_up_from (suc a) n)

module _ {A B : Type 0} (R : A → A → Type 0) (S : B → B → Type 0) where
  -- what f gives for an ordered list's elements is ordered where f takes the one relation to the other
  pub ordered_map : (f : A → B) → ((x y : A) → R x y → S (f x) (f y)) → (xs : List A) → Ordered R xs → Ordered S (map f xs)
  ordered_map f h [] r = tt
  ordered_map f h (x ∷ xs) r = (
    λ z m.
        let k : (y : A) × Memᴰ y xs × (f y ≡ z) = Memᴰ.of_map f xs m in
        subst (S (f x)) k.2 (h x k.0 (r.0 k.0 k.1)),
    ordered_map f h xs r.1,
  )

  -- and so are the lists that f gives, one behind the other
  pub ordered_each : (f : A → List B) → ((a : A) → Ordered S (f a)) → ((a b : A) → R a b → (x y : B) → Memᴰ x (f a) → Memᴰ y (f b) → S x y)
      → (xs : List A) → Ordered R xs → Ordered S (each xs f)
  ordered_each f o h [] r = tt
  ordered_each f o h (a ∷ xs) r =
      ordered_append S (f a) (each xs f) (o a) (ordered_each f o h xs r.1)
      (λ x y m n.
      let k : (b : A) × Memᴰ b xs × Memᴰ y (f b) = mem-each f xs n in
      h a k.0 (r.0 k.0 k.1) x y m k.2)

-- ---- a number that says by 0 that there is none

-- there is none: it is 0
pub nonzero_none : (k : ℕ) → nonzero k ≡ None → k ≡ 0
nonzero_none zero e = refl
nonzero_none (suc k) e = let z : ◌≡◌ {A = ℕ} 0 1 = cc in absurd (omega arith)

-- there is one: it is the number, and above 0
pub nonzero_some : (k p : ℕ) → nonzero k ≡ Some p → (k ≡ p) × (1 ≤ p)
nonzero_some zero p e = let z : ◌≡◌ {A = ℕ} 0 1 = cc in absurd (omega arith)
nonzero_some (suc k) p e = let q : suc k ≡ p = cc in (q, omega (arith, q))
