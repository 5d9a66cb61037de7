-- Bytes that are written piece by piece: each piece stands behind those before it.
use mathlib.Core.Path.{◌≡◌, refl, sym, ap, ap₂, ◌∙◌}
use mathlib.Core.List.{List, [], ◌∷◌, ◌++◌, append-nil}
use Prim.Native.Nat.{ℕ, suc, ◌+◌, ◌-◌, ◌≤◌, ◌<◌}
use native.Mathlib.Numerals.{add-one}
use native.Mathlib.Omega.{arith}
use lib.ListN.{length, take, drop, get_or, set, length-append}
use lib.Seq.{take-length, take_all, take-suc, split_at}
use borrow.Rule.Slice.PartMut.{put_mid}
use Rattle.abelian.specs.Lists.{each}
use Rattle.abelian.specs.Output.{fill}
use Rattle.abelian.proofs.Lists.{each_append}
use Rattle.words.proofs.Lists.{length-fill, take-fill, fill_more, fill_lent}
use Rattle.cycles.specs.Text.{Written}

-- nothing is written yet
pub written_none : (before : List ℕ) → Written [] before before 0
unfolding fill
written_none before = record { number = refl; text = refl }

-- a copy of a slice that holds the bytes
pub written_copy : {bytes before after : List ℕ} {count : ℕ} (from : List ℕ) → from ≡ bytes → count ≡ length from
    → after ≡ take (length from) from ++ drop (length from) before → Written bytes before after count
unfolding fill
written_copy {bytes} {before} from e n copied = record {
  number = n ∙ ap length e;
  text = copied ∙ ap (λ (l : List ℕ). l ++ drop (length from) before) (take-length from) ∙ ap (λ (l : List ℕ). fill l before) e;
}

module _ {bytes before text : List ℕ} {at : ℕ} (w : Written bytes before text at) where
  -- the slice keeps its length
  pub written_length : length bytes ≤ length before → length text ≡ length before
  written_length h = ap length w.text ∙ length-fill bytes before h

  -- they are within it
  pub written_within : at ≤ length text
  unfolding fill
  written_within = omega (arith, w.number, ap length w.text, length-append bytes (drop (length bytes) before))

  -- the first places hold them
  pub written_front : take at text ≡ bytes
  written_front = ap₂ (λ (k : ℕ) (l : List ℕ). take k l) w.number w.text ∙ take-fill bytes before

  -- more bytes have places behind them
  pub written_room : (more : List ℕ) → length (bytes ++ more) ≤ length before → at + length more ≤ length text
  written_room more h = omega (arith, w.number, length-append bytes more, written_length (omega (arith, length-append bytes more)))

  -- one byte more
  pub written_byte : (v : ℕ) → length bytes < length before → Written (bytes ++ (v ∷ [])) before (set text at v) (at + 1)
  written_byte v h = record {
    number = omega (arith, w.number, length-append bytes (v ∷ []));
    text = rw (w.text, w.number) (fill_more bytes before v h);
  }

  -- a call that was lent the places behind the bytes has written more there
  pub written_more : (more part : List ℕ) (count : ℕ) → Written more (take (length text - at) (drop at text)) part count
      → Written (bytes ++ more) before (put_mid at (length text - at) text part) (at + count)
  written_more more part count m = record {
    number = omega (arith, w.number, m.number, length-append bytes more);
    text = fill_lent bytes more before text part at w.text w.number m.text;
  }

-- ---- what a loop writes, number by number

-- The pieces of the first i numbers of xs are written.
pub record Writing (f : ℕ → List ℕ) (xs before text : List ℕ) (at i : ℕ) : Type 0 where
  pub pieces : Written (each (take i xs) f) before text at
  pub size : length text ≡ length before

module _ (f : ℕ → List ℕ) (xs : List ℕ) where
  -- the pieces of one number more
  each_more : (i : ℕ) → i < length xs → each (take i xs) f ++ f (get_or xs i 0) ≡ each (take (i + 1) xs) f
  each_more i h =
      rw (add-one, take-suc xs i 0)
      (sym (each_append f (take i xs) (get_or xs i 0 ∷ []) ∙ ap (λ (l : List ℕ). each (take i xs) f ++ l) (append-nil (f (get_or xs i 0)))))

  -- they are no longer than all pieces
  each_fits : (i : ℕ) → i < length xs → length (each (take i xs) f) + length (f (get_or xs i 0)) ≤ length (each xs f)
  each_fits i h =
      let later : List ℕ = each (drop (suc i) xs) f in
      let parts : each xs f ≡ each (take i xs) f ++ (f (get_or xs i 0) ++ later) =
      ap (λ (l : List ℕ). each l f) (split_at xs i 0 h) ∙ each_append f (take i xs) (get_or xs i 0 ∷ drop (suc i) xs) in
      omega (arith, ap length parts, length-append (each (take i xs) f) (f (get_or xs i 0) ++ later), length-append (f (get_or xs i 0)) later)

  -- the loop begins
  pub writing-none : (before : List ℕ) → Writing f xs before before 0 0
  writing-none before = record { pieces = written_none before; size = refl }

  module _ {before text : List ℕ} {at i : ℕ} (w : Writing f xs before text at i) where
    module _ (h : i < length xs) (fits : length (each xs f) ≤ length before) where
      -- the next piece has places behind the others
      pub writing-room : at + length (f (get_or xs i 0)) ≤ length text
      writing-room = omega (arith, w.pieces.number, w.size, each_fits i h)

      -- it has been written there
      pub writing_more : (part : List ℕ) (count : ℕ) → Written (f (get_or xs i 0)) (take (length text - at) (drop at text)) part count
          → Writing f xs before (put_mid at (length text - at) text part) (at + count) (i + 1)
      writing_more part count piece =
          let more = written_more w.pieces (f (get_or xs i 0)) part count piece in record {
            pieces = rw (each_more i h) at more;
            size = written_length more (omega (arith, each_fits i h, length-append (each (take i xs) f) (f (get_or xs i 0))));
          }

    -- the loop ends
    pub writing-all : length xs ≤ i → Written (each xs f) before text at
    writing-all h = rw (take_all i xs h) at w.pieces
