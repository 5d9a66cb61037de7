-- Bytes that are read piece by piece: each piece stands behind those before it, and all together are what the reader gave.
use Rattle.std.proofs.Common.{◌≡◌, ℕ, ◌+◌, ◌-◌, ◌≤◌, List, ◌++◌, length, take, sym, ap, ◌∙◌, subst, length-take-le}
use Rattle.std.specs.Io.KnownBytes.{Consumes}
use Rattle.std.proofs.KnownBytes.{Consumes-trans}
use Rattle.std.specs.declared.option.Option.{Option}
use borrow.Rule.Slice.PartMut.{put_mid, post_of}
use Rattle.std.proofs.lemmas.List.{take-append-le}
use Rattle.std.proofs.Math.Seq.{take-append-add}

-- a read into the places behind the first `at` bytes has brought n more
pub read_more : (a b c : Option (List ℕ)) (at n : ℕ) (input part : List ℕ) → at ≤ length input → n ≤ length part → Consumes a b (take at input)
    → Consumes b c (take n part) → Consumes a c (take (at + n) (put_mid at (length input - at) input part))
read_more a b c at n input part within fits before read =
    let behind : List ℕ = post_of at (length input - at) input in
    let long : length (take at input) ≡ at = length-take-le at input within in
    let whole : take (at + n) (put_mid at (length input - at) input part) ≡ take at input ++ take n part =
    ap (λ k. take (k + n) (put_mid at (length input - at) input part)) (sym long)
    ∙ take-append-add (take at input) (part ++ behind) n
    ∙ ap (λ l. take at input ++ l) (take-append-le n part behind fits) in
    subst (Consumes a c) (sym whole) (Consumes-trans a b c _ _ before read)
