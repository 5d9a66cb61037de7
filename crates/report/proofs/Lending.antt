-- A list call that is lent the places behind the words that are written already: it is accepted, its own words stand there afterwards, and the number in its
-- answer gives the place behind them.
use mathlib.Core.Path.{◌≡◌, ap, ◌∙◌}
use mathlib.Core.Bool.{false}
use mathlib.Core.Option.{none}
use mathlib.Core.List.{List, ◌++◌}
use Prim.Native.Nat.{ℕ, ◌+◌, ◌-◌, ◌≤◌}
use native.Mathlib.Omega.{arith}
use lib.ListN.{length, take, drop, length-append, length-take, length-drop}
use borrow.Rule.Slice.PartMut.{put_mid}
use Rattle.abelian.specs.Refusals.{word_refusal}
use Rattle.abelian.specs.Output.{fill}
use Rattle.abelian.specs.Answers.{Answer, writing}
use Rattle.abelian.specs.Calls.{listing}
use Rattle.words.proofs.Lists.{length-fill, fill_lent}
use Rattle.words.proofs.Listings.{listing_written}

-- the words ws stand in the first places of the slice, and `at` is the place behind them
pub record Behind (before ws out : List ℕ) (at : ℕ) : Type 0 where
  pub reached : at ≡ length ws
  pub size : length out ≡ length before
  pub written : out ≡ fill ws before

module _ {before ws out : List ℕ} {at : ℕ} (b : Behind before ws out at) (w vs : List ℕ) (trials s t : ℕ) where
  -- the places that the call is lent
  abbrev pub part : List ℕ
  part = take (length out - at) (drop at out)

  module _ {a : Answer} (accepted : word_refusal w false 0 0 ≡ none) (room : length ws + length vs ≤ length before) (e : a ≡ listing w part vs trials s t) where
    -- it writes its words
    written_there : a ≡ writing (length vs) trials s t (fill vs part)
    written_there = e ∙ listing_written w part vs trials s t accepted (omega (arith, b.size, b.reached, length-take (length out - at) (drop at out), length-drop at out))

    -- and is not refused
    pub accepted_there : a.number ≡ 0
    accepted_there = ap (λ (x : Answer). x.number) written_there

    -- the words vs of the call stand behind the others
    pub lent : Behind before (ws ++ vs) (put_mid at (length out - at) out a.output) (at + a.written)
    lent =
        let both : length (ws ++ vs) ≡ length ws + length vs = length-append ws vs in
        let written : put_mid at (length out - at) out a.output ≡ fill (ws ++ vs) before =
        fill_lent ws vs before out a.output at b.written b.reached (ap (λ (x : Answer). x.output) written_there) in
        record {
          reached = omega (arith, b.reached, ap (λ (x : Answer). x.written) written_there);
          size = ap length written ∙ length-fill (ws ++ vs) before (omega arith);
          written = written;
        }
