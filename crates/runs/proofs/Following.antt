-- How far a chain of squares has been followed in a row of marks.
use Rattle.std.proofs.Common.{◌≡◌, ◌∙◌, ◌+◌, ◌-◌, ◌*◌, ◌≤◌, ℕ, Bool, true, false, List, T, sym, arith, length, get_or}
use lib.Dec.{eqb}
use Rattle.abelian.specs.Squares.{is_square}
use Rattle.abelian.specs.Runs.{run_end}
use Rattle.abelian.proofs.Tests.{passes, fails}
use Rattle.squares.specs.Marks.{start_marks}
use Rattle.runs.proofs.Marks.{row_length, mark_told}
use Rattle.runs.proofs.Chains.{Chain, chain_one, chain_more, chain_end}

-- the squares of half length d from i to `last` are a chain, and `next` is one block further on
pub record Following (w marks : List ℕ) (d i last next : ℕ) : Type 0 where
  pub within : last ≤ length marks
  pub place : next ≡ last + d
  pub chain : Chain w d i last

module _ {w marks : List ℕ} {d i : ℕ} (e : marks ≡ start_marks w d) (start : 1 ≤ i) where
  pub following_one : i ≤ length marks → T (is_square w d i) → Following w marks d i i (i + d)
  following_one l t = record { within = l; place = omega arith; chain = chain_one w d i start (omega (arith, row_length w d e)) t }

  module _ {last next : ℕ} (h : Following w marks d i last next) where
    -- the mark of the next candidate tells of a square there
    told : {b : Bool} → next ≤ length marks → eqb (get_or marks (next - 1) 0) 1 ≡ b → is_square w d (last + d) ≡ b
    told l t = rw (← h.place) (sym (mark_told w marks d next e (omega (arith, h.place, h.chain.place)) l) ∙ t)

    -- it is marked: the chain is one square longer
    pub following_more : next ≤ length marks → eqb (get_or marks (next - 1) 0) 1 ≡ true → Following w marks d i next (next + d)
    following_more l t =
        record {
          within = l;
          place = omega arith;
          chain = rw h.place (chain_more w d i start last h.chain (omega (arith, h.place, h.chain.place, row_length w d e)) (passes (is_square w d (last + d)) (told l t)));
        }

    -- it is no candidate or not marked: the blocks end
    pub following_end : 1 ≤ d → (next ≤ length marks → eqb (get_or marks (next - 1) 0) 1 ≡ false) → last - 1 + 2 * d ≡ run_end w d i
    following_end p none =
        chain_end w d i start last h.chain p (λ l t.
        let m : next ≤ length marks = omega (arith, h.place, row_length w d e) in
        fails (is_square w d (last + d)) (told m (none m)) t)
