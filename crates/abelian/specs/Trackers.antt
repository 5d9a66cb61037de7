-- The tracker's calls, for every tracker, also one that no calls have made.
use Rattle.std.specs.Prelude.{ℕ, suc, ◌-◌, Bool, false, not, ◌&&◌, ◌||◌, List, [], ◌∷◌, map, length, take, set, replicate, eqb, ltb}
use Rattle.std.proofs.Math.Option.{Option, none, some}
use Rattle.abelian.specs.Lists.{pick, put}
use Rattle.abelian.specs.Words.{alphabet_size, longest, is_letter, of_letters}
use Rattle.abelian.specs.Periods.{Pair, in_range, pairs, is_period}
use Rattle.abelian.specs.Output.{period_word}
use Rattle.abelian.specs.Refusals.{tracker_refusal}
use Rattle.abelian.specs.Answers.{Answer, refusing, counting, accepting}
use Rattle.abelian.specs.Calls.{writing_words}
use Rattle.abelian.specs.declared.Refusal.{Refusal}
use Rattle.abelian.specs.declared.Tracker.{Tracker}

-- a tracker, and the answer of the call that left it so
pub record Step : Type 0 where
  pub tracker : Tracker
  pub answer : Answer

-- How many entries a board has: the number of pairs in range for 240.
unfoldable pub board_size : ℕ
board_size = 14520

-- "6": the length is above 240, or a byte within the length is no letter
unfoldable pub damaged_bytes : ℕ → List ℕ → Bool
damaged_bytes n bytes = ltb longest n || not (of_letters (take n bytes))

unfoldable pub damaged : Tracker → Bool
damaged t = damaged_bytes t.len t.bytes

-- the entries of a board, each made anew from its pair and its old value
unfoldable pub entries : (Pair → ℕ → ℕ) → List Pair → List ℕ → List ℕ
entries f [] es = []
entries f (x ∷ xs) [] = []
entries f (x ∷ xs) (e ∷ es) = f x e ∷ entries f xs es

-- the pairs of a board that pass a test with their entry, in pair order
unfoldable pub pairs_where : (Pair → ℕ → Bool) → List Pair → List ℕ → List Pair
pairs_where f [] es = []
pairs_where f (x ∷ xs) [] = []
pairs_where f (x ∷ xs) (e ∷ es) = put (f x e) x (pairs_where f xs es)

-- the pairs in range for n whose entry on a board is 0, in pair order: those that a list writes
unfoldable pub open_pairs : ℕ → List ℕ → List Pair
open_pairs n board = pairs_where (λ (x : Pair) (e : ℕ). in_range n x && eqb e 0) (pairs longest) board

-- and those whose entry isn't 0
unfoldable pub ended_pairs : ℕ → List ℕ → List Pair
ended_pairs n board = pairs_where (λ (x : Pair) (e : ℕ). in_range n x && not (eqb e 0)) (pairs longest) board

-- A tracker's two totals (C-19).
pub record Totals : Type 0 where
  pub live : ℕ
  pub ended : ℕ

-- "live, the number of pairs in range for its length whose entry is 0, and ended, the number whose entry isn't"
unfoldable pub totals : ℕ → List ℕ → Totals
totals n board = record { live = length (open_pairs n board); ended = length (ended_pairs n board) }

-- the tracker of this length, these bytes and this board, with the totals of the length and the board: "Each accepted add, take-back and clear sets both
-- from the board that it leaves, also in a tracker that no calls have made."
abbrev pub with_totals : ℕ → List ℕ → List ℕ → Tracker
with_totals n bytes board =
    record { len = n; bytes = bytes; board = board; live = (totals n board).live; ended = (totals n board).ended }

-- A fresh tracker: all zero, the totals too, since no pair is in range for 0.
unfoldable pub fresh_tracker : Tracker
fresh_tracker = with_totals 0 (replicate longest 0) (replicate board_size 0)

-- what a call leaves: the tracker as it came where it is refused, and the new one where it is accepted
unfoldable pub step_unless : Option Refusal → List ℕ → Tracker → Step → Step
step_unless none out t new = new
step_unless (some r) out t new = record { tracker = t; answer = refusing r out }

-- the entry of a pair after an add that leaves the letters w: the new length where it was 0 and the pair is in range and no Abelian period
unfoldable pub entry_added : List ℕ → Pair → ℕ → ℕ
entry_added w x e = pick (eqb e 0 && in_range (length w) x && not (is_period w x)) (length w) e

-- the tracker with one letter more
unfoldable pub added : Tracker → ℕ → Tracker
added t b =
    let bytes : List ℕ = set t.bytes t.len b in
    with_totals (suc t.len) bytes (entries (entry_added (take (suc t.len) bytes)) (pairs longest) t.board)

-- "Add": refusals 6, 2, 4; else the letter is stored, and each zero entry whose pair is then in range and no Abelian period is set to the new length.
unfoldable pub adding : Tracker → ℕ → Step
adding t b =
    step_unless (tracker_refusal (damaged t) (not (is_letter alphabet_size b)) (eqb t.len longest) false 0 0) [] t
    (record { tracker = added t b; answer = accepting })

-- the tracker with its last letter gone: the last byte and each entry equal to the old length are 0
unfoldable pub shortened : Tracker → Tracker
shortened t =
    with_totals (t.len - 1) (set t.bytes (t.len - 1) 0) (map (λ (e : ℕ). pick (eqb e t.len) 0 e) t.board)

-- "Take-back": refusals 6, 5; else the last letter goes.
unfoldable pub taking_back : Tracker → Step
taking_back t =
    step_unless (tracker_refusal (damaged t) false false (eqb t.len 0) 0 0) [] t
    (record { tracker = shortened t; answer = accepting })

-- "Clear": accepts any tracker and leaves it fresh.
unfoldable pub clearing : Tracker → Step
clearing t = record { tracker = fresh_tracker; answer = accepting }

-- the words of the pairs that a list writes
abbrev pub open_words : ℕ → List ℕ → List ℕ
open_words n board = map period_word (open_pairs n board)

-- "List": refusals 6, 3; else the words of the pairs in range with entry 0 in the first places. The tracker stays as it is.
unfoldable pub tracker_listing : Tracker → List ℕ → Step
tracker_listing t out =
    let ws : List ℕ = open_words t.len t.board in
    step_unless (tracker_refusal (damaged t) false false false (length ws) (length out)) out t
    (record { tracker = t; answer = writing_words ws 0 0 0 out })

-- The list's count (C-12): refusal 6; else the number of these words. "It changes no tracker."
unfoldable pub tracker_count : Tracker → Step
tracker_count t =
    step_unless (tracker_refusal (damaged t) false false false 0 0) [] t
    (record { tracker = t; answer = counting (length (open_words t.len t.board)) })
