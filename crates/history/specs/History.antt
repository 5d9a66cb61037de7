-- The claim of demand 3, over a list of calls from a fresh tracker; counts (C-12) may stand among them.
use Rattle.std.specs.Prelude.{◌≡◌, ◌↔◌, Bool, false, ◌&&◌, ℕ, ◌+◌, ◌-◌, ◌*◌, ◌/◌, ◌≤◌, length, replicate, T, eqb}
use mathlib.Core.List.{List, [], ◌++◌, map, Memᴰ}
use Rattle.abelian.specs.Lists.{keep}
use Rattle.abelian.specs.Words.{longest, of_letters}
use Rattle.abelian.specs.Periods.{Pair, in_range, periods, AbelianPeriod, Rising}
use Rattle.abelian.specs.Trials.{plain_trials, skipping_trials}
use Rattle.abelian.specs.FullPeriods.{proper_divisor, full_periods, scale, scaled_gap}
use Rattle.abelian.specs.EndedLengths.{ended_length, board_of}
use Rattle.abelian.specs.Answers.{counting}
use Rattle.abelian.specs.Calls.{writing_words, period_words, full_words, plain_listing, skipping_listing, scaled_listing}
use Rattle.abelian.specs.Trackers.{fresh_tracker}
use Rattle.abelian.specs.declared.Tracker.{Tracker}
use Rattle.history.specs.Machine.{Call}
use Rattle.history.specs.Calls.{machine_answers, tracker_answers, step, word_of, tracker_from}

-- "A word has n letters, 0 to 240."
pub record IsWord (w : List ℕ) : Type 0 where
  pub letters : T (of_letters w)
  pub fits : length w ≤ longest

-- "The tracker holds a word when its length is the word's, the bytes within it are the letters and those beyond are zero": its 240 bytes.
pub record HoldsWord (t : Tracker) (w : List ℕ) : Type 0 where
  pub len : t.len ≡ length w
  pub bytes : t.bytes ≡ w ++ replicate (longest - length w) 0

-- h = 0, and p divides n and is smaller
abbrev pub full_pair : ℕ → Pair → Bool
full_pair n x = eqb x.head 0 && proper_divisor x.period n

-- What is claimed of a list of calls that leaves the machine with the word w and the tracker t.
pub record Claim (calls : List Call) (w : List ℕ) (t : Tracker) : Type 0 where
  -- what the machine holds is a word
  pub word : IsWord w
  -- every call's answer is the machine's: number, value, number of words, and the slice afterwards
  pub answers : tracker_answers fresh_tracker calls ≡ machine_answers [] calls
  -- the tracker holds the machine's word
  pub holds : HoldsWord t w
  -- every board entry is its pair's ended length on that word
  pub ended : t.board ≡ board_of (ended_length w)
  -- which is 0 where a pair of the board is not in range for the word
  pub unreached : (x : Pair) → T (in_range longest x) → in_range (length w) x ≡ false → ended_length w x ≡ 0
  -- live and ended are together the number of pairs in range for the word, floor((n+1)/2) × floor((n+2)/2)
  pub live_and_ended : t.live + t.ended ≡ (length w + 1) / 2 * ((length w + 2) / 2)
  -- and live is the number of words that a list writes
  pub live_listed : t.live ≡ length (period_words w)
  -- any other list of calls that leaves the word leaves the same tracker in every field
  pub same : (others : List Call) → word_of others ≡ w → tracker_from others ≡ t
  -- a list call made then, with places enough, writes the word's Abelian periods
  pub listed : (out : List ℕ) → length (period_words w) ≤ length out → step t (Call.list out) ≡ record { tracker = t; answer = writing_words (period_words w) 0 0 0 out }
  -- a count made then gives their number
  pub counted : step t Call.count ≡ record { tracker = t; answer = counting (length (periods w)) }
  -- a pair is among these periods exactly where Definition 1's record holds
  pub definition : (x : Pair) → Memᴰ x (periods w) ↔ AbelianPeriod w x
  -- each once, rising by p and then h
  pub rising : Rising (periods w)
  -- both listers write the same for that word, by the definitions that their contracts name
  pub plain : (out : List ℕ) → length (period_words w) ≤ length out → plain_listing w out ≡ writing_words (period_words w) (plain_trials w) 0 0 out
  pub skipping : (out : List ℕ) → length (period_words w) ≤ length out → skipping_listing w out ≡ writing_words (period_words w) (skipping_trials w) 0 0 out
  -- of these periods those with h = 0 and p dividing the length and smaller than it (C-18) are the full periods
  pub full : map (λ (x : Pair). x.period) (keep (full_pair (length w)) (periods w)) ≡ full_periods w
  -- that the scaled path writes, by the definition that its contract names
  pub scaled : (out : List ℕ) → length (full_words w) ≤ length out → scaled_listing w out ≡ writing_words (full_words w) 0 (scale w) (scaled_gap w) out

-- The claim, of the machine's word and the tracker that the calls leave.
abbrev pub History : List Call → Type 0
History calls = Claim calls (word_of calls) (tracker_from calls)
