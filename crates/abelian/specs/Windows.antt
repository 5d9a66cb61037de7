-- Anagram windows (C-13): where in a record of events a window as long as a pattern has the pattern's vector. A record is named `events` here, since `record` is a keyword.
-- It is no word: it may have more than 240 letters.
use Rattle.std.specs.Prelude.{ℕ, suc, ◌+◌, ◌-◌, ◌≤◌, ◌≡◌, Bool, List, [], ◌∷◌, ◌++◌, map, length}
use Rattle.abelian.specs.Lists.{up_from, same, keep}
use Rattle.abelian.specs.Words.{vector, part}
use Rattle.abelian.specs.Output.{window_word}

-- "Records of up to 65,536 events": the longest record.
unfoldable pub longest_record : ℕ
longest_record = 65536

-- ---- the list

-- the stretch that begins at start i and is as long as the pattern has the pattern's vector, where it lies in the record
unfoldable pub is_window : List ℕ → List ℕ → ℕ → Bool
is_window pattern events i = same (vector (part events (i - 1) (length pattern))) (vector pattern)

-- the starts i, ascending, of the windows that lie in the record and have the pattern's vector: i ≥ 1 and i + m − 1 ≤ n, where the pattern has m letters and the record n
unfoldable pub window_starts : List ℕ → List ℕ → List ℕ
window_starts pattern events = keep (is_window pattern events) (up_from 1 (suc (length events) - length pattern))

-- The words of these starts.
unfoldable pub window_words : List ℕ → List ℕ → List ℕ
window_words pattern events = map window_word (window_starts pattern events)

-- ---- what C-13 says

-- A start in the record at which a window as long as the pattern lies in it and has the pattern's vector.
pub record Window (pattern events : List ℕ) (i : ℕ) : Type 0 where
  pub start : 1 ≤ i
  pub within : i + length pattern ≤ suc (length events)
  pub alike : vector (part events (i - 1) (length pattern)) ≡ vector pattern

-- u is a permutation of v, the same bytes in some order: of [] where u is []; and of x ∷ v where x stands somewhere in u, and u without that one x is a permutation of v.
abbrev pub Permutation : List ℕ → List ℕ → Type 0
Permutation u [] = u ≡ []
Permutation u (x ∷ v) = (before : List ℕ) × (behind : List ℕ) × (u ≡ before ++ (x ∷ behind)) × Permutation (before ++ behind) v

-- A start in the record at which a window as long as the pattern lies in it and is the pattern with its letters in some order.
pub record Anagram (pattern events : List ℕ) (i : ℕ) : Type 0 where
  pub start : 1 ≤ i
  pub within : i + length pattern ≤ suc (length events)
  pub rearranged : Permutation (part events (i - 1) (length pattern)) pattern
