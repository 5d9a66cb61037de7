-- What a window that slides over a record has passed, and what a slice holds then.
use Rattle.std.specs.Prelude.{ℕ, ◌≤◌, Bool, T, List, map, length, take, slice_set}
use Rattle.abelian.specs.Lists.{pick, up_from, keep}
use Rattle.abelian.specs.Words.{longest, of_letters}
use Rattle.abelian.specs.Output.{window_word, fill}
use Rattle.abelian.specs.Windows.{longest_record, is_window}

-- a pattern, and the record in which its windows are looked for
pub record Sought : Type 0 where
  pub pattern : List ℕ
  pub events : List ℕ

-- A pattern and a record that may be taken.
pub record Readable (pattern events : List ℕ) : Type 0 where
  pub word : T (of_letters pattern)
  pub short : length pattern ≤ longest
  pub some : 1 ≤ length pattern
  pub letters : T (of_letters events)
  pub within : length events ≤ longest_record

-- the words of the starts among the first k windows
unfoldable pub first_words : List ℕ → List ℕ → ℕ → List ℕ
first_words pattern events k = map window_word (keep (is_window pattern events) (up_from 1 k))

-- as many words as there are places for, in the first places
unfoldable pub fill_places : List ℕ → List ℕ → List ℕ
fill_places ws out = fill (take (length out) ws) out

-- the slice with the word of a start at a place, where the start is a window's and the slice has the place
unfoldable pub noted : List ℕ → ℕ → Bool → ℕ → List ℕ
noted out place fits start = pick fits (slice_set out place (window_word start)) out
