-- A count beside its write, on the same word, pattern and record, alphabet and length, or tracker: what C-12 says of the two answers, and not how either is made.
use Rattle.std.specs.Prelude.{ℕ, ◌≤◌, ◌<◌, ◌≡◌, ◌↔◌, ◌≢◌, List, length}
use Rattle.abelian.specs.Answers.{Answer}

-- `counted` is what a count answers, and `write` what its write answers for each slice, given as it comes.
pub record WritesAsCounted (counted : Answer) (write : List ℕ → Answer) : Type 0 where
  -- "The number equals what the write then produces on the same word or tracker, given places enough": into as many places or more the write is accepted, and writes so many words
  pub enough : counted.number ≡ 0 → (out : List ℕ) → counted.written ≤ length out → ((write out).number ≡ 0) × ((write out).written ≡ counted.written)
  -- into fewer it is refused with 3 and that number
  pub fewer : counted.number ≡ 0 → (out : List ℕ) → length out < counted.written → ((write out).number ≡ 3) × ((write out).value ≡ counted.written)
  -- so "where none of those applies, the write is refused for length exactly when the slice has fewer places"
  pub exactly : counted.number ≡ 0 → (out : List ℕ) → ((write out).number ≡ 3) ↔ (length out < counted.written)
  -- "The count meets every refusal of the write but 3": where it is refused, it is not for length, and the write is refused with the same number and value, whatever the slice
  pub not_for_length : counted.number ≢ 3
  pub refused : counted.number ≢ 0 → (out : List ℕ) → ((write out).number ≡ counted.number) × ((write out).value ≡ counted.value)
  -- and where the write is refused by anything but 3, the count is refused in the same way
  pub met : (out : List ℕ) → (write out).number ≢ 0 → (write out).number ≢ 3 → (counted.number ≡ (write out).number) × (counted.value ≡ (write out).value)
