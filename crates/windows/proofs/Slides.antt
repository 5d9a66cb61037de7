-- The window that slides over a record, step by step: what is known before each step, and that each step keeps it.
use Rattle.std.proofs.Common.{◌≡◌, ℕ, ◌+◌, ◌-◌, ◌%◌, ◌^◌, ◌<◌, ◌≤◌, ◌≢◌, eqb, List, length, get_or, take, set, refl, ap, ap₂, subst, ◌∙◌, arith, length-take, length-set, eq-eqb, ne_eqb}
use Rattle.abelian.specs.Lists.{one}
use Rattle.abelian.specs.Words.{alphabet_size, first_letter, vector, part}
use Rattle.abelian.specs.Output.{window_word}
use Rattle.abelian.specs.Windows.{is_window, window_words}
use Rattle.abelian.proofs.Counts.{letters-take}
use Rattle.words.specs.Prefixes.{IsWord}
use Rattle.words.proofs.Vectors.{length-vector, letter_at}
use Rattle.windows.specs.Excess.{excess, nonzero}
use Rattle.windows.specs.Sliding.{Readable, first_words, fill_places, noted}
use Rattle.windows.proofs.Excess.{length-excess}
use Rattle.windows.proofs.Windows.{excess_joined, excess_left, looked_at, few_words, all_words}
use Rattle.windows.proofs.Places.{fill_places-none, passed_more}

-- the windows before `at` have been passed; `rest` is the pattern's length less 1, and the slice was `before`
pub record Passed (pattern events before : List ℕ) (rest : ℕ) (out entries : List ℕ) (differing found at : ℕ) : Type 0 where
  pub readable : Readable pattern events
  pub less : rest + 1 ≡ length pattern
  pub counted : entries ≡ excess (vector (part events at rest)) (vector pattern)
  pub differ : differing ≡ nonzero entries
  pub reached : found ≡ length (first_words pattern events at)
  pub written : out ≡ fill_places (first_words pattern events at) before

-- before the first step the letters of the first window but its last are counted
pub counted_word : {pattern events : List ℕ} (rest : ℕ) → Readable pattern events → rest ≡ length pattern - 1 → IsWord (take rest events)
counted_word {events = events} rest readable e =
    record { all = letters-take rest events readable.letters; short = omega (arith, length-take rest events, readable.short) }

pub none_passed : {p pattern events first wanted entries : List ℕ} {rest differing : ℕ} (before : List ℕ) → p ≡ pattern → Readable p events → rest ≡ length p - 1
    → first ≡ vector (take rest events) → wanted ≡ vector p → entries ≡ excess first wanted → differing ≡ nonzero entries → Passed pattern events before rest before entries differing 0 0
unfolding first_words
none_passed {events = events} before same readable less f w e d =
    record {
      readable = subst (λ (u : List ℕ). Readable u events) same readable;
      less = omega (arith, ap length same, readable.some);
      counted = e ∙ ap₂ excess f (w ∙ ap vector same);
      differ = d;
      reached = refl;
      written = fill_places-none before;
    }

-- a step begins, with a letter that joins
module _ {pattern events before : List ℕ} {rest : ℕ} {out entries : List ℕ} {differing found at : ℕ} (h : Passed pattern events before rest out entries differing found at)
    (room : at + rest < length events) where
  -- the letter that joins and the letter that leaves have places
  pub joins : (first_letter ≤ get_or events (at + rest) 0) × (get_or events (at + rest) 0 < first_letter + alphabet_size)
  joins = letter_at events (at + rest) h.readable.letters room

  pub leaves : (first_letter ≤ get_or events at 0) × (get_or events at 0 < first_letter + alphabet_size)
  leaves = letter_at events at h.readable.letters (omega arith)

  -- there is an entry for each letter
  pub counted-size : length entries ≡ alphabet_size
  counted-size =
      ap length h.counted ∙ length-excess (vector (part events at rest)) (vector pattern) (omega (arith, length-vector (part events at rest), length-vector pattern))
      ∙ length-vector (part events at rest)

  -- also where one is changed
  pub changed-size : {entries' : List ℕ} (j x : ℕ) → entries' ≡ set entries j x → length entries' ≡ alphabet_size
  changed-size j x e = ap length e ∙ length-set entries j x ∙ counted-size

  -- no more words are found than windows are passed
  pub few_found : found ≤ at
  few_found = omega (arith, h.reached, few_words pattern events at)

  -- the letter has joined: the entries are the window's
  module _ {entries' : List ℕ}
      (j : entries' ≡ set entries (get_or events (at + rest) 0 - first_letter) ((get_or entries (get_or events (at + rest) 0 - first_letter) 0 + 1) % 2 ^ 8)) where
    window : entries' ≡ excess (vector (part events at (length pattern))) (vector pattern)
    window = j ∙ excess_joined events at rest h.readable.letters room h.less pattern h.readable.short h.counted

    -- so many of them are not 0
    module _ {differing' : ℕ} (d : differing' ≡ nonzero entries') where
      -- none of them exactly where it is one of the pattern's
      fits_window : eqb differing' 0 ≡ is_window pattern events (at + 1)
      fits_window = ap (λ (k : ℕ). eqb k 0) (d ∙ ap nonzero window) ∙ looked_at pattern events h.readable.short at

      -- the first letter has left
      module _ {entries'' : List ℕ} {differing'' : ℕ}
          (l : entries'' ≡ set entries' (get_or events at 0 - first_letter) ((get_or entries' (get_or events at 0 - first_letter) 0 + 255) % 2 ^ 8))
          (e : differing'' ≡ nonzero entries'') where
        passed : {found' : ℕ} {out' : List ℕ} → found' ≡ found + one (eqb differing' 0) → out' ≡ noted out found (eqb differing' 0) (at + 1)
            → Passed pattern events before rest out' entries'' differing'' found' (at + 1)
        passed n o =
            let more = passed_more pattern events before at h.reached h.written fits_window n o in
            record {
              readable = h.readable;
              less = h.less;
              counted = l ∙ excess_left events at rest h.readable.letters room h.less pattern h.readable.short window;
              differ = e;
              reached = more.0;
              written = more.1;
            }

        -- the window is one of the pattern's, and is noted
        pub noted_on : differing' ≡ 0 → {found' : ℕ} {out' : List ℕ} → found' ≡ found + 1 → out' ≡ set out found (window_word (at + 1))
            → Passed pattern events before rest out' entries'' differing'' found' (at + 1)
        unfolding noted
        noted_on z n o = passed (rw (eq-eqb differing' 0 z) n) (rw (eq-eqb differing' 0 z) o)

        -- it is none
        pub passed_on : differing' ≢ 0 → {found' : ℕ} {out' : List ℕ} → found' ≡ found → out' ≡ out → Passed pattern events before rest out' entries'' differing'' found' (at + 1)
        unfolding noted
        passed_on z n o = passed (rw (ne_eqb differing' 0 z) (omega arith)) (rw (ne_eqb differing' 0 z) o)

-- all windows are passed
pub all_passed : {pattern events before : List ℕ} {rest : ℕ} {out entries : List ℕ} {differing found at : ℕ} → Passed pattern events before rest out entries differing found at
    → at + rest ≡ length events → (found ≡ length (window_words pattern events)) × (out ≡ fill_places (window_words pattern events) before)
all_passed {pattern} {events} {before} {at = at} h e =
    let all : first_words pattern events at ≡ window_words pattern events = all_words pattern events at (omega (arith, h.less)) in
    (h.reached ∙ ap length all, h.written ∙ ap (λ (ws : List ℕ). fill_places ws before) all)
