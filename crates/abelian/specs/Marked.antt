-- The marked words: document 01's P1 to P11, more rows for clauses that these leave untried, and the rows of document 02's requests. Each row is
-- tried by the definitions alone.
use Rattle.std.specs.Prelude.{ℕ, suc, ◌+◌, ◌-◌, Bool, ◌&&◌, List, [], ◌∷◌, map, length, take, replicate, eqb, ltb}
use Rattle.abelian.specs.Lists.{pick, one, same, largest, join, each, up_from}
use Rattle.abelian.specs.Words.{alphabet_size, first_letter, longest}
use Rattle.abelian.specs.Periods.{Pair, pair, pairs}
use Rattle.abelian.specs.Output.{period_word, square_word, window_word}
use Rattle.abelian.specs.Trials.{plain_trials, skipping_trials}
use Rattle.abelian.specs.FullPeriods.{full_periods, scale, scaled_gap}
use Rattle.abelian.specs.EndedLengths.{ended_length}
use Rattle.abelian.specs.Squares.{square_words}
use Rattle.abelian.specs.Runs.{Run, run, words_of_run, run_words}
use Rattle.abelian.specs.Windows.{window_words}
use Rattle.abelian.specs.Patterns.{square_free, square_free_words}
use Rattle.abelian.specs.Refusals.{square_free_refusal}
use Rattle.abelian.specs.Answers.{Answer, writing, counting, deciding}
use Rattle.abelian.specs.Calls.{judging, period_words, report_words, plain_listing, skipping_listing, full_listing, scaled_listing, square_listing, run_listing, cover_answer, reporting}
use Rattle.abelian.specs.Calls.{period_count, full_count, square_count, run_count, report_count}
use Rattle.abelian.specs.Calls.{listing_unless, window_listing, window_count, square_free_listing, square_free_count}
use Rattle.abelian.specs.Trackers.{entries, fresh_tracker, adding, taking_back, clearing, tracker_listing, tracker_count}
use Rattle.abelian.specs.declared.Tracker.{Tracker}

-- A row: a word, an answer or a tracker, and what the documents say of it.
pub data Row : Type 0 where
  -- the Abelian periods, in order
  periods_are : List ℕ → List Pair → Row
  -- the full periods
  full_are : List ℕ → List ℕ → Row
  -- the squares' words, in order
  squares_are : List ℕ → List ℕ → Row
  -- the runs, in order
  runs_are : List ℕ → List Run → Row
  -- the starts of a pattern's windows in a record
  windows_are : List ℕ → List ℕ → List ℕ → Row
  -- the square-free words over the first k letters, of length n, in order
  square_free_are : ℕ → ℕ → List (List ℕ) → Row
  -- 1 where a word has no square, 0 where it has one
  square_free_is : List ℕ → ℕ → Row
  -- the cover's length; no cover where it is 0
  cover_is : List ℕ → ℕ → Row
  -- s and T
  scaled_by : List ℕ → ℕ → ℕ → Row
  -- the trials of the plain and of the skipping lister
  trials_are : List ℕ → ℕ → ℕ → Row
  -- a pair's ended length
  ends_at : List ℕ → Pair → ℕ → Row
  -- the judge says yes
  judged_yes : List ℕ → Pair → Row
  -- the judge's block and letter
  judged_no : List ℕ → Pair → ℕ → ℕ → Row
  -- the report's words
  report_is : List ℕ → List ℕ → Row
  -- the number and value of a refusal, all other numbers being 0, and the slice afterwards
  refuses : Answer → ℕ → ℕ → List ℕ → Row
  -- an accepted answer's words written, trials, s and T, and the slice afterwards
  writes : Answer → ℕ → ℕ → ℕ → ℕ → List ℕ → Row
  -- an accepted count's number of words, all other numbers being 0
  counts : Answer → ℕ → Row
  -- a tracker's first bytes, one for each of its letters and one behind them; the entry of a pair; its list
  tracks : Tracker → List ℕ → Pair → ℕ → List Pair → Row
  -- a tracker's board
  board_is : Tracker → List ℕ → Row
  -- a tracker's live and ended
  totals_are : Tracker → ℕ → ℕ → Row

-- the entry of a pair on a board
unfoldable pub entry_of : Pair → List ℕ → ℕ
entry_of x board = largest (entries (λ (y : Pair) (e : ℕ). pick (eqb (period_word y) (period_word x)) e 0) (pairs longest) board)

-- all numbers of an answer
unfoldable pub numbers : Answer → List ℕ
numbers a =
    a.number ∷ a.value ∷ a.written ∷ a.trials ∷ a.s ∷ a.t ∷ a.yes ∷ a.block ∷ a.letter ∷ a.cover ∷ []

-- two answers are the same
unfoldable pub same_answer : Answer → Answer → Bool
same_answer a b = same (numbers a) (numbers b) && same a.output b.output

-- the answer of a refusal with this number and value
unfoldable pub refusal : ℕ → ℕ → List ℕ → Answer
refusal number value out =
    record { number = number; value = value; written = 0; trials = 0; s = 0; t = 0; yes = 0; block = 0; letter = 0; cover = 0; output = out }

-- what the row says is so by the definitions
unfoldable pub row_holds : Row → Bool
row_holds (periods_are w xs) = same (period_words w) (map period_word xs)
row_holds (full_are w ps) = same (full_periods w) ps
row_holds (squares_are w ws) = same (square_words w) ws
row_holds (runs_are w rs) = same (run_words w) (each rs words_of_run)
row_holds (windows_are pattern events starts) = same (window_words pattern events) (map window_word starts)
row_holds (square_free_are k n ws) = eqb (length (square_free_words k n)) (length ws) && same (join (square_free_words k n)) (join ws)
row_holds (square_free_is w m) = eqb (one (square_free w)) m
row_holds (cover_is w m) = same_answer (cover_answer w) (deciding (one (ltb 0 m)) 0 0 m)
row_holds (scaled_by w s t) = eqb (scale w) s && eqb (scaled_gap w) t
row_holds (trials_are w plain skipping) = eqb (plain_trials w) plain && eqb (skipping_trials w) skipping
row_holds (ends_at w x m) = eqb (ended_length w x) m
row_holds (judged_yes w x) = same_answer (judging w x) (deciding 1 0 0 0)
row_holds (judged_no w x k c) = same_answer (judging w x) (deciding 0 k c 0)
row_holds (report_is w ws) = same (report_words w) ws
row_holds (refuses a number value out) = same_answer a (refusal number value out)
row_holds (writes a written trials s t out) = same_answer a (writing written trials s t out)
row_holds (counts a words) = same_answer a (counting words)
row_holds (tracks t bytes x e xs) =
    same (take (suc t.len) t.bytes) bytes && eqb (entry_of x t.board) e
    && same_answer (tracker_listing t (replicate (length xs) 0)).answer (writing (length xs) 0 0 0 (map period_word xs))
row_holds (board_is t es) = same t.board es
row_holds (totals_are t live ended) = eqb t.live live && eqb t.ended ended

-- the letters of the words below
abbrev a : ℕ
a = 97

abbrev b : ℕ
b = 98

abbrev c : ℕ
c = 99

abbrev d : ℕ
d = 100

-- the words of P5 and P8, and the one of the report's example
abbrev abba : List ℕ
abba = a ∷ b ∷ b ∷ a ∷ []

abbrev abaababa : List ℕ
abaababa = a ∷ b ∷ a ∷ a ∷ b ∷ a ∷ b ∷ a ∷ []

abbrev abb : List ℕ
abb = a ∷ b ∷ b ∷ []

-- the first byte behind the last letter, and one that is far from the letters
abbrev beyond : ℕ
beyond = first_letter + alphabet_size

abbrev B : ℕ
B = 66

-- a tracker with these fields, that no calls have made; its totals are those of none of the boards below
abbrev made : ℕ → List ℕ → List ℕ → Tracker
made n bytes board = record { len = n; bytes = bytes; board = board; live = 70; ended = 80 }

-- the tracker after one letter more, and after a take-back
abbrev then : Tracker → ℕ → Tracker
then t x = (adding t x).tracker

abbrev back : Tracker → Tracker
back t = (taking_back t).tracker

-- a tracker that has been given a, b, b
abbrev given : Tracker
given = then (then (then fresh_tracker a) b) b

-- P1 to P11 of document 01; of the two cover lengths that P5 leaves free, C-14 takes 2, and from the full periods of P3 and P6 C-18 drops p = n.
unfoldable pub marked : List Row
marked =
    -- P1, P2, P3, P4
    periods_are [] []
    ∷ periods_are (a ∷ []) (pair 0 1 ∷ [])
    ∷ periods_are (a ∷ a ∷ []) (pair 0 1 ∷ pair 0 2 ∷ [])
    ∷ full_are (a ∷ a ∷ []) (1 ∷ [])
    ∷ periods_are (a ∷ b ∷ []) (pair 0 2 ∷ [])
    ∷ cover_is (a ∷ b ∷ []) 0
    -- P5
    ∷ periods_are abba (pair 0 2 ∷ pair 0 3 ∷ pair 1 3 ∷ pair 0 4 ∷ [])
    ∷ squares_are abba (square_word 1 2 ∷ square_word 2 1 ∷ [])
    ∷ cover_is abba 2
    ∷ scaled_by abba 2 1
    -- P6, P7
    ∷ full_are (a ∷ a ∷ b ∷ b ∷ []) []
    ∷ scaled_by (a ∷ a ∷ b ∷ b ∷ []) 2 2
    ∷ cover_is (a ∷ a ∷ a ∷ b ∷ []) 0
    -- P8
    ∷ periods_are abaababa
    (pair 1 2 ∷ pair 0 3 ∷ pair 2 3 ∷ pair 1 4 ∷ pair 2 4 ∷ pair 3 4 ∷ pair 0 5 ∷ pair 1 5 ∷ pair 2 5 ∷ pair 3 5
    ∷ pair 0 6 ∷ pair 1 6 ∷ pair 2 6 ∷ pair 0 7 ∷ pair 1 7 ∷ pair 0 8 ∷ [])
    ∷ trials_are abaababa 20 19
    -- P9
    ∷ ends_at abaababa (pair 0 1) 2
    ∷ ends_at abaababa (pair 0 2) 4
    ∷ ends_at abaababa (pair 0 4) 7
    ∷ ends_at abaababa (pair 1 3) 7
    -- P10
    ∷ judged_no abaababa (pair 0 4) 2 a
    -- P11
    ∷ tracks given (a ∷ b ∷ b ∷ 0 ∷ []) (pair 1 2) 3 (pair 0 2 ∷ pair 0 3 ∷ [])
    ∷ tracks (back given) (a ∷ b ∷ 0 ∷ []) (pair 1 2) 0 (pair 0 2 ∷ [])
    ∷ []

-- Clauses of the definitions that P1 to P11 leave untried.
unfoldable pub more : List Row
more =
    -- the empty word's s and T; a T that is no smallest distance
    scaled_by [] 0 0
    ∷ scaled_by (a ∷ b ∷ a ∷ a ∷ b ∷ b ∷ []) 2 2
    -- trials that tell the ruled-out rule, the bound by occurrences and the bound by gaps apart
    ∷ trials_are abb 4 3
    ∷ trials_are abba 6 4
    ∷ trials_are (a ∷ b ∷ a ∷ []) 4 4
    ∷ trials_are (a ∷ a ∷ b ∷ a ∷ []) 6 6
    -- a pair that ends at its first length
    ∷ ends_at abb (pair 1 2) 3
    -- the judge's yes, a head and a tail that fail
    ∷ judged_yes abaababa (pair 1 2)
    ∷ judged_no abb (pair 1 2) 0 a
    ∷ judged_no (a ∷ a ∷ b ∷ []) (pair 0 2) 2 b
    -- the report
    ∷ report_is abb (2147532800 ∷ 268468224 ∷ 268484608 ∷ 536887298 ∷ [])
    -- each answer's numbers; an accepted list keeps the places behind it
    ∷ writes (plain_listing abb (5 ∷ 6 ∷ 7 ∷ [])) 2 4 0 0 (268468224 ∷ 268484608 ∷ 7 ∷ [])
    ∷ writes (skipping_listing abb (5 ∷ 6 ∷ [])) 2 3 0 0 (268468224 ∷ 268484608 ∷ [])
    ∷ writes (full_listing (a ∷ a ∷ []) (5 ∷ 6 ∷ 7 ∷ [])) 1 0 0 0 (805322754 ∷ 6 ∷ 7 ∷ [])
    ∷ writes (scaled_listing abba (5 ∷ 6 ∷ 7 ∷ [])) 1 0 2 1 (805339138 ∷ 6 ∷ 7 ∷ [])
    ∷ writes (square_listing abba (5 ∷ 6 ∷ 7 ∷ [])) 2 0 0 0 (536887298 ∷ 536903681 ∷ 7 ∷ [])
    ∷ writes (reporting abb (5 ∷ 6 ∷ 7 ∷ 8 ∷ 9 ∷ 10 ∷ [])) 4 0 0 0 (2147532800 ∷ 268468224 ∷ 268484608 ∷ 536887298 ∷ 9 ∷ 10 ∷ [])
    -- the table of refusals: each with its example, the slice as it came, and those that come before others
    ∷ refuses (cover_answer (replicate 241 a)) 1 0 []
    ∷ refuses (cover_answer (B ∷ replicate 240 a)) 1 0 []
    ∷ refuses (plain_listing (a ∷ B ∷ 99 ∷ []) (5 ∷ [])) 2 2 (5 ∷ [])
    ∷ refuses (judging (a ∷ B ∷ []) (pair 1 1)) 2 2 []
    ∷ refuses (plain_listing (a ∷ a ∷ []) (5 ∷ [])) 3 2 (5 ∷ [])
    ∷ refuses (judging (a ∷ a ∷ []) (pair 1 1)) 7 0 []
    ∷ refuses (adding (made 240 (replicate 240 a) []) a).answer 4 0 []
    ∷ refuses (adding (made 240 (replicate 240 a) []) beyond).answer 2 1 []
    ∷ refuses (adding (made 241 [] []) beyond).answer 6 0 []
    ∷ refuses (taking_back (made 1 (B ∷ []) [])).answer 6 0 []
    ∷ refuses (taking_back fresh_tracker).answer 5 0 []
    ∷ refuses (tracker_listing given (5 ∷ [])).answer 3 2 (5 ∷ [])
    -- the edges: the longest word, the first and the last letter, and the bytes beside them
    ∷ cover_is (replicate 240 a) 120
    ∷ judged_yes ((beyond - 1) ∷ a ∷ []) (pair 0 2)
    ∷ refuses (cover_answer (96 ∷ [])) 2 1 []
    ∷ refuses (cover_answer (a ∷ beyond ∷ [])) 2 2 []
    -- trackers that no calls have made: an add keeps entries above 0, a take-back reopens those equal to the length, a clear all
    ∷ board_is (then (made 1 (a ∷ 0 ∷ []) (0 ∷ 9 ∷ 0 ∷ [])) b) (2 ∷ 9 ∷ 0 ∷ [])
    ∷ board_is (back (made 1 (a ∷ []) (5 ∷ 1 ∷ 0 ∷ []))) (5 ∷ 0 ∷ 0 ∷ [])
    -- a list reads the board alone: an entry above 0 is not listed, whatever the letters are
    ∷ tracks (made 2 (a ∷ a ∷ 0 ∷ []) (7 ∷ 0 ∷ [])) (a ∷ a ∷ 0 ∷ []) (pair 0 1) 7 (pair 0 2 ∷ [])
    ∷ tracks (clearing (made 241 [] [])).tracker (0 ∷ []) (pair 0 1) 0 []
    ∷ []

-- The word of document 003's Figure 2, whose text in our copy has one b too many.
abbrev figure : List ℕ
figure = a ∷ a ∷ b ∷ b ∷ a ∷ c ∷ b ∷ b ∷ a ∷ a ∷ b ∷ b ∷ b ∷ b ∷ []

abbrev abab : List ℕ
abab = a ∷ b ∷ a ∷ b ∷ []

abbrev ababa : List ℕ
ababa = a ∷ b ∷ a ∷ b ∷ a ∷ []

-- the word of which C-14's rows have the report
abbrev abbaba : List ℕ
abbaba = a ∷ b ∷ b ∷ a ∷ b ∷ a ∷ []

-- the record of C-13's rows, and one that is a letter too long
abbrev abbaab : List ℕ
abbaab = a ∷ b ∷ b ∷ a ∷ a ∷ b ∷ []

abbrev above_records : List ℕ
above_records = replicate 65537 a

-- the letters that C-16's rows name, and a word of all letters; given by numbers, so that none of these rows follows the alphabet's size
abbrev q : ℕ
q = 113

abbrev r : ℕ
r = 114

abbrev y : ℕ
y = 121

abbrev z : ℕ
z = 122

abbrev alphabet : List ℕ
alphabet = up_from a 26

abbrev aqa : List ℕ
aqa = a ∷ q ∷ a ∷ []

-- words whose blocks of two letters differ in q and r alone, and in y and z alone
abbrev aqar : List ℕ
aqar = a ∷ q ∷ a ∷ r ∷ []

abbrev ayaz : List ℕ
ayaz = a ∷ y ∷ a ∷ z ∷ []

-- the word of most of C-17's rows
abbrev aa : List ℕ
aa = a ∷ a ∷ []

-- a tracker of C-19's rows that no calls have made, and one with short arrays that has been given the letters of P8
abbrev two : Tracker
two = made 2 (a ∷ a ∷ 0 ∷ []) (7 ∷ 0 ∷ [])

abbrev eight : Tracker
eight = then (then (then (then (then (then (then (then (made 0 (replicate 9 0) (replicate 36 0)) a) b) a) a) b) a) b) a

-- Rows of C-20.
unfoldable pub without_squares : List Row
without_squares =
    -- over two letters and of length 3; over three; over one letter; of length 0
    square_free_are 2 3 ((a ∷ b ∷ a ∷ []) ∷ (b ∷ a ∷ b ∷ []) ∷ [])
    ∷ square_free_are 3 2 ((a ∷ b ∷ []) ∷ (a ∷ c ∷ []) ∷ (b ∷ a ∷ []) ∷ (b ∷ c ∷ []) ∷ (c ∷ a ∷ []) ∷ (c ∷ b ∷ []) ∷ [])
    ∷ square_free_are 1 1 ((a ∷ []) ∷ [])
    ∷ square_free_are 1 2 []
    ∷ square_free_are 3 0 ([] ∷ [])
    ∷ square_free_are 2 4 []
    -- a square of half length 2 behind the first letter and before the last, one of half length 3 with its letters in another order, and one that is
    -- the whole of a word of 12 letters; letters in other numbers are none
    ∷ square_free_is (c ∷ a ∷ b ∷ a ∷ b ∷ []) 0
    ∷ square_free_is (a ∷ b ∷ a ∷ b ∷ c ∷ []) 0
    ∷ square_free_is (d ∷ a ∷ b ∷ c ∷ b ∷ a ∷ c ∷ []) 0
    ∷ square_free_is (a ∷ b ∷ a ∷ c ∷ a ∷ d ∷ a ∷ b ∷ a ∷ d ∷ a ∷ c ∷ []) 0
    ∷ square_free_is (a ∷ b ∷ a ∷ c ∷ d ∷ a ∷ b ∷ c ∷ b ∷ d ∷ []) 1
    ∷ squares_are (a ∷ b ∷ c ∷ b ∷ a ∷ c ∷ []) (square_word 3 1 ∷ [])
    -- the words by their numbers: in base 2, where 2 and 5 are `aba` and `bab`, in base 3, in base 4, over one letter and of length 0
    ∷ writes (square_free_listing 2 3 (5 ∷ 6 ∷ 7 ∷ [])) 2 0 0 0 (2415919106 ∷ 2415919109 ∷ 7 ∷ [])
    ∷ writes (square_free_listing 2 2 (5 ∷ 6 ∷ [])) 2 0 0 0 (2415919105 ∷ 2415919106 ∷ [])
    ∷ writes (square_free_listing 3 2 (replicate 6 5)) 6 0 0 0 (2415919105 ∷ 2415919106 ∷ 2415919107 ∷ 2415919109 ∷ 2415919110 ∷ 2415919111 ∷ [])
    ∷ writes (square_free_listing 3 4 (replicate 18 5)) 18 0 0 0
    (2415919115 ∷ 2415919119 ∷ 2415919120 ∷ 2415919123 ∷ 2415919125 ∷ 2415919127 ∷ 2415919136 ∷ 2415919137 ∷ 2415919138 ∷ 2415919150 ∷ 2415919151 ∷ 2415919152 ∷ 2415919161 ∷ 2415919163 ∷ 2415919165 ∷ 2415919168 ∷ 2415919169 ∷ 2415919173 ∷ [])
    ∷ writes (square_free_listing 4 1 (replicate 4 5)) 4 0 0 0 (2415919104 ∷ 2415919105 ∷ 2415919106 ∷ 2415919107 ∷ [])
    ∷ writes (square_free_listing 4 2 (replicate 12 5)) 12 0 0 0
    (2415919105 ∷ 2415919106 ∷ 2415919107 ∷ 2415919108 ∷ 2415919110 ∷ 2415919111 ∷ 2415919112 ∷ 2415919113 ∷ 2415919115 ∷ 2415919116 ∷ 2415919117 ∷ 2415919118 ∷ [])
    ∷ writes (square_free_listing 1 1 (5 ∷ [])) 1 0 0 0 (2415919104 ∷ [])
    ∷ writes (square_free_listing 1 2 (5 ∷ [])) 0 0 0 0 (5 ∷ [])
    ∷ writes (square_free_listing 3 0 (5 ∷ 6 ∷ [])) 1 0 0 0 (2415919104 ∷ 6 ∷ [])
    ∷ counts (square_free_count 4 2) 12
    -- the longest length, and one more
    ∷ counts (square_free_count 1 12) 0
    ∷ refuses (square_free_count 1 13) 12 0 []
    ∷ refuses (square_free_listing 1 13 (5 ∷ [])) 12 0 (5 ∷ [])
    -- 11 below 1 and above 4, and before 12 and 3; 12 before 3; and 3
    ∷ refuses (square_free_count 0 0) 11 0 []
    ∷ refuses (square_free_count 5 1) 11 0 []
    ∷ refuses (square_free_count 0 13) 11 0 []
    ∷ refuses (square_free_listing 0 13 (5 ∷ [])) 11 0 (5 ∷ [])
    ∷ refuses (square_free_listing 5 1 []) 11 0 []
    ∷ refuses (listing_unless (square_free_refusal 4 13) (5 ∷ []) 0 0 0 []) 12 0 []
    ∷ refuses (square_free_listing 3 2 (replicate 5 5)) 3 6 (replicate 5 5)
    ∷ []

-- Rows of the other requests of document 02.
unfoldable pub requested : List Row
requested =
    -- C-11: the empty word, hands of no letters, and document 003's words
    runs_are [] []
    ∷ runs_are (a ∷ a ∷ a ∷ a ∷ []) (run 1 1 4 0 0 ∷ run 2 1 4 0 0 ∷ [])
    ∷ runs_are abaababa (run 1 3 4 0 0 ∷ run 2 2 7 1 1 ∷ run 2 5 8 1 0 ∷ run 3 1 6 0 2 ∷ run 3 3 8 2 0 ∷ [])
    ∷ runs_are figure
    (run 1 1 2 0 0 ∷ run 1 3 4 0 0 ∷ run 1 7 8 0 0 ∷ run 1 9 10 0 0 ∷ run 1 11 14 0 0 ∷ run 2 2 5 1 0 ∷ run 2 8 11 1 1 ∷ run 2 11 14 0 0
    ∷ run 3 7 12 0 2 ∷ [])
    -- a hand that would be one letter longer beside a block of one letter more
    ∷ runs_are (a ∷ a ∷ a ∷ b ∷ a ∷ b ∷ b ∷ b ∷ []) (run 1 1 3 0 0 ∷ run 1 6 8 0 0 ∷ run 2 3 6 1 1 ∷ [])
    -- the two words by their numbers, with a right and with a left hand
    ∷ writes (run_listing ababa (5 ∷ 6 ∷ 7 ∷ 8 ∷ 9 ∷ [])) 4 0 0 0 (1342210049 ∷ 1610874881 ∷ 1342210050 ∷ 1610940672 ∷ 9 ∷ [])
    ∷ refuses (run_listing ababa (5 ∷ 6 ∷ 7 ∷ [])) 3 4 (5 ∷ 6 ∷ 7 ∷ [])
    -- C-12: the words of each list, of runs two each; those of an empty one
    ∷ counts (period_count abab) 5
    ∷ counts (full_count abab) 1
    ∷ counts (square_count abab) 1
    ∷ counts (run_count ababa) 4
    ∷ counts (report_count abb) 4
    ∷ counts (report_count []) 1
    ∷ counts (period_count []) 0
    -- refused as the write is, but never for length
    ∷ refuses (period_count (B ∷ replicate 240 a)) 1 0 []
    ∷ refuses (report_count (a ∷ B ∷ 99 ∷ [])) 2 2 []
    -- the tracker's count: the pairs in range with entry 0, whatever the letters are; or 6
    ∷ counts (tracker_count given).answer 2
    ∷ counts (tracker_count (made 2 (a ∷ a ∷ 0 ∷ []) (7 ∷ 0 ∷ []))).answer 1
    ∷ refuses (tracker_count (made 241 [] [])).answer 6 0 []
    -- C-13: windows side by side and over each other; the empty record, one shorter than the pattern, one as long
    ∷ windows_are (a ∷ b ∷ []) abbaab (1 ∷ 3 ∷ 5 ∷ [])
    ∷ windows_are (a ∷ a ∷ []) (a ∷ a ∷ a ∷ a ∷ []) (1 ∷ 2 ∷ 3 ∷ [])
    ∷ windows_are (a ∷ []) [] []
    ∷ windows_are abb (a ∷ b ∷ []) []
    ∷ windows_are abb (b ∷ b ∷ a ∷ []) (1 ∷ [])
    -- a window of the pattern's letters in another number, and one that is no rotation of the pattern
    ∷ windows_are (a ∷ a ∷ b ∷ c ∷ []) (b ∷ b ∷ b ∷ a ∷ c ∷ a ∷ []) (3 ∷ [])
    -- the words by their numbers, and the number of words
    ∷ writes (window_listing (a ∷ b ∷ []) abbaab (5 ∷ 6 ∷ 7 ∷ 8 ∷ [])) 3 0 0 0 (1879048193 ∷ 1879048195 ∷ 1879048197 ∷ 8 ∷ [])
    ∷ refuses (window_listing (a ∷ b ∷ []) abbaab (5 ∷ 6 ∷ [])) 3 3 (5 ∷ 6 ∷ [])
    ∷ counts (window_count (a ∷ b ∷ []) abbaab) 3
    ∷ counts (window_count (a ∷ []) []) 0
    ∷ counts (window_count abb (a ∷ b ∷ [])) 0
    -- a record above the longest word is read
    ∷ counts (window_count (b ∷ []) (replicate 241 a)) 0
    -- the pattern's 2 and 8, which exclude each other, before the record's 2, and that before 3
    ∷ refuses (window_count (a ∷ B ∷ []) (B ∷ [])) 2 2 []
    ∷ refuses (window_count [] (B ∷ [])) 8 0 []
    ∷ refuses (window_count abb (B ∷ [])) 2 1 []
    ∷ refuses (window_listing (a ∷ []) (a ∷ a ∷ B ∷ B ∷ []) (5 ∷ [])) 2 3 (5 ∷ [])
    -- C-14: of 4 and 5 the smaller, where 3 is none; of 3 and 5 the smaller, though 4 is none; no length of aba is below 2, and none of abaab is 4
    ∷ cover_is abbaba 4
    ∷ cover_is (a ∷ a ∷ b ∷ a ∷ b ∷ a ∷ []) 3
    ∷ cover_is (a ∷ b ∷ a ∷ []) 2
    ∷ cover_is (a ∷ b ∷ a ∷ a ∷ b ∷ []) 3
    -- none where the word has fewer than two letters, two that differ, or a last letter that stands nowhere else
    ∷ cover_is [] 0
    ∷ cover_is (a ∷ []) 0
    ∷ cover_is (c ∷ (beyond - 1) ∷ []) 0
    ∷ cover_is (a ∷ a ∷ a ∷ a ∷ b ∷ []) 0
    -- the report's head has that length; that of the empty word is the whole report
    ∷ report_is abba (2147549186 ∷ 805339138 ∷ 268468224 ∷ 268484608 ∷ 268484609 ∷ 268500992 ∷ 536887298 ∷ 536903681 ∷ [])
    ∷ report_is abbaba
    (2147581956 ∷ 805339139 ∷ 268468224 ∷ 268484609 ∷ 268484610 ∷ 268500992 ∷ 268500993 ∷ 268500994 ∷ 268517376 ∷ 268517377
    ∷ 268533760 ∷ 536887298 ∷ 536903681 ∷ 536903683 ∷ [])
    ∷ report_is [] (2147483648 ∷ [])
    -- C-16: `aqa` is read; 97 and 122 pass, 96 and 123 do not
    ∷ periods_are aqa (pair 0 2 ∷ pair 1 2 ∷ pair 0 3 ∷ [])
    ∷ report_is aqa (2147532802 ∷ 268468224 ∷ 268468225 ∷ 268484608 ∷ [])
    ∷ tracks (then (then fresh_tracker a) z) (a ∷ z ∷ 0 ∷ []) (pair 0 1) 2 (pair 0 2 ∷ [])
    ∷ refuses (adding fresh_tracker 96).answer 2 1 []
    ∷ refuses (adding fresh_tracker 123).answer 2 1 []
    ∷ refuses (plain_listing (a ∷ z ∷ 123 ∷ []) (5 ∷ [])) 2 3 (5 ∷ [])
    ∷ refuses (window_count (z ∷ []) (z ∷ 96 ∷ [])) 2 2 []
    -- blocks that differ in q and r alone, or in y and z alone, are told apart, and those that do not differ are not
    ∷ periods_are aqar (pair 1 3 ∷ pair 0 4 ∷ [])
    ∷ squares_are aqar []
    ∷ runs_are aqar []
    ∷ runs_are (z ∷ q ∷ r ∷ q ∷ r ∷ []) (run 2 2 5 0 0 ∷ [])
    ∷ windows_are (q ∷ a ∷ []) aqar (1 ∷ 2 ∷ [])
    ∷ judged_no aqar (pair 0 2) 2 q
    ∷ judged_no ayaz (pair 0 2) 2 y
    ∷ squares_are (r ∷ q ∷ q ∷ r ∷ []) (square_word 1 2 ∷ square_word 2 1 ∷ [])
    -- the last letter in a head and in a tail
    ∷ judged_no (z ∷ y ∷ a ∷ []) (pair 1 2) 0 z
    ∷ judged_no (a ∷ y ∷ z ∷ []) (pair 0 2) 2 z
    -- C-17: two or more letters that are all equal are not reported, and one letter is
    ∷ refuses (reporting aa (5 ∷ 6 ∷ 7 ∷ 8 ∷ 9 ∷ 10 ∷ [])) 10 0 (5 ∷ 6 ∷ 7 ∷ 8 ∷ 9 ∷ 10 ∷ [])
    ∷ refuses (report_count aa) 10 0 []
    ∷ refuses (report_count (z ∷ z ∷ z ∷ [])) 10 0 []
    ∷ refuses (report_count (replicate 240 b)) 10 0 []
    ∷ writes (reporting (a ∷ []) (5 ∷ 6 ∷ 7 ∷ 8 ∷ [])) 2 0 0 0 (2147500032 ∷ 268451840 ∷ 7 ∷ 8 ∷ [])
    ∷ counts (report_count (a ∷ [])) 2
    ∷ writes (reporting [] (5 ∷ [])) 1 0 0 0 (2147483648 ∷ [])
    -- one that differs, wherever it stands, is enough for a report
    ∷ counts (report_count (b ∷ a ∷ a ∷ [])) 4
    ∷ counts (report_count (a ∷ b ∷ a ∷ [])) 4
    ∷ counts (report_count (a ∷ a ∷ b ∷ [])) 4
    ∷ counts (report_count (a ∷ a ∷ a ∷ a ∷ b ∷ [])) 8
    -- behind 1 and 2, and before 3
    ∷ refuses (report_count (replicate 241 a)) 1 0 []
    ∷ refuses (report_count (B ∷ B ∷ [])) 2 1 []
    ∷ refuses (report_count (a ∷ a ∷ B ∷ [])) 2 3 []
    ∷ refuses (reporting aa []) 10 0 []
    -- the other calls take such a word
    ∷ judged_yes aa (pair 0 1)
    ∷ writes (plain_listing aa (5 ∷ 6 ∷ [])) 2 2 0 0 (268451840 ∷ 268468224 ∷ [])
    ∷ writes (skipping_listing aa (5 ∷ 6 ∷ [])) 2 2 0 0 (268451840 ∷ 268468224 ∷ [])
    ∷ writes (scaled_listing aa (5 ∷ 6 ∷ [])) 1 0 1 1 (805322754 ∷ 6 ∷ [])
    ∷ writes (square_listing aa (5 ∷ [])) 1 0 0 0 (536887297 ∷ [])
    ∷ writes (run_listing aa (5 ∷ 6 ∷ [])) 2 0 0 0 (1342193665 ∷ 1610743808 ∷ [])
    ∷ counts (period_count aa) 2
    ∷ counts (window_count aa (a ∷ a ∷ a ∷ [])) 2
    ∷ cover_is aa 1
    ∷ tracks (then (then fresh_tracker a) a) (a ∷ a ∷ 0 ∷ []) (pair 0 1) 0 (pair 0 1 ∷ pair 0 2 ∷ [])
    -- C-18: the length is no full period, and half of it may be one, alone or behind others
    ∷ full_are [] []
    ∷ full_are (a ∷ []) []
    ∷ full_are abb []
    ∷ full_are abab (2 ∷ [])
    ∷ full_are (a ∷ a ∷ b ∷ a ∷ a ∷ b ∷ []) (3 ∷ [])
    ∷ full_are (a ∷ b ∷ b ∷ a ∷ a ∷ b ∷ b ∷ a ∷ []) (2 ∷ 4 ∷ [])
    -- a list of none needs no place, its count is 0, and s and T are as they were, with full periods and without
    ∷ writes (full_listing abb []) 0 0 0 0 []
    ∷ writes (scaled_listing abb []) 0 0 3 1 []
    ∷ counts (full_count abb) 0
    ∷ writes (scaled_listing (a ∷ a ∷ b ∷ b ∷ []) (5 ∷ [])) 0 0 2 2 (5 ∷ [])
    ∷ writes (scaled_listing (a ∷ b ∷ a ∷ b ∷ a ∷ a ∷ b ∷ b ∷ []) (5 ∷ [])) 1 0 2 2 (805371906 ∷ [])
    -- 3 asks for as many places as the list has words
    ∷ refuses (scaled_listing (a ∷ a ∷ a ∷ a ∷ []) (5 ∷ [])) 3 2 (5 ∷ [])
    -- the report has no full period more than the list
    ∷ report_is abab (2147549186 ∷ 805339138 ∷ 268468224 ∷ 268468225 ∷ 268484608 ∷ 268484609 ∷ 268500992 ∷ 536903681 ∷ [])
    -- the pair of head 0 and the length remains an Abelian period
    ∷ periods_are abb (pair 0 2 ∷ pair 0 3 ∷ [])
    ∷ judged_yes abb (pair 0 3)
    -- C-19: the totals of a fresh tracker, and of one with a, b, b
    ∷ totals_are fresh_tracker 0 0
    ∷ totals_are given 2 2
    -- an add counts by the new length and the board that it leaves, a take-back too, whatever stood in the totals; entries beyond the pairs in range
    -- do not count
    ∷ totals_are (then (made 2 (a ∷ b ∷ 0 ∷ []) (2 ∷ 0 ∷ 0 ∷ 5 ∷ 0 ∷ 9 ∷ [])) b) 1 3
    ∷ totals_are (back (made 3 (a ∷ a ∷ a ∷ []) (3 ∷ 0 ∷ 3 ∷ 7 ∷ []))) 2 0
    -- a clear, whatever the board was
    ∷ totals_are (clearing (made 241 [] [])).tracker 0 0
    ∷ totals_are (clearing two).tracker 0 0
    -- refused calls keep them: an add with 2, 4 and 6, a take-back with 5 and 6, a list with 3; and so do an accepted list and a count
    ∷ totals_are (then (made 1 (a ∷ 0 ∷ []) (0 ∷ 9 ∷ 0 ∷ [])) B) 70 80
    ∷ totals_are (then (made 240 (replicate 240 a) []) a) 70 80
    ∷ totals_are (then (made 241 [] (0 ∷ [])) a) 70 80
    ∷ totals_are (back (made 0 [] (0 ∷ []))) 70 80
    ∷ totals_are (back (made 1 (B ∷ []) (0 ∷ []))) 70 80
    ∷ totals_are (tracker_listing two []).tracker 70 80
    ∷ totals_are (tracker_listing two (5 ∷ [])).tracker 70 80
    ∷ totals_are (tracker_count two).tracker 70 80
    ∷ []

-- Rows of document 02 with long words, records and boards. They take longest to compute, so that they stand by themselves and last.
unfoldable pub long : List Row
long =
    -- C-13: the pattern's 1, 2 and 8 before 9, and 9 before the record's 2
    refuses (window_count (B ∷ replicate 240 a) above_records) 1 0 []
    ∷ refuses (window_count (a ∷ B ∷ []) above_records) 2 2 []
    ∷ refuses (window_count [] above_records) 8 0 []
    ∷ refuses (window_count (a ∷ []) (B ∷ replicate 65536 a)) 9 0 []
    ∷ refuses (window_count (a ∷ []) (B ∷ replicate 65535 a)) 2 1 []
    -- C-16: a word of all letters
    ∷ periods_are alphabet (pair 0 26 ∷ [])
    ∷ trials_are alphabet 182 26
    ∷ scaled_by alphabet 26 1
    -- C-18: of the longest word every divisor but the length may be a full period
    ∷ counts (full_count (replicate 240 a)) 19
    -- C-19: the totals of P8's letters, of two fewer, and at the longest length
    ∷ totals_are eight 16 4
    ∷ totals_are (back (back eight)) 10 2
    ∷ totals_are (then (made 239 (replicate 240 a) (replicate 14520 1)) b) 0 14520
    ∷ totals_are (back (made 240 (replicate 240 a) (replicate 14520 240))) 14400 0
    ∷ []
