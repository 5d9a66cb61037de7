-- `windows::sliding::slide` meets its contract: the laws of `Slides`, step by step.
use Rattle.std.proofs.Common.{◌≡◌, [], length, set, List, ℕ, sym, ap, subst, ◌∙◌, arith}
use Rattle.abelian.specs.Words.{first_letter, vector}
use Rattle.abelian.specs.Windows.{window_words}
use Rattle.windows.specs.Sliding.{Sought, Readable, fill_places}
use Rattle.windows.proofs.Windows.{no_words}
use Rattle.windows.proofs.Places.{fill_places-none}
use Rattle.windows.proofs.Slides.{counted_word, none_passed, joins, leaves, counted-size, changed-size, few_found, noted_on, passed_on, all_passed}
use Rattle.windows.proofs.sliding.slide.Goals as goal
use Rattle.windows.proofs.sliding.slide.Goals.{then-differing-eq0, else-differing-eq0}

pub returns-then-events-rest : goal.returns-then-events-rest
returns-then-events-rest c =
    let pattern = c.args.search.now.pattern in
    let events = c.args.search.now.events in
    let none : window_words pattern events ≡ [] =
    no_words pattern events (omega (arith, ap (λ (s : Sought). length s.pattern) c.search.view_is, ap (λ (s : Sought). length s.events) c.search.view_is)) in
    record { readable = subst (λ (s : Sought). Readable s.pattern s.events) c.search.view_is c.search.invariant; value = ap length (sym none); out_after = fill_places-none c.args.out.now ∙ ap (λ (ws : List ℕ). fill_places ws c.args.out.now) (sym none) }

pub new-requires : goal.new-requires
new-requires c = counted_word _ c.search.invariant (omega arith)

pub loop-at-init : goal.loop-at-init
loop-at-init c =
    none_passed _ (ap (λ (s : Sought). s.pattern) c.search.view_is) c.search.invariant (omega arith)
    (c.count_letters-first.ensures ∙ ap vector c.new.ensures) c.count_letters-wanted.ensures c.subtract-entries.ensures c.count_nonzero-differing.ensures

pub overflow_sub-joins : goal.overflow_sub-joins
unfolding first_letter
overflow_sub-joins c = (joins c.loop-at.invariant (omega arith)).0

pub change-differing-requires : goal.change-differing-requires
unfolding first_letter
change-differing-requires c =
    let h = c.loop-at.invariant in
    record { entries_len = (counted-size h (omega arith), omega (arith, joins h (omega arith))); differing_value = h.differ }

pub overflow_add-found : goal.overflow_add-found
overflow_add-found c = record { fits = omega (arith, few_found c.loop-at.invariant (omega arith)) }

pub overflow_sub-leaves : goal.overflow_sub-leaves
unfolding first_letter
overflow_sub-leaves c = (leaves c.loop-at.invariant (omega arith)).0

pub change-differing-requires-in-loop-at : goal.change-differing-requires-in-loop-at
unfolding first_letter
change-differing-requires-in-loop-at c =
    let h = c.loop-at.invariant in
    let joined = c.change-differing.ensures in
    record { entries_len = (changed-size h (omega arith) _ _ joined.entries_after, omega (arith, leaves h (omega arith))); differing_value = joined.value }

pub loop-at-preserved : goal.loop-at-preserved
unfolding first_letter
loop-at-preserved c =
    let h = c.loop-at.invariant in
    let joined = c.change-differing.ensures in
    let left = c.change-differing-in-loop-at.ensures in
    elim c.if-differing-eq0.branch [
      | then-differing-eq0 w ↦ noted_on h (omega arith) joined.entries_after joined.value left.entries_after left.value w.if-differing-eq0.true w.found-is (w.out-is ∙ w.store_word.ensures ∙ ap (set c.loop-at.out c.loop-at.found) w.window_word.ensures)
      | else-differing-eq0 w ↦ passed_on h (omega arith) joined.entries_after joined.value left.entries_after left.value w.if-differing-eq0.false w.found-is w.out-is
    ]

pub returns : goal.returns
returns c =
    let pattern = c.args.search.now.pattern in
    let all = all_passed c.loop-at.invariant (omega arith) in
    record {
      readable = subst (λ (s : Sought). Readable s.pattern s.events) c.search.view_is c.search.invariant;
      value = all.0 ∙ ap (λ (s : Sought). length (window_words pattern s.events)) c.search.view_is;
      out_after = all.1 ∙ ap (λ (s : Sought). fill_places (window_words pattern s.events) c.args.out.now) c.search.view_is;
    }
