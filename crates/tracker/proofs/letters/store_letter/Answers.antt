-- `letters::store_letter` meets its contract: the letters then held are a word, whose prefixes are counted and whose pairs are ended.
use Rattle.std.proofs.Common.{ℕ, ◌∙◌, length, ap}
use Rattle.abelian.specs.Words.{longest}
use Rattle.abelian.specs.Trackers.{open_pairs}
use Rattle.tracker.proofs.Damage.{length-stored, word_stored}
use Rattle.tracker.proofs.letters.store_letter.Goals as goal

pub new-word-requires : goal.new-word-requires
unfolding longest
new-word-requires c = word_stored c.args.at c.args.bytes.now c.args.letter c.told-bytes c.requires.room c.requires.letters c.requires.inside

pub returns-clause-live_value : goal.returns-clause-live_value
unfolding longest
returns-clause-live_value c =
    let e = ap length c.new-counted.ensures ∙ ap length c.new-word.ensures ∙ length-stored c.args.at c.args.bytes.now c.args.letter c.told-bytes c.requires.room in
    c.end_pairs-trials.ensures.live_value ∙ ap (λ (n : ℕ). length (open_pairs n c.end_pairs-trials.new.board)) e
