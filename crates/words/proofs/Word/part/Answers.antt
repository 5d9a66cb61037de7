-- `Word::part` meets its contract: a part of a word is of letters alone, and no longer than the word.
use Rattle.std.proofs.Common.{◌-◌, arith, drop, length-take, length-drop}
use Rattle.abelian.proofs.Counts.{letters-take, letters-drop}
use Rattle.words.specs.Prefixes.{IsWord}
use Rattle.words.proofs.Word.part.Goals as goal

pub invariant_of-result : goal.invariant_of-result
invariant_of-result c =
    let letters = c.letters-letters.result.now in
    let size = c.args.to - c.args.from in
    let word : IsWord letters = rw c.letters-letters.ensures.value c.letters-letters.ensures.word in
    record {
      all = letters-take size (drop c.args.from letters) (letters-drop c.args.from letters word.all);
      short = omega (arith, word.short, length-take size (drop c.args.from letters), length-drop c.args.from letters);
    }
