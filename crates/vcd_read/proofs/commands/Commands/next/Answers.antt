use Rattle.std.proofs.Common.{[], ◌∷◌, ◌++◌, Option, Some, ap, subst, ◌∙◌, arith}
use Rattle.vcd_read.specs.Words.{Text}
use Rattle.vcd_read.specs.Bytes.{left, Come}
use Rattle.vcd_read.specs.Telling.{Tell, items_of}
use Rattle.vcd_read.proofs.WordLemmas.{all_come, words_come}
use Rattle.vcd_read.proofs.TellLemmas.{all_told, tell_then}
use Rattle.vcd_read.proofs.commands.Commands.next.Goals as goal

pub returns-else-self-clause-end : goal.returns-else-self-clause-end
returns-else-self-clause-end g c =
    let (list, come, tell) = c.commands.invariant.come in
    let first = left g.R.Read.remaining c.args.self.now.words.bytes in
    let old = left g.R.Read.remaining c.commands.self.words.bytes in
    let new = left g.R.Read.remaining c.next.new.self.bytes in (
      list,
      all_come list first old new come (c.in_ok-next.ensures.end c.if-not-branch.true),
      all_told c.args.self.now.inside c.commands.self.inside list tell c.if-self.false,
    )

pub returns-in-Some-clause-item : goal.returns-in-Some-clause-item
returns-in-Some-clause-item g c =
    let (list, come, tell) = c.commands.invariant.come in
    let (more, coming, telling) = c.in_ok-item.ensures.tell in
    let first = left g.R.Read.remaining c.args.self.now.words.bytes in
    let old = left g.R.Read.remaining c.commands.self.words.bytes in
    let next = left g.R.Read.remaining c.next.new.self.bytes in
    let new = left g.R.Read.remaining c.command.new.self.words.bytes in
    let word : Text = c.deref.result.now in (
      list ++ word ∷ more,
      words_come list more c.next.new.self.word.items word first old next new come (c.in_ok-next.ensures.word c.if-not-branch.false)
          (c.deref.ensures.value ∙ c.take_word-word.ensures.word)
          (subst (λ b. Come more (left g.R.Read.remaining b) new) c.take_word-word.ensures.bytes coming),
      tell_then list (word ∷ more) c.args.self.now.inside c.commands.self.inside c.command.new.self.inside [] (items_of (Some c.in-Some.item)) tell
          (subst (λ (told : Option _). Tell (word ∷ more) c.commands.self.inside c.command.new.self.inside (items_of told)) c.in-Some.is telling),
    )

pub commands-preserved : goal.commands-preserved
commands-preserved g c =
    let (list, come, tell) = c.commands.invariant.come in
    let (more, coming, telling) = c.in_ok-item.ensures.tell in
    let first = left g.R.Read.remaining c.args.self.now.words.bytes in
    let old = left g.R.Read.remaining c.commands.self.words.bytes in
    let next = left g.R.Read.remaining c.next.new.self.bytes in
    let new = left g.R.Read.remaining c.command.new.self.words.bytes in
    let word : Text = c.deref.result.now in
    record {
      ready = c.command.ensures.ready;
      budget = omega (arith, c.commands.invariant.budget, c.in_ok-next.ensures.budget c.if-not-branch.false, ap (λ b. b.budget) c.take_word-word.ensures.bytes, c.in_ok-item.ensures.budget);
      come = (
        list ++ word ∷ more,
        words_come list more c.next.new.self.word.items word first old next new come (c.in_ok-next.ensures.word c.if-not-branch.false)
            (c.deref.ensures.value ∙ c.take_word-word.ensures.word)
            (subst (λ b. Come more (left g.R.Read.remaining b) new) c.take_word-word.ensures.bytes coming),
        tell_then list (word ∷ more) c.args.self.now.inside c.commands.self.inside c.command.new.self.inside [] [] tell
            (subst (λ (told : Option _). Tell (word ∷ more) c.commands.self.inside c.command.new.self.inside (items_of told)) c.in_default.is telling),
      );
    }
