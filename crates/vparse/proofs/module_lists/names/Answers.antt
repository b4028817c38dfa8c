use Rattle.std.proofs.Common.{refl}
use Rattle.vast.specs.TokenTexts.{token_text}
use Rattle.vgrammar.specs.Statements.{name_word}
use Rattle.vparse.proofs.ListKinds.{named_eats}
use Rattle.vparse.proofs.KeptLists.{names_kept}
use Rattle.vparse.proofs.ListTurns.{list_given}
use Rattle.vparse.proofs.module_lists.names.Goals as goal

pub returns-clause-gives : goal.returns-clause-gives
returns-clause-gives c =
    list_given token_text name_word named_eats c.args.tokens.now _ (λ old new result e. e.0)
    _ c.in_ok-first.first c.args.cursor.now c.name_word.new.cursor
    c.list_until.new.cursor c.list_until.result c.in_ok-first.ensures.gives c.list_until.ensures.lists

pub returns-clause-kept : goal.returns-clause-kept
returns-clause-kept c =
    names_kept c.args.tokens.now _ (λ old new result e. e.1) c.in_ok-first.first c.args.cursor.now c.name_word.new.cursor
    c.list_until.new.cursor c.list_until.result c.in_ok-first.ensures.kept (c.list_until.ensures.kept refl)
