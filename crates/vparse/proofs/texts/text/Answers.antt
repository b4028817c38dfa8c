use Rattle.std.proofs.Common.{sym, ◌∙◌}
use Rattle.vexpr_parse.specs.Answers.{ahead}
use Rattle.vexpr_parse.specs.Texts.{words_of}
use Rattle.vparse.proofs.KeptTexts.{leaves_start}
use Rattle.vparse.proofs.RefusalLaws.{text_derives, text_only}
use Rattle.vparse.proofs.texts.text.Goals as goal

pub returns-in-Ok-clause-derives : goal.returns-in-Ok-clause-derives
returns-in-Ok-clause-derives g c =
    text_derives (words_of c.args.tokens.now) _ (ahead c.args.tokens.now c.source.new.cursor) (c.start-cursor.ensures c.args.tokens.now)
    c.in-Ok.modules c.in-Ok.ensures.gives

pub returns-in-Ok-clause-only : goal.returns-in-Ok-clause-only
returns-in-Ok-clause-only g c =
    text_only (words_of c.args.tokens.now) _ (ahead c.args.tokens.now c.source.new.cursor) (c.start-cursor.ensures c.args.tokens.now)
    c.in-Ok.modules c.in-Ok.ensures.gives

pub returns-in-Ok-clause-leaves : goal.returns-in-Ok-clause-leaves
returns-in-Ok-clause-leaves g c =
    sym c.in-Ok.ensures.kept ∙ leaves_start c.args.tokens.now c.start-cursor.result (c.start-cursor.ensures c.args.tokens.now)
