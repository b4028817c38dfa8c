use Rattle.vexpr_parse.specs.Texts.{words_of}
use Rattle.vexpr_parse.specs.Answers.{ahead, leaves_ahead}
use Rattle.std.proofs.Common.{codes, sym, ◌∙◌, ◌++◌, ◌∷◌, []}
use Rattle.vast.specs.TokenTexts.{token_text}
use Rattle.vexpr_parse.specs.Readers.{past, is_front}
use Rattle.vgrammar.specs.Statements.{name_word}
use Rattle.vgrammar.proofs.ManyTurns.{pushed}
use Rattle.vstatement_parse.proofs.StatementTurns.{name_eats}
use Rattle.vstatement_parse.proofs.KeptLists.{name_next}
use Rattle.vstatement_parse.proofs.paths.more_names.Goals as goal

pub names-smaller : goal.names-smaller
names-smaller c =
    let words = words_of c.args.tokens.now in
    let left = ahead c.args.tokens.now in
    name_eats (left c.names.cursor) (token_text words c.in_ok-name.name) (left c.further_name.new.cursor) c.in_ok-name.ensures.gives

pub names-preserved : goal.names-preserved
names-preserved c =
    let words = words_of c.args.tokens.now in
    let left = ahead c.args.tokens.now in
    record {
      read =
          pushed (token_text words) (is_front (codes ".")) (past (codes ".") name_word) name_eats (left c.names.cursor)
          (sym c.begins.ensures.front ∙ c.names-test.true) c.names.names.items c.push-in-names.new.self.items c.in_ok-name.name
          (left c.further_name.new.cursor) _ c.in_ok-push-2.ensures.items c.in_ok-name.ensures.gives c.names.invariant.read;
      kept =
          name_next c.names.names.items c.push-in-names.new.self.items c.in_ok-name.name ((c.args.first ∷ []) ++ leaves_ahead c.args.tokens.now c.args.cursor.now)
          (leaves_ahead c.args.tokens.now c.names.cursor) (leaves_ahead c.args.tokens.now c.further_name.new.cursor)
          c.in_ok-push-2.ensures.items c.in_ok-name.ensures.kept c.names.invariant.kept;
    }
