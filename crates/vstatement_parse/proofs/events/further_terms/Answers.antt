use Rattle.vexpr_parse.specs.Texts.{words_of}
use Rattle.vexpr_parse.specs.Answers.{ahead, leaves_ahead}
use Rattle.std.proofs.Common.{sym, ◌∙◌}
use Rattle.vast.specs.StatementTrees.{further_term as further_tree}
use Rattle.vgrammar.specs.Statements.{further_term}
use Rattle.vgrammar.specs.Starts.{comma_of, is_meant}
use Rattle.vgrammar.proofs.ManyTurns.{pushed}
use Rattle.vstatement_parse.proofs.StatementTurns.{further_eats}
use Rattle.vast.specs.Leaves.{further_leaves}
use Rattle.vstatement_parse.proofs.KeptLists.{kept_next}
use Rattle.vstatement_parse.proofs.events.further_terms.Goals as goal

pub terms-smaller : goal.terms-smaller
terms-smaller c =
    let words = words_of c.args.tokens.now in
    let left = ahead c.args.tokens.now in
    further_eats (left c.terms.cursor) (further_tree words c.in_ok-term.term) (left c.further_term.new.cursor) c.in_ok-term.ensures.gives

pub terms-preserved : goal.terms-preserved
terms-preserved c =
    let words = words_of c.args.tokens.now in
    let left = ahead c.args.tokens.now in
    record {
      read =
          pushed (further_tree words) (is_meant comma_of) further_term further_eats (left c.terms.cursor) (sym c.goes_on.ensures ∙ c.terms-test.true)
          c.terms.terms.items c.push.new.self.items c.in_ok-term.term (left c.further_term.new.cursor) _ c.in_ok-push.ensures.items
          c.in_ok-term.ensures.gives c.terms.invariant.read;
      kept =
          kept_next further_leaves c.terms.terms.items c.push.new.self.items c.in_ok-term.term (leaves_ahead c.args.tokens.now c.args.cursor.now)
          (leaves_ahead c.args.tokens.now c.terms.cursor) (leaves_ahead c.args.tokens.now c.further_term.new.cursor)
          c.in_ok-push.ensures.items c.in_ok-term.ensures.kept c.terms.invariant.kept;
    }
