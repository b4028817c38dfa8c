use Rattle.std.proofs.Common.{◌∷◌, ◌++◌, [], List, codes, refl, sym, ap, ◌∙◌, subst}
use Rattle.vast.specs.Leaves.{head_leaves, if_some, module_leaves}
use Rattle.vast.specs.ModuleTrees.{module_tree as tree_of_module}
use Rattle.vast.specs.TokenTexts.{token_text}
use Rattle.vast.specs.declared.token.Token.{Token}
use Rattle.vexpr_parse.specs.Answers.{ahead, leaves_ahead}
use Rattle.vexpr_parse.specs.Readers.{and_then}
use Rattle.vexpr_parse.specs.Texts.{words_of}
use Rattle.vexpr_parse.proofs.Complete.{past_word}
use Rattle.vexpr_parse.proofs.Kept.{kept_behind}
use Rattle.vgrammar.specs.Statements.{name_word}
use Rattle.vstatement_parse.specs.Gives.{Answered}
use Rattle.vparse.specs.ModuleGives.{all_leaves, module_headed, module_named, module_at}
use Rattle.vparse.proofs.ModuleForms.{module_is}
use Rattle.vparse.proofs.PlainWords.{module_plain}
use Rattle.vparse.proofs.module_trees.module_tree.Goals as goal

pub returns-clause-gives : goal.returns-clause-gives
returns-clause-gives g c =
    let words = words_of c.args.tokens.now in
    let left = ahead c.args.tokens.now in
    subst (λ a. Answered (tree_of_module words) a (left c.module_after_parameters.new.cursor) c.module_after_parameters.result)
    (sym (module_is (left c.args.cursor.now)
    ∙ ap module_at c.in_ok-symbol.ensures.passes
    ∙ past_word (codes "module") (λ ws. and_then (name_word ws) module_named) (left c.symbol.new.self)
    ∙ ap (λ a. and_then a module_named) c.in_ok-name.ensures.gives
    ∙ ap (λ a. and_then a (module_headed (token_text words c.in_ok-name.name))) c.in_ok-parameters.ensures.gives))
    c.module_after_parameters.ensures.gives

pub returns-clause-kept : goal.returns-clause-kept
returns-clause-kept g c =
    let left = leaves_ahead c.args.tokens.now in
    let heads : List Token = if_some (all_leaves head_leaves) c.in_ok-parameters.parameters in
    kept_behind module_leaves c.module_after_parameters.result (left c.args.cursor.now) []
    (c.in_ok-name.name ∷ heads ++ left c.optional_heads.new.cursor) (left c.module_after_parameters.new.cursor) refl
    (c.in_ok-symbol.ensures.kept module_plain ∙ c.in_ok-name.ensures.kept ∙ ap (λ (l : List Token). c.in_ok-name.name ∷ l) c.in_ok-parameters.ensures.kept)
    c.module_after_parameters.ensures.kept
