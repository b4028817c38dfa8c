use Rattle.std.proofs.Common.{option_map, subst}
use Rattle.basis.specs.Reasons.{Because}
use Rattle.vast.specs.NumberedTrees.{source_tree}
use Rattle.vexpr_parse.specs.Texts.{words_of}
use Rattle.vhierarchy.specs.Reasons.{HasNoDesign, IsDesignReason}
use Rattle.vrace.proofs.design.design_of_tree.Goals as goal

pub returns-in-Err-Fault-clause-err : goal.returns-in-Err-Fault-clause-err
returns-in-Err-Fault-clause-err c = λ source cut is.
    let tree = source_tree (words_of c.args.tokens.now) c.args.tree.now in
    let top = option_map (λ name. name.now) c.args.top in
    c.of_design.ensures source tree top cut is
    (subst (Because (IsDesignReason tree top)) c.in-Err-Fault.field-0-is c.in-Err-Fault.ensures.reason)
    (subst (Because (λ _. HasNoDesign tree top)) c.in-Err-Fault.field-0-is c.in-Err-Fault.ensures.none)
