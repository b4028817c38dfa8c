use Rattle.vast.specs.NumberedModules.{ModuleTree}
use Rattle.vast.specs.NumberedTrees.{module_tree}
use Rattle.vexpr_parse.specs.Texts.{words_of}
use Rattle.velab_expr.proofs.FaultLemmas.{first_breaks, then_breaks}
use Rattle.vhierarchy.specs.Instances.{broken_paths, broken_table}
use Rattle.vhierarchy.proofs.StepLemmas.{hands_over}
use Rattle.vhierarchy.proofs.DesignLemmas.{wrong}
use Rattle.vhierarchy.proofs.design.checked_design.Goals as goal

pub returns-in_err-check_paths : goal.returns-in_err-check_paths
returns-in_err-check_paths c =
    let words = words_of c.args.tokens.now in
    let m : ModuleTree = module_tree words c.args.unit.now in
    hands_over c.from_residual.result c.in_err-check_paths.field-0.0 _ c.from_residual.ensures.1
    (wrong c.args.scale m c.args.part c.in_err-check_paths.field-0.0
    (first_breaks (broken_paths m.name c.args.part) (broken_table m.name c.args.part) c.in_err-check_paths.field-0.0 (c.in_err-check_paths.ensures.err words)))

pub returns-in_err-starts : goal.returns-in_err-starts
returns-in_err-starts c =
    let words = words_of c.args.tokens.now in
    let m : ModuleTree = module_tree words c.args.unit.now in
    hands_over c.from_residual-in_err-starts.result c.in_err-starts.field-0.0 _ c.from_residual-in_err-starts.ensures.1
    (wrong c.args.scale m c.args.part c.in_err-starts.field-0.0
    (then_breaks (broken_paths m.name c.args.part) (broken_table m.name c.args.part) (c.in_ok-check_paths.ensures.right words) c.in_err-starts.field-0.0 (c.in_err-starts.ensures.err words)))
