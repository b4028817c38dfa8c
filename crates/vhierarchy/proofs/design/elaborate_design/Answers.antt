use Rattle.std.proofs.Common.{◌≡◌, List, [], map, Option, None, ap, sym, subst, ◌∙◌}
use Rattle.basis.specs.Reasons.{Because}
use Rattle.vwords.specs.Words.{Text}
use Rattle.vast.specs.NumberedModules.{SourceTree}
use Rattle.vast.specs.NumberedTrees.{source_tree, module_tree}
use Rattle.vast.specs.declared.module.ModuleTree.{ModuleTree as Parsed}
use Rattle.vexpr_parse.specs.Texts.{words_of}
use Rattle.vmodules.specs.Names.{first_again}
use Rattle.vmodules.specs.Inner.{unit_names, units_tree, named_text}
use Rattle.velab_declaration.specs.Inner.{DoublesIn}
use Rattle.velab_expr.specs.Rules.{IsBroken}
use Rattle.vhierarchy.specs.Instances.{as_design, broken_ports, top_whole}
use Rattle.vhierarchy.proofs.StepLemmas.{hands_over, same_given}
use Rattle.vhierarchy.proofs.DesignLemmas.{modules_doubled, ports_broken, ports_sound}
use Rattle.vhierarchy.proofs.design.elaborate_design.Goals as goal

pub returns-in_err-modules : goal.returns-in_err-modules
returns-in_err-modules c =
    let words : List Text = words_of c.args.tokens.now in
    hands_over c.from_residual.result c.in_err-modules.field-0.0 _ c.from_residual.ensures.1
    (modules_doubled (source_tree words c.args.text.now) (named_text c.args.top) c.args.scale c.in_err-modules.field-0.0
    (subst (λ (list : List Parsed). Because (DoublesIn [] (unit_names words list)) c.in_err-modules.field-0.0) c.deref.ensures.value c.in_err-modules.ensures.err))

pub returns-in_err-check_declared_ports : goal.returns-in_err-check_declared_ports
returns-in_err-check_declared_ports c =
    let words : List Text = words_of c.args.tokens.now in
    let tree : SourceTree = source_tree words c.args.text.now in
    let trees : units_tree c.in_ok-modules.modules ≡ tree =
    ap units_tree c.in_ok-modules.ensures.ok ∙ ap (λ (list : List Parsed). map (module_tree words) list) c.deref.ensures.value in
    hands_over c.from_residual-in_err-check_declared_ports.result c.in_err-check_declared_ports.field-0.0 _ c.from_residual-in_err-check_declared_ports.ensures.1
    (ports_broken tree (named_text c.args.top) c.args.scale
    (subst (λ (list : List Parsed). first_again (unit_names words list) ≡ None) c.deref.ensures.value c.in_ok-modules.ensures.right) c.in_err-check_declared_ports.field-0.0
    (subst (λ (modules : SourceTree). Because (IsBroken (broken_ports modules)) c.in_err-check_declared_ports.field-0.0) trees c.in_err-check_declared_ports.ensures.err))

pub returns : goal.returns
returns c =
    let words : List Text = words_of c.args.tokens.now in
    let tree : SourceTree = source_tree words c.args.text.now in
    let top : Option Text = named_text c.args.top in
    let trees : units_tree c.in_ok-modules.modules ≡ tree =
    ap units_tree c.in_ok-modules.ensures.ok ∙ ap (λ (list : List Parsed). map (module_tree words) list) c.deref.ensures.value in
    same_given c.top_design.result _ _
    (ap (λ (modules : SourceTree). as_design c.args.scale (top_whole modules top)) trees
    ∙ sym (ports_sound tree top c.args.scale
    (subst (λ (list : List Parsed). first_again (unit_names words list) ≡ None) c.deref.ensures.value c.in_ok-modules.ensures.right)
    (ap broken_ports (sym trees) ∙ c.in_ok-check_declared_ports.ensures.right)))
    c.top_design.ensures
