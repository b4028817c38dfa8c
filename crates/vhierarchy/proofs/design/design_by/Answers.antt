use Rattle.std.proofs.Common.{◌≡◌, List, length, ap, ◌∙◌, arith}
use Rattle.std.proofs.lemmas.List.{with_items_is}
use Rattle.std.specs.Vec.{with_items}
use Rattle.vdesign.specs.Design.{Variable}
use Rattle.velab_declaration.specs.Drives.{with_start_values}
use Rattle.velab_process.specs.Statements.{Table}
use Rattle.vhierarchy.specs.Instances.{PartialDesign, driven_in}
use Rattle.vhierarchy.specs.Inner.{with_starts}
use Rattle.vhierarchy.proofs.DesignLemmas.{all_started}
use Rattle.vhierarchy.proofs.design.design_by.Goals as goal

pub returns : goal.returns
returns c =
    let part : PartialDesign = c.args.part in
    let before = ap (λ (l : List Variable). length l) c.deref_mut.ensures.value in
    let long : length c.start_all.new.variables ≡ c.part.inside.variables.len = omega (arith, c.start_all.auto.variables, before, c.part.inside.variables.ok.0) in
    let variables : (with_items c.part.inside.variables c.start_all.new.variables).items ≡ with_start_values (driven_in part) 0 part.variables =
    with_items_is c.part.inside.variables c.start_all.new.variables long
    ∙ c.start_all.ensures
    ∙ (λ i. with_starts ((c.deref_mut.ensures.value ∙ ap (λ (p : PartialDesign). p.variables) c.part.view_is) i) (c.requires.starts i))
    ∙ all_started (driven_in part) 0 part.variables in
    let actions = ap (λ (t : Table). t.actions) c.table.view_is ∙ ap (λ (p : PartialDesign). p.table.actions) c.part.view_is in
    λ i. record {
      top = c.in_ok-from_slice.ensures.items i;
      scale = c.args.scale;
      variables = variables i;
      scopes = (c.part.view_is i).scopes;
      actions = actions i;
      processes = (c.part.view_is i).begins;
    }
