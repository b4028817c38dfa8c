use Rattle.std.proofs.Common.{◌≡◌, None, ap, sym, subst, slice_get, ◌∙◌}
use Rattle.std.specs.Prelude.{option_and_then}
use Rattle.vexpr_parse.specs.Texts.{words_of}
use Rattle.vmodules.specs.Hierarchy.{module_of}
use Rattle.vmodules.specs.Inner.{Units, units_tree, unit_tree}
use Rattle.vmodules.proofs.HierarchyLemmas.{found_unit, unit_there}
use Rattle.vmodules.proofs.hierarchy.Modules.module_of.Goals as goal

pub returns-in-None : goal.returns-in-None
returns-in-None c =
    let units : Units = record { words = words_of c.self.inside.tokens.now; list = c.self.inside.list.now } in
    subst (λ (u : Units). None ≡ module_of (units_tree u) c.args.name.now) c.self.view_is
    (ap (option_and_then (slice_get (units_tree units))) (sym c.in-None.is)
    ∙ found_unit units c.self.inside.names c.args.name.now c.place.result c.self.invariant c.place.ensures.place)

pub returns-in-Some : goal.returns-in-Some
returns-in-Some c =
    let units : Units = record { words = words_of c.self.inside.tokens.now; list = c.self.inside.list.now } in
    subst (λ (u : Units). unit_tree u.words c.at.result ≡ module_of (units_tree u) c.args.name.now) c.self.view_is
    (unit_there units.words units.list c.in-Some.place c.at.result c.at.ensures
    ∙ ap (option_and_then (slice_get (units_tree units))) (sym c.in-Some.is)
    ∙ found_unit units c.self.inside.names c.args.name.now c.place.result c.self.invariant c.place.ensures.place)
