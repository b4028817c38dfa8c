use Rattle.std.proofs.Common.{◌≡◌, drop, map}
use Rattle.std.specs.List.{list_all}
use Rattle.vast.specs.TokenTexts.{texts}
use Rattle.vast.specs.Modules.{fits_net_assignment}
use Rattle.vast.specs.ModuleTrees.{net_assignment}
use Rattle.vspell.proofs.module_parts_fit.net_assignments_fit.Given as goal

abbrev pub invariant-loop-one : goal.invariant-loop-one
invariant-loop-one l =
    list_all (fits_net_assignment l.levels) (map (net_assignment (texts l.words)) (drop l.one-index l.list))
    ≡ list_all (fits_net_assignment l.levels) (map (net_assignment (texts l.words)) l.list)
