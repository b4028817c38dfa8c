use Rattle.std.proofs.Common.{◌≡◌, drop, map}
use Rattle.std.specs.List.{list_all}
use Rattle.vast.specs.TokenTexts.{texts}
use Rattle.vast.specs.Modules.{fits_instance}
use Rattle.vast.specs.ModuleTrees.{instance_tree}
use Rattle.vspell.proofs.module_parts_fit.instances_fit.Given as goal

abbrev pub invariant-loop-instance : goal.invariant-loop-instance
invariant-loop-instance l =
    list_all (fits_instance l.levels) (map (instance_tree (texts l.words)) (drop l.instance-index l.instances))
    ≡ list_all (fits_instance l.levels) (map (instance_tree (texts l.words)) l.instances)
