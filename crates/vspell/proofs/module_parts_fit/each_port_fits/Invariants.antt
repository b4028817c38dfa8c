use Rattle.std.proofs.Common.{◌≡◌, drop, map}
use Rattle.std.specs.List.{list_all}
use Rattle.vast.specs.TokenTexts.{texts}
use Rattle.vast.specs.Modules.{fits_port}
use Rattle.vast.specs.ModuleTrees.{port_tree}
use Rattle.vspell.proofs.module_parts_fit.each_port_fits.Given as goal

abbrev pub invariant-loop-port : goal.invariant-loop-port
invariant-loop-port l =
    list_all (fits_port l.levels) (map (port_tree (texts l.words)) (drop l.port-index l.ports))
    ≡ list_all (fits_port l.levels) (map (port_tree (texts l.words)) l.ports)
