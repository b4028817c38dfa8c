use Rattle.std.proofs.Common.{◌≡◌, drop, map}
use Rattle.std.specs.List.{list_all}
use Rattle.vast.specs.TokenTexts.{texts}
use Rattle.vast.specs.Modules.{fits_connection}
use Rattle.vast.specs.ModuleTrees.{connection_tree}
use Rattle.vspell.proofs.module_parts_fit.each_connection_fits.Given as goal

abbrev pub invariant-loop-connection : goal.invariant-loop-connection
invariant-loop-connection l =
    list_all (fits_connection l.levels) (map (connection_tree (texts l.words)) (drop l.connection-index l.connections))
    ≡ list_all (fits_connection l.levels) (map (connection_tree (texts l.words)) l.connections)
