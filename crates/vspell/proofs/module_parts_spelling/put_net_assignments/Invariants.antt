use Rattle.std.proofs.Common.{◌≡◌, ◌++◌, drop, map}
use Rattle.vast.specs.TokenTexts.{texts}
use Rattle.vspell.specs.Spellings.{texts_of}
use Rattle.vast.specs.Statements.{with_commas}
use Rattle.vast.specs.Modules.{spell_net_assignment}
use Rattle.vast.specs.ModuleTrees.{net_assignment}
use Rattle.vspell.specs.Inner.{listed_from}
use Rattle.vspell.proofs.module_parts_spelling.put_net_assignments.Given as goal

abbrev pub invariant-loop-one : goal.invariant-loop-one
invariant-loop-one l =
    texts_of l.out.items ++ listed_from l.first spell_net_assignment (map (net_assignment (texts l.words)) (drop l.one-index l.list))
    ≡ texts_of l.initial.out.items ++ with_commas spell_net_assignment (map (net_assignment (texts l.words)) l.list)
