use Rattle.std.proofs.Common.{◌≡◌, ◌++◌, drop, map}
use Rattle.vast.specs.TokenTexts.{texts}
use Rattle.vspell.specs.Spellings.{texts_of}
use Rattle.vast.specs.Statements.{with_commas}
use Rattle.vast.specs.Modules.{spell_instance}
use Rattle.vast.specs.ModuleTrees.{instance_tree}
use Rattle.vspell.specs.Inner.{listed_from}
use Rattle.vspell.proofs.module_parts_spelling.put_instances.Given as goal

abbrev pub invariant-loop-instance : goal.invariant-loop-instance
invariant-loop-instance l =
    texts_of l.out.items ++ listed_from l.first spell_instance (map (instance_tree (texts l.words)) (drop l.instance-index l.instances))
    ≡ texts_of l.initial.out.items ++ with_commas spell_instance (map (instance_tree (texts l.words)) l.instances)
