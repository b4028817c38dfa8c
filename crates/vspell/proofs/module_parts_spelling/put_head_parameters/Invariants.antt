use Rattle.std.proofs.Common.{◌≡◌, ◌++◌, drop, map}
use Rattle.vast.specs.TokenTexts.{texts}
use Rattle.vspell.specs.Spellings.{texts_of}
use Rattle.vast.specs.Statements.{with_commas}
use Rattle.vast.specs.Modules.{spell_head_parameter}
use Rattle.vast.specs.ModuleTrees.{head_parameter}
use Rattle.vspell.specs.Inner.{listed_from}
use Rattle.vspell.proofs.module_parts_spelling.put_head_parameters.Given as goal

abbrev pub invariant-loop-parameter : goal.invariant-loop-parameter
invariant-loop-parameter l =
    texts_of l.out.items ++ listed_from l.first spell_head_parameter (map (head_parameter (texts l.words)) (drop l.parameter-index l.parameters))
    ≡ texts_of l.initial.out.items ++ with_commas spell_head_parameter (map (head_parameter (texts l.words)) l.parameters)
