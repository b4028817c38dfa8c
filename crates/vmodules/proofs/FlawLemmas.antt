-- What is wrong with ports: which flaw is told first.
use Rattle.std.proofs.Common.{◌≡◌, List, ◌∷◌, Bor, Option, None, Some, is_some, false, option_map, Result, Ok, Err, sym, ap, ◌∙◌}
use Rattle.std.specs.Option.{option_or}
use Rattle.basis.specs.Reasons.{IfFault}
use Rattle.basis.specs.declared.memory.OrMemory.{OrMemory}
use Rattle.basis.specs.declared.memory.OrMemory.TheVariants.{Fault, Memory}
use Rattle.vwords.specs.Words.{Text}
use Rattle.vast.specs.NumberedWords.{Word, word_of}
use Rattle.vast.specs.NumberedModules.{DirectionTree}
use Rattle.vast.specs.NumberedTrees.{module_tree, port_tree}
use Rattle.vast.specs.declared.module.Direction.{Direction}
use Rattle.vast.specs.declared.module.Port.{Port}
use Rattle.vast.specs.declared.module.ModuleTree.{ModuleTree as Parsed}
use Rattle.vast.specs.declared.token.Token.{Token}
use Rattle.vmodules.specs.Names.{letters_of, first_again}
use Rattle.vmodules.specs.Ports.{listed_names}
use Rattle.vmodules.specs.Misdeclared.{Misdeclared, misdeclared_at, stray, port_flaw, valued_net, valued_behind}
use Rattle.vmodules.specs.Inner.{again_told, besides_told, direction_of, first_not, flaw_told, items_told, listed_valued, plain_words, port_trees, told_as, words_told, IsFlaw}
use Rattle.vmodules.specs.declared.misdeclared.PortFlaw.TheVariants as flaw
use Rattle.vmodules.specs.declared.misdeclared.Declaring.TheVariants as how
use Rattle.vmodules.specs.declared.misdeclared.Misdeclared.{Misdeclared as PortFault}

-- ---- of two that may be told, the first

pub none_told : (a b : Option Misdeclared) → a ≡ None → b ≡ None → option_or a b ≡ None
none_told a b no_first no_second = ap (λ o. option_or o b) no_first ∙ no_second

pub told_behind : (a b : Option Misdeclared) (fault : PortFault) → a ≡ None → IsFlaw b fault → IsFlaw (option_or a b) fault
told_behind a b fault none is = ap (λ o. option_map flaw_told (option_or o b)) none ∙ is

-- a fault that means another one, too
pub told_still : {T F : Type 0} (P Q : F → Type 0) (result : Result T (OrMemory F)) → ((f : F) → P f → Q f) → IfFault result P → IfFault result Q
told_still P Q (Ok x) leads p = tt
told_still P Q (Err (Fault f)) leads p = leads f p
told_still P Q (Err (Memory m)) leads p = tt

-- ---- what is told of a module, by what was collected of it

module _ (words names : List Text) (unit : Parsed) (first plain : List Token)
    (are : words_told words first ≡ plain_words words unit.ports) (same : words_told words plain ≡ plain_words words unit.ports)
    (is : names ≡ letters_of (words_told words first)) where
  pub unit_is : option_or (again_told words flaw.Doubled first) (items_told words names plain unit) ≡ port_flaw (module_tree words unit)
  unit_is = λ i.
      option_or (misdeclared_at flaw.Doubled (first_again (are i)))
      (option_or (stray (listed_names (module_tree words unit).ports) (first_not ((is ∙ ap letters_of are) i) (told_as words how.Ports unit.items.items)))
      (option_or (misdeclared_at flaw.Doubled (first_again (told_as words how.Ports unit.items.items)))
      (option_or (misdeclared_at flaw.Undeclared (first_not (letters_of (told_as words how.Ports unit.items.items)) (same i)))
      (besides_told words ((is ∙ ap letters_of are) i) unit.items.items))))

-- ---- values of ports

-- behind a port of a list, where it has no value that it may not have
pub later_listed : (words : List Text) (rest behind : List Port) (x : Port) (before next : Option (Bor Direction)) (found : Option Token) (told : Option Word) → rest ≡ x ∷ behind →
    direction_of words next ≡ option_or (port_tree words x).direction (direction_of words before) →
    option_map (word_of words) found ≡ valued_net (direction_of words next) (port_tree words x).name (port_tree words x).value → is_some found ≡ false →
    listed_valued words before rest ≡ told → listed_valued words next behind ≡ told
later_listed words rest behind x before next (Some t) told is way one none same = absurd cc
later_listed words rest behind x before next None told is way one none same =
    let others : Option DirectionTree → Option Word = λ direction. valued_behind direction (port_trees words behind) in
    ap (λ (o : Option Word). option_or o (others (direction_of words next))) one
    ∙ ap (λ (direction : Option DirectionTree). option_or (valued_net direction (port_tree words x).name (port_tree words x).value) (others direction)) way
    ∙ sym (ap (listed_valued words before) is)
    ∙ same
