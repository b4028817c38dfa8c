-- *internal*: Laws of the definitions, which functions of `law` prove.
use Rattle.std.specs.Prelude.{◌≡◌, List, Option}
use Rattle.vwords.specs.Words.{Text}
use Rattle.vast.specs.Modules.{DerivesText, SourceTree as PlainTree}
use Rattle.vast.specs.NumberedModules.{SourceTree}
use Rattle.vast.specs.NumberedTexts.{IsNumbered}
use Rattle.basis.specs.declared.timescale.Timescale.{Timescale}
use Rattle.vdesign.specs.Design.{Design}
use Rattle.vdesign.specs.Named.{AreNamed}
use Rattle.vhierarchy.specs.Instances.{Elaborates}

-- a tree, the name of its top and a timescale stand for one design at most
abbrev pub ElaboratesOneWay : Type 0
ElaboratesOneWay = (tree : SourceTree) (top : Option Text) (scale : Timescale) (design other : Design) →
    Elaborates tree top scale design → Elaborates tree top scale other → design ≡ other

-- 3.7: where the words of a text derive a tree, the names of its design are names
abbrev pub ElaboratesNamed : Type 0
ElaboratesNamed = (words : List Text) (plain : PlainTree) (tree : SourceTree) (top : Option Text) (scale : Timescale) (design : Design) →
    DerivesText words plain → IsNumbered words plain tree → Elaborates tree top scale design → AreNamed design
