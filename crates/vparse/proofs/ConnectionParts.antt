-- What a connection is made of.
use Rattle.std.proofs.Common.{◌≡◌, Box, List, Option, None, Some, option_map, refl}
use Rattle.vwords.specs.Words.{Text}
use Rattle.vast.specs.ExpressionTrees.{boxed_tree}
use Rattle.vast.specs.Modules.{ConnectionTree}
use Rattle.vast.specs.declared.expression.Expression.{Expression}
use Rattle.vgrammar.specs.Parts.{both}
use Rattle.vgrammar.specs.Modules.{connection_of}
use Rattle.vparse.specs.ModuleGives.{value_part}

abbrev connected : {T : Type 0} → List Text → Text → Option (Box Expression T) → ConnectionTree
connected text letters value = record { name = letters; value = option_map (boxed_tree text) value }

pub connection_made : {T : Type 0} (text : List Text) (letters : Text) (value : Option (Box Expression T)) →
    connection_of (both letters (value_part text value)) ≡ connected text letters value
connection_made text letters None = refl
connection_made text letters (Some tree) = refl
