-- *internal*: What the steps of elaboration are told by and answer.
use Rattle.std.specs.Prelude.{◌≤◌, ℕ, ◌-◌, if◌then◌else◌, List, ◌++◌, map, take, Option, None, Some, option_map}
use Rattle.std.specs.List.{flat_map}
use Rattle.vbits.specs.declared.bit4.Bit4.{Bit4}
use Rattle.vdesign.specs.declared.expression.Bounds.{Bounds}
use Rattle.vlex.specs.Bytes.{is_underscore}
use Rattle.vwords.specs.Words.{Text}
use Rattle.vast.specs.declared.statement.Path.{Path}
use Rattle.vdesign.specs.declared.dump.Chosen.{Chosen}
use Rattle.velab_expr.specs.Selections.{chosen_of, dotted_path}
use Rattle.vast.specs.NumberedTrees.{path_tree}
use Rattle.vast.specs.NumberedTrees.{range_tree, item_tree}
use Rattle.vast.specs.declared.module.ModuleItem.{ModuleItem}
use Rattle.vast.specs.declared.module.Bounds.{Bounds as Written}
use Rattle.velab_expr.specs.Scopes.{Scope}
use Rattle.velab_expr.specs.Literals.{digit_letters}
use Rattle.velab_expr.specs.Ranges.{span}
use Rattle.velab_expr.specs.Symbols.{Symbol, symbols_by}

-- the letters of 64 bits after those of one digit more came in on the right
abbrev pub shifted_letters : ℕ → ℕ → List Bit4 → List Bit4
shifted_letters count c letters = if is_underscore c then letters else digit_letters count c ++ take (64 - count) letters

-- bounds that are at most 64 bits apart
abbrev pub IsNarrow : Option Bounds → Type 0
IsNarrow None = Unit {0}
IsNarrow (Some bounds) = span bounds ≤ 64

abbrev pub symbols_in : List Text → List ModuleItem → List Symbol
symbols_in words items = flat_map symbols_by (map (item_tree words) items)

-- the scopes of paths, each with so many levels
abbrev pub all_chosen : List Text → ℕ → List Path → List Chosen
all_chosen words levels paths = map (λ names. chosen_of levels (dotted_path names)) (map (path_tree words) paths)
