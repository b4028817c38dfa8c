-- Ports that are declared again, and ports that items declare.
use Rattle.std.proofs.Common.{◌≡◌, Bool, Option, None, Some, Ok, refl}
use Rattle.vwords.specs.Words.{Text}
use Rattle.vast.specs.NumberedModules.{ItemTree, parameters, declaration, events, assignments, initial, always, instances}
use Rattle.vdesign.specs.declared.expression.Bounds.{Bounds}
use Rattle.vmodules.specs.Ports.{Second, own_item}
use Rattle.vmodules.specs.Placed.{placed_item}
use Rattle.velab_expr.specs.declared.fault.Rule.TheVariants.{Width}
use Rattle.velab_expr.specs.Answers.{require}
use Rattle.velab_expr.specs.Scopes.{Scope}
use Rattle.velab_expr.specs.Ranges.{lower_bounds}
use Rattle.velab_expr.specs.Symbols.{symbols_by, behind_item}
use Rattle.velab_declaration.specs.Variables.{same_bounds, lower_again}
use Rattle.elaboration_law.specs.Widths.{Worth}
use Rattle.elaboration_law.specs.Worths.{is_item_ranged}
use Rattle.elaboration_law.proofs.StepLemmas.{same_value, then_ok, required_ok}

-- a port that is declared again keeps its bounds
pub again_keeps : (scope : Scope) (again : Option Second) (bounds whole : Option Bounds) → lower_again scope again bounds ≡ Ok whole → bounds ≡ whole
again_keeps scope None bounds whole is = same_value bounds whole is
again_keeps scope (Some second) bounds whole is =
    let other = then_ok (lower_bounds scope second.type.range) (λ other. require (same_bounds bounds other) Width (Some second.name) bounds) whole is in
    (required_ok (same_bounds bounds other.0) Width (Some second.name) bounds whole other.2).1

-- an item declares the same parameters without the names of ports
pub same_symbols : (is_port : Text → Bool) (item : ItemTree) → symbols_by (own_item is_port item) ≡ symbols_by item
same_symbols is_port (parameters local type settings) = refl
same_symbols is_port (declaration kind list) = refl
same_symbols is_port (events names) = refl
same_symbols is_port (assignments settings) = refl
same_symbols is_port (initial statement) = refl
same_symbols is_port (always statement) = refl
same_symbols is_port (instances letters overrides list) = refl

pub same_behind : (is_port : Text → Bool) (scope : Scope) (item : ItemTree) → behind_item scope (own_item is_port item) ≡ behind_item scope item
same_behind is_port scope (parameters local type settings) = refl
same_behind is_port scope (declaration kind list) = refl
same_behind is_port scope (events names) = refl
same_behind is_port scope (assignments settings) = refl
same_behind is_port scope (initial statement) = refl
same_behind is_port scope (always statement) = refl
same_behind is_port scope (instances letters overrides list) = refl

-- and so does it in an instance
pub placed_behind : (path : Text) (scope : Scope) (item : ItemTree) → behind_item scope (placed_item path item) ≡ behind_item scope item
placed_behind path scope (parameters local type settings) = refl
placed_behind path scope (declaration kind list) = refl
placed_behind path scope (events names) = refl
placed_behind path scope (assignments settings) = refl
placed_behind path scope (initial statement) = refl
placed_behind path scope (always statement) = refl
placed_behind path scope (instances letters overrides list) = refl

-- and has the same range
pub same_range : (named : Text → Worth) (is_port : Text → Bool) (item : ItemTree) → is_item_ranged named (own_item is_port item) ≡ is_item_ranged named item
same_range named is_port (parameters local type settings) = refl
same_range named is_port (declaration kind list) = refl
same_range named is_port (events names) = refl
same_range named is_port (assignments settings) = refl
same_range named is_port (initial statement) = refl
same_range named is_port (always statement) = refl
same_range named is_port (instances letters overrides list) = refl
