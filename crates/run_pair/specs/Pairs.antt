-- *product rule*: `Pairs` (docs/FORMATS.md, "A dump of both runs"): a design that has each scope and variable of another one twice.
use Rattle.std.specs.Prelude.{◌≡◌, ℕ, suc, min, ◌-◌, ◌^◌, List, [], ◌∷◌, ◌++◌, map, codes}
use Rattle.vdesign.specs.Design.{Variable, Scope, Design}
use Rattle.vdesign.specs.declared.action.Action.TheVariants.{DumpVars}

-- the name, or the path, of what stands in a scope: the scope's, a dot, and what it is called in the other design
abbrev pub name_in : List ℕ → List ℕ → List ℕ
name_in scope name = scope ++ 46 ∷ name

abbrev pub variable_in : List ℕ → Variable → Variable
variable_in scope v = record v { name = name_in scope v.name }

-- depths are kept in 32 bits
abbrev pub scope_in : List ℕ → Scope → Scope
scope_in around s = record s { path = name_in around s.path; depth = min (suc s.depth) (2 ^ 32 - 1) }

-- a scope round all others, without a variable of its own
abbrev pub top_scope : List ℕ → Scope
top_scope name = record { name = name; path = name; depth = 0; variables = 0 }

abbrev pub variables_in : List ℕ → List Variable → List Variable
variables_in scope variables = map (variable_in scope) variables

abbrev pub scopes_in : List ℕ → List Scope → List Scope
scopes_in around scopes = top_scope around ∷ map (scope_in around) scopes

-- the scopes and variables of the design once in `default` and once in `departed`, and a $dumpvars of all (18.1.2); nothing runs
abbrev pub pair : Design → Design
pair design = record {
  top = design.top;
  scale = design.scale;
  variables = variables_in (codes "default") design.variables ++ variables_in (codes "departed") design.variables;
  scopes = scopes_in (codes "default") design.scopes ++ scopes_in (codes "departed") design.scopes;
  actions = DumpVars [] ∷ [];
  processes = [];
}
