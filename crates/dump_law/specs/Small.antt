-- *internal*: How large a design is that a text stands for, as far as its dumps show it.
use Rattle.std.specs.Prelude.{◌≤◌, ◌+◌, Option, Some, None, All, length}
use Rattle.module_size.specs.Sizes.{size_of}
use Rattle.vdesign.specs.Design.{Variable, Scope, Design}
use Rattle.vdesign.specs.declared.expression.Bounds.{Bounds}

-- the bounds of a range (4.3.1)
abbrev pub AreSmallBounds : Option Bounds → Type 0
AreSmallBounds None = Unit {0}
AreSmallBounds (Some bounds) = (bounds.left ≤ 65535) × (bounds.right ≤ 65535)

-- a variable of at most 64 bits
abbrev pub IsSmallVariable : Variable → Type 0
IsSmallVariable variable = (variable.length ≤ 64) × AreSmallBounds variable.bounds

-- a scope that at most 15 stand round; its path ends with its name (12.5)
abbrev pub IsShallow : Scope → Type 0
IsShallow scope = (scope.depth ≤ 15) × (length scope.name ≤ length scope.path)

-- at most 1,024 such variables and 1,025 such scopes, whose names and paths have at most 1,048,576 bytes together
pub record IsSmall (design : Design) : Type 0 where
  pub variables : length design.variables ≤ 1024
  pub scopes : length design.scopes ≤ 1025
  pub letters : size_of (λ v. length v.name) design.variables + size_of (λ s. length s.path) design.scopes ≤ 1048576
  pub narrow : All IsSmallVariable design.variables
  pub shallow : All IsShallow design.scopes
