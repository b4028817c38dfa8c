-- *trusted*: A design as the definitions see it: the variables (IEEE 1364-2005, clause 4) and scopes (12.5) of a hierarchy, and one table of
-- actions, in which statements are numbered; the standard has no such table.
use Rattle.std.specs.Prelude.{ℕ, Bool, List, Option}
use Rattle.vbits.specs.Vectors.{Vector}
use Rattle.basis.specs.declared.timescale.Timescale.{Timescale}
use Rattle.vdesign.specs.declared.design.Kind.{Kind}
use Rattle.vdesign.specs.declared.expression.Bounds.{Bounds}
use Rattle.vdesign.specs.declared.action.Action.{Action}

-- 4.2: a variable; its name is its scopes' names from the top's on and its own, joined by dots
pub record Variable : Type 0 where
  pub name : List ℕ
  pub kind : Kind
  pub length : ℕ
  pub signed : Bool
  pub start : Vector  -- 4.2.1, 4.2.2: what it is until it is first written
  pub bounds : Option Bounds

-- 12.1, 12.5: an instance or the top, its name, its path (the names of the scopes round it from the top's on and its own, joined by
-- dots), how many scopes are round it, and how many variables are its own
pub record Scope : Type 0 where
  pub name : List ℕ
  pub path : List ℕ
  pub depth : ℕ
  pub variables : ℕ

-- variables, scopes, actions and processes go by their numbers, from 0; an action's number is its place
pub record Design : Type 0 where
  pub top : List ℕ
  pub scale : Timescale  -- 19.8
  pub variables : List Variable
  pub scopes : List Scope
  pub actions : List Action
  pub processes : List (List ℕ)  -- the places at which each begins, in order (9.9.1, 9.9.2, 6.1)
