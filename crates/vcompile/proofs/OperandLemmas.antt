-- The value of an operand's code is that of the operand.
use Rattle.std.proofs.Common.{◌≡◌, ℕ, zero, suc, true, false, Bool, if◌then◌else◌, nat_le, List, [], ◌∷◌, length, Option, None, Some, sym, subst}
use Rattle.std.specs.Prelude.{slice_get, unwrap_or, option_and_then}
use Rattle.vbits.specs.Vectors.{Vector}
use Rattle.vdesign.specs.Design.{Design}
use Rattle.vdesign.specs.Expressions.{ExpressionTree}
use Rattle.vdesign.specs.declared.action.Target.{Target}
use Rattle.vdesign.specs.declared.action.Action.{Action}
use Rattle.vdesign.specs.declared.action.Action.TheVariants.{Assign, Nonblocking, AssignDelayed, NonblockingDelayed, Test, While, Repeat, Delay, Wait, ContinuousAssign}
use Rattle.vvalue.specs.Value.{Environment, self_determined_value}
use Rattle.expression_code.specs.Guards.{GuardedCode, guarded_value, guarded_expression, guarded_right_side}
use Rattle.expression_code.proofs.GuardLemmas.{expression_is, right_side_guarded}
use Rattle.vmodel.specs.Value.{held_value}
use Rattle.vmodel.specs.Operands.{operand}
use Rattle.vcode.specs.Code.{operand_value}
use Rattle.vcompile.specs.Links.{links_of}
use Rattle.vcompile.specs.Operands.{operand_code, operands_of}
use Rattle.vcompile.specs.CodeOf.{no_code, code_by, code_of}

module _ (now : Environment) (value : Vector) where
  -- where the code of an operand has this value
  abbrev Has : Option GuardedCode → Type 0
  Has code = option_and_then (guarded_value now.values now.time) code ≡ Some value

  by_itself : (tree : ExpressionTree) → Has (Some (guarded_expression now.variables tree)) → value ≡ self_determined_value now tree
  by_itself tree h = expression_is now tree value h

  at_targets : (targets : List Target) (tree : ExpressionTree) → Has (Some (guarded_right_side now.variables targets tree)) → value ≡ held_value now targets tree
  at_targets targets tree h = right_side_guarded now targets tree value h

  of_action : (action : Action) → Has (operand_code now.variables action) → value ≡ operand now action
  of_action (Assign targets tree) h = at_targets targets tree h
  of_action (Nonblocking targets tree) h = at_targets targets tree h
  of_action (AssignDelayed amount targets tree) h = at_targets targets tree h
  of_action (NonblockingDelayed amount targets tree) h = at_targets targets tree h
  of_action (ContinuousAssign targets tree terms) h = at_targets targets tree h
  of_action (Test condition when_true otherwise) h = by_itself condition h
  of_action (While condition body) h = by_itself condition h
  of_action (Wait condition terms body) h = by_itself condition h
  of_action (Repeat count body) h = by_itself count h
  of_action (Delay amount body) h = by_itself amount h
  of_action _ h = absurd cc

  of_place : (actions : List Action) (place : ℕ) (action : Action) → slice_get actions place ≡ Some action →
      Has (unwrap_or (slice_get (operands_of now.variables actions) place) None) → value ≡ operand now action
  of_place [] place action there h = absurd cc
  of_place (one ∷ more) zero action there h =
      let is : one ≡ action = cc in
      subst (λ (a : Action). value ≡ operand now a) is (of_action one h)
  of_place (one ∷ more) (suc place) action there h = of_place more place action there h

  of_test : (design : Design) (test : Bool) (place : ℕ) (action : Action) → slice_get design.actions place ≡ Some action → now.variables ≡ design.variables →
      operand_value (if test then code_by design (links_of design) else no_code) place now.values now.time ≡ Some value → value ≡ operand now action
  of_test design true place action there same h =
      of_place design.actions place action there
      (subst (λ variables. Has (unwrap_or (slice_get (operands_of variables design.actions) place) None)) (sym same) h)
  of_test design false place action there same h = absurd cc

pub operand_is : (design : Design) (place : ℕ) (action : Action) (now : Environment) (value : Vector) →
    slice_get design.actions place ≡ Some action → now.variables ≡ design.variables →
    operand_value (code_of design) place now.values now.time ≡ Some value → value ≡ operand now action
unfolding code_of
operand_is design place action now value there same h =
    of_test now value design (nat_le (length design.actions) 4294967295) place action there same h
