-- What an output drives, where that can be driven.
use Rattle.std.proofs.Common.{◌≡◌, true, Option, None, Some, List, [], ◌∷◌, Result, Ok, refl, ap}
use Rattle.std.specs.Prelude.{is_some}
use Rattle.vast.specs.NumberedWords.{Word}
use Rattle.vast.specs.NumberedExpressions as text
use Rattle.vast.specs.NumberedStatements.{TargetTree}
use Rattle.vdesign.specs.declared.action.Target.{Target}
use Rattle.vdesign.specs.declared.action.Action.{Action}
use Rattle.vdesign.specs.declared.action.Action.TheVariants.{ContinuousAssign}
use Rattle.velab_expr.specs.declared.fault.ElabFault.{ElabFault}
use Rattle.velab_expr.specs.Answers.{◌>>=◌}
use Rattle.velab_expr.specs.Scopes.{Scope}
use Rattle.velab_expr.specs.Resolved.{lower_expression}
use Rattle.velab_expr.specs.Written.{target_of}
use Rattle.velab_expr.proofs.ConnectedLemmas.{connected_is}
use Rattle.velab_process.specs.Waits.{any_of}
use Rattle.velab_process.specs.Connections.{lower_output}
use Rattle.velab_process.specs.Inner.{lower_driven}

module _ (whose : Word) (outer inner : Scope) (port : Word) where
  pub output_driven : (value : text.ExpressionTree) → is_some (target_of value) ≡ true →
      lower_driven outer inner port value ≡ lower_output whose outer inner port (target_of value)
  output_driven value some = by (target_of value) refl some
    where
      by : (o : Option TargetTree) → target_of value ≡ o → is_some o ≡ true → lower_driven outer inner port value ≡ lower_output whose outer inner port o
      by None is some = absurd cc
      by (Some target) is some =
          ap (λ (a : Result (List Target) ElabFault). a >>= λ targets. lower_expression inner (text.name port) >>= λ e. Ok (ContinuousAssign targets e (any_of inner (port ∷ []))))
          (connected_is outer value target is)
