-- What an output drives, by what it is connected to.
use Rattle.std.proofs.Common.{◌≡◌, true, Option, None, Some, List, ◌++◌, Result, Ok, refl, ap, ◌∙◌}
use Rattle.std.specs.Prelude.{is_some}
use Rattle.std.specs.Option.{option_map}
use Rattle.vast.specs.NumberedExpressions as text
use Rattle.vast.specs.NumberedStatements.{TargetTree, TargetTrees, whole, bit, part, joined, none, first}
use Rattle.vdesign.specs.declared.action.Target.{Target}
use Rattle.velab_expr.specs.declared.fault.ElabFault.{ElabFault}
use Rattle.velab_expr.specs.Answers.{◌>>=◌}
use Rattle.velab_expr.specs.Scopes.{Scope}
use Rattle.velab_expr.specs.Written.{lower_net_target, lower_targets_by, both_of, target_of, targets_of}
use Rattle.velab_expr.specs.InnerTargets.{lower_connected, lower_all_connected}

-- there is a concatenation where there are its parts
pub some_joined : (row : Option TargetTrees) → is_some row ≡ is_some (option_map joined row)
some_joined None = refl
some_joined (Some targets) = refl

both_are : (one : Option TargetTree) (more : Option TargetTrees) (targets : TargetTrees) → both_of one more ≡ Some targets →
    (a : TargetTree) × (b : TargetTrees) × (one ≡ Some a) × (more ≡ Some b) × (first a b ≡ targets)
both_are None more targets is = absurd cc
both_are (Some a) None targets is = absurd cc
both_are (Some a) (Some b) targets is = (a, b, refl, refl, cc)

joined_are : (row : Option TargetTrees) (target : TargetTree) → option_map joined row ≡ Some target →
    (targets : TargetTrees) × (row ≡ Some targets) × (joined targets ≡ target)
joined_are None target is = absurd cc
joined_are (Some targets) target is = (targets, refl, cc)

module _ (scope : Scope) where
  abbrev row : Result (List Target) ElabFault → Result (List Target) ElabFault → Result (List Target) ElabFault
  row one more = one >>= λ front. more >>= λ others. Ok (front ++ others)

  mutual
    pub connected_is : (value : text.ExpressionTree) (target : TargetTree) → target_of value ≡ Some target → lower_connected scope value ≡ lower_net_target scope target
    connected_is (text.number digits) target is = absurd cc
    connected_is (text.name letters) target is = let same : whole letters ≡ target = cc in ap (lower_net_target scope) same
    connected_is (text.time word) target is = absurd cc
    connected_is (text.bit letters index) target is = let same : bit letters index ≡ target = cc in ap (lower_net_target scope) same
    connected_is (text.part letters left right) target is = let same : part letters left right ≡ target = cc in ap (lower_net_target scope) same
    connected_is (text.parentheses inner) target is = absurd cc
    connected_is (text.concatenation parts) target is =
        let are = joined_are (targets_of parts) target is in
        all_connected_is parts are.0 are.1 ∙ ap (lower_net_target scope) are.2
    connected_is (text.replication count parts) target is = absurd cc
    connected_is (text.conversion signed inner) target is = absurd cc
    connected_is (text.apply operator inner) target is = absurd cc
    connected_is (text.combine operator left right) target is = absurd cc
    connected_is (text.conditional condition when_true when_false) target is = absurd cc

    pub all_connected_is : (parts : text.ExpressionTrees) (targets : TargetTrees) → targets_of parts ≡ Some targets →
        lower_all_connected scope parts ≡ lower_targets_by true scope targets
    all_connected_is text.none targets is = let same : none ≡ targets = cc in ap (lower_targets_by true scope) same
    all_connected_is (text.first one more) targets is =
        let are = both_are (target_of one) (targets_of more) targets is in
        (λ i. row (connected_is one are.0 are.2 i) (all_connected_is more are.1 are.3 i)) ∙ ap (lower_targets_by true scope) are.4
