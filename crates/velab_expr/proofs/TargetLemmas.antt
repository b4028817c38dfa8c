-- A concatenation of targets is the trees of its targets. A bit or a part that is refused.
use Rattle.std.proofs.Common.{◌≡◌, ℕ, Bool, List, [], ◌∷◌, Result, Ok, Err, Vec, Global, sym, ap, ◌∙◌}
use Rattle.vwords.specs.Words.{Text}
use Rattle.vast.specs.NumberedExpressions.{ExpressionTree}
use Rattle.vast.specs.NumberedStatements.{bit, part, joined}
use Rattle.vast.specs.NumberedTrees.{target_tree, target_trees}
use Rattle.vast.specs.declared.statement.Target.{Target, Joined}
use Rattle.vast.specs.NumberedWords.{Word, word_of}
use Rattle.vast.proofs.ToldTrees.{told_joined}
use Rattle.vdesign.specs.Expressions.{ExpressionTree as Lowered}
use Rattle.vdesign.specs.declared.action.Target.{Target as LoweredTarget}
use Rattle.vdesign.specs.declared.action.Target.TheVariants.{Bit, Part}
use Rattle.vdesign.specs.declared.expression.Bounds.{Bounds}
use Rattle.velab_expr.specs.declared.fault.ElabFault.{ElabFault}
use Rattle.velab_expr.specs.Answers.{◌>>=◌, behind}
use Rattle.velab_expr.specs.Scopes.{Scope, lower_variable}
use Rattle.velab_expr.specs.Written.{lower_bounds, lower_index, lower_target_by}
use Rattle.velab_expr.specs.InnerTargets.{lower_bit, lower_part}

pub joined_is : (words : List Text) (target : Target) (at : ℕ) (targets : Vec Target Global) (items : List Target) →
    target ≡ Joined at targets → items ≡ targets.items → joined (target_trees words items) ≡ target_tree words target
joined_is words target at targets items is same =
    ap (λ (xs : List Target). joined (target_trees words xs)) same ∙ sym (ap (target_tree words) is ∙ told_joined (word_of words) at targets)

module _ (fixed : Bool) (scope : Scope) (done : List LoweredTarget) (letters : Word) (fault : ElabFault) where
  pub bit_refused : (index : ExpressionTree) → lower_bit fixed scope letters index ≡ Err fault →
      behind done (lower_target_by fixed scope (bit letters index)) ≡ Err fault
  bit_refused index is = by (lower_variable scope letters) (lower_index fixed scope index) is
    where
      by : (a : Result ℕ ElabFault) (b : Result Lowered ElabFault) → (a >>= λ number. b >>= λ place. Ok (Bit number place)) ≡ Err fault →
          behind done (a >>= λ number. b >>= λ place. Ok (Bit number place ∷ [])) ≡ Err fault
      by (Ok number) (Ok place) is = absurd cc
      by (Ok number) (Err other) is = let same : other ≡ fault = cc in ap Err same
      by (Err other) b is = let same : other ≡ fault = cc in ap Err same

  pub part_refused : (left right : ExpressionTree) → lower_part scope letters left right ≡ Err fault →
      behind done (lower_target_by fixed scope (part letters left right)) ≡ Err fault
  part_refused left right is = by (lower_variable scope letters) (lower_bounds scope left right) is
    where
      by : (a : Result ℕ ElabFault) (b : Result Bounds ElabFault) → (a >>= λ number. b >>= λ bounds. Ok (Part number bounds)) ≡ Err fault →
          behind done (a >>= λ number. b >>= λ bounds. Ok (Part number bounds ∷ [])) ≡ Err fault
      by (Ok number) (Ok bounds) is = absurd cc
      by (Ok number) (Err other) is = let same : other ≡ fault = cc in ap Err same
      by (Err other) b is = let same : other ≡ fault = cc in ap Err same
