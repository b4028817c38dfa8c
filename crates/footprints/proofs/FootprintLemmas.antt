-- What the nodes of an expression name, one after another, is what the expression names.
use Rattle.std.proofs.Common.{◌≡◌, ℕ, ◌≤◌, List, [], ◌∷◌, ◌++◌, drop, length, refl, sym, ap, ◌∙◌, append_assoc, append-nil}
use Rattle.std.proofs.lemmas.List.{drop_all}
use Rattle.vdesign.specs.Expressions.{ExpressionTree, constant, variable, bit, bit_of, part, time, conversion, apply, combine, conditional, joined, repeated}
use Rattle.vdesign.specs.declared.expression.Node.{Node}
use Rattle.vdesign.specs.Nodes.{nodes_of}
use Rattle.footprints.specs.declared.thing.Thing.{Thing}
use Rattle.footprints.specs.declared.thing.Thing.TheVariants.{Variable}
use Rattle.footprints.specs.Footprints.{named_in}
use Rattle.footprints.specs.Inner.{named_by, named_by_all}

pub named_by_append : (front behind : List Node) → named_by_all (front ++ behind) ≡ named_by_all front ++ named_by_all behind
named_by_append [] behind = refl
named_by_append (node ∷ nodes) behind =
    ap (λ (more : List Thing). named_by node ++ more) (named_by_append nodes behind) ∙ sym (append_assoc (named_by node) (named_by_all nodes) (named_by_all behind))

pub named_by_nodes : (tree : ExpressionTree) → named_by_all (nodes_of tree) ≡ named_in tree
named_by_nodes (constant c) = refl
named_by_nodes (variable n) = refl
named_by_nodes (bit n index) = ap (λ (more : List Thing). Variable n ∷ more) (named_by_nodes index)
named_by_nodes (bit_of value bounds index) = named_by_nodes index
named_by_nodes (part n bounds) = refl
named_by_nodes time = refl
named_by_nodes (conversion signed operand) = named_by_nodes operand
named_by_nodes (apply operator operand) = named_by_nodes operand
named_by_nodes (combine operator left right) =
    named_by_append (nodes_of left) (nodes_of right)
    ∙ ap (λ (front : List Thing). front ++ named_by_all (nodes_of right)) (named_by_nodes left)
    ∙ ap (λ (more : List Thing). named_in left ++ more) (named_by_nodes right)
named_by_nodes (conditional condition when_true when_false) =
    named_by_append (nodes_of condition) (nodes_of when_true ++ nodes_of when_false)
    ∙ ap (λ (front : List Thing). front ++ named_by_all (nodes_of when_true ++ nodes_of when_false)) (named_by_nodes condition)
    ∙ ap (λ (more : List Thing). named_in condition ++ more)
    (named_by_append (nodes_of when_true) (nodes_of when_false)
    ∙ ap (λ (front : List Thing). front ++ named_by_all (nodes_of when_false)) (named_by_nodes when_true)
    ∙ ap (λ (more : List Thing). named_in when_true ++ more) (named_by_nodes when_false))
named_by_nodes (joined left right) =
    named_by_append (nodes_of left) (nodes_of right)
    ∙ ap (λ (front : List Thing). front ++ named_by_all (nodes_of right)) (named_by_nodes left)
    ∙ ap (λ (more : List Thing). named_in left ++ more) (named_by_nodes right)
named_by_nodes (repeated count operand) = named_by_nodes operand

-- all nodes were gone over
pub named_whole : (tree : ExpressionTree) (nodes : List Node) (i : ℕ) (old new : List Thing) → nodes ≡ nodes_of tree → length nodes ≤ i →
    new ++ named_by_all (drop i nodes) ≡ old ++ named_by_all nodes → new ≡ old ++ named_in tree
named_whole tree nodes i old new is le so_far =
    sym (append-nil new)
    ∙ ap (λ (rest : List Node). new ++ named_by_all rest) (sym (drop_all i nodes le))
    ∙ so_far
    ∙ ap (λ (all : List Node). old ++ named_by_all all) is
    ∙ ap (λ (names : List Thing). old ++ names) (named_by_nodes tree)
