-- Nodes that begin with those of an expression: the first one tells which expression it is, and what its operands are.
use Rattle.std.proofs.Common.{◌≡◌, List, [], ◌∷◌, ◌++◌, length, sym, ap, subst, ◌∙◌, append_assoc, append-nil, arith}
use Rattle.vdesign.specs.Expressions.{ExpressionTree, constant, variable, bit, bit_of, part, time, conversion, apply, combine, conditional, joined, repeated}
use Rattle.vdesign.specs.Nodes.{nodes_of}
use Rattle.vdesign.specs.declared.expression.Node.{Node}
use Rattle.vdesign.specs.declared.expression.Node.TheVariants.{Constant, Variable, Bit, BitOf, Part, Time, Conversion, Unary, Binary, Conditional, Joined, Repeated}

-- what has to be shown of an expression of this first node, and of what is behind it, by its operands
abbrev pub Shown : (ExpressionTree → List Node → Type 0) → Node → List Node → Type 0
Shown P (Constant c) behind = P (constant c) behind
Shown P (Variable number) behind = P (variable number) behind
Shown P (Bit number) behind =
    (index : ExpressionTree) (more : List Node) → behind ≡ nodes_of index ++ more → P (bit number index) more
Shown P (BitOf value bounds) behind =
    (index : ExpressionTree) (more : List Node) → behind ≡ nodes_of index ++ more → P (bit_of value bounds index) more
Shown P (Part number bounds) behind = P (part number bounds) behind
Shown P Time behind = P time behind
Shown P (Conversion signed) behind =
    (operand : ExpressionTree) (more : List Node) → behind ≡ nodes_of operand ++ more → P (conversion signed operand) more
Shown P (Unary operator) behind =
    (operand : ExpressionTree) (more : List Node) → behind ≡ nodes_of operand ++ more → P (apply operator operand) more
Shown P (Binary operator) behind =
    (left right : ExpressionTree) (more : List Node) → behind ≡ nodes_of left ++ (nodes_of right ++ more) → P (combine operator left right) more
Shown P Conditional behind =
    (condition when_true when_false : ExpressionTree) (more : List Node) →
    behind ≡ nodes_of condition ++ (nodes_of when_true ++ (nodes_of when_false ++ more)) → P (conditional condition when_true when_false) more
Shown P Joined behind =
    (left right : ExpressionTree) (more : List Node) → behind ≡ nodes_of left ++ (nodes_of right ++ more) → P (joined left right) more
Shown P (Repeated count) behind =
    (operand : ExpressionTree) (more : List Node) → behind ≡ nodes_of operand ++ more → P (repeated count operand) more

pub by_first : (P : ExpressionTree → List Node → Type 0) (node : Node) (behind : List Node) → Shown P node behind →
    (tree : ExpressionTree) (more : List Node) → node ∷ behind ≡ nodes_of tree ++ more → P tree more
by_first P node behind shown (constant c) more is =
    let first : node ≡ Constant c = cc in
    let same : behind ≡ more = cc in
    subst (P (constant c)) same (subst (λ n. Shown P n behind) first shown)
by_first P node behind shown (variable number) more is =
    let first : node ≡ Variable number = cc in
    let same : behind ≡ more = cc in
    subst (P (variable number)) same (subst (λ n. Shown P n behind) first shown)
by_first P node behind shown (bit number index) more is =
    let first : node ≡ Bit number = cc in
    let same : behind ≡ nodes_of index ++ more = cc in
    (subst (λ n. Shown P n behind) first shown) index more same
by_first P node behind shown (bit_of value bounds index) more is =
    let first : node ≡ BitOf value bounds = cc in
    let same : behind ≡ nodes_of index ++ more = cc in
    (subst (λ n. Shown P n behind) first shown) index more same
by_first P node behind shown (part number bounds) more is =
    let first : node ≡ Part number bounds = cc in
    let same : behind ≡ more = cc in
    subst (P (part number bounds)) same (subst (λ n. Shown P n behind) first shown)
by_first P node behind shown time more is =
    let first : node ≡ Time = cc in
    let same : behind ≡ more = cc in
    subst (P time) same (subst (λ n. Shown P n behind) first shown)
by_first P node behind shown (conversion signed operand) more is =
    let first : node ≡ Conversion signed = cc in
    let same : behind ≡ nodes_of operand ++ more = cc in
    (subst (λ n. Shown P n behind) first shown) operand more same
by_first P node behind shown (apply operator operand) more is =
    let first : node ≡ Unary operator = cc in
    let same : behind ≡ nodes_of operand ++ more = cc in
    (subst (λ n. Shown P n behind) first shown) operand more same
by_first P node behind shown (combine operator left right) more is =
    let first : node ≡ Binary operator = cc in
    let same : behind ≡ (nodes_of left ++ nodes_of right) ++ more = cc in
    (subst (λ n. Shown P n behind) first shown) left right more (same ∙ append_assoc (nodes_of left) (nodes_of right) more)
by_first P node behind shown (conditional condition when_true when_false) more is =
    let first : node ≡ Conditional = cc in
    let same : behind ≡ (nodes_of condition ++ (nodes_of when_true ++ nodes_of when_false)) ++ more = cc in
    (subst (λ n. Shown P n behind) first shown) condition when_true when_false more
    (same ∙ append_assoc (nodes_of condition) (nodes_of when_true ++ nodes_of when_false) more
    ∙ ap (λ nodes. nodes_of condition ++ nodes) (append_assoc (nodes_of when_true) (nodes_of when_false) more))
by_first P node behind shown (joined left right) more is =
    let first : node ≡ Joined = cc in
    let same : behind ≡ (nodes_of left ++ nodes_of right) ++ more = cc in
    (subst (λ n. Shown P n behind) first shown) left right more (same ∙ append_assoc (nodes_of left) (nodes_of right) more)
by_first P node behind shown (repeated count operand) more is =
    let first : node ≡ Repeated count = cc in
    let same : behind ≡ nodes_of operand ++ more = cc in
    (subst (λ n. Shown P n behind) first shown) operand more same

-- no expression is without nodes
pub not_empty : (tree : ExpressionTree) (more : List Node) → [] ≡ nodes_of tree ++ more → ⊥
not_empty (constant c) more is = cc
not_empty (variable number) more is = cc
not_empty (bit number index) more is = cc
not_empty (bit_of value bounds index) more is = cc
not_empty (part number bounds) more is = cc
not_empty time more is = cc
not_empty (conversion signed operand) more is = cc
not_empty (apply operator operand) more is = cc
not_empty (combine operator left right) more is = cc
not_empty (conditional condition when_true when_false) more is = cc
not_empty (joined left right) more is = cc
not_empty (repeated count operand) more is = cc

-- the same, where the first node is known otherwise
pub by_node : (P : ExpressionTree → List Node → Type 0) (nodes : List Node) (node first : Node) (behind : List Node) →
    nodes ≡ node ∷ behind → node ≡ first → Shown P first behind →
    (tree : ExpressionTree) (more : List Node) → nodes ≡ nodes_of tree ++ more → P tree more
by_node P nodes node first behind split same shown tree more is =
    by_first P first behind shown tree more (sym (split ∙ ap (λ n. n ∷ behind) same) ∙ is)

-- and where there is none
pub by_none : (P : ExpressionTree → List Node → Type 0) (nodes : List Node) → length nodes ≡ 0 →
    (tree : ExpressionTree) (more : List Node) → nodes ≡ nodes_of tree ++ more → P tree more
by_none P [] none tree more is = absurd (not_empty tree more is)
by_none P (node ∷ nodes) none tree more is = absurd (omega (arith, none))

-- nothing is behind the nodes of one expression
pub alone : (tree : ExpressionTree) (nodes : List Node) → nodes ≡ nodes_of tree → nodes ≡ nodes_of tree ++ []
alone tree nodes is = is ∙ sym (append-nil (nodes_of tree))
