-- Operations that begin with those of code: the first one tells which code it is, and what its operands are.
use Rattle.std.proofs.Common.{◌≡◌, List, [], ◌∷◌, ◌++◌, length, sym, ap, subst, ◌∙◌, append_assoc, append-nil, arith}
use Rattle.expression_code.specs.Code.{CodeTree, leaf, unary, binary, choose}
use Rattle.expression_code.specs.Operations.{operations_of}
use Rattle.expression_code.specs.declared.operation.Operation.{Operation}
use Rattle.expression_code.specs.declared.operation.Operation.TheVariants.{Leaf, Unary, Binary, Choose}

-- what has to be shown of code of this first operation, and of what is behind it, by its operands
abbrev pub Shown : (CodeTree → List Operation → Type 0) → Operation → List Operation → Type 0
Shown P (Leaf what) behind = P (leaf what) behind
Shown P (Unary step) behind =
    (o : CodeTree) (more : List Operation) → behind ≡ operations_of o ++ more → P (unary step o) more
Shown P (Binary step) behind =
    (left right : CodeTree) (more : List Operation) → behind ≡ operations_of left ++ (operations_of right ++ more) → P (binary step left right) more
Shown P Choose behind =
    (condition when_true when_false : CodeTree) (more : List Operation) →
    behind ≡ operations_of condition ++ (operations_of when_true ++ (operations_of when_false ++ more)) → P (choose condition when_true when_false) more

by_first : (P : CodeTree → List Operation → Type 0) (operation : Operation) (behind : List Operation) → Shown P operation behind →
    (tree : CodeTree) (more : List Operation) → operation ∷ behind ≡ operations_of tree ++ more → P tree more
by_first P operation behind shown (leaf what) more is =
    let first : operation ≡ Leaf what = cc in
    let same : behind ≡ more = cc in
    subst (P (leaf what)) same (subst (λ n. Shown P n behind) first shown)
by_first P operation behind shown (unary step o) more is =
    let first : operation ≡ Unary step = cc in
    let same : behind ≡ operations_of o ++ more = cc in
    (subst (λ n. Shown P n behind) first shown) o more same
by_first P operation behind shown (binary step left right) more is =
    let first : operation ≡ Binary step = cc in
    let same : behind ≡ (operations_of left ++ operations_of right) ++ more = cc in
    (subst (λ n. Shown P n behind) first shown) left right more (same ∙ append_assoc (operations_of left) (operations_of right) more)
by_first P operation behind shown (choose condition when_true when_false) more is =
    let first : operation ≡ Choose = cc in
    let same : behind ≡ (operations_of condition ++ (operations_of when_true ++ operations_of when_false)) ++ more = cc in
    (subst (λ n. Shown P n behind) first shown) condition when_true when_false more
    (same ∙ append_assoc (operations_of condition) (operations_of when_true ++ operations_of when_false) more
    ∙ ap (λ operations. operations_of condition ++ operations) (append_assoc (operations_of when_true) (operations_of when_false) more))

not_empty : (tree : CodeTree) (more : List Operation) → [] ≡ operations_of tree ++ more → ⊥
not_empty (leaf what) more is = cc
not_empty (unary step o) more is = cc
not_empty (binary step left right) more is = cc
not_empty (choose condition when_true when_false) more is = cc

-- the same, where the first operation is known otherwise
pub by_operation : (P : CodeTree → List Operation → Type 0) (operations : List Operation) (operation first : Operation) (behind : List Operation) →
    operations ≡ operation ∷ behind → operation ≡ first → Shown P first behind →
    (tree : CodeTree) (more : List Operation) → operations ≡ operations_of tree ++ more → P tree more
by_operation P operations operation first behind split same shown tree more is =
    by_first P first behind shown tree more (sym (split ∙ ap (λ n. n ∷ behind) same) ∙ is)

-- and where there is none
pub by_none : (P : CodeTree → List Operation → Type 0) (operations : List Operation) → length operations ≡ 0 →
    (tree : CodeTree) (more : List Operation) → operations ≡ operations_of tree ++ more → P tree more
by_none P [] none tree more is = absurd (not_empty tree more is)
by_none P (operation ∷ operations) none tree more is = absurd (omega (arith, none))

-- nothing is behind the operations of one expression
pub alone : (tree : CodeTree) (operations : List Operation) → operations ≡ operations_of tree → operations ≡ operations_of tree ++ []
alone tree operations is = is ∙ sym (append-nil (operations_of tree))
