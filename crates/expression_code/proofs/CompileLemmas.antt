-- What compiling a node puts behind the operations that stand there.
use Rattle.std.proofs.Common.{◌≡◌, ℕ, ◌+◌, ◌*◌, max, min, nat_le, cond, Bool, true, false, List, [], ◌∷◌, ◌++◌, refl, sym, ap, ◌∙◌, append_assoc, append-nil}
use Rattle.vbits.specs.Vectors.{Vector}
use Rattle.vwords.specs.declared.operators.UnaryOperator.{UnaryOperator}
use Rattle.vwords.specs.declared.operators.BinaryOperator.{BinaryOperator}
use Rattle.vdesign.specs.Design.{Variable}
use Rattle.vdesign.specs.Nodes.{nodes_of}
use Rattle.vdesign.specs.declared.expression.Bounds.{Bounds}
use Rattle.vdesign.specs.declared.expression.Node.{Node}
use Rattle.vdesign.specs.declared.expression.Constant.{Constant}
use Rattle.vdesign.specs.declared.expression.Node.TheVariants.{Constant as ConstantNode, Variable as VariableNode, Bit, BitOf, Part, Time, Conversion, Unary as UnaryNode, Binary as BinaryNode, Conditional, Joined, Repeated}
use Rattle.vdesign.specs.Expressions.{ExpressionTree, constant, variable, bit, bit_of, part, time, conversion, apply, combine, conditional, joined, repeated}
use Rattle.vvalue.specs.declared.size_and_sign.SizeAndSign.{SizeAndSign}
use Rattle.vvalue.specs.declared.operand_rule.OperandRule.{OperandRule}
use Rattle.vvalue.specs.declared.operand_rule.UnaryOperandRule.{UnaryOperandRule}
use Rattle.vvalue.specs.OperandRules.{operand_rule, unary_operand_rule}
use Rattle.vvalue.specs.Value.{size_and_sign, left_size_and_sign, right_size_and_sign, unary_size_and_sign, bounds_of, part_size}
use Rattle.expression_code.specs.Shapes.{declared}
use Rattle.expression_code.specs.declared.operation.Operation.{Operation}
use Rattle.expression_code.specs.declared.operation.Operation.TheVariants.{Leaf as LeafOperation, Unary, Binary, Choose}
use Rattle.expression_code.specs.declared.operation.Leaf.{Leaf}
use Rattle.expression_code.specs.declared.operation.Leaf.TheVariants as leaves
use Rattle.expression_code.specs.declared.operation.UnaryStep.TheVariants as steps
use Rattle.expression_code.specs.declared.operation.BinaryStep.TheVariants as pairs
use Rattle.expression_code.specs.declared.right_operand.RightOperand.{RightOperand}
use Rattle.expression_code.specs.declared.right_operand.RightOperand.TheVariants as right_operands
use Rattle.expression_code.specs.Code.{CodeTree, leaf, unary}
use Rattle.expression_code.specs.Operations.{operations_of}
use Rattle.expression_code.specs.CodeOf.{own, is_same_context, fitted_code, one_bit, unary_result, binary_result, variable_code, number_value, part_leaf, right_operand, binary_code, code_of, right_side_code}
use Rattle.expression_code.specs.Heads.{fit_head, fitted_head, variable_operation, binary_operation, right_operations, repeated_head, right_operand_at, IsPut, IsRightPut}

-- ---- heads

fit_spelled : (has here : SizeAndSign) (code : CodeTree) → operations_of (fitted_code has here code) ≡ fit_head has here ++ operations_of code
fit_spelled has here code = either (is_same_context has here)
  where
    either : (b : Bool) → operations_of (cond b code (unary (steps.Fit here) code)) ≡ cond b [] (Unary (steps.Fit here) ∷ []) ++ operations_of code
    either true = refl
    either false = refl

-- an operation behind its head, and the operations of its operands
put_behind : (has here : SizeAndSign) (operation : Operation) (old mid new operands : List Operation) → mid ≡ old ++ fitted_head has here operation →
    new ≡ mid ++ operands → new ≡ old ++ (fit_head has here ++ operation ∷ operands)
put_behind has here operation old mid new operands head is =
    is ∙ ap (λ (l : List Operation). l ++ operands) head ∙ append_assoc old (fitted_head has here operation) operands
    ∙ ap (λ (l : List Operation). old ++ l) (append_assoc (fit_head has here) (operation ∷ []) operands)

pub fitted_put : (has here : SizeAndSign) (operation : Operation) (code : CodeTree) (old mid new operands : List Operation) →
    mid ≡ old ++ fitted_head has here operation → new ≡ mid ++ operands → operations_of code ≡ operation ∷ operands →
    new ≡ old ++ operations_of (fitted_code has here code)
fitted_put has here operation code old mid new operands head is spelled =
    put_behind has here operation old mid new operands head is
    ∙ ap (λ (l : List Operation). old ++ l) (ap (λ (l : List Operation). fit_head has here ++ l) (sym spelled) ∙ sym (fit_spelled has here code))

fit_put : (has here : SizeAndSign) (code : CodeTree) (old mid new : List Operation) → mid ≡ old ++ fit_head has here → new ≡ mid ++ operations_of code →
    new ≡ old ++ operations_of (fitted_code has here code)
fit_put has here code old mid new head is =
    is ∙ ap (λ (l : List Operation). l ++ operations_of code) head ∙ append_assoc old (fit_head has here) (operations_of code)
    ∙ ap (λ (l : List Operation). old ++ l) (sym (fit_spelled has here code))

-- ---- what has no operands

pub variable_spelled : (n : ℕ) (has here : SizeAndSign) → operations_of (variable_code n has here) ≡ variable_operation n has here ∷ []
variable_spelled n has here = either (is_same_context has here)
  where
    either : (b : Bool) → operations_of (cond b (leaf (leaves.Load n)) (leaf (leaves.Extend n here))) ≡ cond b (LeafOperation (leaves.Load n)) (LeafOperation (leaves.Extend n here)) ∷ []
    either true = refl
    either false = refl

module _ (variables : List Variable) (here : SizeAndSign) where
  pub constant_put : (c : Constant) (v : Vector) (behind : List Node) (old new : List Operation) → v ≡ number_value c here →
      new ≡ old ++ LeafOperation (leaves.Number v) ∷ [] → IsPut variables here (constant c) behind behind old new
  constant_put c v behind old new number is = record { rest = refl; code = is ∙ ap (λ w. old ++ LeafOperation (leaves.Number w) ∷ []) number }

  pub variable_put : (n : ℕ) (has : SizeAndSign) (operation : Operation) (behind : List Node) (old new : List Operation) → has ≡ own variables (variable n) →
      operation ≡ variable_operation n has here → new ≡ old ++ operation ∷ [] → IsPut variables here (variable n) behind behind old new
  variable_put n has operation behind old new declares does is = record {
    rest = refl;
    code = is ∙ ap (λ o. old ++ o ∷ []) (does ∙ ap (λ s. variable_operation n s here) declares)
        ∙ ap (λ (l : List Operation). old ++ l) (sym (variable_spelled n (own variables (variable n)) here));
  }

  -- what is brought to its context
  leaf_put : (tree : ExpressionTree) (has : SizeAndSign) (what : Leaf) (behind : List Node) (old new : List Operation) →
      new ≡ old ++ fitted_head has here (LeafOperation what) → code_of variables tree here ≡ fitted_code has here (leaf what) →
      IsPut variables here tree behind behind old new
  leaf_put tree has what behind old new is spelled = record {
    rest = refl;
    code = fitted_put has here (LeafOperation what) (leaf what) old new new [] is (sym (append-nil new)) refl ∙ ap (λ code. old ++ operations_of code) (sym spelled);
  }

  pub part_put : (n : ℕ) (part_of declares : Bounds) (has sized : SizeAndSign) (what : Leaf) (behind : List Node) (old new : List Operation) →
      has ≡ own variables (variable n) → sized ≡ size_and_sign (part_size part_of) false → declares ≡ bounds_of (declared variables) n →
      what ≡ part_leaf n has.size declares part_of → new ≡ old ++ fitted_head sized here (LeafOperation what) →
      IsPut variables here (part n part_of) behind behind old new
  part_put n part_of declares has sized what behind old new is_own is_sized numbers does is =
      let all : what ≡ part_leaf n (own variables (variable n)).size (bounds_of (declared variables) n) part_of =
      does ∙ (λ i. part_leaf n (is_own i).size (numbers i) part_of) in
      leaf_put (part n part_of) (size_and_sign (part_size part_of) false) (part_leaf n (own variables (variable n)).size (bounds_of (declared variables) n) part_of) behind old new
      (is ∙ (λ i. old ++ fitted_head (is_sized i) here (LeafOperation (all i)))) refl

  pub time_put : (behind : List Node) (old new : List Operation) → new ≡ old ++ fitted_head (size_and_sign 64 false) here (LeafOperation leaves.Time) →
      IsPut variables here time behind behind old new
  time_put behind old new is = leaf_put time (size_and_sign 64 false) leaves.Time behind old new is refl

  -- ---- the whole

  pub whole_put : (tree : ExpressionTree) (behind : List Node) (old new : List Operation) → old ≡ [] →
      IsPut variables here tree [] behind old new → new ≡ operations_of (code_of variables tree here)
  whole_put tree behind old new nothing put = put.code ∙ ap (λ (l : List Operation). l ++ operations_of (code_of variables tree here)) nothing

pub right_side_put : (variables : List Variable) (tree : ExpressionTree) (count : ℕ) (has larger asked : SizeAndSign) (behind : List Node) (old mid new : List Operation) →
    has ≡ own variables tree → larger ≡ size_and_sign (max count has.size) has.signed → asked ≡ size_and_sign count has.signed → old ≡ [] →
    mid ≡ old ++ fit_head larger asked → IsPut variables larger tree [] behind mid new → new ≡ operations_of (right_side_code variables count tree)
right_side_put variables tree count has larger asked behind old mid new is at_larger asks nothing head put =
    let most = size_and_sign (max count (own variables tree).size) (own variables tree).signed in
    let cut = size_and_sign count (own variables tree).signed in
    let all : larger ≡ most = at_larger ∙ ap (λ s. size_and_sign (max count s.size) s.signed) is in
    let some : asked ≡ cut = asks ∙ ap (λ s. size_and_sign count s.signed) is in
    let first : mid ≡ fit_head most cut = head ∙ (λ i. nothing i ++ fit_head (all i) (some i)) in
    put.code ∙ (λ i. first i ++ operations_of (code_of variables tree (all i))) ∙ sym (fit_spelled most cut (code_of variables tree most))

-- ---- what has operands

module _ (variables : List Variable) (here : SizeAndSign) where
  pub bit_put : (n : ℕ) (index : ExpressionTree) (bounds : Bounds) (there : SizeAndSign) (more behind : List Node) (old mid new : List Operation) →
      there ≡ own variables index → bounds ≡ bounds_of (declared variables) n → mid ≡ old ++ fitted_head one_bit here (Unary (steps.Bit n bounds)) →
      IsPut variables there index more behind mid new → IsPut variables here (bit n index) more behind old new
  bit_put n index bounds there more behind old mid new stands numbers head put = record {
    rest = put.rest;
    code = fitted_put one_bit here (Unary (steps.Bit n (bounds_of (declared variables) n))) _ old mid new _
        (head ∙ ap (λ b. old ++ fitted_head one_bit here (Unary (steps.Bit n b))) numbers)
        (put.code ∙ ap (λ s. mid ++ operations_of (code_of variables index s)) stands) refl;
  }

  pub bit_of_put : (v : Vector) (bounds : Bounds) (index : ExpressionTree) (there : SizeAndSign) (more behind : List Node) (old mid new : List Operation) →
      there ≡ own variables index → mid ≡ old ++ fitted_head one_bit here (Unary (steps.BitOf v bounds)) →
      IsPut variables there index more behind mid new → IsPut variables here (bit_of v bounds index) more behind old new
  bit_of_put v bounds index there more behind old mid new stands head put = record {
    rest = put.rest;
    code = fitted_put one_bit here (Unary (steps.BitOf v bounds)) _ old mid new _ head
        (put.code ∙ ap (λ s. mid ++ operations_of (code_of variables index s)) stands) refl;
  }

  pub conversion_put : (signed : Bool) (o : ExpressionTree) (there : SizeAndSign) (more behind : List Node) (old mid new : List Operation) →
      there ≡ own variables o → mid ≡ old ++ fit_head there here →
      IsPut variables there o more behind mid new → IsPut variables here (conversion signed o) more behind old new
  conversion_put signed o there more behind old mid new stands head put = record {
    rest = put.rest;
    code = fit_put (own variables o) here (code_of variables o (own variables o)) old mid new
        (head ∙ ap (λ s. old ++ fit_head s here) stands)
        (put.code ∙ ap (λ s. mid ++ operations_of (code_of variables o s)) stands);
  }

  pub unary_put : (operator : UnaryOperator) (o : ExpressionTree) (by : UnaryOperandRule) (has there result : SizeAndSign) (more behind : List Node) (old mid new : List Operation) →
      by ≡ unary_operand_rule operator → has ≡ own variables o → there ≡ unary_size_and_sign by has here → result ≡ unary_result by here →
      mid ≡ old ++ fitted_head result here (Unary (steps.Apply by)) →
      IsPut variables there o more behind mid new → IsPut variables here (apply operator o) more behind old new
  unary_put operator o by has there result more behind old mid new rule is stands results head put =
      let all : there ≡ unary_size_and_sign (unary_operand_rule operator) (own variables o) here =
      stands ∙ (λ i. unary_size_and_sign (rule i) (is i) here) in
      record {
        rest = put.rest;
        code = fitted_put (unary_result (unary_operand_rule operator) here) here (Unary (steps.Apply (unary_operand_rule operator))) _ old mid new _
            (head ∙ ap (λ s. old ++ fitted_head s here (Unary (steps.Apply by))) results
            ∙ ap (λ r. old ++ fitted_head (unary_result r here) here (Unary (steps.Apply r))) rule)
            (put.code ∙ ap (λ s. mid ++ operations_of (code_of variables o s)) all) refl;
      }

  pub repeated_put : (count : ℕ) (o : ExpressionTree) (there : SizeAndSign) (more behind : List Node) (old mid new : List Operation) →
      there ≡ own variables o → mid ≡ old ++ repeated_head count there here →
      IsPut variables there o more behind mid new → IsPut variables here (repeated count o) more behind old new
  repeated_put count o there more behind old mid new stands head put = record {
    rest = put.rest;
    code = either (nat_le count 1) (head ∙ ap (λ s. old ++ repeated_head count s here) stands)
        (put.code ∙ ap (λ s. mid ++ operations_of (code_of variables o s)) stands);
  }
    where
      has : SizeAndSign
      has = own variables o

      larger : SizeAndSign
      larger = size_and_sign (min 64 (max 1 count * has.size)) false

      either : (b : Bool) → mid ≡ old ++ cond b (fit_head has here) (fitted_head larger here (Unary (steps.Repeat count))) →
          new ≡ mid ++ operations_of (code_of variables o has) →
          new ≡ old ++ operations_of (cond b (fitted_code has here (code_of variables o has)) (fitted_code larger here (unary (steps.Repeat count) (code_of variables o has))))
      either true puts is = fit_put has here (code_of variables o has) old mid new puts is
      either false puts is = fitted_put larger here (Unary (steps.Repeat count)) _ old mid new _ puts is refl

  -- two operands, one behind the other
  pub joined_put : (left right : ExpressionTree) (first second result : SizeAndSign) (more behind : List Node) (old mid next new : List Operation) →
      first ≡ own variables left → second ≡ own variables right → result ≡ size_and_sign (min 64 (first.size + second.size)) false →
      mid ≡ old ++ fitted_head result here (Binary pairs.Join) →
      next ≡ mid ++ operations_of (code_of variables left first) →
      IsPut variables second right more behind next new → IsPut variables here (joined left right) more behind old new
  joined_put left right first second result more behind old mid next new stands stands_too results head one put = record {
    rest = put.rest;
    code = fitted_put (own variables (joined left right)) here (Binary pairs.Join) _ old mid new _
        (head ∙ ap (λ s. old ++ fitted_head s here (Binary pairs.Join)) (results ∙ (λ i. size_and_sign (min 64 ((stands i).size + (stands_too i).size)) false)))
        (put.code ∙ (λ i. one i ++ operations_of (code_of variables right (stands_too i)))
        ∙ append_assoc mid (operations_of (code_of variables left first)) (operations_of (code_of variables right (own variables right)))
        ∙ ap (λ s. mid ++ (operations_of (code_of variables left s) ++ operations_of (code_of variables right (own variables right)))) stands)
        refl;
  }

  pub conditional_put : (condition when_true when_false : ExpressionTree) (there : SizeAndSign) (more behind : List Node) (old mid next after new : List Operation) →
      there ≡ own variables condition → mid ≡ old ++ Choose ∷ [] → next ≡ mid ++ operations_of (code_of variables condition there) →
      after ≡ next ++ operations_of (code_of variables when_true here) →
      IsPut variables here when_false more behind after new → IsPut variables here (conditional condition when_true when_false) more behind old new
  conditional_put condition when_true when_false there more behind old mid next after new stands head one other put =
      let test = operations_of (code_of variables condition (own variables condition)) in
      let yes = operations_of (code_of variables when_true here) in
      let no = operations_of (code_of variables when_false here) in
      record {
        rest = put.rest;
        code = put.code ∙ ap (λ (l : List Operation). l ++ no) other ∙ append_assoc next yes no
            ∙ ap (λ (l : List Operation). l ++ (yes ++ no)) (one ∙ (λ i. head i ++ operations_of (code_of variables condition (stands i))) ∙ append_assoc old (Choose ∷ []) test)
            ∙ append_assoc old (Choose ∷ test) (yes ++ no);
      }

  -- an operator with two operands, of which the right one may have gone into its operation
  binary_spelled : (by : OperandRule) (operand : RightOperand) (left right : CodeTree) →
      operations_of (binary_code by operand left right) ≡ binary_operation by operand ∷ (operations_of left ++ right_operations operand (operations_of right))
  binary_spelled by (right_operands.Number v) left right = ap (λ (l : List Operation). Unary (steps.WithNumber by v) ∷ l) (sym (append-nil (operations_of left)))
  binary_spelled by (right_operands.Variable n) left right = ap (λ (l : List Operation). Unary (steps.WithVariable by n) ∷ l) (sym (append-nil (operations_of left)))
  binary_spelled by right_operands.Computed left right = refl

  pub binary_put : (operator : BinaryOperator) (left right : ExpressionTree) (by : OperandRule) (one other first second result : SizeAndSign) (operand : RightOperand) (operation : Operation)
      (more behind : List Node) (old mid next new : List Operation) →
      by ≡ operand_rule operator → one ≡ own variables left → other ≡ own variables right →
      first ≡ left_size_and_sign by one other here → second ≡ right_size_and_sign by one other here → result ≡ binary_result by here →
      operand ≡ right_operand variables right second → operation ≡ binary_operation by operand → mid ≡ old ++ fitted_head result here operation →
      next ≡ mid ++ operations_of (code_of variables left first) →
      IsRightPut variables second operand right more behind next new → IsPut variables here (combine operator left right) more behind old new
  binary_put operator left right by one other first second result operand operation more behind old mid next new rule is is_too stands stands_too results goes does head begun put =
      let rules = operand_rule operator in
      let left_there = left_size_and_sign rules (own variables left) (own variables right) here in
      let right_there = right_size_and_sign rules (own variables left) (own variables right) here in
      let at_left : first ≡ left_there = stands ∙ (λ i. left_size_and_sign (rule i) (is i) (is_too i) here) in
      let at_right : second ≡ right_there = stands_too ∙ (λ i. right_size_and_sign (rule i) (is i) (is_too i) here) in
      let operands : operand ≡ right_operand variables right right_there = goes ∙ ap (right_operand variables right) at_right in
      let operations : operation ≡ binary_operation rules (right_operand variables right right_there) = does ∙ (λ i. binary_operation (rule i) (operands i)) in
      record {
        rest = put.rest;
        code = fitted_put (binary_result rules here) here (binary_operation rules (right_operand variables right right_there)) _ old mid new _
            (head ∙ (λ i. old ++ fitted_head ((results ∙ ap (λ r. binary_result r here) rule) i) here (operations i)))
            (put.code ∙ (λ i. begun i ++ right_operations (operands i) (operations_of (code_of variables right (at_right i))))
            ∙ append_assoc mid (operations_of (code_of variables left first)) (right_operations (right_operand variables right right_there) (operations_of (code_of variables right right_there)))
            ∙ ap (λ s. mid ++ (operations_of (code_of variables left s) ++ right_operations (right_operand variables right right_there) (operations_of (code_of variables right right_there)))) at_left)
            (binary_spelled rules (right_operand variables right right_there) (code_of variables left left_there) (code_of variables right right_there));
      }

-- ---- a right operand by its first node

pub operand_by_node : (variables : List Variable) (here : SizeAndSign) (node : Node) (behind : List Node) (tree : ExpressionTree) (more : List Node) →
    node ∷ behind ≡ nodes_of tree ++ more → right_operand_at variables node here ≡ right_operand variables tree here
operand_by_node variables here node behind (constant c) more is =
    let first : node ≡ ConstantNode c = cc in ap (λ n. right_operand_at variables n here) first
operand_by_node variables here node behind (variable n) more is =
    let first : node ≡ VariableNode n = cc in ap (λ n. right_operand_at variables n here) first
operand_by_node variables here node behind (bit n index) more is =
    let first : node ≡ Bit n = cc in ap (λ n. right_operand_at variables n here) first
operand_by_node variables here node behind (bit_of v bounds index) more is =
    let first : node ≡ BitOf v bounds = cc in ap (λ n. right_operand_at variables n here) first
operand_by_node variables here node behind (part n bounds) more is =
    let first : node ≡ Part n bounds = cc in ap (λ n. right_operand_at variables n here) first
operand_by_node variables here node behind time more is =
    let first : node ≡ Time = cc in ap (λ n. right_operand_at variables n here) first
operand_by_node variables here node behind (conversion signed o) more is =
    let first : node ≡ Conversion signed = cc in ap (λ n. right_operand_at variables n here) first
operand_by_node variables here node behind (apply operator o) more is =
    let first : node ≡ UnaryNode operator = cc in ap (λ n. right_operand_at variables n here) first
operand_by_node variables here node behind (combine operator left right) more is =
    let first : node ≡ BinaryNode operator = cc in ap (λ n. right_operand_at variables n here) first
operand_by_node variables here node behind (conditional condition when_true when_false) more is =
    let first : node ≡ Conditional = cc in ap (λ n. right_operand_at variables n here) first
operand_by_node variables here node behind (joined left right) more is =
    let first : node ≡ Joined = cc in ap (λ n. right_operand_at variables n here) first
operand_by_node variables here node behind (repeated count o) more is =
    let first : node ≡ Repeated count = cc in ap (λ n. right_operand_at variables n here) first
