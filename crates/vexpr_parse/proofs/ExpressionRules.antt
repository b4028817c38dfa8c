-- Each reader of expressions is a rule.
use Rattle.std.proofs.Common.{◌≡◌, ℕ, zero, suc, ◌<◌, Bool, true, false, ◌&&◌, not, nat_le, if◌then◌else◌, List, [], ◌∷◌, ◌++◌, Option, None, Some, refl, sym, ap, arith, subst, codes}
use Rattle.std.specs.Str.{bytes_eq}
use Rattle.std.proofs.lemmas.Bool.Decides.{nat_tests}
use Rattle.std.proofs.lemmas.Bool.{not-true}
use Rattle.basis.proofs.Bools.{and_left, and_right, and_both}
use Rattle.vwords.specs.Words.{Text, reserved_words}
use Rattle.vast.specs.Expressions.{ExpressionTree, number, name, time, bit, part, parentheses, concatenation, replication, conversion, apply, combine, conditional, depth, rank, unary_rank}
use Rattle.vwords.specs.declared.operators.BinaryOperator.{BinaryOperator}
use Rattle.vwords.specs.declared.operators.BinaryOperator.TheVariants as binary
use Rattle.vast.proofs.ExpressionLemmas.{depth_positive}
use Rattle.vexpr_parse.specs.declared.beginning.Beginning.{Beginning}
use Rattle.vexpr_parse.specs.declared.beginning.Beginning.TheVariants as start
use Rattle.vexpr_parse.specs.declared.beginning.Round.TheVariants as round
use Rattle.vexpr_parse.specs.Readers.{got, front, is_front, and_then, goes, refused, by_word, room, past, choose, turns}
use Rattle.vexpr_parse.specs.Words.{beginning_of, binary_of, is_ranked, is_joined, is_asked, ends_primary, ends_operators, ends}
use Rattle.vexpr_parse.specs.Reading.{Below, trees_in, one_more, parts, rest_of_replication, rest_of_concatenation, braces, rest_of_parentheses, part_of, index_lead, rest_of_select, select_lead, rest_of_name, primary_by, primary_lead, primary, operator_by, operator_lead, operator, branches, question_lead, question, onward, expression_by, expression}
use Rattle.vexpr_parse.specs.Lawful.{Ends, Rule}
use Rattle.vexpr_parse.proofs.ReaderRules.{Eats, got_rule, IsLead, rule_lead, led_sees, led_eats}
use Rattle.vexpr_parse.proofs.ReaderLoops.{led_rule, lead_if, lead_room, past_rule, past_eats, links_eats, links_ends, then_rule, option_rule, either_rule, turns_keep, turns_rule, then_eats, choose_eats}

-- words that are an expression
abbrev pub example : List Text
example = codes "a" ∷ []

-- where ends are

pub operators_ended : (least : ℕ) (first : Option Text) → ends least first ≡ true → ends_operators least first ≡ true
operators_ended least first e = and_left (ends_operators least first) (not (is_asked least first)) e

pub primary_ended : (least : ℕ) (first : Option Text) → ends_operators least first ≡ true → ends_primary first ≡ true
primary_ended least first e = and_left (ends_primary first) (not (is_joined least first)) e

pub not_joined : (least : ℕ) (first : Option Text) → ends_operators least first ≡ true → is_joined least first ≡ false
not_joined least first e = not-true (is_joined least first) (and_right (ends_primary first) (not (is_joined least first)) e)

pub not_asked : (least : ℕ) (first : Option Text) → ends least first ≡ true → is_asked least first ≡ false
not_asked least first e = not-true (is_asked least first) (and_right (ends_operators least first) (not (is_asked least first)) e)

-- what no operator of a rank goes on from, none of a higher rank does
pub ranked_higher : (least higher : ℕ) (first : Option Text) → nat_le least higher ≡ true → is_joined least first ≡ false →
    is_joined higher first ≡ false
ranked_higher least higher None e f = refl
ranked_higher least higher (Some word) e f = by_operator (binary_of word) f
  where
    higher_yet : (a b r : ℕ) → nat_le a b ≡ true → nat_le a r ≡ false → nat_le b r ≡ false
    higher_yet a b r e f = grind (arith, nat_tests)

    by_operator : (o : Option BinaryOperator) → is_ranked least o ≡ false → is_ranked higher o ≡ false
    by_operator None f = refl
    by_operator (Some operator) f = higher_yet least higher (rank operator) e f

-- nor does a conditional
higher_ends : (least higher : ℕ) (first : Option Text) → nat_le least (suc higher) ≡ true → ends_operators least first ≡ true →
    ends (suc higher) first ≡ true
higher_ends least higher first e f =
    and_both (ends_operators (suc higher) first) (not (is_asked (suc higher) first))
    (and_both (ends_primary first) (not (is_joined (suc higher) first)) (primary_ended least first f)
    (ap not (ranked_higher least (suc higher) first e (not_joined least first f))))
    (ap (λ b. not (b && is_front (codes "?") first)) (not_within higher))
  where
    not_within : (n : ℕ) → nat_le (suc n) 0 ≡ false
    not_within n = grind (arith, nat_tests)

pub operator_ends : (least : ℕ) (operator : BinaryOperator) (first : Option Text) → nat_le least (rank operator) ≡ true →
    ends_operators least first ≡ true →
    ends (suc (rank operator)) first ≡ true
operator_ends least operator first e f = higher_ends least (rank operator) first (one_higher least (rank operator) e) f
  where
    one_higher : (a b : ℕ) → nat_le a b ≡ true → nat_le a (suc b) ≡ true
    one_higher a b e = grind (arith, nat_tests)

-- no operator ranks with unary ones
below_unary : (operator : BinaryOperator) → nat_le unary_rank (rank operator) ≡ false
below_unary binary.Times = refl
below_unary binary.Divide = refl
below_unary binary.Remainder = refl
below_unary binary.Plus = refl
below_unary binary.Minus = refl
below_unary binary.ShiftLeft = refl
below_unary binary.ShiftRight = refl
below_unary binary.ShiftLeftSigned = refl
below_unary binary.ShiftRightSigned = refl
below_unary binary.Less = refl
below_unary binary.LessOrEqual = refl
below_unary binary.Greater = refl
below_unary binary.GreaterOrEqual = refl
below_unary binary.Equal = refl
below_unary binary.NotEqual = refl
below_unary binary.CaseEqual = refl
below_unary binary.CaseNotEqual = refl
below_unary binary.And = refl
below_unary binary.Xor = refl
below_unary binary.Xnor = refl
below_unary binary.XorNot = refl
below_unary binary.Or = refl
below_unary binary.LogicalAnd = refl
below_unary binary.LogicalOr = refl

pub unary_ends : (first : Option Text) → ends_primary first ≡ true → ends unary_rank first ≡ true
unary_ends first e = and_both (ends_operators unary_rank first) true
    (and_both (ends_primary first) (not (is_joined unary_rank first)) e (ap not (never first))) refl
  where
    by_operator : (o : Option BinaryOperator) → is_ranked unary_rank o ≡ false
    by_operator None = refl
    by_operator (Some operator) = below_unary operator

    never : (first : Option Text) → is_joined unary_rank first ≡ false
    never None = refl
    never (Some word) = by_operator (binary_of word)

-- where a list of expressions ends
abbrev pub ends_parts : Ends
ends_parts first = ends 0 first && not (is_front (codes ",") first)

-- with readers of a level less

module _ (read : Below) (r : (least : ℕ) → Rule (read least) (ends least) example) where
  abbrev pub closed : Text → List Text
  closed text = text ∷ []

  closed_rule : (text : Text) (tree : ExpressionTree) → Rule (past text (got tree)) ends_primary (text ∷ [])
  closed_rule text tree = past_rule text (got tree) ends_primary [] (got_rule tree ends_primary)

  closed_eats : (text : Text) (tree : ExpressionTree) → Eats (past text (got tree))
  closed_eats text tree = past_eats text (got tree) ends_primary [] (got_rule tree ends_primary)

  -- ( tree )
  pub enclosed_rule : (make : ExpressionTree → ExpressionTree) → Rule (rest_of_parentheses read make) ends_primary (example ++ codes ")" ∷ [])
  unfolding binary_of
  enclosed_rule make =
      then_rule (read 0) (λ tree. past (codes ")") (got (make tree))) (ends 0) ends_primary example (codes ")" ∷ [])
      (links_eats _ (ends 0) ends_primary (λ tree. closed_eats (codes ")") (make tree)))
      (λ rest e. refl) (r 0) (λ tree. closed_rule (codes ")") (make tree))

  -- [ index ], or [ left : right ]
  part_rule : (letters : Text) (left : ExpressionTree) → Rule (part_of read letters left) ends_primary (example ++ codes "]" ∷ [])
  unfolding binary_of
  part_rule letters left =
      then_rule (read 0) (λ right. past (codes "]") (got (part letters left right))) (ends 0) ends_primary example (codes "]" ∷ [])
      (links_eats _ (ends 0) ends_primary (λ right. closed_eats (codes "]") (part letters left right))) (λ rest e. refl) (r 0)
      (λ right. closed_rule (codes "]") (part letters left right))

  index_leads : (letters : Text) (index : ExpressionTree) (word : Text) → IsLead ends_primary (index_lead read letters index word)
  index_leads letters index word =
      lead_if ends_primary (bytes_eq (codes "]") word) _ _ (rule_lead (got (bit letters index)) ends_primary []
      (got_rule (bit letters index) ends_primary))
      (lead_if ends_primary (bytes_eq (codes ":") word) _ _ (rule_lead (part_of read letters index) ends_primary (example ++ codes "]" ∷ [])
      (part_rule letters index)) tt)

  pub selected_rule : (letters : Text) → Rule (rest_of_select read letters) ends_primary (example ++ codes "]" ∷ [])
  unfolding binary_of
  selected_rule letters =
      then_rule (read 0) (λ index. by_word (index_lead read letters index)) (ends 0) ends_primary example (codes "]" ∷ [])
      (links_eats _ (ends 0) ends_primary (λ index. led_eats (index_lead read letters index) ends_primary (index_leads letters index)))
      (λ rest e. refl) (r 0)
      (λ index. led_rule (index_lead read letters index) ends_primary (codes "]") [] (got (bit letters index))
      (index_leads letters index) refl (got_rule (bit letters index) ends_primary).starts)

  -- , tree
  more_rule : (trees : List ExpressionTree) → Rule (one_more read trees) (ends 0) (codes "," ∷ (example ++ []))
  more_rule trees =
      past_rule (codes ",") (λ words. and_then (read 0 words) (λ tree. got (trees ++ tree ∷ []))) (ends 0) (example ++ [])
      (then_rule (read 0) (λ tree. got (trees ++ tree ∷ [])) (ends 0) (ends 0) example [] (links_ends _ (ends 0) (ends 0) (λ first e. e))
      (λ rest e. e) (r 0)
      (λ tree. got_rule (trees ++ tree ∷ []) (ends 0)))

  pub more_eats : (trees : List ExpressionTree) → Eats (one_more read trees)
  more_eats trees =
      past_eats (codes ",") (λ words. and_then (read 0 words) (λ tree. got (trees ++ tree ∷ []))) (ends 0) (example ++ [])
      (then_rule (read 0) (λ tree. got (trees ++ tree ∷ [])) (ends 0) (ends 0) example [] (links_ends _ (ends 0) (ends 0) (λ first e. e))
      (λ rest e. e) (r 0)
      (λ tree. got_rule (trees ++ tree ∷ []) (ends 0)))

  tree_ended : (first : Option Text) → ends_parts first ≡ true → ends 0 first ≡ true
  tree_ended first e = and_left (ends 0 first) (not (is_front (codes ",") first)) e

  list_rule : (trees : List ExpressionTree) → Rule (turns (one_more read) (is_front (codes ",")) trees) ends_parts []
  list_rule trees =
      turns_rule (one_more read) (is_front (codes ",")) more_eats (ends 0) ends_parts (λ trees. (more_rule trees).lawful) tree_ended
      (λ first e. not-true (is_front (codes ",") first) (and_right (ends 0 first) (not (is_front (codes ",") first)) e)) trees

  parts_rule : Rule (parts read) ends_parts (example ++ [])
  parts_rule =
      then_rule (read 0) (λ tree. turns (one_more read) (is_front (codes ",")) (tree ∷ [])) (ends 0) ends_parts example []
      (links_ends _ (ends 0) ends_parts tree_ended)
      (λ rest e. tree_ended (front rest) e) (r 0) (λ tree. list_rule (tree ∷ []))

  twice_closed : (tree : ExpressionTree) → Rule (past (codes "}") (past (codes "}") (got tree))) ends_primary (codes "}" ∷ codes "}" ∷ [])
  twice_closed tree = past_rule (codes "}") (past (codes "}") (got tree)) ends_primary (codes "}" ∷ []) (closed_rule (codes "}") tree)

  held_rule : (count : ExpressionTree) →
      Rule (λ words. and_then (parts read words) (λ trees. past (codes "}") (past (codes "}")
      (got (replication count (trees_in trees)))))) ends_primary
      ((example ++ []) ++ codes "}" ∷ codes "}" ∷ [])
  unfolding binary_of
  held_rule count =
      then_rule (parts read) (λ trees. past (codes "}") (past (codes "}")
      (got (replication count (trees_in trees))))) ends_parts ends_primary (example ++ []) (codes "}" ∷ codes "}" ∷ [])
      (links_eats _ ends_parts ends_primary (λ trees. past_eats (codes "}") (past (codes "}")
      (got (replication count (trees_in trees)))) ends_primary (codes "}" ∷ []) (closed_rule (codes "}")
      (replication count (trees_in trees)))))
      (λ rest e. refl) parts_rule (λ trees. twice_closed (replication count (trees_in trees)))

  repeated_rule : (count : ExpressionTree) → Rule (rest_of_replication read count) ends_primary
      (codes "{" ∷ ((example ++ []) ++ codes "}" ∷ codes "}" ∷ []))
  repeated_rule count = past_rule (codes "{") _ ends_primary ((example ++ []) ++ codes "}" ∷ codes "}" ∷ []) (held_rule count)

  repeated_eats : (count : ExpressionTree) → Eats (rest_of_replication read count)
  repeated_eats count = past_eats (codes "{") _ ends_primary ((example ++ []) ++ codes "}" ∷ codes "}" ∷ []) (held_rule count)

  joined_rule : (tree : ExpressionTree) → Rule (rest_of_concatenation read tree) ends_primary ([] ++ codes "}" ∷ [])
  unfolding binary_of
  joined_rule tree =
      then_rule (turns (one_more read) (is_front (codes ",")) (tree ∷ [])) (λ trees. past (codes "}")
      (got (concatenation (trees_in trees)))) ends_parts ends_primary [] (codes "}" ∷ [])
      (links_eats _ ends_parts ends_primary (λ trees. closed_eats (codes "}") (concatenation (trees_in trees)))) (λ rest e. refl)
      (list_rule (tree ∷ []))
      (λ trees. closed_rule (codes "}") (concatenation (trees_in trees)))

  joined_eats : (tree : ExpressionTree) → Eats (rest_of_concatenation read tree)
  joined_eats tree =
      then_eats (turns (one_more read) (is_front (codes ",")) (tree ∷ [])) (λ trees. past (codes "}")
      (got (concatenation (trees_in trees))))
      (turns_keep (one_more read) (is_front (codes ",")) more_eats (tree ∷ [])) (λ trees. closed_eats (codes "}")
      (concatenation (trees_in trees)))

  -- { .. }
  pub braces_rule : Rule (braces read) ends_primary (example ++ codes "}" ∷ [])
  unfolding binary_of
  braces_rule =
      then_rule (read 0) (λ tree. choose (is_front (codes "{")) (rest_of_replication read tree) (rest_of_concatenation read tree)) (ends 0) ends_primary example
      (codes "}" ∷ [])
      (links_eats _ (ends 0) ends_primary (λ tree. choose_eats (is_front (codes "{")) (rest_of_replication read tree) (rest_of_concatenation read tree)
      (repeated_eats tree) (joined_eats tree))) (λ rest e. refl) (r 0)
      (λ tree. either_rule (is_front (codes "{")) (rest_of_replication read tree) (rest_of_concatenation read tree) ends_primary (codes "}" ∷ []) (repeated_eats tree)
      (joined_eats tree) (repeated_rule tree).lawful (joined_rule tree)
      (λ rest. refl))

  -- an operator and its operand
  pub applied_rule : (operator : _) → Rule (λ words. and_then (read unary_rank words) (λ tree. got (apply operator tree))) ends_primary
      (example ++ [])
  applied_rule operator =
      then_rule (read unary_rank) (λ tree. got (apply operator tree)) (ends unary_rank) ends_primary example []
      (links_ends _ (ends unary_rank) ends_primary unary_ends)
      (λ rest e. unary_ends (front rest) e) (r unary_rank) (λ tree. got_rule (apply operator tree) ends_primary)

  -- an operator's right side
  pub right_rule : (least : ℕ) (left : ExpressionTree) (operator : BinaryOperator) → nat_le least (rank operator) ≡ true →
      Rule (λ words. and_then (read (suc (rank operator)) words) (λ right. got (combine operator left right))) (ends_operators least)
      (example ++ [])
  right_rule least left operator e =
      then_rule (read (suc (rank operator))) (λ right. got (combine operator left right)) (ends (suc (rank operator)))
      (ends_operators least) example []
      (links_ends _ (ends (suc (rank operator))) (ends_operators least) (λ first f. operator_ends least operator first e f))
      (λ rest f. operator_ends least operator (front rest) e f)
      (r (suc (rank operator))) (λ right. got_rule (combine operator left right) (ends_operators least))

  otherwise_rule : (condition when_true : ExpressionTree) →
      Rule (λ left. and_then (read 0 left) (λ when_false. got (conditional condition when_true when_false))) (ends 0) (example ++ [])
  otherwise_rule condition when_true =
      then_rule (read 0) (λ when_false. got (conditional condition when_true when_false)) (ends 0) (ends 0) example []
      (links_ends _ (ends 0) (ends 0) (λ first e. e)) (λ rest e. e) (r 0)
      (λ when_false. got_rule (conditional condition when_true when_false) (ends 0))

  -- what stands behind a question mark
  pub branches_rule : (condition : ExpressionTree) → Rule (branches read condition) (ends 0) (example ++ codes ":" ∷ (example ++ []))
  unfolding binary_of
  branches_rule condition =
      then_rule (read 0) (λ when_true. past (codes ":") (λ left. and_then (read 0 left)
      (λ when_false. got (conditional condition when_true when_false)))) (ends 0) (ends 0) example
      (codes ":" ∷ (example ++ [])) (links_eats _ (ends 0) (ends 0)
      (λ when_true. past_eats (codes ":") _ (ends 0) (example ++ []) (otherwise_rule condition when_true))) (λ rest e. refl) (r 0)
      (λ when_true. past_rule (codes ":") _ (ends 0) (example ++ []) (otherwise_rule condition when_true))

-- a level up

module _ (below : ℕ) (read : Below) (rules : nat_le 1 below ≡ true → (least : ℕ) → Rule (read least) (ends least) example) where
  select_leads : (letters word : Text) → IsLead ends_primary (select_lead below read letters word)
  select_leads letters word =
      lead_if ends_primary (bytes_eq (codes "[") word) _ _
      (lead_room ends_primary below 1 (goes (rest_of_select read letters))
      (λ e. rule_lead (rest_of_select read letters) ends_primary (example ++ codes "]" ∷ []) (selected_rule read (rules e) letters))) tt

  named_rule : (letters : Text) → Rule (rest_of_name below read letters) ends_primary []
  named_rule letters =
      option_rule (is_front (codes "[")) (by_word (select_lead below read letters)) (name letters) ends_primary
      (led_eats (select_lead below read letters) ends_primary (select_leads letters))
      (λ first e. not-true (is_front (codes "[") first) e) (led_sees (select_lead below read letters) ends_primary (select_leads letters))

  primary_leads_by : (word : Text) (b : Beginning) → IsLead ends_primary (primary_by below read word b)
  primary_leads_by word start.Number = rule_lead (got (number word)) ends_primary [] (got_rule (number word) ends_primary)
  primary_leads_by word start.Name = rule_lead (rest_of_name below read word) ends_primary [] (named_rule word)
  primary_leads_by word start.Time = rule_lead (got (time word)) ends_primary [] (got_rule (time word) ends_primary)
  primary_leads_by word (start.Round round.Parenthesis) =
      lead_room ends_primary below 1 (goes (rest_of_parentheses read parentheses))
      (λ e. rule_lead (rest_of_parentheses read parentheses) ends_primary (example ++ codes ")" ∷ []) (enclosed_rule read (rules e) parentheses))
  primary_leads_by word (start.Round round.Brace) =
      lead_room ends_primary below 1 (goes (braces read)) (λ e. rule_lead (braces read) ends_primary (example ++ codes "}" ∷ [])
      (braces_rule read (rules e)))
  primary_leads_by word (start.Round (round.Conversion signed)) =
      lead_room ends_primary below 1 (goes (past (codes "(") (rest_of_parentheses read (conversion signed))))
      (λ e. rule_lead (past (codes "(") (rest_of_parentheses read (conversion signed))) ends_primary (codes "(" ∷ (example ++ codes ")" ∷ []))
      (past_rule (codes "(") (rest_of_parentheses read (conversion signed)) ends_primary (example ++ codes ")" ∷ [])
      (enclosed_rule read (rules e) (conversion signed))))
  primary_leads_by word (start.Round (round.Operator operator)) =
      lead_room ends_primary below 1 _ (λ e. rule_lead _ ends_primary (example ++ []) (applied_rule read (rules e) operator))
  primary_leads_by word start.Other = tt

  pub primary_rule : Rule (primary below read) ends_primary example
  unfolding beginning_of reserved_words
  primary_rule =
      led_rule (primary_lead below read) ends_primary (codes "a") [] (rest_of_name below read (codes "a"))
      (λ word. primary_leads_by word (beginning_of word)) refl (named_rule (codes "a")).starts

  enough_below : (tree : ExpressionTree) → nat_le (depth tree) below ≡ true → nat_le 1 below ≡ true
  enough_below tree e = at_least_one (depth tree) below (depth_positive tree) e
    where
      at_least_one : (d b : ℕ) → 0 < d → nat_le d b ≡ true → nat_le 1 b ≡ true
      at_least_one d b p e = grind (arith, nat_tests)

  operator_leads_by : (least : ℕ) (left : ExpressionTree) (o : Option BinaryOperator) →
      IsLead (ends_operators least) (operator_by below read least left o)
  operator_leads_by least left None = tt
  operator_leads_by least left (Some operator) = by_test (nat_le least (rank operator)) refl
    where
      by_test : (b : Bool) → nat_le least (rank operator) ≡ b →
          IsLead (ends_operators least)
          (if b then room below (depth left) (goes (λ words. and_then (read (suc (rank operator)) words)
          (λ right. got (combine operator left right)))) else refused)
      by_test true e =
          lead_room (ends_operators least) below (depth left) _
          (λ f. rule_lead _ (ends_operators least) (example ++ []) (right_rule read (rules (enough_below left f)) least left operator e))
      by_test false e = tt

  operator_leads : (least : ℕ) (left : ExpressionTree) (word : Text) →
      IsLead (ends_operators least) (operator_lead below read least left word)
  operator_leads least left word = operator_leads_by least left (binary_of word)

  pub operator_eats : (least : ℕ) (left : ExpressionTree) → Eats (operator below read least left)
  operator_eats least left = led_eats (operator_lead below read least left) (ends_operators least) (operator_leads least left)

  operators_rule : (least : ℕ) (left : ExpressionTree) → Rule (turns (operator below read least) (is_joined least) left)
      (ends_operators least) []
  operators_rule least left =
      turns_rule (operator below read least) (is_joined least) (operator_eats least) (ends_operators least) (ends_operators least)
      (λ tree. led_sees (operator_lead below read least tree) (ends_operators least) (operator_leads least tree)) (λ first e. e)
      (not_joined least) left

  question_leads : (least : ℕ) (condition : ExpressionTree) (word : Text) →
      IsLead (ends least) (question_lead below read least condition word)
  question_leads least condition word = by_test (is_asked least (Some word)) refl
    where
      none : (n : ℕ) → nat_le n 0 ≡ true → n ≡ 0
      none n e = grind (arith, nat_tests)

      by_test : (b : Bool) → is_asked least (Some word) ≡ b → IsLead (ends least)
          (if b then room below (depth condition) (goes (branches read condition)) else refused)
      by_test true e =
          lead_room (ends least) below (depth condition) (goes (branches read condition))
          (λ f. subst (λ n. IsLead (ends n) (goes (branches read condition)))
          (sym (none least (and_left (nat_le least 0) (bytes_eq (codes "?") word) e)))
          (rule_lead (branches read condition) (ends 0) (example ++ codes ":" ∷ (example ++ []))
          (branches_rule read (rules (enough_below condition f)) condition)))
      by_test false e = tt

  question_rule : (least : ℕ) (condition : ExpressionTree) → Rule (question below read least condition) (ends least) []
  question_rule least condition =
      option_rule (is_asked least) (by_word (question_lead below read least condition)) condition (ends least)
      (led_eats (question_lead below read least condition) (ends least) (question_leads least condition)) (not_asked least)
      (led_sees (question_lead below read least condition) (ends least) (question_leads least condition))

  pub onward_rule : (least : ℕ) (left : ExpressionTree) → Rule (onward below read least left) (ends least) ([] ++ [])
  onward_rule least left =
      then_rule (turns (operator below read least) (is_joined least) left) (question below read least) (ends_operators least)
      (ends least) [] []
      (links_ends _ (ends_operators least) (ends least) (operators_ended least)) (λ rest e. operators_ended least (front rest) e)
      (operators_rule least left) (question_rule least)

  pub by_rule : (least : ℕ) → Rule (expression_by below read least) (ends least) example
  by_rule least =
      then_rule (primary below read) (onward below read least) ends_primary (ends least) example []
      (links_ends _ ends_primary (ends least) (λ first e. primary_ended least first (operators_ended least first e)))
      (λ rest e. primary_ended least (front rest) (operators_ended least (front rest) e)) primary_rule (onward_rule least)

-- expressions of one level at least
pub expression_rule : (below least : ℕ) → Rule (expression (suc below) least) (ends least) example
unfolding expression
expression_rule zero least = by_rule 0 (expression 0) (λ e. absurd (none e)) least
  where
    none : nat_le 1 0 ≡ true → ⊥
    none e = let clash : false ≡ true = e in cc
expression_rule (suc below) least = by_rule (suc below) (expression (suc below)) (λ e n. expression_rule below n) least
