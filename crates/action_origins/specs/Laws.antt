-- *internal*: That parts of a text have as many words as they spell, which a function of `law` proves.
use Rattle.std.specs.Prelude.{◌≡◌, Bool, if◌then◌else◌, List, [], ◌∷◌, ◌++◌, map, length, codes, Option, option_map}
use Rattle.vwords.specs.Words.{Text}
use Rattle.vast.specs.NumberedWords.{Word}
use Rattle.vast.specs.NumberedExpressions.{ExpressionTree, ExpressionTrees}
use Rattle.vast.specs.NumberedStatements.{TargetTree, DelayTree, EventTree, StatementTree, BranchTree}
use Rattle.vast.specs.NumberedModules.{HeadParameter, PortTree, ItemTree}
use Rattle.vast.specs.Expressions.{spell_expression, spell_parts}
use Rattle.vast.specs.Statements.{spell_delay, spell_event, spell_condition, spell_setting, spell_statement, spell_branch}
use Rattle.vast.specs.Modules.{spell_item, spell_head_parameters, spell_ports}
use Rattle.vast.specs.TreeWords.{expression_with, expressions_with, target_with, delay_with, event_with, statement_with, branch_with, head_with, port_with, item_with}
use Rattle.action_origins.specs.Lengths.{length_if, parts_length, delay_length, event_length, head_length, for_length, turn_length, default_length, statement_length, branch_length, item_length, head_parameters_length, ports_length}

-- a word by its letters alone
abbrev pub letters : Word → Text
letters word = word.letters

-- the words of an expression
abbrev pub words_of_expression : ExpressionTree → List Text
words_of_expression e = spell_expression (expression_with letters e)

abbrev pub spelled_pair : TargetTree → ExpressionTree → List Text
spelled_pair target value = spell_setting (target_with letters target) (expression_with letters value)

pub record AreLengths : Type 0 where
  -- labels :
  pub parts : (labels : ExpressionTrees) → parts_length labels ≡ length (spell_parts (expressions_with letters labels) ++ codes ":" ∷ [])
  -- if ( condition ), and the like
  pub head : (keyword : Text) (condition : ExpressionTree) → head_length condition ≡ length (keyword ∷ spell_condition (expression_with letters condition))
  -- for ( target = value ; condition ;
  pub for : (target : TargetTree) (value condition : ExpressionTree) →
      for_length target value condition
      ≡ length (codes "for" ∷ codes "(" ∷ (spelled_pair target value ++ codes ";" ∷ (words_of_expression condition ++ codes ";" ∷ [])))
  -- target = value )
  pub turn : (target : TargetTree) (value : ExpressionTree) → turn_length target value ≡ length (spelled_pair target value ++ codes ")" ∷ [])
  -- default :
  pub default : (colon : Bool) → default_length colon ≡ length (codes "default" ∷ (if colon then codes ":" ∷ [] else []))
  pub delay : (amount : DelayTree) → delay_length amount ≡ length (spell_delay (delay_with letters amount))
  pub event : (control : EventTree) → event_length control ≡ length (spell_event (event_with letters control))
  pub statement : (s : StatementTree) → statement_length s ≡ length (spell_statement (statement_with letters s))
  pub branch : (b : BranchTree) → branch_length b ≡ length (spell_branch (branch_with letters b))
  pub head_parameters : (list : Option (List HeadParameter)) →
      length_if head_parameters_length list ≡ length (spell_head_parameters (option_map (map (head_with letters)) list))
  pub ports : (list : Option (List PortTree)) → length_if ports_length list ≡ length (spell_ports (option_map (map (port_with letters)) list))
  pub item : (i : ItemTree) → item_length i ≡ length (spell_item (item_with letters i))
