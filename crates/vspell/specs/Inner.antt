-- *internal*: What inner functions of the code answer.
use Rattle.std.specs.Prelude.{◌≡◌, Bool, true, false, if◌then◌else◌, List, [], ◌∷◌, Option, ◌++◌, flat_map, Vec, Result, OnOk, codes}
use Rattle.vspell.specs.declared.spelling.Spelling.{Spelling}
use Rattle.vwords.specs.declared.cases.CaseKind.{CaseKind}
use Rattle.vwords.specs.Words.{Text}
use Rattle.vspell.specs.Spellings.{texts_of}
use Rattle.vast.specs.Expressions.{ExpressionTree, ExpressionTrees, spell_expression, spell_parts, spell_more_parts}
use Rattle.vast.specs.Statements.{TargetTree, TargetTrees, DelayTree, spell_target, spell_optional_delay, spell_setting, spell_condition, spell_path, case_word, spell_targets, spell_more_targets, with_commas, BranchTrees, spell_branches, StatementTrees, spell_statements, spell_block_name}

-- where nothing was refused, these words were put behind those that there were
abbrev pub Puts : {A T E : Type 0} → Vec Spelling A → Vec Spelling A → Result T E → List Text → Type 0
Puts old new result words = OnOk result (texts_of new.items ≡ texts_of old.items ++ words)

-- a comma, but before the first
abbrev pub comma_words : Bool → List Text
comma_words first = if first then [] else codes "," ∷ []

-- what follows of a list: all of it, or what is behind the first
abbrev pub parts_from : Bool → ExpressionTrees → List Text
parts_from true = spell_parts
parts_from false = spell_more_parts

abbrev pub targets_from : Bool → TargetTrees → List Text
targets_from true = spell_targets
targets_from false = spell_more_targets

abbrev pub listed_from : {A : Type 0} → Bool → (A → List Text) → List A → List Text
listed_from true spell list = with_commas spell list
listed_from false spell list = flat_map (λ other. codes "," ∷ spell other) list

-- { part, .. }, and the same with another brace behind it
abbrev pub braces_words : ExpressionTrees → List Text
braces_words parts = codes "{" ∷ (spell_parts parts ++ codes "}" ∷ [])

abbrev pub doubled_words : ExpressionTrees → List Text
doubled_words parts = codes "{" ∷ (spell_parts parts ++ codes "}" ∷ codes "}" ∷ [])

abbrev pub joined_words : TargetTrees → List Text
joined_words targets = codes "{" ∷ (spell_targets targets ++ codes "}" ∷ [])

abbrev pub range_words : ExpressionTree → ExpressionTree → List Text
range_words left right = codes "[" ∷ (spell_expression left ++ codes ":" ∷ (spell_expression right ++ codes "]" ∷ []))

-- begin : name statement .. end, and the branches of a case
abbrev pub block_words : Option Text → StatementTrees → List Text
block_words label statements = codes "begin" ∷ (spell_block_name label ++ (spell_statements statements ++ codes "end" ∷ []))

abbrev pub case_head_words : CaseKind → ExpressionTree → List Text
case_head_words kind value = case_word kind ∷ spell_condition value

abbrev pub case_words : BranchTrees → List Text
case_words branches = spell_branches branches ++ codes "endcase" ∷ []

-- what stands behind a target and its sign, and an assignment by this sign
abbrev pub assigned_words : Option DelayTree → ExpressionTree → List Text
assigned_words amount value = spell_optional_delay amount ++ (spell_expression value ++ codes ";" ∷ [])

abbrev pub assignment_words : Text → TargetTree → Option DelayTree → ExpressionTree → List Text
assignment_words sign target amount value = spell_target target ++ sign ∷ assigned_words amount value

-- a keyword and a condition
abbrev pub head_words : Text → ExpressionTree → List Text
head_words keyword condition = keyword ∷ spell_condition condition

abbrev pub for_words : TargetTree → ExpressionTree → ExpressionTree → TargetTree → ExpressionTree → List Text
for_words target value condition next_target next_value =
    codes "for" ∷ codes "(" ∷ (spell_setting target value ++ codes ";" ∷ (spell_expression condition ++ codes ";" ∷
    (spell_setting next_target next_value ++ codes ")" ∷ [])))

-- . name .., and , path ..
abbrev pub dotted_words : List Text → List Text
dotted_words = flat_map (λ other. codes "." ∷ other ∷ [])

abbrev pub paths_words : List (List Text) → List Text
paths_words = flat_map (λ path. codes "," ∷ spell_path path)

-- -> name ;
abbrev pub trigger_words : Text → List Text
trigger_words letters = codes "->" ∷ letters ∷ codes ";" ∷ []

-- a name by itself
abbrev pub alone : Text → List Text
alone letters = letters ∷ []
