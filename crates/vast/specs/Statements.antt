-- *trusted*: Statements of the whole profile (IEEE 1364-2005, clause 9 and A.6, narrowed to this product's profile): their trees, the
-- words that these spell, how deep they nest, and which stand as the grammar lets them.
use Rattle.std.specs.Prelude.{ℕ, ◌+◌, max, nat_le, Bool, true, false, ◌&&◌, not, if◌then◌else◌, List, [], ◌∷◌, ◌++◌, Option, Some, None, length, codes, flat_map}
use Rattle.std.specs.List.{list_all}
use Rattle.vwords.specs.Words.{Text, is_name, is_number, is_string}
use Rattle.vast.specs.Expressions.{ExpressionOf, ExpressionsOf, ExpressionTree, spell_expression, spell_parts, depth, greatest_depth, fits_expression, fits_parts, is_some_part}
use Rattle.vwords.specs.declared.cases.CaseKind.{CaseKind}
use Rattle.vwords.specs.declared.cases.CaseKind.TheVariants as case_kind
use Rattle.vast.specs.declared.statement.Edge.{Edge}
use Rattle.vast.specs.declared.statement.Edge.TheVariants as edge
use Rattle.vast.specs.declared.statement.Base.{Base}
use Rattle.vast.specs.declared.statement.Base.TheVariants as bases
use Rattle.vast.specs.declared.statement.Printing.{Printing}
use Rattle.vast.specs.declared.statement.Printing.TheVariants as printing
use Rattle.vast.specs.declared.statement.Idle.{Idle}
use Rattle.vast.specs.declared.statement.Idle.TheVariants as idles
use Rattle.vast.specs.declared.statement.Dumping.{Dumping}
use Rattle.vast.specs.declared.statement.Dumping.TheVariants as dumping

-- A.8.5: what an assignment writes to
mutual
  pub data TargetOf (W : Type 0) : Type 0 where
    whole : W → TargetOf W  -- name
    bit : W → ExpressionOf W → TargetOf W  -- name [ index ]
    part : W → ExpressionOf W → ExpressionOf W → TargetOf W  -- name [ left : right ]
    joined : TargetsOf W → TargetOf W  -- { target, .. }

  pub data TargetsOf (W : Type 0) : Type 0 where
    none : TargetsOf W
    first : TargetOf W → TargetsOf W → TargetsOf W

-- A.6.5: # number, # name or # ( amount )
pub data DelayOf (W : Type 0) : Type 0 where
  by_number : W → DelayOf W
  by_name : W → DelayOf W
  by_value : ExpressionOf W → DelayOf W

-- one of the terms of an event control: a name, after posedge or negedge or by itself
pub record TermOf (W : Type 0) : Type 0 where
  pub edge : Option Edge
  pub name : W

-- a further term, after a comma or after or
pub record FurtherOf (W : Type 0) : Type 0 where
  pub by_comma : Bool
  pub term : TermOf W

-- A.6.5: @ name, @ *, @ ( * ) or @ ( term or term, .. )
pub data EventOf (W : Type 0) : Type 0 where
  by_event : W → EventOf W
  by_any : EventOf W
  by_any_enclosed : EventOf W
  by_terms : TermOf W → List (FurtherOf W) → EventOf W

-- A.6.9: what a printing task is given
pub data ArgumentOf (W : Type 0) : Type 0 where
  quoted : W → ArgumentOf W  -- "letters"
  printed : ExpressionOf W → ArgumentOf W
  left_out : ArgumentOf W

-- 18.1.2: levels, and the paths of names after them
pub record SelectionOf (W : Type 0) : Type 0 where
  pub levels : W
  pub paths : List (List W)

-- A.6.9: a call of a system task
pub data TaskOf (W : Type 0) : Type 0 where
  print : Printing → List (ArgumentOf W) → TaskOf W  -- $display ( argument, .. ), or without arguments $display
  idle : Idle → List (ArgumentOf W) → TaskOf W  -- $fdisplay ( argument, .. ), or without arguments $fopen
  dump_file : W → TaskOf W  -- $dumpfile ( "letters" )
  dump_vars : Option (SelectionOf W) → TaskOf W  -- $dumpvars ( levels, path, .. ), or $dumpvars
  dump : Dumping → TaskOf W  -- $dumpon
  end_run : Bool → Option W → TaskOf W  -- $stop ( number ), or $finish

-- A.6.4
mutual
  pub data StatementOf (W : Type 0) : Type 0 where
    empty : StatementOf W  -- ;
    block : Option W → StatementsOf W → StatementOf W  -- begin .. end, or begin : name .. end
    assign : TargetOf W → Option (DelayOf W) → ExpressionOf W → StatementOf W  -- target = # delay value ;
    nonblocking : TargetOf W → Option (DelayOf W) → ExpressionOf W → StatementOf W  -- target <= # delay value ;
    trigger : W → StatementOf W  -- -> name ;
    if_true : ExpressionOf W → StatementOf W → StatementOf W  -- if ( condition ) statement
    if_else : ExpressionOf W → StatementOf W → StatementOf W → StatementOf W  -- if ( condition ) statement else statement
    case_of : CaseKind → ExpressionOf W → BranchesOf W → StatementOf W  -- case ( value ) branch .. endcase
    while_true : ExpressionOf W → StatementOf W → StatementOf W  -- while ( condition ) statement
    repeat_times : ExpressionOf W → StatementOf W → StatementOf W  -- repeat ( count ) statement
    forever : StatementOf W → StatementOf W  -- forever statement
    for_loop : TargetOf W → ExpressionOf W → ExpressionOf W → TargetOf W → ExpressionOf W → StatementOf W → StatementOf W
        -- for ( target = value ; condition ; target = value ) statement
    wait_for : ExpressionOf W → StatementOf W → StatementOf W  -- wait ( condition ) statement
    delay : DelayOf W → StatementOf W → StatementOf W  -- # delay statement
    event : EventOf W → StatementOf W → StatementOf W  -- @ event statement
    task : TaskOf W → StatementOf W  -- task ;

  pub data StatementsOf (W : Type 0) : Type 0 where
    no_statement : StatementsOf W
    first_statement : StatementOf W → StatementsOf W → StatementsOf W

  -- A.6.7: a branch of a case
  pub data BranchOf (W : Type 0) : Type 0 where
    labelled : ExpressionsOf W → StatementOf W → BranchOf W  -- label, .. : statement
    default : Bool → StatementOf W → BranchOf W  -- default : statement, or without the colon

  pub data BranchesOf (W : Type 0) : Type 0 where
    no_branch : BranchesOf W
    first_branch : BranchOf W → BranchesOf W → BranchesOf W

-- Of words that are told by their letters alone

abbrev pub TargetTree : Type 0
TargetTree = TargetOf Text

abbrev pub TargetTrees : Type 0
TargetTrees = TargetsOf Text

abbrev pub DelayTree : Type 0
DelayTree = DelayOf Text

abbrev pub TermTree : Type 0
TermTree = TermOf Text

abbrev pub FurtherTerm : Type 0
FurtherTerm = FurtherOf Text

abbrev pub EventTree : Type 0
EventTree = EventOf Text

abbrev pub ArgumentTree : Type 0
ArgumentTree = ArgumentOf Text

abbrev pub SelectionTree : Type 0
SelectionTree = SelectionOf Text

abbrev pub TaskTree : Type 0
TaskTree = TaskOf Text

abbrev pub StatementTree : Type 0
StatementTree = StatementOf Text

abbrev pub StatementTrees : Type 0
StatementTrees = StatementsOf Text

abbrev pub BranchTree : Type 0
BranchTree = BranchOf Text

abbrev pub BranchTrees : Type 0
BranchTrees = BranchesOf Text

-- The words of a tree

-- one and then the others, a comma between two
abbrev pub with_commas : {A : Type 0} → (A → List Text) → List A → List Text
with_commas spell [] = []
with_commas spell (one ∷ more) = spell one ++ flat_map (λ other. codes "," ∷ spell other) more

abbrev mutual
  pub spell_target : TargetTree → List Text
  spell_target (whole letters) = letters ∷ []
  spell_target (bit letters index) = letters ∷ codes "[" ∷ (spell_expression index ++ codes "]" ∷ [])
  spell_target (part letters left right) =
      letters ∷ codes "[" ∷ (spell_expression left ++ codes ":" ∷ (spell_expression right ++ codes "]" ∷ []))
  spell_target (joined targets) = codes "{" ∷ (spell_targets targets ++ codes "}" ∷ [])

  -- with commas between them
  pub spell_targets : TargetTrees → List Text
  spell_targets none = []
  spell_targets (first one more) = spell_target one ++ spell_more_targets more

  -- a comma before each
  pub spell_more_targets : TargetTrees → List Text
  spell_more_targets none = []
  spell_more_targets (first one more) = codes "," ∷ (spell_target one ++ spell_more_targets more)

abbrev pub in_parentheses : List Text → List Text
in_parentheses words = codes "(" ∷ (words ++ codes ")" ∷ [])

abbrev pub spell_delay : DelayTree → List Text
spell_delay (by_number digits) = codes "#" ∷ digits ∷ []
spell_delay (by_name letters) = codes "#" ∷ letters ∷ []
spell_delay (by_value amount) = codes "#" ∷ in_parentheses (spell_expression amount)

abbrev pub spell_optional_delay : Option DelayTree → List Text
spell_optional_delay None = []
spell_optional_delay (Some amount) = spell_delay amount

abbrev pub edge_word : Edge → Text
edge_word edge.Rising = codes "posedge"
edge_word edge.Falling = codes "negedge"

abbrev pub spell_edge : Option Edge → List Text
spell_edge None = []
spell_edge (Some kind) = edge_word kind ∷ []

abbrev pub spell_term : TermTree → List Text
spell_term term = spell_edge term.edge ++ term.name ∷ []

abbrev pub spell_further_term : FurtherTerm → List Text
spell_further_term further = (if further.by_comma then codes "," else codes "or") ∷ spell_term further.term

abbrev pub spell_event : EventTree → List Text
spell_event (by_event letters) = codes "@" ∷ letters ∷ []
spell_event by_any = codes "@" ∷ codes "*" ∷ []
spell_event by_any_enclosed = codes "@" ∷ in_parentheses (codes "*" ∷ [])
spell_event (by_terms term further) = codes "@" ∷ in_parentheses (spell_term term ++ flat_map spell_further_term further)

abbrev pub spell_argument : ArgumentTree → List Text
spell_argument (quoted letters) = letters ∷ []
spell_argument (printed tree) = spell_expression tree
spell_argument left_out = []

-- 17.1
abbrev pub base_letter : Base → Text
base_letter bases.Decimal = []
base_letter bases.Binary = codes "b"
base_letter bases.Octal = codes "o"
base_letter bases.Hexadecimal = codes "h"

abbrev pub print_word : Printing → Text
print_word (printing.Display base) = codes "$display" ++ base_letter base
print_word (printing.Write base) = codes "$write" ++ base_letter base
print_word (printing.Strobe base) = codes "$strobe" ++ base_letter base
print_word (printing.Monitor base) = codes "$monitor" ++ base_letter base

-- 17.2.2: of a task that prints to a file
abbrev pub file_word : Printing → Text
file_word (printing.Display base) = codes "$fdisplay" ++ base_letter base
file_word (printing.Write base) = codes "$fwrite" ++ base_letter base
file_word (printing.Strobe base) = codes "$fstrobe" ++ base_letter base
file_word (printing.Monitor base) = codes "$fmonitor" ++ base_letter base

-- 17.2.1, 17.2.2, 17.2.6, 17.3.1, 17.3.2: of a task that has no effect here (own)
abbrev pub idle_word : Idle → Text
idle_word idles.Open = codes "$fopen"
idle_word idles.Close = codes "$fclose"
idle_word idles.Flush = codes "$fflush"
idle_word (idles.File kind) = file_word kind
idle_word idles.TimeFormat = codes "$timeformat"
idle_word idles.PrintTimescale = codes "$printtimescale"

-- 18.1
abbrev pub dump_word : Dumping → Text
dump_word dumping.On = codes "$dumpon"
dump_word dumping.Off = codes "$dumpoff"
dump_word dumping.All = codes "$dumpall"
dump_word dumping.Flush = codes "$dumpflush"

-- without arguments no parentheses stand; between parentheses with nothing one is left out (17.1.1)
abbrev pub spell_arguments : List ArgumentTree → List Text
spell_arguments [] = []
spell_arguments (one ∷ more) = in_parentheses (with_commas spell_argument (one ∷ more))

-- name . name ..
abbrev pub spell_path : List Text → List Text
spell_path [] = []
spell_path (letters ∷ more) = letters ∷ flat_map (λ other. codes "." ∷ other ∷ []) more

abbrev pub spell_selection : Option SelectionTree → List Text
spell_selection None = []
spell_selection (Some selection) =
    in_parentheses (selection.levels ∷ flat_map (λ path. codes "," ∷ spell_path path) selection.paths)

abbrev pub spell_number : Option Text → List Text
spell_number None = []
spell_number (Some digits) = in_parentheses (digits ∷ [])

-- 17.4
abbrev pub end_word : Bool → Text
end_word stops = if stops then codes "$stop" else codes "$finish"

abbrev pub spell_task : TaskTree → List Text
spell_task (print kind arguments) = print_word kind ∷ spell_arguments arguments
spell_task (idle kind arguments) = idle_word kind ∷ spell_arguments arguments
spell_task (dump_file letters) = codes "$dumpfile" ∷ in_parentheses (letters ∷ [])
spell_task (dump_vars selection) = codes "$dumpvars" ∷ spell_selection selection
spell_task (dump kind) = dump_word kind ∷ []
spell_task (end_run stops number) = end_word stops ∷ spell_number number

-- 9.5
abbrev pub case_word : CaseKind → Text
case_word case_kind.Exact = codes "case"
case_word case_kind.Z = codes "casez"
case_word case_kind.X = codes "casex"

-- target = value
abbrev pub spell_setting : TargetTree → ExpressionTree → List Text
spell_setting target value = spell_target target ++ codes "=" ∷ spell_expression value

abbrev pub spell_condition : ExpressionTree → List Text
spell_condition condition = in_parentheses (spell_expression condition)

-- 9.8.3: the name of a block, behind begin
abbrev pub spell_block_name : Option Text → List Text
spell_block_name None = []
spell_block_name (Some letters) = codes ":" ∷ letters ∷ []

abbrev mutual
  pub spell_statement : StatementTree → List Text
  spell_statement empty = codes ";" ∷ []
  spell_statement (block label statements) = codes "begin" ∷ (spell_block_name label ++ (spell_statements statements ++ codes "end" ∷ []))
  spell_statement (assign target amount value) =
      spell_target target ++ codes "=" ∷ (spell_optional_delay amount ++ (spell_expression value ++ codes ";" ∷ []))
  spell_statement (nonblocking target amount value) =
      spell_target target ++ codes "<=" ∷ (spell_optional_delay amount ++ (spell_expression value ++ codes ";" ∷ []))
  spell_statement (trigger letters) = codes "->" ∷ letters ∷ codes ";" ∷ []
  spell_statement (if_true condition body) = codes "if" ∷ (spell_condition condition ++ spell_statement body)
  spell_statement (if_else condition body other) =
      codes "if" ∷ (spell_condition condition ++ (spell_statement body ++ codes "else" ∷ spell_statement other))
  spell_statement (case_of kind value branches) =
      case_word kind ∷ (spell_condition value ++ (spell_branches branches ++ codes "endcase" ∷ []))
  spell_statement (while_true condition body) = codes "while" ∷ (spell_condition condition ++ spell_statement body)
  spell_statement (repeat_times count body) = codes "repeat" ∷ (spell_condition count ++ spell_statement body)
  spell_statement (forever body) = codes "forever" ∷ spell_statement body
  spell_statement (for_loop target value condition next_target next_value body) =
      codes "for" ∷ codes "(" ∷ (spell_setting target value ++ codes ";" ∷ (spell_expression condition ++ codes ";" ∷
      (spell_setting next_target next_value ++ codes ")" ∷ spell_statement body)))
  spell_statement (wait_for condition body) = codes "wait" ∷ (spell_condition condition ++ spell_statement body)
  spell_statement (delay amount body) = spell_delay amount ++ spell_statement body
  spell_statement (event control body) = spell_event control ++ spell_statement body
  spell_statement (task call) = spell_task call ++ codes ";" ∷ []

  pub spell_statements : StatementTrees → List Text
  spell_statements no_statement = []
  spell_statements (first_statement one more) = spell_statement one ++ spell_statements more

  pub spell_branch : BranchTree → List Text
  spell_branch (labelled labels body) = spell_parts labels ++ codes ":" ∷ spell_statement body
  spell_branch (default colon body) = codes "default" ∷ (if colon then codes ":" ∷ spell_statement body else spell_statement body)

  pub spell_branches : BranchTrees → List Text
  spell_branches no_branch = []
  spell_branches (first_branch one more) = spell_branch one ++ spell_branches more

-- Depth: a leaf counts 1, each statement round it 1 more; parentheses that belong to a statement count nothing, nor do numbers of
-- $finish, $stop and $dumpvars, nor paths, nor names of blocks.

abbrev mutual
  pub target_depth : TargetTree → ℕ
  target_depth (whole letters) = 1
  target_depth (bit letters index) = 1 + depth index
  target_depth (part letters left right) = 1 + max (depth left) (depth right)
  target_depth (joined targets) = 1 + greatest_target_depth targets

  pub greatest_target_depth : TargetTrees → ℕ
  greatest_target_depth none = 0
  greatest_target_depth (first one more) = max (target_depth one) (greatest_target_depth more)

abbrev pub delay_depth : DelayTree → ℕ
delay_depth (by_number digits) = 1
delay_depth (by_name letters) = 1
delay_depth (by_value amount) = depth amount

abbrev pub optional_delay_depth : Option DelayTree → ℕ
optional_delay_depth None = 0
optional_delay_depth (Some amount) = delay_depth amount

abbrev pub event_depth : EventTree → ℕ
event_depth (by_event letters) = 1
event_depth by_any = 0
event_depth by_any_enclosed = 0
event_depth (by_terms term further) = 1

abbrev pub argument_depth : ArgumentTree → ℕ
argument_depth (quoted letters) = 1
argument_depth (printed tree) = depth tree
argument_depth left_out = 1

abbrev pub arguments_depth : List ArgumentTree → ℕ
arguments_depth [] = 0
arguments_depth (one ∷ more) = max (argument_depth one) (arguments_depth more)

abbrev pub task_depth : TaskTree → ℕ
task_depth (print kind arguments) = arguments_depth arguments
task_depth (idle kind arguments) = arguments_depth arguments
task_depth (dump_file letters) = 1
task_depth (dump_vars selection) = 0
task_depth (dump kind) = 0
task_depth (end_run stops number) = 0

abbrev mutual
  pub statement_depth : StatementTree → ℕ
  statement_depth empty = 1
  statement_depth (block label statements) = 1 + statements_depth statements
  statement_depth (assign target amount value) = 1 + max (target_depth target) (max (optional_delay_depth amount) (depth value))
  statement_depth (nonblocking target amount value) = 1 + max (target_depth target) (max (optional_delay_depth amount) (depth value))
  statement_depth (trigger letters) = 2
  statement_depth (if_true condition body) = 1 + max (depth condition) (statement_depth body)
  statement_depth (if_else condition body other) =
      1 + max (depth condition) (max (statement_depth body) (statement_depth other))
  statement_depth (case_of kind value branches) = 1 + max (depth value) (branches_depth branches)
  statement_depth (while_true condition body) = 1 + max (depth condition) (statement_depth body)
  statement_depth (repeat_times count body) = 1 + max (depth count) (statement_depth body)
  statement_depth (forever body) = 1 + statement_depth body
  statement_depth (for_loop target value condition next_target next_value body) =
      1 + max (max (target_depth target) (depth value)) (max (depth condition)
      (max (max (target_depth next_target) (depth next_value)) (statement_depth body)))
  statement_depth (wait_for condition body) = 1 + max (depth condition) (statement_depth body)
  statement_depth (delay amount body) = 1 + max (delay_depth amount) (statement_depth body)
  statement_depth (event control body) = 1 + max (event_depth control) (statement_depth body)
  statement_depth (task call) = 1 + task_depth call

  pub statements_depth : StatementTrees → ℕ
  statements_depth no_statement = 0
  statements_depth (first_statement one more) = max (statement_depth one) (statements_depth more)

  pub branch_depth : BranchTree → ℕ
  branch_depth (labelled labels body) = max (greatest_depth labels) (statement_depth body)
  branch_depth (default colon body) = statement_depth body

  pub branches_depth : BranchTrees → ℕ
  branches_depth no_branch = 0
  branches_depth (first_branch one more) = max (branch_depth one) (branches_depth more)

-- What stands as the grammar lets it

-- an if without else stands at its end, so that an else after it would belong to that
abbrev pub ends_in_if : StatementTree → Bool
ends_in_if empty = false
ends_in_if (block label statements) = false
ends_in_if (assign target amount value) = false
ends_in_if (nonblocking target amount value) = false
ends_in_if (trigger letters) = false
ends_in_if (if_true condition body) = true
ends_in_if (if_else condition body other) = ends_in_if other
ends_in_if (case_of kind value branches) = false
ends_in_if (while_true condition body) = ends_in_if body
ends_in_if (repeat_times count body) = ends_in_if body
ends_in_if (forever body) = ends_in_if body
ends_in_if (for_loop target value condition next_target next_value body) = ends_in_if body
ends_in_if (wait_for condition body) = ends_in_if body
ends_in_if (delay amount body) = ends_in_if body
ends_in_if (event control body) = ends_in_if body
ends_in_if (task call) = false

abbrev pub is_some_target : TargetTrees → Bool
is_some_target none = false
is_some_target (first one more) = true

abbrev mutual
  pub fits_target : TargetTree → Bool
  fits_target (whole letters) = is_name letters
  fits_target (bit letters index) = is_name letters && fits_expression index
  fits_target (part letters left right) = is_name letters && fits_expression left && fits_expression right
  fits_target (joined targets) = is_some_target targets && fits_targets targets

  pub fits_targets : TargetTrees → Bool
  fits_targets none = true
  fits_targets (first one more) = fits_target one && fits_targets more

abbrev pub fits_delay : DelayTree → Bool
fits_delay (by_number digits) = is_number digits
fits_delay (by_name letters) = is_name letters
fits_delay (by_value amount) = fits_expression amount

abbrev pub fits_optional_delay : Option DelayTree → Bool
fits_optional_delay None = true
fits_optional_delay (Some amount) = fits_delay amount

abbrev pub fits_further_term : FurtherTerm → Bool
fits_further_term further = is_name further.term.name

abbrev pub fits_event : EventTree → Bool
fits_event (by_event letters) = is_name letters
fits_event by_any = true
fits_event by_any_enclosed = true
fits_event (by_terms term further) = is_name term.name && list_all fits_further_term further

abbrev pub fits_argument : ArgumentTree → Bool
fits_argument (quoted letters) = is_string letters
fits_argument (printed tree) = fits_expression tree
fits_argument left_out = true

-- $monitor alone asks for arguments
abbrev pub fits_print : Printing → List ArgumentTree → Bool
fits_print (printing.Display base) arguments = true
fits_print (printing.Write base) arguments = true
fits_print (printing.Strobe base) arguments = true
fits_print (printing.Monitor base) arguments = nat_le 1 (length arguments)

abbrev pub fits_path : List Text → Bool
fits_path path = nat_le 1 (length path) && list_all is_name path

abbrev pub fits_selection : Option SelectionTree → Bool
fits_selection None = true
fits_selection (Some selection) = is_number selection.levels && list_all fits_path selection.paths

abbrev pub fits_optional_number : Option Text → Bool
fits_optional_number None = true
fits_optional_number (Some digits) = is_number digits

abbrev pub fits_task : TaskTree → Bool
fits_task (print kind arguments) = fits_print kind arguments && list_all fits_argument arguments
fits_task (idle kind arguments) = list_all fits_argument arguments
fits_task (dump_file letters) = is_string letters
fits_task (dump_vars selection) = fits_selection selection
fits_task (dump kind) = true
fits_task (end_run stops number) = fits_optional_number number

abbrev pub is_default : BranchTree → Bool
is_default (labelled labels body) = false
is_default (default colon body) = true

-- 9.5: how many branches are defaults
abbrev pub defaults : BranchTrees → ℕ
defaults no_branch = 0
defaults (first_branch one more) = (if is_default one then 1 else 0) + defaults more

abbrev pub is_some_branch : BranchTrees → Bool
is_some_branch no_branch = false
is_some_branch (first_branch one more) = true

abbrev pub fits_block_name : Option Text → Bool
fits_block_name None = true
fits_block_name (Some letters) = is_name letters

abbrev mutual
  pub fits_statement : StatementTree → Bool
  fits_statement empty = true
  fits_statement (block label statements) = fits_block_name label && fits_statements statements
  fits_statement (assign target amount value) = fits_target target && fits_optional_delay amount && fits_expression value
  fits_statement (nonblocking target amount value) = fits_target target && fits_optional_delay amount && fits_expression value
  fits_statement (trigger letters) = is_name letters
  fits_statement (if_true condition body) = fits_expression condition && fits_statement body
  fits_statement (if_else condition body other) =
      fits_expression condition && not (ends_in_if body) && fits_statement body && fits_statement other
  fits_statement (case_of kind value branches) =
      fits_expression value && is_some_branch branches && nat_le (defaults branches) 1 && fits_branches branches
  fits_statement (while_true condition body) = fits_expression condition && fits_statement body
  fits_statement (repeat_times count body) = fits_expression count && fits_statement body
  fits_statement (forever body) = fits_statement body
  fits_statement (for_loop target value condition next_target next_value body) =
      fits_target target && fits_expression value && fits_expression condition && fits_target next_target && fits_expression next_value
      && fits_statement body
  fits_statement (wait_for condition body) = fits_expression condition && fits_statement body
  fits_statement (delay amount body) = fits_delay amount && fits_statement body
  fits_statement (event control body) = fits_event control && fits_statement body
  fits_statement (task call) = fits_task call

  pub fits_statements : StatementTrees → Bool
  fits_statements no_statement = true
  fits_statements (first_statement one more) = fits_statement one && fits_statements more

  pub fits_branch : BranchTree → Bool
  fits_branch (labelled labels body) = is_some_part labels && fits_parts labels && fits_statement body
  fits_branch (default colon body) = fits_statement body

  pub fits_branches : BranchTrees → Bool
  fits_branches no_branch = true
  fits_branches (first_branch one more) = fits_branch one && fits_branches more
