-- Sizes in statements and processes: where they are lowered the table has no flaw only where they are right; and where a size is told, in
-- the table or before it, they aren't.
use Rattle.std.proofs.Common.{◌≡◌, ℕ, Bool, true, false, ◌&&◌, List, [], ◌∷◌, ◌++◌, Option, None, Some, Result, Ok, Err, refl, sym, ap, ◌∙◌, subst}
use Rattle.std.specs.Prelude.{unwrap_or}
use Rattle.std.specs.List.{list_all}
use Rattle.std.specs.Option.{option_or}
use Rattle.basis.proofs.Bools.{and_assoc}
use Rattle.vast.specs.NumberedWords.{Word}
use Rattle.vwords.specs.Words.{Text}
use Rattle.vast.specs.NumberedExpressions as text
use Rattle.vast.specs.NumberedStatements.{TargetTree, ArgumentTree, quoted, printed, left_out, SelectionTree, TaskTree, print, idle, dump_file, dump_vars, dump, end_run, DelayTree, by_number, by_name, by_value, FurtherTerm, EventTree, by_event, by_any, by_any_enclosed, by_terms, StatementTree, StatementTrees, empty, block, assign, nonblocking, trigger, if_true, if_else, case_of, while_true, repeat_times, forever, for_loop, wait_for, delay, event, task, no_statement, first_statement, BranchTree, BranchTrees, labelled, default, no_branch, first_branch}
use Rattle.vast.specs.NumberedModules.{ItemTree}
use Rattle.vast.specs.declared.statement.Dumping.{Dumping}
use Rattle.vast.specs.declared.statement.Dumping.TheVariants as dumps
use Rattle.vdesign.specs.Expressions.{ExpressionTree}
use Rattle.vdesign.specs.declared.action.Action.{Action}
use Rattle.vdesign.specs.declared.action.Action.TheVariants.{While}
use Rattle.vdesign.specs.declared.action.Target.{Target}
use Rattle.vdesign.specs.declared.action.Edge.{Edge}
use Rattle.vdesign.specs.declared.action.Edge.TheVariants.{Any, Rise, Fall}
use Rattle.vdesign.specs.declared.print.Piece.{Piece}
use Rattle.vdesign.specs.declared.print.Piece.TheVariants.{Value}
use Rattle.vdesign.specs.declared.print.Form.{Form}
use Rattle.vdesign.specs.declared.print.Notation.{Notation}
use Rattle.vdesign.specs.declared.print.Notation.TheVariants.{Binary, Octal, Hexadecimal, Decimal, Time, Character, Letters}
use Rattle.vdesign.specs.declared.print.Width.{Width}
use Rattle.vast.specs.declared.statement.Printing.{Printing}
use Rattle.format_text.specs.declared.letters.Escape.TheVariants.{Plain}
use Rattle.format_text.specs.Formats.{FormatFront, letters_of, letters_in, front_of}
use Rattle.format_text.specs.Pieces.{Argument, string, value, Taken, text_piece, without_form, last_pieces, value_taken, string_by, string_shown, string_taken, path_left, format_left, pieces_with_taken, pieces_by, pieces_of, line_end, with_line_end}
use Rattle.vvalue.specs.Value.{Environment}
use Rattle.vvalue.specs.Flaws.{flaw_of, targets_flaw}
use Rattle.vvalue.specs.declared.flaw.Flaw.{Flaw}
use Rattle.velab_expr.specs.declared.fault.Rule.TheVariants.{Kind}
use Rattle.velab_expr.specs.declared.fault.ElabFault.{ElabFault}
use Rattle.velab_expr.specs.declared.scope.Meaning.{Meaning}
use Rattle.velab_expr.specs.declared.scope.Meaning.TheVariants.{Variable, Parameter, Event, Instance}
use Rattle.velab_expr.specs.Answers.{◌>>=◌, value_or_fault}
use Rattle.velab_expr.specs.FirstWords.{first_in, first_argument}
use Rattle.velab_expr.specs.Scopes.{Scope, meaning_of, event_by, lower_event}
use Rattle.velab_expr.specs.Symbols.{behind_item}
use Rattle.velab_expr.specs.Resolved.{lower_expression}
use Rattle.velab_expr.specs.Written.{lower_target, lower_net_target, lower_target_by}
use Rattle.velab_expr.specs.Selections.{levels_in, lower_selection}
use Rattle.velab_declaration.specs.ActionFlaws.{first_flaw, branch_flaw, piece_flaw, assignment_flaw, action_flaw}
use Rattle.velab_process.specs.Waits.{edge_of, term_by, lower_term, lower_further, lower_control}
use Rattle.velab_process.specs.Prints.{default_form, ends_line, arguments_given, lower_argument, lower_arguments, lower_line}
use Rattle.velab_process.proofs.LineLemmas.{given_same}
use Rattle.velab_process.specs.Statements.{Table, Lowered, LoweredBranches, lowered_action, with_places_before, with_branches_before, assignment_action, dump_action, end_action, lower_amount, lower_own_amount, lower_assignment, lower_task, lower_label, lower_labels, lower_statement, lower_all, lower_branch, lower_branches}
use Rattle.velab_process.specs.Processes.{ProcessTree, procedural, continuous, Processes, with_begins_before, process_trees_by, lower_process, lower_processes, lower_items}
use Rattle.elaboration_law.specs.Widths.{Worth, meant, is_sized, are_sized, is_target}
use Rattle.elaboration_law.specs.WrongWidths.{is_sized_delay, is_sized_own_delay, is_sized_assignment, is_sized_argument, is_sized_task, is_sized_statement, are_sized_statements, is_sized_branch, are_sized_branches, is_sized_process, is_sized_item}
use Rattle.elaboration_law.proofs.UseLemmas.{first_false, second_false}
use Rattle.elaboration_law.proofs.RightUses.{and_true}
use Rattle.elaboration_law.proofs.SizeLemmas.{AreVectors}
use Rattle.elaboration_law.proofs.ExpressionWidths.{is_width, Says, both_say, AreWorth, Sizes, lower_sizes}
use Rattle.elaboration_law.proofs.TargetWidths.{or_assoc, IsWritten, target_sizes}

-- ---- truths in another order

behind_body : (t c b : Bool) → ((t && b) && c) ≡ (t && (c && b))
behind_body false c b = refl
behind_body true true true = refl
behind_body true true false = refl
behind_body true false true = refl
behind_body true false false = refl

swapped : (t d v : Bool) → (d && (t && v)) ≡ (t && (d && v))
swapped true true v = refl
swapped true false v = refl
swapped false true v = refl
swapped false false v = refl

-- where one of them doesn't hold all don't
middle_false : (t c b : Bool) → c ≡ false → (t && (c && b)) ≡ false
middle_false t c b e = second_false t (c && b) (first_false c b e)

outer_false : (t c b : Bool) → (t && b) ≡ false → (t && (c && b)) ≡ false
outer_false false c b e = refl
outer_false true true b e = e
outer_false true false b e = refl

-- ---- flaws one after another

flaw_none : (a : Option Flaw) → option_or a None ≡ a
flaw_none None = refl
flaw_none (Some flaw) = refl

pub flaws_joined : {A : Type 0} (flaw : A → Option Flaw) (xs ys : List A) → first_flaw flaw (xs ++ ys) ≡ option_or (first_flaw flaw xs) (first_flaw flaw ys)
flaws_joined flaw [] ys = refl
flaws_joined flaw (x ∷ xs) ys = ap (option_or (flaw x)) (flaws_joined flaw xs ys) ∙ sym (or_assoc (flaw x) (first_flaw flaw xs) (first_flaw flaw ys))

pub with_true : (b : Bool) (flaw : Option Flaw) → Says flaw b → Says flaw (b && true)
with_true b flaw h = subst (Says flaw) (and_true b) h

-- ---- what an answer tells

-- what it gives has no flaw only where this holds; and where a size is told, of it or in its place, it doesn't
abbrev pub Told : {A : Type 0} → (A → Option Flaw) → Bool → Result A ElabFault → Type 0
Told flaw holds (Ok x) = Says (flaw x) holds
Told flaw holds (Err fault) = is_width fault.rule ≡ true → holds ≡ false

-- no size is told
abbrev pub Quiet : {A : Type 0} → Result A ElabFault → Type 0
Quiet (Ok x) = Unit {0}
Quiet (Err fault) = is_width fault.rule ≡ false

-- a step, and what comes behind it
pub goes_on : {A B : Type 0} (f : A → Option Flaw) (g : B → Option Flaw) (one all : Bool) (a : Result A ElabFault) (next : A → Result B ElabFault) →
    (one ≡ false → all ≡ false) → Told f one a → ((x : A) → Says (f x) one → Told g all (next x)) → Told g all (a >>= next)
goes_on f g one all (Ok x) next wrong h more = more x h
goes_on f g one all (Err fault) next wrong h more = λ e. wrong (h e)

pub quietly : {A B : Type 0} (g : B → Option Flaw) (all : Bool) (a : Result A ElabFault) (next : A → Result B ElabFault) → Quiet a → ((x : A) → Told g all (next x)) → Told g all (a >>= next)
quietly g all (Ok x) next h more = more x
quietly g all (Err fault) next h more = λ e. absurd cc

pub quiet_then : {A B : Type 0} (a : Result A ElabFault) (next : A → Result B ElabFault) → Quiet a → ((x : A) → Quiet (next x)) → Quiet (a >>= next)
quiet_then (Ok x) next h more = more x
quiet_then (Err fault) next h more = h

event_quiet : (scope : Scope) (name : Word) → Quiet (lower_event scope name)
event_quiet scope name = by (meaning_of scope name)
  where
    by : (meaning : Option Meaning) → Quiet (event_by name meaning)
    by None = refl
    by (Some (Variable number)) = refl
    by (Some (Parameter content bounds before)) = refl
    by (Some (Event number)) = tt
    by (Some Instance) = refl

term_quiet : (scope : Scope) (edge : Edge) (name : Word) → Quiet (lower_term scope edge name)
term_quiet scope edge name = by edge (meaning_of scope name)
  where
    by : (edge : Edge) (meaning : Option Meaning) → Quiet (term_by edge name meaning)
    by edge None = refl
    by edge (Some (Variable number)) = tt
    by edge (Some (Parameter content bounds before)) = refl
    by Any (Some (Event number)) = tt
    by Rise (Some (Event number)) = refl
    by Fall (Some (Event number)) = refl
    by edge (Some Instance) = refl

further_quiet : (scope : Scope) (list : List FurtherTerm) → Quiet (lower_further scope list)
further_quiet scope [] = tt
further_quiet scope (one ∷ more) =
    quiet_then (lower_term scope (edge_of one.term.edge) one.term.name) _ (term_quiet scope (edge_of one.term.edge) one.term.name) (λ front.
    quiet_then (lower_further scope more) _ (further_quiet scope more) (λ others. tt))

control_quiet : (scope : Scope) (control : EventTree) (body : StatementTree) → Quiet (lower_control scope control body)
control_quiet scope (by_event letters) body = term_quiet scope Any letters
control_quiet scope by_any body = tt
control_quiet scope by_any_enclosed body = tt
control_quiet scope (by_terms term further) body =
    quiet_then (lower_term scope (edge_of term.edge) term.name) _ (term_quiet scope (edge_of term.edge) term.name) (λ front.
    quiet_then (lower_further scope further) _ (further_quiet scope further) (λ others. tt))

selection_quiet : (scope : Scope) (selection : Option SelectionTree) → Quiet (lower_selection scope selection)
selection_quiet scope None = tt
selection_quiet scope (Some selection) = quiet_then (value_or_fault (levels_in selection.levels) Kind (Some selection.levels)) _ (by (levels_in selection.levels)) (λ levels. tt)
  where
    by : (levels : Option ℕ) → Quiet (value_or_fault levels Kind (Some selection.levels))
    by None = refl
    by (Some n) = tt

-- ---- the table

module _ (now : Environment) where
  abbrev pub table_flaw : Table → Option Flaw
  table_flaw table = first_flaw (action_flaw now) table.actions

  abbrev of_lowered : Lowered → Option Flaw
  of_lowered l = table_flaw l.table

  abbrev pub of_processes : Processes → Option Flaw
  of_processes p = table_flaw p.table

  -- an action more
  pub acted : (table : Table) (one other : Bool) (action : Action) → Says (table_flaw table) one → Says (action_flaw now action) other →
      Says (first_flaw (action_flaw now) (table.actions ++ action ∷ [])) (one && other)
  acted table one other action h k =
      subst (λ (flaw : Option Flaw). Says flaw (one && other)) (sym (flaws_joined (action_flaw now) table.actions (action ∷ [])))
      (both_say (table_flaw table) (option_or (action_flaw now action) None) one other h
      (subst (λ (flaw : Option Flaw). Says flaw other) (sym (flaw_none (action_flaw now action))) k))

  acted_as : (table : Table) (one other all : Bool) (action : Action) → (one && other) ≡ all → Says (table_flaw table) one → Says (action_flaw now action) other →
      Says (first_flaw (action_flaw now) (table.actions ++ action ∷ [])) all
  acted_as table one other all action e h k = subst (Says (first_flaw (action_flaw now) (table.actions ++ action ∷ []))) e (acted table one other action h k)

  -- one that has no flaw
  acted_anyway : (table : Table) (one : Bool) (action : Action) → Says (table_flaw table) one → action_flaw now action ≡ None → Says (first_flaw (action_flaw now) (table.actions ++ action ∷ [])) one
  acted_anyway table one action h e =
      subst (λ (flaw : Option Flaw). Says flaw one)
      (sym (flaws_joined (action_flaw now) table.actions (action ∷ []) ∙ ap (λ (flaw : Option Flaw). option_or (table_flaw table) (option_or flaw None)) e ∙ flaw_none (table_flaw table))) h

  finished : (x y : Bool) → x ≡ y → (a : Result Lowered ElabFault) → Told of_lowered x a → Told of_lowered y a
  finished x y e a h = subst (λ (b : Bool). Told of_lowered b a) e h

  placed : (holds : Bool) (places : List ℕ) (a : Result Lowered ElabFault) → Told of_lowered holds a → Told of_lowered holds (with_places_before places a)
  placed holds places (Ok l) h = h
  placed holds places (Err fault) h = h

  pub begun : (holds : Bool) (before : List (List ℕ)) (a : Result Processes ElabFault) → Told of_processes holds a → Told of_processes holds (with_begins_before before a)
  begun holds before (Ok p) h = h
  begun holds before (Err fault) h = h

  -- ---- lines

  abbrev argument_flaw : Argument → Option Flaw
  argument_flaw (string path letters) = None
  argument_flaw (value watched e) = flaw_of now e

  text_flawless : (letters : List ℕ) → first_flaw (piece_flaw now) (text_piece letters) ≡ None
  text_flawless [] = refl
  text_flawless (c ∷ cs) = refl

  -- pieces have this flaw, where there are some
  abbrev Have : Option Flaw → Option (List Piece) → Type 0
  Have flaw None = Unit {0}
  Have flaw (Some pieces) = first_flaw (piece_flaw now) pieces ≡ flaw

  last_flawless : (front : Option FormatFront) → Have None (last_pieces front)
  last_flawless None = tt
  last_flawless (Some front) = by front.form
    where
      by : (form : Option Form) → Have None (without_form form (text_piece front.letters))
      by None = text_flawless front.letters
      by (Some form) = tt

  abbrev TakenHave : Option Flaw → Option Taken → Type 0
  TakenHave flaw None = Unit {0}
  TakenHave flaw (Some taken) = first_flaw (piece_flaw now) taken.pieces ≡ flaw

  value_flaw : (usual : Form) (path : List ℕ) (front : Option FormatFront) (watched : Bool) (e : ExpressionTree) →
      TakenHave (flaw_of now e) (value_taken usual path front watched e)
  value_flaw usual path None watched e = tt
  value_flaw usual path (Some front) watched e =
      flaws_joined (piece_flaw now) (text_piece front.letters) (Value (unwrap_or front.form usual) watched e ∷ [])
      ∙ ap (λ (flaw : Option Flaw). option_or flaw (option_or (flaw_of now e) None)) (text_flawless front.letters) ∙ flaw_none (flaw_of now e)

  shown_flawless : (path : List ℕ) (front : FormatFront) (width : Width) (notation : Notation) (letters : List ℕ) → TakenHave None (string_shown path front width notation letters)
  shown_flawless path front width Binary letters = tt
  shown_flawless path front width Octal letters = tt
  shown_flawless path front width Hexadecimal letters = tt
  shown_flawless path front width Decimal letters = tt
  shown_flawless path front width Time letters = tt
  shown_flawless path front width Character letters = tt
  shown_flawless path front width Letters letters =
      flaws_joined (piece_flaw now) (text_piece front.letters) (text_piece (letters_in width letters))
      ∙ λ i. option_or (text_flawless front.letters i) (text_flawless (letters_in width letters) i)

  string_flawless : (path : List ℕ) (front : Option FormatFront) (own letters : List ℕ) → TakenHave None (string_taken path front own letters)
  string_flawless path None own letters = tt
  string_flawless path (Some front) own letters = by front.form
    where
      by : (form : Option Form) → TakenHave None (string_by path front form own letters)
      by None = text_flawless front.letters
      by (Some form) = shown_flawless path front form.width form.notation letters

  both_have : (a b : Option Flaw) (taken : Option Taken) (later : Option (List Piece)) → TakenHave a taken → Have b later → Have (option_or a b) (pieces_with_taken taken later)
  both_have a b None later s t = tt
  both_have a b (Some taken) None s t = tt
  both_have a b (Some taken) (Some later) s t = flaws_joined (piece_flaw now) taken.pieces later ∙ λ i. option_or (s i) (t i)

  pieces_have : (usual : Form) (path format : List ℕ) (all : List Argument) → Have (first_flaw argument_flaw all) (pieces_by usual path format all)
  pieces_have usual path format [] = last_flawless (front_of path format)
  pieces_have usual path format (string own letters ∷ more) =
      let taken = string_taken path (front_of path format) own (letters_of Plain letters) in
      both_have None (first_flaw argument_flaw more) taken (pieces_by usual (path_left taken) (format_left taken) more)
      (string_flawless path (front_of path format) own (letters_of Plain letters)) (pieces_have usual (path_left taken) (format_left taken) more)
  pieces_have usual path format (value watched e ∷ more) =
      let taken = value_taken usual path (front_of path format) watched e in
      both_have (flaw_of now e) (first_flaw argument_flaw more) taken (pieces_by usual (path_left taken) (format_left taken) more)
      (value_flaw usual path (front_of path format) watched e) (pieces_have usual (path_left taken) (format_left taken) more)

  line_end_flawless : (ends : Bool) → first_flaw (piece_flaw now) (line_end ends) ≡ None
  line_end_flawless true = refl
  line_end_flawless false = refl

  ended_have : (ends : Bool) (flaw : Option Flaw) (pieces : Option (List Piece)) → Have flaw pieces → Have flaw (with_line_end ends pieces)
  ended_have ends flaw None s = tt
  ended_have ends flaw (Some pieces) s =
      flaws_joined (piece_flaw now) pieces (line_end ends) ∙ (λ i. option_or (s i) (line_end_flawless ends i)) ∙ flaw_none flaw

-- what branches of a `case` leave: a truth of the table and one of their items, which are together this one
module _ (now : Environment) where
  record AreSplit (all : Bool) (l : LoweredBranches) : Type 0 where
    of_table : Bool
    of_items : Bool
    table_says : Says (table_flaw now l.table) of_table
    items_say : Says (first_flaw (branch_flaw now) l.branches) of_items
    together : (of_table && of_items) ≡ all

  abbrev Branches : Bool → Result LoweredBranches ElabFault → Type 0
  Branches all (Ok l) = AreSplit all l
  Branches all (Err fault) = is_width fault.rule ≡ true → all ≡ false

  branches_on : {A : Type 0} (one all : Bool) (f : A → Option Flaw) (a : Result A ElabFault) (next : A → Result LoweredBranches ElabFault) →
      (one ≡ false → all ≡ false) → Told f one a → ((x : A) → Says (f x) one → Branches all (next x)) → Branches all (a >>= next)
  branches_on one all f (Ok x) next wrong h more = more x h
  branches_on one all f (Err fault) next wrong h more = λ e. wrong (h e)

  branches_then : (one all : Bool) (a : Result LoweredBranches ElabFault) (next : LoweredBranches → Result LoweredBranches ElabFault) →
      (one ≡ false → all ≡ false) → Branches one a → ((x : LoweredBranches) → AreSplit one x → Branches all (next x)) → Branches all (a >>= next)
  branches_then one all (Ok x) next wrong h more = more x h
  branches_then one all (Err fault) next wrong h more = λ e. wrong (h e)

  after_branches : {B : Type 0} (one all : Bool) (g : B → Option Flaw) (a : Result LoweredBranches ElabFault) (next : LoweredBranches → Result B ElabFault) →
      (one ≡ false → all ≡ false) → Branches one a → ((x : LoweredBranches) → AreSplit one x → Told g all (next x)) → Told g all (a >>= next)
  after_branches one all g (Ok x) next wrong h more = more x h
  after_branches one all g (Err fault) next wrong h more = λ e. wrong (h e)

  -- a branch in front of others
  front_and_rest : (t b r : Bool) (front : LoweredBranches) (s : AreSplit (t && b) front) (rest : Result LoweredBranches ElabFault) → Branches (s.of_table && r) rest →
      Branches (t && (b && r)) (with_branches_before front.branches front.otherwise rest)
  front_and_rest t b r front s (Ok others) k =
      record {
        of_table = k.of_table;
        of_items = s.of_items && k.of_items;
        table_says = k.table_says;
        items_say = subst (λ (flaw : Option Flaw). Says flaw (s.of_items && k.of_items)) (sym (flaws_joined (branch_flaw now) front.branches others.branches))
            (both_say (first_flaw (branch_flaw now) front.branches) (first_flaw (branch_flaw now) others.branches) s.of_items k.of_items s.items_say k.items_say);
        together = sym (behind_body k.of_table s.of_items k.of_items) ∙ ap (λ (x : Bool). x && s.of_items) k.together ∙ split s.of_table s.of_items s.together;
      }
    where
      split : (x y : Bool) → (x && y) ≡ (t && b) → ((x && r) && y) ≡ (t && (b && r))
      split x y e = behind_body x y r ∙ sym (and_assoc x y r) ∙ ap (λ (z : Bool). z && r) e ∙ and_assoc t b r
  front_and_rest t b r front s (Err fault) k = λ e. wrong s.of_table s.of_items s.together (k e)
    where
      wrong : (x y : Bool) → (x && y) ≡ (t && b) → (x && r) ≡ false → (t && (b && r)) ≡ false
      wrong x y e f = sym (and_assoc t b r) ∙ ap (λ (z : Bool). z && r) (sym e) ∙ and_assoc x y r ∙ outer_false x y r f

-- ---- statements

module _ (scope : Scope) (named : Text → Worth) (vectors : AreVectors named) (now : Environment) (agrees : AreWorth false now scope named) where
  pub expression_told : (tree : text.ExpressionTree) → Told (flaw_of now) (is_sized named tree) (lower_expression scope tree)
  expression_told tree = by (lower_expression scope tree) (lower_sizes scope named vectors false now agrees tree)
    where
      by : (a : Result ExpressionTree ElabFault) → Sizes false now (meant named tree) (is_sized named tree) a → Told (flaw_of now) (is_sized named tree) a
      by (Ok e) h = h.says
      by (Err fault) h = h

  pub target_told : (fixed : Bool) (target : TargetTree) → Told (targets_flaw now) (is_target named target) (lower_target_by fixed scope target)
  target_told fixed target = by (lower_target_by fixed scope target) (target_sizes scope named vectors now agrees fixed target)
    where
      by : (a : Result (List Target) ElabFault) → IsWritten now (is_target named target) a → Told (targets_flaw now) (is_target named target) a
      by (Ok row) h = h
      by (Err fault) h = h

  -- ---- lines

  argument_told : (argument : ArgumentTree) → Told (argument_flaw now) (is_sized_argument named argument) (lower_argument scope argument)
  argument_told (quoted letters) = refl
  argument_told (printed tree) =
      goes_on (flaw_of now) (argument_flaw now) (is_sized named tree) (is_sized named tree) (lower_expression scope tree) _ (λ e. e) (expression_told tree) (λ e h. h)
  argument_told left_out = refl

  arguments_told : (list : List ArgumentTree) → Told (first_flaw (argument_flaw now)) (list_all (is_sized_argument named) list) (lower_arguments scope list)
  arguments_told [] = refl
  arguments_told (one ∷ more) =
      let holds = is_sized_argument named one in
      let others = list_all (is_sized_argument named) more in
      goes_on (argument_flaw now) (first_flaw (argument_flaw now)) holds (holds && others) (lower_argument scope one) _ (first_false holds others) (argument_told one) (λ argument h.
      goes_on (first_flaw (argument_flaw now)) (first_flaw (argument_flaw now)) others (holds && others) (lower_arguments scope more) _ (second_false holds others) (arguments_told more) (λ rest k.
      both_say (argument_flaw now argument) (first_flaw (argument_flaw now) rest) holds others h k))

  line_told : (kind : Printing) (arguments : List ArgumentTree) → Told (first_flaw (piece_flaw now)) (list_all (is_sized_argument named) arguments) (lower_line scope kind arguments)
  line_told kind arguments =
      goes_on (first_flaw (argument_flaw now)) (first_flaw (piece_flaw now)) holds holds (lower_arguments scope (arguments_given arguments)) _ (λ e. e) told_given (λ all h.
      by (first_flaw (argument_flaw now) all) (pieces_of (default_form kind) (ends_line kind) all) h
      (ended_have now (ends_line kind) (first_flaw (argument_flaw now) all) (pieces_by (default_form kind) [] [] all) (pieces_have now (default_form kind) [] [] all)))
    where
      holds : Bool
      holds = list_all (is_sized_argument named) arguments

      told_given : Told (first_flaw (argument_flaw now)) holds (lower_arguments scope (arguments_given arguments))
      told_given =
          subst (λ (b : Bool). Told (first_flaw (argument_flaw now)) b (lower_arguments scope (arguments_given arguments)))
          (given_same (list_all (is_sized_argument named)) refl arguments) (arguments_told (arguments_given arguments))

      by : (flaw : Option Flaw) (pieces : Option (List Piece)) → Says flaw holds → Have now flaw pieces → Told (first_flaw (piece_flaw now)) holds (value_or_fault pieces Kind (first_argument arguments))
      by flaw None h k = λ e. absurd cc
      by flaw (Some pieces) h k = subst (λ (f : Option Flaw). Says f holds) (sym k) h

  -- ---- assignments and delays

  amount_told : (amount : DelayTree) → Told (flaw_of now) (is_sized_delay named amount) (lower_amount scope amount)
  amount_told (by_number digits) = expression_told (text.number digits)
  amount_told (by_name letters) = expression_told (text.name letters)
  amount_told (by_value amount) = expression_told amount

  abbrev own_flaw : Option ExpressionTree → Option Flaw
  own_flaw None = None
  own_flaw (Some e) = flaw_of now e

  own_told : (amount : Option DelayTree) → Told own_flaw (is_sized_own_delay named amount) (lower_own_amount scope amount)
  own_told None = refl
  own_told (Some amount) =
      goes_on (flaw_of now) own_flaw (is_sized_delay named amount) (is_sized_delay named amount) (lower_amount scope amount) _ (λ e. e) (amount_told amount) (λ e h. h)

  assignment_says : (blocking : Bool) (amount : Option ExpressionTree) (targets : List Target) (e : ExpressionTree) (t d v : Bool) →
      Says (targets_flaw now targets) t → Says (own_flaw amount) d → Says (flaw_of now e) v → Says (action_flaw now (assignment_action blocking amount targets e)) (t && (d && v))
  assignment_says blocking amount targets e t d v h k l = by blocking amount k
    where
      row : Option Flaw
      row = assignment_flaw now targets e

      plain : d ≡ true → Says row (t && (d && v))
      plain is = subst (λ (b : Bool). Says row (t && (b && v))) (sym is) (both_say (targets_flaw now targets) (flaw_of now e) t v h l)

      delayed : (a : ExpressionTree) → Says (flaw_of now a) d → Says (option_or (flaw_of now a) row) (t && (d && v))
      delayed a m =
          subst (Says (option_or (flaw_of now a) row)) (swapped t d v)
          (both_say (flaw_of now a) row d (t && v) m (both_say (targets_flaw now targets) (flaw_of now e) t v h l))

      by : (blocking : Bool) (amount : Option ExpressionTree) → Says (own_flaw amount) d → Says (action_flaw now (assignment_action blocking amount targets e)) (t && (d && v))
      by true None k = plain k
      by true (Some a) k = delayed a k
      by false None k = plain k
      by false (Some a) k = delayed a k

  assignment_told : (blocking : Bool) (table : Table) (b : Bool) → Says (table_flaw now table) b → (target : TargetTree) (amount : Option DelayTree) (v : text.ExpressionTree) →
      Told (of_lowered now) (b && is_sized_assignment named target amount v) (lower_assignment blocking scope table target amount v)
  assignment_told blocking table b s target amount v =
      let t = is_target named target in
      let d = is_sized_own_delay named amount in
      let x = is_sized named v in
      let all = b && (t && (d && x)) in
      goes_on (targets_flaw now) (of_lowered now) t all (lower_target scope target) _ (λ e. middle_false b t (d && x) e) (target_told false target) (λ targets h.
      goes_on own_flaw (of_lowered now) d all (lower_own_amount scope amount) _ (λ e. second_false b (t && (d && x)) (middle_false t d x e)) (own_told amount) (λ delay k.
      goes_on (flaw_of now) (of_lowered now) x all (lower_expression scope v) _ (λ e. second_false b (t && (d && x)) (second_false t (d && x) (second_false d x e))) (expression_told v) (λ e l.
      acted now table b (t && (d && x)) _ s (assignment_says blocking delay targets e t d x h k l))))

  -- ---- tasks

  dump_flawless : (kind : Dumping) → action_flaw now (dump_action kind) ≡ None
  dump_flawless dumps.On = refl
  dump_flawless dumps.Off = refl
  dump_flawless dumps.All = refl
  dump_flawless dumps.Flush = refl

  end_flawless : (stops : Bool) → action_flaw now (end_action stops) ≡ None
  end_flawless true = refl
  end_flawless false = refl

  task_told : (table : Table) (b : Bool) → Says (table_flaw now table) b → (call : TaskTree) → Told (of_lowered now) (b && is_sized_task named call) (lower_task scope table call)
  task_told table b s (print kind arguments) =
      let holds = list_all (is_sized_argument named) arguments in
      goes_on (first_flaw (piece_flaw now)) (of_lowered now) holds (b && holds) (lower_line scope kind arguments) _ (second_false b holds) (line_told kind arguments) (λ pieces h. acted now table b holds _ s h)
  task_told table b s (idle kind arguments) = with_true b _ (acted_anyway now table b _ s refl)
  task_told table b s (dump_file letters) = with_true b _ (acted_anyway now table b _ s refl)
  task_told table b s (dump_vars selection) = quietly (of_lowered now) (b && true) (lower_selection scope selection) _ (selection_quiet scope selection) (λ chosen. with_true b _ (acted_anyway now table b _ s refl))
  task_told table b s (dump kind) = with_true b _ (acted_anyway now table b (dump_action kind) s (dump_flawless kind))
  task_told table b s (end_run stops digits) = with_true b _ (acted_anyway now table b (end_action stops) s (end_flawless stops))

  -- ---- statements

  -- a test in front of a body, behind whose actions it stands
  tested : (t c b : Bool) (a : Result ExpressionTree ElabFault) (body : Result Lowered ElabFault) (next : ExpressionTree → Lowered → Result Lowered ElabFault) →
      Told (flaw_of now) c a → Told (of_lowered now) (t && b) body → ((e : ExpressionTree) (inner : Lowered) → Says (flaw_of now e) c → Says (of_lowered now inner) (t && b) → Told (of_lowered now) ((t && b) && c) (next e inner)) →
      Told (of_lowered now) (t && (c && b)) (a >>= λ e. body >>= λ inner. next e inner)
  tested t c b a body next h k more =
      goes_on (flaw_of now) (of_lowered now) c (t && (c && b)) a _ (λ e. middle_false t c b e) h (λ e says.
      goes_on (of_lowered now) (of_lowered now) (t && b) (t && (c && b)) body _ (λ f. outer_false t c b f) k (λ inner so_far.
      subst (λ (x : Bool). Told (of_lowered now) x (next e inner)) (behind_body t c b) (more e inner says so_far)))

  labels_told : (places : List ℕ) (items : text.ExpressionTrees) → Told (first_flaw (branch_flaw now)) (are_sized named items) (lower_labels scope places items)
  labels_told places text.none = refl
  labels_told places (text.first item more) =
      let one = is_sized named item in
      let others = are_sized named more in
      goes_on (first_flaw (branch_flaw now)) (first_flaw (branch_flaw now)) one (one && others) (lower_label scope places item) _ (first_false one others)
      (goes_on (flaw_of now) (first_flaw (branch_flaw now)) one one (lower_expression scope item) _
      (λ e. e) (expression_told item) (λ e h. subst (λ (f : Option Flaw). Says f one) (sym (flaw_none (flaw_of now e))) h)) (λ front h.
      goes_on (first_flaw (branch_flaw now)) (first_flaw (branch_flaw now)) others (one && others) (lower_labels scope places more) _ (second_false one others) (labels_told places more) (λ rest k.
      subst (λ (f : Option Flaw). Says f (one && others)) (sym (flaws_joined (branch_flaw now) front rest))
      (both_say (first_flaw (branch_flaw now) front) (first_flaw (branch_flaw now) rest) one others h k)))

  -- what a `for` does behind its first assignment
  module _ (begin : Lowered) (condition : text.ExpressionTree) (next_target : TargetTree) (next_value : text.ExpressionTree) (body : StatementTree) where
    abbrev after_turn : ExpressionTree → Lowered → Result Lowered ElabFault
    after_turn test turn = Ok (lowered_action turn.table (first_in condition) (While test turn.places))

    abbrev after_body : ExpressionTree → Lowered → Result Lowered ElabFault
    after_body test inner = with_places_before inner.places (lower_assignment true scope inner.table next_target None next_value) >>= λ turn. after_turn test turn

    abbrev after_test : ExpressionTree → Result Lowered ElabFault
    after_test test = lower_statement scope begin.table body >>= λ inner. after_body test inner

    abbrev turning : Result Lowered ElabFault
    turning = lower_expression scope condition >>= λ test. after_test test

  mutual
    statement_told : (table : Table) (t : Bool) → Says (table_flaw now table) t → (statement : StatementTree) → Told (of_lowered now) (t && is_sized_statement named statement) (lower_statement scope table statement)
    statement_told table t s empty = with_true t (table_flaw now table) s
    statement_told table t s (block label statements) = all_told table t s statements
    statement_told table t s (assign target amount v) = assignment_told true table t s target amount v
    statement_told table t s (nonblocking target amount v) = assignment_told false table t s target amount v
    statement_told table t s (trigger letters) = quietly (of_lowered now) (t && true) (lower_event scope letters) _ (event_quiet scope letters) (λ number. with_true t _ (acted_anyway now table t _ s refl))
    statement_told table t s (if_true condition body) =
        tested t (is_sized named condition) (is_sized_statement named body) (lower_expression scope condition) (lower_statement scope table body) _ (expression_told condition)
        (statement_told table t s body) (λ e inner h k.
        acted now inner.table (t && is_sized_statement named body) (is_sized named condition) _ k h)
    statement_told table t s (if_else condition body other) =
        let c = is_sized named condition in
        let b = is_sized_statement named body in
        let o = is_sized_statement named other in
        let all = t && (c && (b && o)) in
        goes_on (flaw_of now) (of_lowered now) c all (lower_expression scope condition) _ (λ e. middle_false t c (b && o) e) (expression_told condition) (λ e h.
        goes_on (of_lowered now) (of_lowered now) (t && b) all (lower_statement scope table body) _
        (λ f. outer_false t c (b && o) (sym (and_assoc t b o) ∙ first_false (t && b) o f)) (statement_told table t s body) (λ one k.
        goes_on (of_lowered now) (of_lowered now) ((t && b) && o) all (lower_statement scope one.table other) _
        (λ f. outer_false t c (b && o) (sym (and_assoc t b o) ∙ f)) (statement_told one.table (t && b) k other) (λ two l.
        acted_as now two.table ((t && b) && o) c all _ (ap (λ (x : Bool). x && c) (and_assoc t b o) ∙ behind_body t c (b && o)) l h)))
    statement_told table t s (case_of kind v branches) =
        let c = is_sized named v in
        let b = are_sized_branches named branches in
        let all = t && (c && b) in
        goes_on (flaw_of now) (of_lowered now) c all (lower_expression scope v) _ (λ e. middle_false t c b e) (expression_told v) (λ e h.
        after_branches now (t && b) all (of_lowered now) (lower_branches scope table branches) _ (λ f. outer_false t c b f) (branches_told table t s branches) (λ inner k.
        acted_as now inner.table k.of_table (c && k.of_items) all _ (sym (behind_body k.of_table c k.of_items) ∙ ap (λ (x : Bool). x && c) k.together ∙ behind_body t c b)
        k.table_says (both_say (flaw_of now e) (first_flaw (branch_flaw now) inner.branches) c k.of_items h k.items_say)))
    statement_told table t s (while_true condition body) =
        tested t (is_sized named condition) (is_sized_statement named body) (lower_expression scope condition) (lower_statement scope table body) _ (expression_told condition)
        (statement_told table t s body) (λ e inner h k.
        acted now inner.table (t && is_sized_statement named body) (is_sized named condition) _ k h)
    statement_told table t s (repeat_times count body) =
        tested t (is_sized named count) (is_sized_statement named body) (lower_expression scope count) (lower_statement scope table body) _ (expression_told count) (statement_told table t s body) (λ e inner h k.
        acted now inner.table (t && is_sized_statement named body) (is_sized named count) _ k h)
    statement_told table t s (forever body) =
        let b = is_sized_statement named body in
        goes_on (of_lowered now) (of_lowered now) (t && b) (t && b) (lower_statement scope table body) _ (λ e. e) (statement_told table t s body) (λ inner k. acted_anyway now inner.table (t && b) _ k refl)
    statement_told table t s (for_loop target v condition next_target next_value body) =
        let i = is_sized_assignment named target None v in
        let c = is_sized named condition in
        let b = is_sized_statement named body in
        let n = is_sized_assignment named next_target None next_value in
        let u = t && i in
        let all = u && (c && (b && n)) in
        finished now all (t && (i && (c && (b && n)))) (and_assoc t i (c && (b && n))) (lower_statement scope table (for_loop target v condition next_target next_value body))
        (goes_on (of_lowered now) (of_lowered now) u all (lower_assignment true scope table target None v) _ (first_false u (c && (b && n)))
        (assignment_told true table t s target None v) (λ begin k.
        placed now all begin.places (turning begin condition next_target next_value body)
        (goes_on (flaw_of now) (of_lowered now) c all (lower_expression scope condition) (after_test begin condition next_target next_value body)
        (λ e. middle_false u c (b && n) e) (expression_told condition) (λ test h.
        goes_on (of_lowered now) (of_lowered now) (u && b) all (lower_statement scope begin.table body) (after_body begin condition next_target next_value body test)
        (λ f. outer_false u c (b && n) (sym (and_assoc u b n) ∙ first_false (u && b) n f)) (statement_told begin.table u k body) (λ inner l.
        goes_on (of_lowered now) (of_lowered now) ((u && b) && n) all (with_places_before inner.places (lower_assignment true scope inner.table next_target None next_value))
        (after_turn begin condition next_target next_value body test) (λ f. outer_false u c (b && n) (sym (and_assoc u b n) ∙ f))
        (placed now ((u && b) && n) inner.places (lower_assignment true scope inner.table next_target None next_value)
        (assignment_told true inner.table (u && b) l next_target None next_value)) (λ turn m.
        acted_as now turn.table ((u && b) && n) c all (While test turn.places) (ap (λ (x : Bool). x && c) (and_assoc u b n) ∙ behind_body u c (b && n)) m h))))))
    statement_told table t s (wait_for condition body) =
        tested t (is_sized named condition) (is_sized_statement named body) (lower_expression scope condition) (lower_statement scope table body) _ (expression_told condition)
        (statement_told table t s body) (λ e inner h k.
        acted now inner.table (t && is_sized_statement named body) (is_sized named condition) _ k h)
    statement_told table t s (delay amount body) =
        tested t (is_sized_delay named amount) (is_sized_statement named body) (lower_amount scope amount) (lower_statement scope table body) _ (amount_told amount) (statement_told table t s body) (λ e inner h k.
        acted now inner.table (t && is_sized_statement named body) (is_sized_delay named amount) _ k h)
    statement_told table t s (event control body) =
        let b = is_sized_statement named body in
        quietly (of_lowered now) (t && b) (lower_control scope control body) _ (control_quiet scope control body) (λ terms.
        goes_on (of_lowered now) (of_lowered now) (t && b) (t && b) (lower_statement scope table body) _ (λ e. e) (statement_told table t s body) (λ inner k. acted_anyway now inner.table (t && b) _ k refl))
    statement_told table t s (task call) = task_told table t s call

    all_told : (table : Table) (t : Bool) → Says (table_flaw now table) t → (statements : StatementTrees) → Told (of_lowered now) (t && are_sized_statements named statements) (lower_all scope table statements)
    all_told table t s no_statement = with_true t (table_flaw now table) s
    all_told table t s (first_statement statement rest) =
        let one = is_sized_statement named statement in
        let others = are_sized_statements named rest in
        goes_on (of_lowered now) (of_lowered now) (t && one) (t && (one && others)) (lower_statement scope table statement) _
        (λ e. sym (and_assoc t one others) ∙ first_false (t && one) others e) (statement_told table t s statement) (λ front k.
        subst (λ (x : Bool). Told (of_lowered now) x (with_places_before front.places (lower_all scope front.table rest))) (and_assoc t one others)
        (placed now ((t && one) && others) front.places (lower_all scope front.table rest) (all_told front.table (t && one) k rest)))

    branch_told : (table : Table) (t : Bool) → Says (table_flaw now table) t → (branch : BranchTree) → Branches now (t && is_sized_branch named branch) (lower_branch scope table branch)
    branch_told table t s (labelled items body) =
        let b = is_sized_statement named body in
        let i = are_sized named items in
        branches_on now (t && b) (t && (b && i)) (of_lowered now) (lower_statement scope table body) _ (λ e. sym (and_assoc t b i) ∙ first_false (t && b) i e) (statement_told table t s body) (λ inner k.
        branches_on now i (t && (b && i)) (first_flaw (branch_flaw now)) (lower_labels scope inner.places items) _ (λ e. second_false t (b && i) (second_false b i e)) (labels_told inner.places items) (λ branches h.
        record { of_table = t && b; of_items = i; table_says = k; items_say = h; together = and_assoc t b i }))
    branch_told table t s (default colon body) =
        let b = is_sized_statement named body in
        branches_on now (t && b) (t && b) (of_lowered now) (lower_statement scope table body) _ (λ e. e) (statement_told table t s body) (λ inner k.
        record { of_table = t && b; of_items = true; table_says = k; items_say = refl; together = sym (and_true (t && b)) })

    branches_told : (table : Table) (t : Bool) → Says (table_flaw now table) t → (branches : BranchTrees) → Branches now (t && are_sized_branches named branches) (lower_branches scope table branches)
    branches_told table t s no_branch = record { of_table = t; of_items = true; table_says = s; items_say = refl; together = refl }
    branches_told table t s (first_branch branch rest) =
        let b = is_sized_branch named branch in
        let r = are_sized_branches named rest in
        branches_then now (t && b) (t && (b && r)) (lower_branch scope table branch) _ (λ e. sym (and_assoc t b r) ∙ first_false (t && b) r e) (branch_told table t s branch) (λ front k.
        front_and_rest now t b r front k (lower_branches scope front.table rest) (branches_told front.table k.of_table k.table_says rest))

  -- ---- processes

  process_told : (table : Table) (t : Bool) → Says (table_flaw now table) t → (process : ProcessTree) → Told (of_lowered now) (t && is_sized_process named process) (lower_process scope table process)
  process_told table t s (procedural statement) = statement_told table t s statement
  process_told table t s (continuous target v) =
      let g = is_target named target in
      let x = is_sized named v in
      goes_on (targets_flaw now) (of_lowered now) g (t && (g && x)) (lower_net_target scope target) _ (λ e. middle_false t g x e) (target_told true target) (λ targets h.
      goes_on (flaw_of now) (of_lowered now) x (t && (g && x)) (lower_expression scope v) _ (λ e. second_false t (g && x) (second_false g x e)) (expression_told v) (λ e k.
      acted now table t (g && x) _ s (both_say (targets_flaw now targets) (flaw_of now e) g x h k)))

  pub processes_told : (table : Table) (t : Bool) → Says (table_flaw now table) t → (list : List ProcessTree) →
      Told (of_processes now) (t && list_all (is_sized_process named) list) (lower_processes scope table list)
  processes_told table t s [] = with_true t (table_flaw now table) s
  processes_told table t s (process ∷ rest) =
      let one = is_sized_process named process in
      let others = list_all (is_sized_process named) rest in
      goes_on (of_lowered now) (of_processes now) (t && one) (t && (one && others)) (lower_process scope table process) _
      (λ e. sym (and_assoc t one others) ∙ first_false (t && one) others e) (process_told table t s process) (λ front k.
      subst (λ (x : Bool). Told (of_processes now) x (with_begins_before (front.places ∷ []) (lower_processes scope front.table rest))) (and_assoc t one others)
      (begun now ((t && one) && others) (front.places ∷ []) (lower_processes scope front.table rest) (processes_told front.table (t && one) k rest)))

-- those of items, each in the scope of its place
module _ (named : Text → Worth) (vectors : AreVectors named) (now : Environment) where
  pub items_told : (scope : Scope) → AreWorth false now scope named → (table : Table) (t : Bool) → Says (table_flaw now table) t → (items : List ItemTree) →
      Told (of_processes now) (t && list_all (is_sized_item named) items) (lower_items scope table items)
  items_told scope agrees table t s [] = with_true t (table_flaw now table) s
  items_told scope agrees table t s (item ∷ more) =
      let one = is_sized_item named item in
      let others = list_all (is_sized_item named) more in
      goes_on (of_processes now) (of_processes now) (t && one) (t && (one && others)) (lower_processes scope table (process_trees_by item)) _ (λ e. sym (and_assoc t one others) ∙ first_false (t && one) others e)
      (processes_told scope named vectors now agrees table t s (process_trees_by item)) (λ front k.
      subst (λ (x : Bool). Told (of_processes now) x (with_begins_before front.begins (lower_items (behind_item scope item) front.table more))) (and_assoc t one others)
      (begun now ((t && one) && others) front.begins (lower_items (behind_item scope item) front.table more)
      (items_told (behind_item scope item) (record { of_parameter = agrees.of_parameter; of_variable = agrees.of_variable }) front.table (t && one) k more)))
