-- So of statements, of modules and of a whole text: a word that is refused for want of levels stands inside the profile.
use Rattle.std.proofs.Common.{◌≡◌, ℕ, zero, suc, Bool, true, false, ◌||◌, not, if◌then◌else◌, List, [], ◌∷◌, Option, None, Some, codes, refl, subst}
use Rattle.std.specs.Str.{bytes_eq}
use Rattle.vwords.specs.Words.{Text, is_name, is_number, is_string, reserved_words}
use Rattle.vast.specs.Statements.{TargetTree, StatementTree, BranchTree, empty, forever}
use Rattle.vast.specs.Modules.{PortTree}
use Rattle.vast.specs.declared.statement.Printing.TheVariants as printing
use Rattle.vexpr_parse.specs.declared.stop.Stop.TheVariants.{TooDeep}
use Rattle.vexpr_parse.specs.Readers.{Reader, got, stop, front, is_front, goes, refused, lower, room}
use Rattle.vgrammar.specs.declared.start.StatementStart.{StatementStart}
use Rattle.vgrammar.specs.declared.start.StatementStart.TheVariants as start
use Rattle.vgrammar.specs.Parts.{map_tree, pair, maybe, roomy}
use Rattle.vgrammar.specs.Starts.{start_of, start_word, statement_starts, begins_target, is_target, is_some_meaning, is_meant, meant_if, is_word, sign_of, edge_of, comma_of}
use Rattle.vgrammar.specs.Statements.{value, name_word, number_word, word_only, comma_list, select, target_of, named_target, joined_of, joined_targets, target, delay_of, amount, assignment_of, assignment, guard_then, if_of, guarded_of, setting, for_of, delayed_of, term_of, term, further_of, event_of, control, event_body_of, block_of, has_default, branch_of, default_branch, branch, case_parts_of, case_parts, begins_argument, argument_of, arguments, print_of, optional_print_of, idle_of, dump_file_of, path_of, selection_of, selection, dump_vars_of, end_of, dump_of, trigger_of, statement_by, lead_by, begins_statement, statement}
use Rattle.vgrammar.specs.Modules.{range_of, type_of, integer_of, parameter_type_of, setting_of, declared_of, connection_of, connections_of, instance_of, list_and_semicolon, net_of, local_of, item_of, first_parameter_of, head_parameter_of, direction_of, is_direction, port_of, named_port_of, ports_behind, ports_of, head_list_of, module_of, is_some_word, net_assignment_of}
use Rattle.vgrammar.specs.Modules as with_levels
use Rattle.vparse.specs.TextReaders.{free_value, range, type, parameter_type, setting as module_setting, declarator, connection, connections, item, head_parameters, direction, ports, module_tree, source, net_assignment}
use Rattle.vparse.specs.Profile.{keywords, system_names, left_out, is_any_outside}
use Rattle.vparse.proofs.DeepWords.{Inside, same_inside, written_inside, name_inside, Fine, Safe, LeadFine, got_safe, then_fine, led_safe, if_fine, room_fine, past_safe, choose_where, made_safe, linked_safe, paired_safe, maybe_safe, either_safe, worded_safe, many_safe, roomy_fine, first_inside, bracket_inside, brace_inside, parenthesis_inside, expression_safe}

-- Statements

value_safe : (levels : ℕ) → Safe (value levels)
value_safe levels = expression_safe levels 0

only_safe : (text : Text) → Safe (word_only text)
only_safe text = past_safe text (got_safe tt)

comma_safe : {A : Type 0} {read : Reader A} → Safe read → Safe (comma_list read)
comma_safe s = paired_safe s (many_safe (is_front (codes ",")) (λ list. past_safe (codes ",") s))

named_word : Safe name_word
named_word = worded_safe (meant_if is_name)

numbered_word : Safe number_word
numbered_word = worded_safe (meant_if is_number)

-- something in brackets or parentheses where there is room
roomy_safe : {A : Type 0} (below : ℕ) (text : Text) {read : Reader A} → Inside text → Safe read →
    Safe (maybe (is_front text) (roomy below 1 read))
roomy_safe below text {read = read} i s =
    choose_where (is_front text) (map_tree Some (roomy below 1 read))
    (λ words e. then_fine (roomy below 1 read words) (λ tree. got (Some tree)) (roomy_fine below s words (first_inside text i words e))
    (λ tree. got_safe (Some tree))) (got_safe None)

select_part : (below : ℕ) → Safe (select below)
select_part below =
    paired_safe (value_safe below) (either_safe (is_front (codes ":")) (past_safe (codes ":") (paired_safe (value_safe below)
    (only_safe (codes "]")))) (only_safe (codes "]")))

named_target_safe : (below : ℕ) (letters : Text) → Safe (named_target below letters)
named_target_safe below letters =
    made_safe (target_of letters) (roomy_safe below (codes "[") bracket_inside (past_safe (codes "[") (select_part below)))

target_inside : (word : Text) → begins_target word ≡ true → Inside word
unfolding begins_target
target_inside word e = by_test (is_name word) refl e
  where
    by_test : (b : Bool) → is_name word ≡ b → (b || bytes_eq (codes "{") word) ≡ true → Inside word
    by_test true n f = name_inside word n
    by_test false n f = same_inside (codes "{") word brace_inside f

lower_fine : (A : Type 0) (word : Text) (b : Bool) → (b ≡ true → Inside word) → LeadFine {A = A} word (if b then lower else refused)
lower_fine A word true i = i refl
lower_fine A word false i = tt

target_safe : (levels : ℕ) → Safe (target levels)
unfolding target
target_safe zero = led_safe _ (λ word. lower_fine TargetTree word (begins_target word) (target_inside word))
target_safe (suc below) =
    led_safe _ (λ word. if_fine word (is_name word) _ _ (λ e. named_target_safe below word)
    (if_fine word (bytes_eq (codes "{") word) _ _
    (λ e. room_fine word below 1 (joined_targets (target below)) (same_inside (codes "{") word brace_inside e)
    (made_safe joined_of (paired_safe (comma_safe (target_safe below)) (only_safe (codes "}"))))) tt))

amount_safe : (below : ℕ) → Safe (amount below)
amount_safe below =
    made_safe delay_of (either_safe (is_word is_number) numbered_word (either_safe (is_word is_name) named_word
    (past_safe (codes "(") (paired_safe (value_safe below) (only_safe (codes ")"))))))

assignment_safe : (below : ℕ) → Safe (assignment below)
assignment_safe below =
    made_safe assignment_of (paired_safe (target_safe below) (paired_safe (worded_safe sign_of)
    (paired_safe (maybe_safe (is_front (codes "#")) (past_safe (codes "#") (amount_safe below)))
    (paired_safe (value_safe below) (only_safe (codes ";"))))))

term_safe : Safe term
term_safe = made_safe term_of (paired_safe (maybe_safe (is_meant edge_of) (worded_safe edge_of)) named_word)

control_safe : Safe control
control_safe =
    made_safe event_of (either_safe (is_word is_name) named_word
    (either_safe (is_front (codes "*")) (only_safe (codes "*"))
    (past_safe (codes "(")
    (either_safe (is_front (codes "*")) (past_safe (codes "*") (only_safe (codes ")")))
    (paired_safe (paired_safe term_safe (many_safe (is_meant comma_of)
    (λ list. made_safe further_of (paired_safe (worded_safe comma_of) term_safe)))) (only_safe (codes ")")))))))

arguments_safe : (below : ℕ) → Safe (arguments below)
arguments_safe below =
    past_safe (codes "(") (paired_safe (comma_safe (made_safe argument_of (maybe_safe begins_argument (either_safe (is_word is_string) (worded_safe (meant_if is_string))
    (value_safe below))))) (only_safe (codes ")")))

selection_safe : Safe selection
selection_safe =
    made_safe selection_of (past_safe (codes "(") (paired_safe numbered_word
    (paired_safe (many_safe (is_front (codes ",")) (λ list. past_safe (codes ",") (made_safe path_of
    (paired_safe named_word (many_safe (is_front (codes ".")) (λ names. past_safe (codes ".") named_word))))))
    (only_safe (codes ")")))))

start_inside : (word : Text) → is_some_meaning (start_of word) ≡ true → Inside word
unfolding start_of reserved_words keywords system_names left_out
start_inside word e = written_inside start_word statement_starts word refl e

module _ (below : ℕ) (s : Safe (statement below)) where
  abbrev body : Reader StatementTree
  body = statement below

  guarded_safe : {A : Type 0} {read : Reader A} → Safe read → Safe (guard_then below read)
  guarded_safe r = past_safe (codes "(") (paired_safe (value_safe below) (past_safe (codes ")") r))

  set_safe : Safe (setting below)
  set_safe = paired_safe (target_safe below) (past_safe (codes "=") (value_safe below))

  default_safe : (seen : Bool) → Safe (default_branch body seen)
  default_safe true = record { fine = λ words. tt }
  default_safe false =
      past_safe (codes "default") (paired_safe (maybe_safe (is_front (codes ":")) (only_safe (codes ":"))) s)

  branch_safe : (list : List BranchTree) → Safe (branch below body list)
  branch_safe list =
      made_safe branch_of (either_safe (is_front (codes "default")) (default_safe (has_default list))
      (paired_safe (comma_safe (value_safe below)) (past_safe (codes ":") s)))

  case_safe : Safe (case_parts below body)
  case_safe =
      guarded_safe (paired_safe (linked_safe (branch_safe []) (λ one. many_safe (λ next. not (is_front (codes "endcase") next))
      (λ list. branch_safe (one ∷ list)))) (only_safe (codes "endcase")))

  ended_safe : {A : Type 0} {read : Reader A} → Safe read → Safe (pair read (word_only (codes ";")))
  ended_safe r = paired_safe r (only_safe (codes ";"))

  module _ (word : Text) (i : Inside word) where
    within : {read : Reader StatementTree} → Safe read → LeadFine word (room below 1 (goes read))
    within {read = read} r = room_fine word below 1 read i r

    kinds_fine : (kind : StatementStart) → LeadFine word (statement_by below body kind)
    kinds_fine start.Empty = got_safe empty
    kinds_fine start.Begin =
        made_safe block_of (paired_safe (maybe_safe (is_front (codes ":")) (past_safe (codes ":") named_word))
        (paired_safe (many_safe (λ next. not (is_front (codes "end") next)) (λ list. s)) (only_safe (codes "end"))))
    kinds_fine start.Trigger = within (made_safe trigger_of (ended_safe named_word))
    kinds_fine start.If =
        within (made_safe if_of (guarded_safe (paired_safe s (maybe_safe (is_front (codes "else")) (past_safe (codes "else") s)))))
    kinds_fine (start.Case kind) = within (made_safe (case_parts_of kind) case_safe)
    kinds_fine (start.Guarded kind) = within (made_safe (guarded_of kind) (guarded_safe s))
    kinds_fine start.Forever = within (made_safe forever s)
    kinds_fine start.For =
        within (made_safe for_of (past_safe (codes "(") (paired_safe set_safe (past_safe (codes ";")
        (paired_safe (value_safe below) (past_safe (codes ";") (paired_safe set_safe (past_safe (codes ")") s))))))))
    kinds_fine start.Delay = within (made_safe delayed_of (paired_safe (amount_safe below) s))
    kinds_fine start.Event = within (made_safe event_body_of (paired_safe control_safe s))
    kinds_fine (start.Print (printing.Display base)) =
        made_safe (optional_print_of (printing.Display base)) (ended_safe (roomy_safe below (codes "(") parenthesis_inside (arguments_safe below)))
    kinds_fine (start.Print (printing.Write base)) =
        made_safe (optional_print_of (printing.Write base)) (ended_safe (roomy_safe below (codes "(") parenthesis_inside (arguments_safe below)))
    kinds_fine (start.Print (printing.Strobe base)) =
        made_safe (optional_print_of (printing.Strobe base)) (ended_safe (roomy_safe below (codes "(") parenthesis_inside (arguments_safe below)))
    kinds_fine (start.Print (printing.Monitor base)) = within (made_safe (print_of (printing.Monitor base)) (ended_safe (arguments_safe below)))
    kinds_fine (start.Idle kind) =
        made_safe (idle_of kind) (ended_safe (roomy_safe below (codes "(") parenthesis_inside (arguments_safe below)))
    kinds_fine start.DumpFile =
        within (made_safe dump_file_of (past_safe (codes "(") (paired_safe (worded_safe (meant_if is_string))
        (past_safe (codes ")") (only_safe (codes ";"))))))
    kinds_fine start.DumpVars = made_safe dump_vars_of (ended_safe (maybe_safe (is_front (codes "(")) selection_safe))
    kinds_fine (start.Dump kind) = made_safe (dump_of kind) (only_safe (codes ";"))
    kinds_fine (start.End kind) =
        made_safe (end_of kind) (ended_safe (maybe_safe (is_front (codes "(")) (past_safe (codes "(")
        (paired_safe numbered_word (only_safe (codes ")"))))))

  starts_fine : (word : Text) (o : Option StatementStart) → (is_some_meaning o ≡ true → Inside word) → LeadFine word (lead_by below body o)
  starts_fine word None i = tt
  starts_fine word (Some kind) i = kinds_fine word (i refl) kind

target_first : (words : List Text) → is_target (front words) ≡ true → is_any_outside (front words) ≡ false
target_first [] e = refl
target_first (word ∷ words) e = target_inside word e

begun_inside : (word : Text) → begins_statement word ≡ true → Inside word
begun_inside word e = by_test (begins_target word) refl e
  where
    by_test : (b : Bool) → begins_target word ≡ b → (b || is_some_meaning (start_of word)) ≡ true → Inside word
    by_test true t f = target_inside word t
    by_test false t f = start_inside word f

statement_safe : (levels : ℕ) → Safe (statement levels)
unfolding statement
statement_safe zero = led_safe _ (λ word. lower_fine StatementTree word (begins_statement word) (begun_inside word))
statement_safe (suc below) =
    choose_where is_target (roomy below 1 (assignment below))
    (λ words e. roomy_fine below (assignment_safe below) words (target_first words e))
    (led_safe _ (λ word. starts_fine below (statement_safe below) word (start_of word) (start_inside word)))

-- Modules

free_safe : Safe free_value
free_safe = value_safe 64

range_safe : Safe range
range_safe =
    made_safe range_of (past_safe (codes "[") (paired_safe free_safe (past_safe (codes ":") (paired_safe free_safe (only_safe (codes "]"))))))

type_safe : Safe type
type_safe =
    made_safe type_of (paired_safe (maybe_safe (is_front (codes "signed")) (only_safe (codes "signed")))
    (maybe_safe (is_front (codes "[")) range_safe))

parameter_safe : Safe parameter_type
parameter_safe = made_safe parameter_type_of (either_safe (is_meant integer_of) (worded_safe integer_of) type_safe)

setting_safe : Safe module_setting
setting_safe = made_safe setting_of (paired_safe named_word (past_safe (codes "=") free_safe))

net_assignment_safe : Safe net_assignment
net_assignment_safe = made_safe net_assignment_of (paired_safe (target_safe 64) (past_safe (codes "=") free_safe))

declared_safe : Safe declarator
declared_safe =
    made_safe declared_of (paired_safe named_word (maybe_safe (is_front (codes "=")) (past_safe (codes "=") free_safe)))

connection_safe : Safe connection
connection_safe =
    made_safe connection_of (past_safe (codes ".") (paired_safe named_word (past_safe (codes "(")
    (either_safe (is_front (codes ")")) (only_safe (codes ")")) (paired_safe free_safe (only_safe (codes ")")))))))

connections_safe : Safe connections
connections_safe =
    made_safe connections_of (past_safe (codes "(") (either_safe (is_front (codes "."))
    (paired_safe (comma_safe connection_safe) (only_safe (codes ")")))
    (either_safe (is_front (codes ")")) (only_safe (codes ")")) (paired_safe (comma_safe free_safe) (only_safe (codes ")"))))))

list_safe : {A : Type 0} {read : Reader A} → Safe read → Safe (list_and_semicolon read)
list_safe s = paired_safe (comma_safe s) (only_safe (codes ";"))

direction_safe : Safe direction
direction_safe =
    made_safe direction_of (either_safe (is_front (codes "input"))
    (past_safe (codes "input") (paired_safe (maybe_safe (is_front (codes "wire")) (only_safe (codes "wire"))) type_safe))
    (past_safe (codes "output") (either_safe (is_meant integer_of) (worded_safe integer_of)
    (paired_safe (maybe_safe (is_meant net_of) (worded_safe net_of)) type_safe))))

item_safe : Safe item
item_safe =
    made_safe item_of (either_safe (is_meant local_of) (paired_safe (worded_safe local_of) (paired_safe parameter_safe (list_safe setting_safe)))
    (either_safe (is_meant net_of) (paired_safe (worded_safe net_of) (paired_safe type_safe (list_safe declared_safe)))
    (either_safe is_direction (paired_safe direction_safe (list_safe declared_safe))
    (either_safe (is_front (codes "integer")) (past_safe (codes "integer") (list_safe declared_safe))
    (either_safe (is_front (codes "time")) (past_safe (codes "time") (list_safe declared_safe))
    (either_safe (is_front (codes "event")) (past_safe (codes "event") (list_safe named_word))
    (either_safe (is_front (codes "assign")) (past_safe (codes "assign") (list_safe net_assignment_safe))
    (either_safe (is_front (codes "initial")) (past_safe (codes "initial") (statement_safe 64))
    (either_safe (is_front (codes "always")) (past_safe (codes "always") (statement_safe 64))
    (paired_safe named_word (paired_safe (maybe_safe (is_front (codes "#")) (past_safe (codes "#") connections_safe))
    (list_safe (made_safe instance_of (paired_safe named_word connections_safe))))))))))))))

heads_safe : Safe head_parameters
heads_safe =
    past_safe (codes "(") (paired_safe (paired_safe
    (made_safe first_parameter_of (past_safe (codes "parameter") (paired_safe parameter_safe setting_safe)))
    (many_safe (is_front (codes ",")) (λ list. past_safe (codes ",") (made_safe head_parameter_of
    (paired_safe (maybe_safe (is_front (codes "parameter")) (past_safe (codes "parameter") parameter_safe)) setting_safe)))))
    (only_safe (codes ")")))

behind_safe : {A : Type 0} {first : Reader A} {read : Reader PortTree} → Safe first → Safe read → Safe (ports_behind first read)
behind_safe f s =
    paired_safe (paired_safe f (many_safe (is_front (codes ",")) (λ list. past_safe (codes ",") s))) (only_safe (codes ")"))

ports_safe : Safe ports
ports_safe =
    made_safe ports_of (past_safe (codes "(") (either_safe (is_front (codes ")")) (only_safe (codes ")"))
    (either_safe is_direction (behind_safe (paired_safe direction_safe declared_safe)
    (made_safe port_of (paired_safe (maybe_safe is_direction direction_safe) declared_safe)))
    (behind_safe named_word (made_safe named_port_of named_word)))))

module_safe : Safe module_tree
module_safe =
    made_safe module_of (past_safe (codes "module") (paired_safe named_word
    (paired_safe (maybe_safe (is_front (codes "#")) (past_safe (codes "#") (made_safe head_list_of heads_safe)))
    (paired_safe (maybe_safe (is_front (codes "(")) ports_safe)
    (past_safe (codes ";") (paired_safe (many_safe (λ next. not (is_front (codes "endmodule") next)) (λ list. item_safe))
    (only_safe (codes "endmodule"))))))))

source_safe : Safe source
unfolding with_levels.source
source_safe = many_safe is_some_word (λ list. module_safe)

-- the word at which reading stops for want of levels
pub deep_inside : (words left : List Text) → source words ≡ stop TooDeep left → is_any_outside (front left) ≡ false
deep_inside words left e = subst Fine e (source_safe.fine words)
