-- Each definition of a part of modules, in the order in which its parts are read.
use Rattle.std.proofs.Common.{◌≡◌, Bool, true, false, if◌then◌else◌, List, [], ◌∷◌, Option, None, Some, codes, refl, sym, ap, ◌∙◌}
use Rattle.std.specs.Str.{bytes_eq}
use Rattle.vwords.specs.Words.{Text}
use Rattle.vast.specs.Statements.{StatementTree}
use Rattle.vast.specs.Expressions.{ExpressionTree}
use Rattle.vast.specs.Modules.{HeadParameter, SettingTree, DeclaredTree, integer, typed, ConnectionTree, ConnectionsTree, initial, always, PortTree, by_order, by_name, ItemTree, parameters, declaration, variables, integers, directed, DirectionTree, output_integer, events, assignments, instances, ModuleTree, NetAssignment}
use Rattle.vexpr_parse.specs.Readers.{Answer, got, stop, Reader, front, is_front, and_then, past, follow, goes, refused, choose}
use Rattle.vgrammar.specs.Parts.{Both, both, Either, one_way, other_way, map_tree, pair, word_as, many, maybe, either}
use Rattle.vgrammar.specs.Starts.{is_meant}
use Rattle.vgrammar.specs.Statements.{name_word, word_only, List_of, comma_list, statement}
use Rattle.vgrammar.specs.Modules.{Parameters, Variables, Directed, Instances, listed_of, connections_of, list_and_semicolon, integer_of, net_of, local_of, output_behind, parameter_type_of, direction_of, is_direction, first_port_of, named_port_of, named_port, PortsBehind, ports_behind, parameters_of, variables_of, directed_of, integers_of, events_of, assignments_of, instances_of, item_of, head_list_of, ports_of, module_of}
use Rattle.vparse.specs.TextReaders.{free_value, type, parameter_type, setting, declarator, connection, connections, instance_behind, overrides, item, first_parameter, head_parameter, head_parameters, direction, port, ports, module_tree as module_reader, net_assignment}
use Rattle.vparse.specs.ModuleGives.{any_parameter_type, optional_net, output_parts, typed_output, any_output, connections_in, heads_in, some_ports, named_ports, listed_ports, ports_in, found_or, parameters_at, variables_at, directed_at, directed_item, integers_at, events_at, assignments_at, instances_at, instances_item, process_item, listed_item, variables_item, any_item, optional_heads, optional_ports, all_items, items_in, module_with, module_headed, module_named, module_at}
use Rattle.vgrammar.proofs.ManyTurns.{until_is, first_until_is}
use Rattle.vgrammar.specs.Lists.{all_until, rest_until}

-- what is made is made of each part

then_same : {A B : Type 0} (a : Answer A) (f g : A → Reader B) → ((tree : A) (left : List Text) → f tree left ≡ g tree left) → and_then a f ≡ and_then a g
then_same (got tree left) f g same = same tree left
then_same (stop why left) f g same = refl

then_got : {A : Type 0} (a : Answer A) → and_then a (λ tree. got tree) ≡ a
then_got (got tree left) = refl
then_got (stop why left) = refl

past_same : {A : Type 0} (text : Text) (one other : Reader A) → ((words : List Text) → one words ≡ other words) → (words : List Text) → past text one words ≡ past text other words
past_same text one other same [] = refl
past_same text one other same (word ∷ words) = by_test (bytes_eq text word)
  where
    by_test : (b : Bool) → follow (if b then goes one else refused) word words ≡ follow (if b then goes other else refused) word words
    by_test true = same words
    by_test false = refl

choose_same : {A : Type 0} (test : Option Text → Bool) (one one' other other' : Reader A) (words : List Text) → one words ≡ one' words → other words ≡ other' words →
    choose test one other words ≡ choose test one' other' words
choose_same test one one' other other' words p q =
    ap (λ a. if test (front words) then a else other words) p ∙ ap (λ a. if test (front words) then one' words else a) q

made_past : {A B : Type 0} (make : A → B) (text : Text) (read : Reader A) (words : List Text) → map_tree make (past text read) words ≡ past text (map_tree make read) words
made_past make text read [] = refl
made_past make text read (word ∷ words) = by_test (bytes_eq text word)
  where
    by_test : (b : Bool) → and_then (follow (if b then goes read else refused) word words) (λ tree. got (make tree))
        ≡ follow (if b then goes (map_tree make read) else refused) word words
    by_test true = refl
    by_test false = refl

made_twice : {A B C : Type 0} (make : A → B) (more : B → C) (a : Answer A) →
    and_then (and_then a (λ tree. got (make tree))) (λ tree. got (more tree)) ≡ and_then a (λ tree. got (more (make tree)))
made_twice make more (got tree left) = refl
made_twice make more (stop why left) = refl

made_either : {A B C : Type 0} (make : Either A B → C) (test : Option Text → Bool) (read : Reader A) (other : Reader B) (words : List Text) →
    map_tree make (either test read other) words ≡ choose test (map_tree (λ tree. make (one_way tree)) read) (map_tree (λ tree. make (other_way tree)) other) words
made_either make test read other words = by_test (test (front words))
  where
    by_test : (b : Bool) →
        and_then (if b then map_tree one_way read words else map_tree other_way other words) (λ tree. got (make tree))
        ≡ (if b then map_tree (λ tree. make (one_way tree)) read words else map_tree (λ tree. make (other_way tree)) other words)
    by_test true = made_twice one_way make (read words)
    by_test false = made_twice other_way make (other words)

made_paired : {A B C : Type 0} (make : _ → C) (read : Reader A) (next : Reader B) (words : List Text) →
    map_tree make (pair read next) words ≡ and_then (read words) (λ one. map_tree (λ other. make (both one other)) next)
made_paired make read next words = by_answer (read words)
  where
    by_answer : (a : Answer _) → and_then (and_then a (λ one. map_tree (both one) next)) (λ tree. got (make tree))
        ≡ and_then a (λ one. map_tree (λ other. make (both one other)) next)
    by_answer (got one left) = made_twice (both one) make (next left)
    by_answer (stop why left) = refl

either_rule : {A B C : Type 0} (make : Either A B → C) (test : Option Text → Bool) (read : Reader A) (other : Reader B) (one two : Reader C) (words : List Text) →
    map_tree (λ tree. make (one_way tree)) read words ≡ one words → map_tree (λ tree. make (other_way tree)) other words ≡ two words →
    map_tree make (either test read other) words ≡ choose test one two words
either_rule make test read other one two words p q =
    made_either make test read other words
    ∙ choose_same test (map_tree (λ tree. make (one_way tree)) read) one (map_tree (λ tree. make (other_way tree)) other) two words p q

past_rule : {A B : Type 0} (make : A → B) (text : Text) (read : Reader A) (one : Reader B) → ((words : List Text) → map_tree make read words ≡ one words) →
    (words : List Text) → map_tree make (past text read) words ≡ past text one words
past_rule make text read one same words = made_past make text read words ∙ past_same text (map_tree make read) one same words

-- what begins with words that may be left out

found_choice : {A B : Type 0} (test : Option Text → Bool) (read : Reader A) (next : A → Reader B) (other : Reader B) (words : List Text) →
    choose test (λ ws. and_then (read ws) next) other words ≡ and_then (maybe test read words) (found_or next other)
found_choice test read next other words = by_test (test (front words))
  where
    by_answer : (a : Answer _) → and_then a next ≡ and_then (and_then a (λ tree. got (Some tree))) (found_or next other)
    by_answer (got tree left) = refl
    by_answer (stop why left) = refl

    by_test : (b : Bool) → (if b then and_then (read words) next else other words)
        ≡ and_then (if b then map_tree Some read words else got None words) (found_or next other)
    by_test true = by_answer (read words)
    by_test false = refl

pub parameter_type_is : (words : List Text) → parameter_type words ≡ any_parameter_type words
parameter_type_is words =
    either_rule parameter_type_of (is_meant integer_of) (word_as integer_of) type
    (λ ws. and_then (word_as integer_of ws) (λ long. got (integer long))) (map_tree typed type) words refl refl
    ∙ found_choice (is_meant integer_of) (word_as integer_of) (λ long. got (integer long)) (map_tree typed type) words

pub output_is : (words : List Text) → map_tree direction_of output_parts words ≡ any_output words
output_is words =
    made_twice other_way direction_of (output_behind 64 words)
    ∙ either_rule (λ tree. direction_of (other_way tree)) (is_meant integer_of) (word_as integer_of) (pair optional_net type)
    (λ ws. and_then (word_as integer_of ws) (λ long. got (output_integer long))) typed_output words refl
    (made_paired (λ tree. direction_of (other_way (other_way tree))) optional_net type words)
    ∙ found_choice (is_meant integer_of) (word_as integer_of) (λ long. got (output_integer long)) typed_output words

-- connections

abbrev close : Reader (Unit {0})
close = word_only (codes ")")

abbrev ByName : Type 0
ByName = Both (List_of ConnectionTree) (Unit {0})

abbrev ByOrder : Type 0
ByOrder = Both (List_of ExpressionTree) (Unit {0})

abbrev all_by_name : Reader ByName
all_by_name = pair (comma_list connection) close

abbrev all_by_order : Reader ByOrder
all_by_order = pair (comma_list free_value) close

abbrev order_parts : Reader (Either (Unit {0}) ByOrder)
order_parts = either (is_front (codes ")")) close all_by_order

abbrev order_in : Reader ConnectionsTree
order_in = choose (is_front (codes ")")) (map_tree (λ end. by_order []) close) (map_tree by_order (all_until (codes ")") free_value))

pub connections_is : (words : List Text) → connections words ≡ past (codes "(") connections_in words
connections_is = past_rule connections_of (codes "(") (either (is_front (codes ".")) all_by_name order_parts) connections_in inside
  where
    inside : (words : List Text) → map_tree connections_of (either (is_front (codes ".")) all_by_name order_parts) words ≡ connections_in words
    inside words =
        either_rule connections_of (is_front (codes ".")) all_by_name order_parts (map_tree by_name (all_until (codes ")") connection)) order_in words
        (until_is (codes ")") connection (λ tree. connections_of (one_way tree)) by_name (λ one list. refl) words)
        (either_rule (λ tree. connections_of (other_way tree)) (is_front (codes ")")) close all_by_order (map_tree (λ end. by_order []) close)
        (map_tree by_order (all_until (codes ")") free_value)) words refl
        (until_is (codes ")") free_value (λ tree. connections_of (other_way (other_way tree))) by_order (λ one list. refl) words))

-- heads

abbrev head_parts : Reader (Both (List_of HeadParameter) (Unit {0}))
head_parts = pair (pair first_parameter (many (is_front (codes ",")) (λ list. past (codes ",") head_parameter))) close

pub heads_is : (words : List Text) → map_tree head_list_of head_parameters words ≡ past (codes "(") heads_in words
heads_is = past_rule head_list_of (codes "(") head_parts heads_in inside
  where
    inside : (words : List Text) → map_tree head_list_of head_parts words ≡ heads_in words
    inside words = first_until_is (codes ")") head_parameter head_list_of (λ list. list) (λ one list. refl) first_parameter words ∙ then_got (heads_in words)

-- the first of a list, made of what is read for it
module _ {A B : Type 0} (begin : A → PortTree) (first : Reader A) (rest : Reader (List PortTree)) (make : Both (Both A (List PortTree)) B → List PortTree)
    (same : (one : A) (list : List PortTree) (end : B) → make (both (both one list) end) ≡ begin one ∷ list) (next : Reader B) where
  abbrev begun : Both (Both PortTree (List PortTree)) B → List PortTree
  begun (both list end) = listed_of list

  begun_end : (one : A) (list : List PortTree) (a : Answer B) →
      and_then (and_then a (λ end. got (both (both one list) end))) (λ p. got (make p))
      ≡ and_then (and_then a (λ end. got (both (both (begin one) list) end))) (λ p. got (begun p))
  begun_end one list (got end left) = ap (λ b. got b left) (same one list end)
  begun_end one list (stop why left) = refl

  begun_rest : (one : A) (a : Answer (List PortTree)) →
      and_then (and_then (and_then a (λ list. got (both one list))) (λ p. map_tree (both p) next)) (λ p. got (make p))
      ≡ and_then (and_then (and_then a (λ list. got (both (begin one) list))) (λ p. map_tree (both p) next)) (λ p. got (begun p))
  begun_rest one (got list left) = begun_end one list (next left)
  begun_rest one (stop why left) = refl

  begun_first : (a : Answer A) →
      and_then (and_then (and_then a (λ one. map_tree (both one) rest)) (λ p. map_tree (both p) next)) (λ p. got (make p))
      ≡ and_then (and_then (and_then (and_then a (λ one. got (begin one))) (λ one. map_tree (both one) rest)) (λ p. map_tree (both p) next)) (λ p. got (begun p))
  begun_first (got one left) = begun_rest one (rest left)
  begun_first (stop why left) = refl

  begun_is : (words : List Text) → map_tree make (pair (pair first rest) next) words ≡ map_tree begun (pair (pair (map_tree begin first) rest) next) words
  begun_is words = begun_first (first words)

behind_is : {A : Type 0} (begin : A → PortTree) (first : Reader A) (read : Reader PortTree) (make : PortsBehind A → List PortTree) →
    ((one : A) (list : List PortTree) (end : Unit {0}) → make (both (both one list) end) ≡ begin one ∷ list) → (words : List Text) →
    map_tree make (ports_behind first read) words ≡ and_then (map_tree begin first words) (rest_until (codes ")") read)
behind_is begin first read make same words =
    begun_is begin first (many (is_front (codes ",")) (λ list. past (codes ",") read)) make same close words
    ∙ first_until_is (codes ")") read (begun begin first (many (is_front (codes ",")) (λ list. past (codes ",") read)) make same close)
    (λ list. list) (λ one list. refl) (map_tree begin first) words
    ∙ then_got (and_then (map_tree begin first words) (rest_until (codes ")") read))

abbrev directed_ports : Reader (PortsBehind (Both DirectionTree DeclaredTree))
directed_ports = ports_behind (pair direction declarator) port

abbrev port_names : Reader (PortsBehind Text)
port_names = ports_behind name_word named_port

listed_ports_is : (words : List Text) → map_tree (λ tree. ports_of (other_way tree)) (either is_direction directed_ports port_names) words ≡ listed_ports words
listed_ports_is words =
    either_rule (λ tree. ports_of (other_way tree)) is_direction directed_ports port_names some_ports named_ports words
    (behind_is first_port_of (pair direction declarator) port (λ tree. ports_of (other_way (one_way tree))) (λ one list end. refl) words)
    (behind_is named_port_of name_word named_port (λ tree. ports_of (other_way (other_way tree))) (λ one list end. refl) words)

pub ports_is : (words : List Text) → ports words ≡ past (codes "(") ports_in words
ports_is = past_rule ports_of (codes "(") (either (is_front (codes ")")) close (either is_direction directed_ports port_names)) ports_in inside
  where
    inside : (words : List Text) → map_tree ports_of (either (is_front (codes ")")) close (either is_direction directed_ports port_names)) words ≡ ports_in words
    inside words =
        either_rule ports_of (is_front (codes ")")) close (either is_direction directed_ports port_names) (map_tree (λ end. []) close) listed_ports words refl
        (listed_ports_is words)

-- items

parameters_is : (words : List Text) → map_tree parameters_of (pair (word_as local_of) (pair parameter_type (list_and_semicolon setting))) words ≡ and_then (word_as local_of words) parameters_at
parameters_is words =
    made_paired parameters_of (word_as local_of) (pair parameter_type (list_and_semicolon setting)) words
    ∙ then_same (word_as local_of words) (λ local. map_tree (λ tree. parameters_of (both local tree)) (pair parameter_type (list_and_semicolon setting))) parameters_at
    (λ local left. made_paired (λ tree. parameters_of (both local tree)) parameter_type (list_and_semicolon setting) left
    ∙ then_same (parameter_type left) (λ kind. map_tree (λ tree. parameters_of (both local (both kind tree))) (list_and_semicolon setting))
    (λ kind. map_tree (parameters local kind) (all_until (codes ";") setting))
    (λ kind left. until_is (codes ";") setting (λ tree. parameters_of (both local (both kind tree))) (parameters local kind) (λ one list. refl) left))

variables_is : (words : List Text) → map_tree variables_of (pair (word_as net_of) (pair type (list_and_semicolon declarator))) words ≡ and_then (word_as net_of words) variables_at
variables_is words =
    made_paired variables_of (word_as net_of) (pair type (list_and_semicolon declarator)) words
    ∙ then_same (word_as net_of words) (λ net. map_tree (λ tree. variables_of (both net tree)) (pair type (list_and_semicolon declarator))) variables_at
    (λ net left. made_paired (λ tree. variables_of (both net tree)) type (list_and_semicolon declarator) left
    ∙ then_same (type left) (λ kind. map_tree (λ tree. variables_of (both net (both kind tree))) (list_and_semicolon declarator))
    (λ kind. map_tree (declaration (variables net kind)) (all_until (codes ";") declarator))
    (λ kind left. until_is (codes ";") declarator (λ tree. variables_of (both net (both kind tree))) (declaration (variables net kind)) (λ one list. refl) left))

directed_is : (words : List Text) → map_tree directed_of (pair direction (list_and_semicolon declarator)) words ≡ directed_at words
directed_is words =
    made_paired directed_of direction (list_and_semicolon declarator) words
    ∙ then_same (direction words) (λ tree. map_tree (λ p. directed_of (both tree p)) (list_and_semicolon declarator))
    (λ tree. map_tree (declaration (directed tree)) (all_until (codes ";") declarator))
    (λ tree left. until_is (codes ";") declarator (λ p. directed_of (both tree p)) (declaration (directed tree)) (λ one list. refl) left)

instances_is : (words : List Text) → map_tree instances_of (pair name_word (pair overrides (list_and_semicolon instance_behind))) words ≡ instances_item words
instances_is words =
    made_paired instances_of name_word (pair overrides (list_and_semicolon instance_behind)) words
    ∙ then_same (name_word words) (λ letters. map_tree (λ tree. instances_of (both letters tree)) (pair overrides (list_and_semicolon instance_behind))) instances_at
    (λ letters left. made_paired (λ tree. instances_of (both letters tree)) overrides (list_and_semicolon instance_behind) left
    ∙ then_same (overrides left) (λ tree. map_tree (λ p. instances_of (both letters (both tree p))) (list_and_semicolon instance_behind))
    (λ tree. map_tree (instances letters tree) (all_until (codes ";") instance_behind))
    (λ tree left. until_is (codes ";") instance_behind (λ p. instances_of (both letters (both tree p))) (instances letters tree) (λ one list. refl) left))

abbrev read_parameters : Reader Parameters
read_parameters = pair (word_as local_of) (pair parameter_type (list_and_semicolon setting))

abbrev read_variables : Reader Variables
read_variables = pair (word_as net_of) (pair type (list_and_semicolon declarator))

abbrev Alone : Type 0
Alone = Either StatementTree Instances

abbrev alone_parts : Reader Alone
alone_parts = either (is_front (codes "always")) (past (codes "always") (statement 64)) (pair name_word (pair overrides (list_and_semicolon instance_behind)))

abbrev Process : Type 0
Process = Either StatementTree Alone

abbrev process_parts : Reader Process
process_parts = either (is_front (codes "initial")) (past (codes "initial") (statement 64)) alone_parts

abbrev Assigned : Type 0
Assigned = Either (Both (List_of NetAssignment) (Unit {0})) Process

abbrev assigned_parts : Reader Assigned
assigned_parts = either (is_front (codes "assign")) (past (codes "assign") (list_and_semicolon net_assignment)) process_parts

abbrev Named : Type 0
Named = Either (Both (List_of Text) (Unit {0})) Assigned

abbrev named_parts : Reader Named
named_parts = either (is_front (codes "event")) (past (codes "event") (list_and_semicolon name_word)) assigned_parts

abbrev Timed : Type 0
Timed = Either (Both (List_of DeclaredTree) (Unit {0})) Named

abbrev timed_parts : Reader Timed
timed_parts = either (is_front (codes "time")) (past (codes "time") (list_and_semicolon declarator)) named_parts

abbrev Listed : Type 0
Listed = Either (Both (List_of DeclaredTree) (Unit {0})) Timed

abbrev listed_parts : Reader Listed
listed_parts = either (is_front (codes "integer")) (past (codes "integer") (list_and_semicolon declarator)) timed_parts

abbrev DirectedOrLater : Type 0
DirectedOrLater = Either Directed Listed

abbrev directed_parts : Reader DirectedOrLater
directed_parts = either is_direction (pair direction (list_and_semicolon declarator)) listed_parts

abbrev variable_parts : Reader (Either Variables DirectedOrLater)
variable_parts = either (is_meant net_of) read_variables directed_parts

abbrev of_variables : Either Variables DirectedOrLater → ItemTree
of_variables tree = item_of (other_way tree)

abbrev of_directed : DirectedOrLater → ItemTree
of_directed tree = of_variables (other_way tree)

abbrev of_listed : Listed → ItemTree
of_listed tree = of_directed (other_way tree)

abbrev of_timed : Timed → ItemTree
of_timed tree = of_listed (other_way tree)

abbrev of_named : Named → ItemTree
of_named tree = of_timed (other_way tree)

abbrev of_assigned : Assigned → ItemTree
of_assigned tree = of_named (other_way tree)

abbrev of_process : Process → ItemTree
of_process tree = of_assigned (other_way tree)

abbrev of_alone : Alone → ItemTree
of_alone tree = of_process (other_way tree)

abbrev alone_item : Reader ItemTree
alone_item = choose (is_front (codes "always")) (past (codes "always") (map_tree always (statement 64))) instances_item

abbrev assigned_item : Reader ItemTree
assigned_item = choose (is_front (codes "assign")) (past (codes "assign") assignments_at) process_item

abbrev named_item : Reader ItemTree
named_item = choose (is_front (codes "event")) (past (codes "event") events_at) assigned_item

abbrev timed_item : Reader ItemTree
timed_item = choose (is_front (codes "time")) (past (codes "time") (integers_at true)) named_item

process_is : (words : List Text) → map_tree of_process process_parts words ≡ process_item words
process_is words =
    either_rule of_process (is_front (codes "initial")) (past (codes "initial") (statement 64)) alone_parts
    (past (codes "initial") (map_tree initial (statement 64))) alone_item words
    (made_past initial (codes "initial") (statement 64) words)
    (either_rule of_alone (is_front (codes "always")) (past (codes "always") (statement 64)) (pair name_word (pair overrides (list_and_semicolon instance_behind)))
    (past (codes "always") (map_tree always (statement 64))) instances_item words
    (made_past always (codes "always") (statement 64) words) (instances_is words))

listed_is : (words : List Text) → map_tree of_listed listed_parts words ≡ listed_item words
listed_is words =
    either_rule of_listed (is_front (codes "integer")) (past (codes "integer") (list_and_semicolon declarator)) timed_parts
    (past (codes "integer") (integers_at false)) timed_item words
    (past_rule (integers_of false) (codes "integer") (list_and_semicolon declarator) (integers_at false)
    (until_is (codes ";") declarator (integers_of false) (declaration (integers false)) (λ one list. refl)) words)
    (either_rule of_timed (is_front (codes "time")) (past (codes "time") (list_and_semicolon declarator)) named_parts
    (past (codes "time") (integers_at true)) named_item words
    (past_rule (integers_of true) (codes "time") (list_and_semicolon declarator) (integers_at true)
    (until_is (codes ";") declarator (integers_of true) (declaration (integers true)) (λ one list. refl)) words)
    (either_rule of_named (is_front (codes "event")) (past (codes "event") (list_and_semicolon name_word)) assigned_parts
    (past (codes "event") events_at) assigned_item words
    (past_rule events_of (codes "event") (list_and_semicolon name_word) events_at (until_is (codes ";") name_word events_of events (λ one list. refl)) words)
    (either_rule of_assigned (is_front (codes "assign")) (past (codes "assign") (list_and_semicolon net_assignment)) process_parts
    (past (codes "assign") assignments_at) process_item words
    (past_rule assignments_of (codes "assign") (list_and_semicolon net_assignment) assignments_at
    (until_is (codes ";") net_assignment assignments_of assignments (λ one list. refl)) words)
    (process_is words))))

directed_item_is : (words : List Text) → map_tree of_directed directed_parts words ≡ directed_item words
directed_item_is words =
    either_rule of_directed is_direction (pair direction (list_and_semicolon declarator)) listed_parts directed_at listed_item words (directed_is words) (listed_is words)

variables_item_is : (words : List Text) → map_tree of_variables variable_parts words ≡ variables_item words
variables_item_is words =
    either_rule of_variables (is_meant net_of) read_variables directed_parts (λ ws. and_then (word_as net_of ws) variables_at) directed_item words
    (variables_is words) (directed_item_is words)
    ∙ found_choice (is_meant net_of) (word_as net_of) variables_at directed_item words

pub item_is : (words : List Text) → item words ≡ any_item words
item_is words =
    either_rule item_of (is_meant local_of) read_parameters variable_parts (λ ws. and_then (word_as local_of ws) parameters_at) variables_item words
    (parameters_is words) (variables_item_is words)
    ∙ found_choice (is_meant local_of) (word_as local_of) parameters_at variables_item words

-- modules

abbrev item_parts : Reader (Both (List ItemTree) (Unit {0}))
item_parts = pair all_items (word_only (codes "endmodule"))

abbrev body_parts : Reader (Both (List ItemTree) (Unit {0}))
body_parts = past (codes ";") item_parts

abbrev port_and_body : Reader (Both (Option (List PortTree)) (Both (List ItemTree) (Unit {0})))
port_and_body = pair optional_ports body_parts

abbrev head_and_body : Reader (Both (Option (List HeadParameter)) (Both (Option (List PortTree)) (Both (List ItemTree) (Unit {0}))))
head_and_body = pair optional_heads port_and_body

module _ (letters : Text) (heads : Option (List HeadParameter)) (list : Option (List PortTree)) where
  abbrev make : Both (List ItemTree) (Unit {0}) → ModuleTree
  make parts = module_of (both letters (both heads (both list parts)))

  abbrev whole : List ItemTree → ModuleTree
  whole body = record { name = letters; parameters = heads; ports = list; items = body }

  by_word : (all : List ItemTree) (word : Text) (words : List Text) (b : Bool) →
      and_then (and_then (follow (if b then goes (got tt) else refused) word words) (λ end. got (both all end))) (λ parts. got (make parts))
      ≡ and_then (follow (if b then goes (got all) else refused) word words) (λ body. got (whole body))
  by_word all word words true = refl
  by_word all word words false = refl

  by_end : (all : List ItemTree) (words : List Text) →
      and_then (map_tree (both all) (word_only (codes "endmodule")) words) (λ parts. got (make parts))
      ≡ and_then (past (codes "endmodule") (got all) words) (λ body. got (whole body))
  by_end all [] = refl
  by_end all (word ∷ words) = by_word all word words (bytes_eq (codes "endmodule") word)

  by_items : (a : Answer (List ItemTree)) →
      and_then (and_then a (λ all. map_tree (both all) (word_only (codes "endmodule")))) (λ parts. got (make parts))
      ≡ and_then (and_then a (λ all. past (codes "endmodule") (got all))) (λ body. got (whole body))
  by_items (got all left) = by_end all left
  by_items (stop why left) = refl

  body_is : (words : List Text) → map_tree make body_parts words ≡ module_with letters heads list words
  body_is words =
      made_past make (codes ";") item_parts words
      ∙ past_same (codes ";") (map_tree make item_parts) (map_tree whole items_in) (λ ws. by_items (all_items ws)) words
      ∙ sym (made_past whole (codes ";") items_in words)

headed_is : (letters : Text) (heads : Option (List HeadParameter)) (words : List Text) →
    map_tree (λ parts. module_of (both letters (both heads parts))) port_and_body words ≡ module_headed letters heads words
headed_is letters heads words =
    made_paired (λ parts. module_of (both letters (both heads parts))) optional_ports body_parts words
    ∙ then_same (optional_ports words) (λ list. map_tree (make letters heads list) body_parts) (module_with letters heads) (body_is letters heads)

named_is : (letters : Text) (words : List Text) → map_tree (λ parts. module_of (both letters parts)) head_and_body words ≡ module_named letters words
named_is letters words =
    made_paired (λ parts. module_of (both letters parts)) optional_heads port_and_body words
    ∙ then_same (optional_heads words) (λ heads. map_tree (λ parts. module_of (both letters (both heads parts))) port_and_body) (module_headed letters)
    (headed_is letters)

pub module_is : (words : List Text) → module_reader words ≡ module_at words
module_is = past_rule module_of (codes "module") (pair name_word head_and_body) (λ words. and_then (name_word words) module_named) inside
  where
    inside : (words : List Text) → map_tree module_of (pair name_word head_and_body) words ≡ and_then (name_word words) module_named
    inside words =
        made_paired module_of name_word head_and_body words
        ∙ then_same (name_word words) (λ letters. map_tree (λ parts. module_of (both letters parts)) head_and_body) module_named named_is
