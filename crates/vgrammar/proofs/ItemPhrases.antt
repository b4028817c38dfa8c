-- Connections, instances and the items of modules.
use Rattle.std.proofs.Common.{◌≡◌, ℕ, suc, ◌<◌, Bool, true, false, ◌&&◌, not, List, [], ◌∷◌, ◌++◌, Option, None, Some, length, flat_map, refl, sym, ap, ◌∙◌, subst, codes, zero-lt-suc}
use Rattle.basis.proofs.Bools.{and_left, and_right, and_both, and_assoc}
use Rattle.basis.proofs.Numbers.{one_within}
use Rattle.basis.proofs.Lists.{longer}
use Rattle.vwords.specs.Words.{Text, is_name, reserved_words}
use Rattle.vast.specs.Expressions.{ExpressionTree, spell_expression}
use Rattle.vast.specs.Statements.{StatementTree, empty}
use Rattle.vast.specs.Modules.{SettingTree, DeclaredTree, ConnectionTree, ConnectionsTree, by_order, by_name, InstanceTree, variables, integers, directed, ItemTree, parameters, declaration, events, assignments, initial, always as always_item, instances, integer, spell_value, spell_declared, spell_connection, spell_connections, spell_instance, spell_item, parameter_word, net_word, fits_value, fits_type, fits_parameter_type, fits_setting, fits_declared, fits_connection, fits_connections, fits_overrides, fits_instance, fits_item, fits_direction, are_some, input, output, output_integer, NetAssignment, fits_net_assignment}
use Rattle.vast.specs.declared.module.NetKind.{NetKind}
use Rattle.vast.specs.declared.module.NetKind.TheVariants as net
use Rattle.vexpr_parse.specs.declared.beginning.Beginning.TheVariants as start
use Rattle.vexpr_parse.specs.Readers.{got, Reader, front, is_front, past}
use Rattle.vexpr_parse.specs.Words.{beginning_of, binary_of, unary_of, ends}
use Rattle.vexpr_parse.specs.Lawful.{Ends}
use Rattle.vexpr_parse.proofs.ReaderRules.{same_text, parts_of}
use Rattle.vgrammar.specs.Parts.{Both, both, Either, one_way, other_way, map_tree, pair, word_as, many}
use Rattle.vgrammar.specs.Starts.{is_meant}
use Rattle.vgrammar.specs.Statements.{name_word, word_only, List_of, comma_list, statement, ends_statement}
use Rattle.vgrammar.specs.Modules.{free_value, type, parameter_type, setting, declarator, direction, is_direction, Directed, Value, value_in, connection_of, connection, Connections, connections_of, connections, instance_of, instance_behind, overrides, list_and_semicolon, net_of, local_of, Parameters, Variables, Instances, Item, item_of, item_parts, item, net_assignment}
use Rattle.vgrammar.proofs.Phrases.{Shape, Phrase, Example, Worded, Opens, Makes, From, always, phrase_within, made_phrase, past_shape, past_phrase, past_example, nothing_phrase, worded_shape, worded_phrase, paired_shape, before_phrase, paired_example, free_phrase, next_phrase}
use Rattle.vgrammar.proofs.PhraseChoices.{ends_maybe, maybe_shape, maybe_phrase, either_shape, either_phrase, either_tested, either_worded, Tested, allows_all}
use Rattle.vgrammar.proofs.LevelFacts.{and_true}
use Rattle.vgrammar.proofs.ValuePhrases.{nothing_example, only_shape, only_phrase, comma_shape, comma_phrase, allows_each}
use Rattle.vgrammar.proofs.WordPhrases.{as_written, refused_first, value_refuses}
use Rattle.vgrammar.proofs.PartPhrases.{text_shape, a_name, named_phrase}
use Rattle.vgrammar.proofs.StatementShapes.{closes_statement, statement_shape, statement_closed}
use Rattle.vgrammar.proofs.StatementLevels.{statement_phrase}
use Rattle.vgrammar.proofs.DirectionPhrases.{net_shape, net_phrase, ends_direction, name_ends_direction, no_direction, direction_shape, direction_phrase}
use Rattle.vgrammar.proofs.HeadPhrases.{name_isnt, name_means_not, Free, free_phrase_value, free_example, ends_type, type_shape, type_phrase, ends_parameter_type, parameter_type_shape, parameter_type_phrase, name_ends_type, setting_shape, setting_phrase, a_setting, declared_shape, declared_phrase, a_declared, ended_shape, ended_phrase, ended_example, some_valid, net_assignment_shape, net_assignment_phrase, a_net_assignment}

abbrev close : Option Text → Bool
close = is_front (codes ")")

abbrev dot : Option Text → Bool
dot = is_front (codes ".")

no_beginnings : (beginning_of (codes ")") ≡ start.Other) × (beginning_of (codes ".") ≡ start.Other)
unfolding beginning_of unary_of reserved_words
no_beginnings = (refl, refl)

abbrev hash : Option Text → Bool
hash = is_front (codes "#")

-- The words that items begin with

abbrev local_shape : Shape Bool
local_shape = worded_shape parameter_word (λ local. true) always

local_phrase : Phrase (word_as local_of) always local_shape
local_phrase = worded_phrase local_of parameter_word (λ local. true) always
    (λ text local e. (as_written parameter_word (false ∷ true ∷ []) text local e, refl)) meant
  where
    meant : (local : Bool) → true ≡ true → local_of (parameter_word local) ≡ Some local
    meant true e = refl
    meant false e = refl

a_net : Example net_shape
a_net = record { tree = net.Wire; valid = refl }

a_local : Example local_shape
a_local = record { tree = false; valid = refl }

abbrev Names : Shape (Both (List_of Text) (Unit {0}))
Names = ended_shape always (text_shape is_name)

names_phrase : Phrase (list_and_semicolon name_word) always Names
names_phrase = ended_phrase named_phrase a_name refl refl

names_example : Example Names
names_example = ended_example always a_name

abbrev closes_item : ItemTree → Ends
closes_item (parameters local kind list) = always
closes_item (declaration kind list) = always
closes_item (events list) = always
closes_item (assignments list) = always
closes_item (initial body) = closes_statement body
closes_item (always_item body) = closes_statement body
closes_item (instances letters tree list) = always

abbrev AssignOrLater : Type 0
AssignOrLater = Either (Both (List_of NetAssignment) (Unit {0})) (Either StatementTree (Either StatementTree Instances))

abbrev EventOrLater : Type 0
EventOrLater = Either (Both (List_of Text) (Unit {0})) AssignOrLater

abbrev TimeOrLater : Type 0
TimeOrLater = Either (Both (List_of DeclaredTree) (Unit {0})) EventOrLater

abbrev IntegerOrLater : Type 0
IntegerOrLater = Either (Both (List_of DeclaredTree) (Unit {0})) TimeOrLater

abbrev DirectedOrLater : Type 0
DirectedOrLater = Either Directed IntegerOrLater

loose : {A : Type 0} {r : Reader A} {s : Shape A} → Phrase r always s → Phrase r ends_statement s
loose q = phrase_within ends_statement q (λ next e. refl)

no_names : (is_name (codes "always") ≡ false) × (is_name (codes "initial") ≡ false) × (is_name (codes "assign") ≡ false)
    × (is_name (codes "event") ≡ false) × (is_name (codes "integer") ≡ false) × (is_name (codes "time") ≡ false)
unfolding reserved_words
no_names = (refl, refl, refl, refl, refl, refl)

no_net_name : (kind : NetKind) → is_name (net_word kind) ≡ false
unfolding reserved_words
no_net_name net.Wire = refl
no_net_name net.Reg = refl

no_local_name : (local : Bool) → is_name (parameter_word local) ≡ false
unfolding reserved_words
no_local_name true = refl
no_local_name false = refl

item_closed : (tree : ItemTree) (next : Option Text) → ends_statement next ≡ true → closes_item tree next ≡ true
item_closed (parameters local kind list) next e = refl
item_closed (declaration kind list) next e = refl
item_closed (events list) next e = refl
item_closed (assignments list) next e = refl
item_closed (initial body) next e = statement_closed body next e
item_closed (always_item body) next e = statement_closed body next e
item_closed (instances letters tree list) next e = refl

module _ (below : ℕ) where
  abbrev levels : ℕ
  levels = suc below

  -- a value and what closes it

  abbrev Enclosed : Shape (Both ExpressionTree (Unit {0}))
  Enclosed = paired_shape (Free below) (only_shape (codes ")"))

  enclosed_phrase : Phrase (pair (free_value levels) (word_only (codes ")"))) always Enclosed
  unfolding binary_of
  enclosed_phrase = before_phrase (codes ")") (free_phrase_value below) (nothing_phrase always) nothing_example refl

  enclosed_worded : Worded Enclosed
  enclosed_worded (both tree end) v = longer (spell_expression tree) (codes ")") []

  abbrev ValueIn : Shape Value
  ValueIn = either_shape (only_shape (codes ")")) Enclosed

  value_in_phrase : Phrase (value_in levels) always ValueIn
  value_in_phrase =
      either_phrase close (only_phrase (codes ")")) enclosed_phrase (λ tree v. zero-lt-suc _) enclosed_worded (λ tree v rest. refl)
      (refused_first close enclosed_phrase enclosed_worded refl refuses)
    where
      refuses : (word : Text) (words : List Text) (tree : Both ExpressionTree (Unit {0})) (left : List Text) → close (Some word)
          ≡ true →
          pair (free_value levels) (word_only (codes ")")) (word ∷ words) ≡ got tree left → ⊥
      refuses word words tree left is e =
          let a = parts_of (free_value levels (word ∷ words)) (λ t. map_tree (both t) (word_only (codes ")"))) tree left e in
          value_refuses levels word
          (subst (λ w. beginning_of w ≡ start.Other) (same_text (codes ")") word is) no_beginnings.0) words a.one a.between
          a.first

  value_in_example : Example ValueIn
  value_in_example = record { tree = one_way tt; valid = refl }

  abbrev pub connection_shape : Shape ConnectionTree
  connection_shape = record {
    spell = spell_connection;
    valid = fits_connection levels;
    closes = λ tree. always;
    stops = λ tree next. true;
  }

  abbrev ConnectionParts : Shape (Both Text Value)
  ConnectionParts = past_shape (codes ".") (paired_shape (text_shape is_name) (past_shape (codes "(") ValueIn))

  pub connection_phrase : Phrase (connection levels) always connection_shape
  connection_phrase =
      made_phrase connection_of connection_shape back makes (λ tree next e. refl)
      (past_phrase (codes ".") (free_phrase named_phrase (past_phrase (codes "(") value_in_phrase value_in_example)
      (past_example (codes "(") value_in_example)) (paired_example a_name (past_example (codes "(") value_in_example)))
    where
      back : (tree : ConnectionTree) → fits_connection levels tree ≡ true → From connection_of tree
      back tree v = by_value tree.value refl
        where
          by_value : (o : Option ExpressionTree) → tree.value ≡ o → From connection_of tree
          by_value None e = record { parts = both tree.name (one_way tt); is = λ i. record { name = tree.name; value = sym e i } }
          by_value (Some one) e = record {
            parts = both tree.name (other_way (both one tt));
            is = λ i. record { name = tree.name; value = sym e i };
          }

      makes : Makes connection_of ConnectionParts connection_shape []
      makes = record { spelled = spelled; valid = valid; closes = λ tree next e. closes tree next; stops = λ tree next e. refl }
        where
          spelled : (tree : Both Text Value) → spell_connection (connection_of tree) ≡ ConnectionParts.spell tree
          spelled (both letters (one_way end)) = refl
          spelled (both letters (other_way (both tree end))) = refl

          valid : (tree : Both Text Value) → fits_connection levels (connection_of tree) ≡ ConnectionParts.valid tree
          valid (both letters (one_way end)) = refl
          valid (both letters (other_way (both tree end))) =
              ap (λ b. is_name letters && b) (sym (and_true (fits_value levels tree)))

          closes : (tree : Both Text Value) (next : Option Text) → ConnectionParts.closes tree next ≡ true
          closes (both letters (one_way end)) next = refl
          closes (both letters (other_way (both tree end))) next = refl

  a_connection : Example connection_shape
  a_connection = record { tree = record { name = a_name.tree; value = None }; valid = and_both _ true a_name.valid refl }

  -- a list in parentheses

  abbrev ByName : Shape (Both (List_of ConnectionTree) (Unit {0}))
  ByName = paired_shape (comma_shape always connection_shape) (only_shape (codes ")"))

  abbrev ByOrder : Shape (Both (List_of ExpressionTree) (Unit {0}))
  ByOrder = paired_shape (comma_shape (ends 0) (Free below)) (only_shape (codes ")"))

  by_name_phrase : Phrase (pair (comma_list (connection levels)) (word_only (codes ")"))) always ByName
  by_name_phrase = before_phrase (codes ")") (comma_phrase connection_phrase a_connection refl)
      (nothing_phrase always) nothing_example refl

  by_order_phrase : Phrase (pair (comma_list (free_value levels)) (word_only (codes ")"))) always ByOrder
  unfolding binary_of
  by_order_phrase = before_phrase (codes ")") (comma_phrase (free_phrase_value below) (free_example below) refl)
      (nothing_phrase always) nothing_example refl

  by_order_worded : Worded ByOrder
  by_order_worded (both (both tree more) end) v =
      longer (spell_expression tree ++ flat_map (λ other. codes "," ∷ spell_expression other) more) (codes ")") []

  by_order_not : (text : Text) → beginning_of text ≡ start.Other → Tested (is_front text) false ByOrder
  by_order_not text none = refused_first (is_front text) by_order_phrase by_order_worded refl refuses
    where
      refuses : (word : Text) (words : List Text) (tree : Both (List_of ExpressionTree) (Unit {0})) (left : List Text) →
          is_front text (Some word) ≡ true → pair (comma_list (free_value levels)) (word_only (codes ")")) (word ∷ words)
          ≡ got tree left → ⊥
      refuses word words tree left is e =
          let a = parts_of (comma_list (free_value levels) (word ∷ words))
          (λ t. map_tree (both t) (word_only (codes ")"))) tree left e in
          let b = parts_of (free_value levels (word ∷ words))
          (λ t. map_tree (both t) (many (is_front (codes ",")) (λ list. past (codes ",") (free_value levels))))
          a.one a.between a.first in
          value_refuses levels word
          (subst (λ w. beginning_of w ≡ start.Other) (same_text text word is) none) words b.one b.between b.first

  abbrev pub connections_shape : Shape ConnectionsTree
  connections_shape = record {
    spell = spell_connections;
    valid = fits_connections levels;
    closes = λ tree. always;
    stops = λ tree next. true;
  }

  abbrev Unnamed : Shape (Either (Unit {0}) (Both (List_of ExpressionTree) (Unit {0})))
  Unnamed = either_shape (only_shape (codes ")")) ByOrder

  abbrev ConnectionsParts : Shape Connections
  ConnectionsParts = past_shape (codes "(") (either_shape ByName Unnamed)

  pub connections_phrase : Phrase (connections levels) always connections_shape
  connections_phrase =
      made_phrase connections_of connections_shape back makes (λ tree next e. refl)
      (past_phrase (codes "(")
      (either_phrase dot by_name_phrase
      (either_phrase close (only_phrase (codes ")")) by_order_phrase (λ tree v. zero-lt-suc _) by_order_worded (λ tree v rest. refl)
      (by_order_not (codes ")") no_beginnings.0))
      by_name_worded (either_worded (only_shape (codes ")")) ByOrder (λ tree v. zero-lt-suc _) by_order_worded) by_name_dot
      (either_tested dot false (only_shape (codes ")")) ByOrder (λ tree v rest. refl) (by_order_not (codes ".") no_beginnings.1)))
      (record { tree = other_way (one_way tt); valid = refl }))
    where
      by_name_worded : Worded ByName
      by_name_worded (both (both tree more) end) v = zero-lt-suc _

      by_name_dot : Tested dot true ByName
      by_name_dot (both (both tree more) end) v rest = refl

      no_list : (b : Bool) → (false && b) ≡ true → ⊥
      no_list b e = let none : false ≡ true = e in cc

      back : (tree : ConnectionsTree) → fits_connections levels tree ≡ true → From connections_of tree
      back (by_order []) v = record { parts = other_way (one_way tt); is = refl }
      back (by_order (tree ∷ more)) v = record { parts = other_way (other_way (both (both tree more) tt)); is = refl }
      back (by_name []) v = absurd (no_list true v)
      back (by_name (tree ∷ more)) v = record { parts = one_way (both (both tree more) tt); is = refl }

      makes : Makes connections_of ConnectionsParts connections_shape []
      makes = record { spelled = spelled; valid = valid; closes = λ tree next e. closes tree next; stops = λ tree next e. refl }
        where
          spelled : (tree : Connections) → spell_connections (connections_of tree) ≡ ConnectionsParts.spell tree
          spelled (one_way (both (both tree more) end)) = refl
          spelled (other_way (one_way end)) = refl
          spelled (other_way (other_way (both (both tree more) end))) = refl

          valid : (tree : Connections) → fits_connections levels (connections_of tree) ≡ ConnectionsParts.valid tree
          valid (one_way (both (both tree more) end)) = some_valid (fits_connection levels) tree more
          valid (other_way (one_way end)) = refl
          valid (other_way (other_way (both (both tree more) end))) =
              ap (λ b. fits_value levels tree && b) (sym (allows_each (fits_value levels) [] more)) ∙ sym (and_true _)

          closes : (tree : Connections) (next : Option Text) → ConnectionsParts.closes tree next ≡ true
          closes (one_way (both list end)) next = refl
          closes (other_way (one_way end)) next = refl
          closes (other_way (other_way (both list end))) next = refl

  no_connections : Example connections_shape
  no_connections = record { tree = by_order []; valid = refl }

  -- Instances

  abbrev pub instance_shape : Shape InstanceTree
  instance_shape = record {
    spell = spell_instance;
    valid = fits_instance levels;
    closes = λ tree. always;
    stops = λ tree next. true;
  }

  pub instance_phrase : Phrase (instance_behind levels) always instance_shape
  instance_phrase =
      made_phrase instance_of instance_shape (λ tree v. record { parts = both tree.name tree.connections; is = refl }) makes
      (λ tree next e. refl) (free_phrase named_phrase connections_phrase no_connections)
    where
      makes : Makes instance_of (paired_shape (text_shape is_name) connections_shape) instance_shape []
      makes = record { spelled = spelled; valid = valid; closes = λ tree next e. closes tree next; stops = λ tree next e. refl }
        where
          spelled : (tree : Both Text ConnectionsTree) →
              spell_instance (instance_of tree) ≡ (paired_shape (text_shape is_name) connections_shape).spell tree
          spelled (both letters tree) = refl

          valid : (tree : Both Text ConnectionsTree) →
              fits_instance levels (instance_of tree) ≡ (paired_shape (text_shape is_name) connections_shape).valid tree
          valid (both letters tree) = refl

          closes : (tree : Both Text ConnectionsTree) (next : Option Text) →
              (paired_shape (text_shape is_name) connections_shape).closes tree next ≡ true
          closes (both letters tree) next = refl

  an_instance : Example instance_shape
  an_instance = record {
    tree = record {
      name = a_name.tree;
      connections = by_order [];
    };
    valid = and_both _ true a_name.valid refl;
  }

  abbrev Overrides : Shape (Option ConnectionsTree)
  Overrides = maybe_shape hash always (past_shape (codes "#") connections_shape)

  overrides_phrase : Phrase (overrides levels) (ends_maybe hash always) Overrides
  overrides_phrase = maybe_phrase hash (past_phrase (codes "#") connections_phrase no_connections) (λ tree v. zero-lt-suc _)
      (λ tree v rest. refl)

  -- Each kind of item

  abbrev Settings : Shape (Both (List_of SettingTree) (Unit {0}))
  Settings = ended_shape (ends 0) (setting_shape below)

  settings_phrase : Phrase (list_and_semicolon (setting levels)) always Settings
  unfolding binary_of
  settings_phrase = ended_phrase (setting_phrase below) (a_setting below) refl refl

  settings_example : Example Settings
  settings_example = ended_example (ends 0) (a_setting below)

  abbrev Assigned : Shape (Both (List_of NetAssignment) (Unit {0}))
  Assigned = ended_shape (ends 0) (net_assignment_shape below)

  assigned_phrase : Phrase (list_and_semicolon (net_assignment levels)) always Assigned
  unfolding binary_of
  assigned_phrase = ended_phrase (net_assignment_phrase below) (a_net_assignment below) refl refl

  assigned_example : Example Assigned
  assigned_example = ended_example (ends 0) (a_net_assignment below)

  abbrev Declared : Shape (Both (List_of DeclaredTree) (Unit {0}))
  Declared = ended_shape (ends_maybe (is_front (codes "=")) (ends 0)) (declared_shape below)

  declared_list_phrase : Phrase (list_and_semicolon (declarator levels)) always Declared
  unfolding binary_of
  declared_list_phrase = ended_phrase (declared_phrase below) (a_declared below) refl refl

  declared_example : Example Declared
  declared_example = ended_example (ends_maybe (is_front (codes "=")) (ends 0)) (a_declared below)

  abbrev InstanceList : Shape (Both (List_of InstanceTree) (Unit {0}))
  InstanceList = ended_shape always instance_shape

  instance_list_phrase : Phrase (list_and_semicolon (instance_behind levels)) always InstanceList
  instance_list_phrase = ended_phrase instance_phrase an_instance refl refl

  instance_list_example : Example InstanceList
  instance_list_example = ended_example always an_instance

  abbrev ParametersShape : Shape Parameters
  ParametersShape = paired_shape local_shape (paired_shape (parameter_type_shape below) Settings)

  abbrev VariablesShape : Shape Variables
  VariablesShape = paired_shape net_shape (paired_shape (type_shape below) Declared)

  abbrev DirectedShape : Shape Directed
  DirectedShape = paired_shape (direction_shape below) Declared

  abbrev InstancesShape : Shape Instances
  InstancesShape = paired_shape (text_shape is_name) (paired_shape Overrides InstanceList)

  settings_worded : Worded Settings
  settings_worded (both (both tree more) end) v = zero-lt-suc _

  declared_worded : Worded Declared
  declared_worded (both (both tree more) end) v = by_value tree.value
    where
      by_value : (o : Option ExpressionTree) → 0 < length ((spell_value tree.name o
          ++ flat_map (λ other. codes "," ∷ spell_declared other) more) ++ codes ";" ∷ [])
      by_value None = zero-lt-suc _
      by_value (Some one) = zero-lt-suc _

  instance_list_worded : Worded InstanceList
  instance_list_worded (both (both tree more) end) v = zero-lt-suc _

  a_type : Example (type_shape below)
  a_type = record { tree = record { signed = false; range = None }; valid = refl }

  a_parameter_type : Example (parameter_type_shape below)
  a_parameter_type = record { tree = integer false; valid = refl }

  no_overrides : Example Overrides
  no_overrides = record { tree = None; valid = refl }

  typed_settings_example : Example (paired_shape (parameter_type_shape below) Settings)
  typed_settings_example = paired_example a_parameter_type settings_example

  typed_declared_example : Example (paired_shape (type_shape below) Declared)
  typed_declared_example = paired_example a_type declared_example

  overridden_example : Example (paired_shape Overrides InstanceList)
  overridden_example = paired_example no_overrides instance_list_example

  parameters_phrase : Phrase (pair (word_as local_of)
      (pair (parameter_type levels) (list_and_semicolon (setting levels)))) always ParametersShape
  parameters_phrase =
      free_phrase local_phrase
      (next_phrase (parameter_type_phrase below) settings_phrase settings_example settings_worded opens) typed_settings_example
    where
      opens : Opens ends_parameter_type Settings
      opens (both (both tree more) end) v rest c =
          name_ends_type tree.name (and_left (is_name tree.name) _ (and_left (fits_setting levels tree) _ (and_left _ true v)))

  -- the names that are declared begin with one
  declared_begins : (here : Ends) → ((letters : Text) → is_name letters ≡ true → here (Some letters) ≡ true) → Opens here Declared
  declared_begins here name_word (both (both tree more) end) v rest c = by_value tree.value
    where
      is_named : is_name tree.name ≡ true
      is_named = and_left (is_name tree.name) _ (and_left (fits_declared levels tree) _ (and_left _ true v))

      by_value : (o : Option ExpressionTree) → here (front (((spell_value tree.name o
          ++ flat_map (λ other. codes "," ∷ spell_declared other) more) ++ codes ";" ∷ []) ++ rest)) ≡ true
      by_value None = name_word tree.name is_named
      by_value (Some one) = name_word tree.name is_named

  variables_phrase : Phrase (pair (word_as net_of) (pair (type levels) (list_and_semicolon (declarator levels)))) always VariablesShape
  variables_phrase =
      free_phrase net_phrase
      (next_phrase (type_phrase below) declared_list_phrase declared_example declared_worded
      (declared_begins ends_type (λ letters is. and_left (ends_type (Some letters)) _ (name_ends_type letters is))))
      typed_declared_example

  directed_phrase : Phrase (pair (direction levels) (list_and_semicolon (declarator levels))) always DirectedShape
  directed_phrase =
      next_phrase (direction_phrase below) declared_list_phrase declared_example declared_worded (declared_begins ends_direction name_ends_direction)

  instances_phrase : Phrase (pair name_word (pair (overrides levels) (list_and_semicolon (instance_behind levels)))) always InstancesShape
  unfolding reserved_words
  instances_phrase =
      free_phrase named_phrase
      (next_phrase overrides_phrase instance_list_phrase instance_list_example instance_list_worded opens)
      overridden_example
    where
      opens : Opens (ends_maybe hash always) InstanceList
      opens (both (both tree more) end) v rest c =
          ap not (name_isnt (codes "#") refl tree.name
          (and_left (is_name tree.name) _ (and_left (fits_instance levels tree) _ (and_left _ true v))))

  -- Items

  abbrev pub item_shape : Shape ItemTree
  item_shape = record { spell = spell_item; valid = fits_item levels; closes = closes_item; stops = λ tree next. true }

  abbrev Body : Shape StatementTree
  Body = statement_shape levels

  abbrev FromAlways : Shape (Either StatementTree Instances)
  FromAlways = either_shape (past_shape (codes "always") Body) InstancesShape

  abbrev FromInitial : Shape (Either StatementTree (Either StatementTree Instances))
  FromInitial = either_shape (past_shape (codes "initial") Body) FromAlways

  abbrev FromAssign : Shape AssignOrLater
  FromAssign = either_shape (past_shape (codes "assign") Assigned) FromInitial

  abbrev FromEvent : Shape EventOrLater
  FromEvent = either_shape (past_shape (codes "event") Names) FromAssign

  abbrev FromTime : Shape TimeOrLater
  FromTime = either_shape (past_shape (codes "time") Declared) FromEvent

  abbrev FromInteger : Shape IntegerOrLater
  FromInteger = either_shape (past_shape (codes "integer") Declared) FromTime

  abbrev FromDirected : Shape DirectedOrLater
  FromDirected = either_shape DirectedShape FromInteger

  abbrev FromVariables : Shape (Either Variables DirectedOrLater)
  FromVariables = either_shape VariablesShape FromDirected

  abbrev ItemParts : Shape Item
  ItemParts = either_shape ParametersShape FromVariables

  a_body : Example Body
  a_body = record { tree = empty; valid = one_within below }

  body_phrase : Phrase (statement levels) ends_statement Body
  body_phrase = statement_phrase levels

  -- words that begin no instance
  instances_not : (test : Option Text → Bool) → ((letters : Text) → is_name letters ≡ true → test (Some letters) ≡ false) →
      Tested test false InstancesShape
  instances_not test none (both letters more) v rest = none letters (and_left (is_name letters) _ v)

  variables_not : (test : Option Text → Bool) → ((kind : NetKind) → test (Some (net_word kind)) ≡ false) →
      Tested test false VariablesShape
  variables_not test none (both kind more) v rest = none kind

  instances_worded : Worded InstancesShape
  instances_worded (both letters more) v = zero-lt-suc _

  variables_worded : Worded VariablesShape
  variables_worded (both kind more) v = zero-lt-suc _

  parameters_worded : Worded ParametersShape
  parameters_worded (both local more) v = zero-lt-suc _

  from_always_worded : Worded FromAlways
  from_always_worded = either_worded (past_shape (codes "always") Body) InstancesShape (λ tree v. zero-lt-suc _) instances_worded

  from_initial_worded : Worded FromInitial
  from_initial_worded = either_worded (past_shape (codes "initial") Body) FromAlways (λ tree v. zero-lt-suc _) from_always_worded

  from_assign_worded : Worded FromAssign
  from_assign_worded = either_worded (past_shape (codes "assign") Assigned) FromInitial (λ tree v. zero-lt-suc _) from_initial_worded

  from_event_worded : Worded FromEvent
  from_event_worded = either_worded (past_shape (codes "event") Names) FromAssign (λ tree v. zero-lt-suc _) from_assign_worded

  from_time_worded : Worded FromTime
  from_time_worded = either_worded (past_shape (codes "time") Declared) FromEvent (λ tree v. zero-lt-suc _) from_event_worded

  from_integer_worded : Worded FromInteger
  from_integer_worded = either_worded (past_shape (codes "integer") Declared) FromTime (λ tree v. zero-lt-suc _) from_time_worded

  directed_worded : Worded DirectedShape
  directed_worded (both (input wire kind) more) v = zero-lt-suc _
  directed_worded (both (output net kind) more) v = zero-lt-suc _
  directed_worded (both (output_integer long) more) v = zero-lt-suc _

  from_directed_worded : Worded FromDirected
  from_directed_worded = either_worded DirectedShape FromInteger directed_worded from_integer_worded

  from_variables_worded : Worded FromVariables
  from_variables_worded = either_worded VariablesShape FromDirected variables_worded from_directed_worded

  -- a reserved word is no name
  not_named : (text : Text) → is_name text ≡ false → Tested (is_front text) false InstancesShape
  not_named text none = instances_not (is_front text) (name_isnt text none)

  -- which words begin none of the rest
  from_always_not : (test : Option Text → Bool) → test (Some (codes "always")) ≡ false → Tested test false InstancesShape →
      Tested test false FromAlways
  from_always_not test a i = either_tested test false (past_shape (codes "always") Body) InstancesShape (λ tree v rest. a) i

  from_initial_not : (test : Option Text → Bool) → test (Some (codes "initial")) ≡ false → Tested test false FromAlways →
      Tested test false FromInitial
  from_initial_not test a r = either_tested test false (past_shape (codes "initial") Body) FromAlways (λ tree v rest. a) r

  from_assign_not : (test : Option Text → Bool) → test (Some (codes "assign")) ≡ false → Tested test false FromInitial →
      Tested test false FromAssign
  from_assign_not test a r = either_tested test false (past_shape (codes "assign") Assigned) FromInitial (λ tree v rest. a) r

  from_event_not : (test : Option Text → Bool) → test (Some (codes "event")) ≡ false → Tested test false FromAssign →
      Tested test false FromEvent
  from_event_not test a r = either_tested test false (past_shape (codes "event") Names) FromAssign (λ tree v rest. a) r

  from_time_not : (test : Option Text → Bool) → test (Some (codes "time")) ≡ false → Tested test false FromEvent →
      Tested test false FromTime
  from_time_not test a r = either_tested test false (past_shape (codes "time") Declared) FromEvent (λ tree v rest. a) r

  from_integer_not : (test : Option Text → Bool) → test (Some (codes "integer")) ≡ false → Tested test false FromTime →
      Tested test false FromInteger
  from_integer_not test a r = either_tested test false (past_shape (codes "integer") Declared) FromTime (λ tree v rest. a) r

  -- the words that a direction begins with
  directed_begins : (test : Option Text → Bool) (answer : Bool) → test (Some (codes "input")) ≡ answer →
      test (Some (codes "output")) ≡ answer → Tested test answer DirectedShape
  directed_begins test answer a b (both (input wire kind) more) v rest = a
  directed_begins test answer a b (both (output net kind) more) v rest = b
  directed_begins test answer a b (both (output_integer long) more) v rest = b

  from_directed_not : (test : Option Text → Bool) → test (Some (codes "input")) ≡ false → test (Some (codes "output")) ≡ false →
      Tested test false FromInteger → Tested test false FromDirected
  from_directed_not test a b r = either_tested test false DirectedShape FromInteger (directed_begins test false a b) r

  not_directed : Tested is_direction false InstancesShape
  not_directed = instances_not is_direction no_direction

  not_net : Tested (is_meant net_of) false InstancesShape
  not_net = instances_not (is_meant net_of) (name_means_not net_word (net.Wire ∷ net.Reg ∷ []) no_net_name)

  not_local : Tested (is_meant local_of) false InstancesShape
  not_local = instances_not (is_meant local_of) (name_means_not parameter_word (false ∷ true ∷ []) no_local_name)

  item_parts_phrase : Phrase (item_parts levels) ends_statement ItemParts
  item_parts_phrase =
      either_phrase (is_meant local_of) (loose parameters_phrase)
      (either_phrase (is_meant net_of) (loose variables_phrase)
      (either_phrase is_direction (loose directed_phrase)
      (either_phrase (is_front (codes "integer")) (loose (past_phrase (codes "integer") declared_list_phrase declared_example))
      (either_phrase (is_front (codes "time")) (loose (past_phrase (codes "time") declared_list_phrase declared_example))
      (either_phrase (is_front (codes "event")) (loose (past_phrase (codes "event") names_phrase names_example))
      (either_phrase (is_front (codes "assign")) (loose (past_phrase (codes "assign") assigned_phrase assigned_example))
      (either_phrase (is_front (codes "initial")) (past_phrase (codes "initial") body_phrase a_body)
      (either_phrase (is_front (codes "always")) (past_phrase (codes "always") body_phrase a_body) (loose instances_phrase)
      (λ tree v. zero-lt-suc _) instances_worded (λ tree v rest. refl) (not_named (codes "always") no_names.0))
      (λ tree v. zero-lt-suc _) from_always_worded (λ tree v rest. refl)
      (from_always_not (is_front (codes "initial")) refl (not_named (codes "initial") no_names.1)))
      (λ tree v. zero-lt-suc _) from_initial_worded (λ tree v rest. refl)
      (from_initial_not (is_front (codes "assign")) refl
      (from_always_not (is_front (codes "assign")) refl (not_named (codes "assign") no_names.2))))
      (λ tree v. zero-lt-suc _) from_assign_worded (λ tree v rest. refl)
      (from_assign_not (is_front (codes "event")) refl (from_initial_not (is_front (codes "event")) refl
      (from_always_not (is_front (codes "event")) refl (not_named (codes "event") no_names.3)))))
      (λ tree v. zero-lt-suc _) from_event_worded (λ tree v rest. refl)
      (from_event_not (is_front (codes "time")) refl
      (from_assign_not (is_front (codes "time")) refl (from_initial_not (is_front (codes "time")) refl
      (from_always_not (is_front (codes "time")) refl (not_named (codes "time") no_names.5))))))
      (λ tree v. zero-lt-suc _) from_time_worded (λ tree v rest. refl)
      (from_time_not (is_front (codes "integer")) refl (from_event_not (is_front (codes "integer")) refl
      (from_assign_not (is_front (codes "integer")) refl (from_initial_not (is_front (codes "integer")) refl
      (from_always_not (is_front (codes "integer")) refl (not_named (codes "integer") no_names.4)))))))
      directed_worded from_integer_worded (directed_begins is_direction true refl refl)
      (from_integer_not is_direction refl (from_time_not is_direction refl
      (from_event_not is_direction refl (from_assign_not is_direction refl (from_initial_not is_direction refl
      (from_always_not is_direction refl not_directed)))))))
      variables_worded from_directed_worded net_begins
      (from_directed_not (is_meant net_of) refl refl (from_integer_not (is_meant net_of) refl (from_time_not (is_meant net_of) refl
      (from_event_not (is_meant net_of) refl (from_assign_not (is_meant net_of) refl (from_initial_not (is_meant net_of) refl
      (from_always_not (is_meant net_of) refl not_net))))))))
      parameters_worded from_variables_worded local_begins
      (either_tested (is_meant local_of) false VariablesShape FromDirected (variables_not (is_meant local_of) net_not_local)
      (from_directed_not (is_meant local_of) refl refl (from_integer_not (is_meant local_of) refl (from_time_not (is_meant local_of) refl
      (from_event_not (is_meant local_of) refl
      (from_assign_not (is_meant local_of) refl (from_initial_not (is_meant local_of) refl
      (from_always_not (is_meant local_of) refl not_local))))))))
    where
      net_begins : Tested (is_meant net_of) true VariablesShape
      net_begins (both net.Wire more) v rest = refl
      net_begins (both net.Reg more) v rest = refl

      local_begins : Tested (is_meant local_of) true ParametersShape
      local_begins (both true more) v rest = refl
      local_begins (both false more) v rest = refl

      net_not_local : (kind : NetKind) → is_meant local_of (Some (net_word kind)) ≡ false
      net_not_local net.Wire = refl
      net_not_local net.Reg = refl

  item_makes : Makes item_of ItemParts item_shape []
  item_makes = record { spelled = spelled; valid = valid; closes = closes; stops = λ tree next e. refl }
    where
      spelled : (tree : Item) → spell_item (item_of tree) ≡ ItemParts.spell tree
      spelled (one_way (both local (both kind (both (both one more) end)))) = refl
      spelled (other_way (one_way (both kind (both tree (both (both one more) end))))) = refl
      spelled (other_way (other_way (one_way (both (input wire tree) (both (both one more) end))))) = refl
      spelled (other_way (other_way (one_way (both (output net tree) (both (both one more) end))))) = refl
      spelled (other_way (other_way (one_way (both (output_integer long) (both (both one more) end))))) = refl
      spelled (other_way (other_way (other_way (one_way (both (both one more) end))))) = refl
      spelled (other_way (other_way (other_way (other_way (one_way (both (both one more) end)))))) = refl
      spelled (other_way (other_way (other_way (other_way (other_way (one_way (both (both one more) end))))))) = refl
      spelled (other_way (other_way (other_way (other_way (other_way (other_way (one_way (both (both one more) end)))))))) = refl
      spelled (other_way (other_way (other_way (other_way (other_way (other_way (other_way (one_way tree)))))))) = refl
      spelled (other_way (other_way (other_way (other_way (other_way (other_way (other_way (other_way (one_way tree))))))))) = refl
      spelled (other_way (other_way (other_way (other_way (other_way (other_way (other_way (other_way (other_way (both letters (both None (both (both one more) end)))))))))))) = refl
      spelled (other_way (other_way (other_way (other_way (other_way (other_way (other_way (other_way (other_way (both letters (both (Some tree) (both (both one more) end)))))))))))) = refl

      overridden : (letters : Text) (tree : Option ConnectionsTree) (one : InstanceTree) (more : List InstanceTree) →
          ((is_name letters && fits_overrides levels tree) && are_some (fits_instance levels) (one ∷ more))
          ≡ (is_name letters &&
          (Overrides.valid tree && ((fits_instance levels one && allows_all (λ list. fits_instance levels) [] more) && true)))
      overridden letters None one more =
          and_assoc (is_name letters) true (are_some (fits_instance levels) (one ∷ more))
          ∙ ap (λ b. is_name letters && b) (some_valid (fits_instance levels) one more)
      overridden letters (Some tree) one more =
          and_assoc (is_name letters) (fits_connections levels tree) (are_some (fits_instance levels) (one ∷ more))
          ∙ ap (λ b. is_name letters && (fits_connections levels tree && b)) (some_valid (fits_instance levels) one more)

      valid : (tree : Item) → fits_item levels (item_of tree) ≡ ItemParts.valid tree
      valid (one_way (both local (both kind (both (both one more) end)))) =
          ap (λ b. fits_parameter_type levels kind && b) (some_valid (fits_setting levels) one more)
      valid (other_way (one_way (both kind (both tree (both (both one more) end))))) =
          ap (λ b. fits_type levels tree && b) (some_valid (fits_declared levels) one more)
      valid (other_way (other_way (one_way (both tree (both (both one more) end))))) =
          ap (λ b. fits_direction levels (Some tree) && b) (some_valid (fits_declared levels) one more)
      valid (other_way (other_way (other_way (one_way (both (both one more) end))))) = some_valid (fits_declared levels) one more
      valid (other_way (other_way (other_way (other_way (one_way (both (both one more) end)))))) = some_valid (fits_declared levels) one more
      valid (other_way (other_way (other_way (other_way (other_way (one_way (both (both one more) end))))))) = some_valid is_name one more
      valid (other_way (other_way (other_way (other_way (other_way (other_way (one_way (both (both one more) end)))))))) =
          some_valid (fits_net_assignment levels) one more
      valid (other_way (other_way (other_way (other_way (other_way (other_way (other_way (one_way tree)))))))) = refl
      valid (other_way (other_way (other_way (other_way (other_way (other_way (other_way (other_way (one_way tree))))))))) = refl
      valid (other_way (other_way (other_way (other_way (other_way (other_way (other_way (other_way (other_way (both letters (both tree (both (both one more) end)))))))))))) =
          overridden letters tree one more

      closes : (tree : Item) (next : Option Text) → closes_item (item_of tree) next ≡ true → ItemParts.closes tree next ≡ true
      closes (one_way (both local (both kind (both list end)))) next e = refl
      closes (other_way (one_way (both kind (both tree (both list end))))) next e = refl
      closes (other_way (other_way (one_way (both tree (both list end))))) next e = refl
      closes (other_way (other_way (other_way (one_way (both list end))))) next e = refl
      closes (other_way (other_way (other_way (other_way (one_way (both list end)))))) next e = refl
      closes (other_way (other_way (other_way (other_way (other_way (one_way (both list end))))))) next e = refl
      closes (other_way (other_way (other_way (other_way (other_way (other_way (one_way (both list end)))))))) next e = refl
      closes (other_way (other_way (other_way (other_way (other_way (other_way (other_way (one_way tree)))))))) next e = e
      closes (other_way (other_way (other_way (other_way (other_way (other_way (other_way (other_way (one_way tree))))))))) next e = e
      closes (other_way (other_way (other_way (other_way (other_way (other_way (other_way (other_way (other_way (both letters (both tree (both list end)))))))))))) next e = refl

  pub item_phrase : Phrase (item levels) ends_statement item_shape
  item_phrase = made_phrase item_of item_shape back item_makes item_closed item_parts_phrase
    where
      no_list : (a b : Bool) → (a && (false && b)) ≡ true → ⊥
      no_list a b e = let none : false ≡ true = and_right a false e in cc

      back : (tree : ItemTree) → fits_item levels tree ≡ true → From item_of tree
      back (parameters local kind []) v = absurd (no_list (fits_parameter_type levels kind) true v)
      back (parameters local kind (one ∷ more)) v = record { parts = one_way (both local (both kind (both (both one more) tt))); is = refl }
      back (declaration (variables kind tree) []) v = absurd (no_list (fits_type levels tree) true v)
      back (declaration (variables kind tree) (one ∷ more)) v = record { parts = other_way (one_way (both kind (both tree (both (both one more) tt)))); is = refl }
      back (declaration (directed tree) []) v = absurd (no_list (fits_direction levels (Some tree)) true v)
      back (declaration (directed tree) (one ∷ more)) v = record { parts = other_way (other_way (one_way (both tree (both (both one more) tt)))); is = refl }
      back (declaration (integers long) []) v = absurd (no_list true true v)
      back (declaration (integers false) (one ∷ more)) v = record { parts = other_way (other_way (other_way (one_way (both (both one more) tt)))); is = refl }
      back (declaration (integers true) (one ∷ more)) v = record { parts = other_way (other_way (other_way (other_way (one_way (both (both one more) tt))))); is = refl }
      back (events []) v = absurd (no_list true true v)
      back (events (one ∷ more)) v = record { parts = other_way (other_way (other_way (other_way (other_way (one_way (both (both one more) tt)))))); is = refl }
      back (assignments []) v = absurd (no_list true true v)
      back (assignments (one ∷ more)) v = record { parts = other_way (other_way (other_way (other_way (other_way (other_way (one_way (both (both one more) tt))))))); is = refl }
      back (initial body) v = record { parts = other_way (other_way (other_way (other_way (other_way (other_way (other_way (one_way body))))))); is = refl }
      back (always_item body) v = record { parts = other_way (other_way (other_way (other_way (other_way (other_way (other_way (other_way (one_way body)))))))); is = refl }
      back (instances letters tree []) v = absurd (no_list (is_name letters && fits_overrides levels tree) true v)
      back (instances letters tree (one ∷ more)) v = record {
        parts = other_way (other_way (other_way (other_way (other_way (other_way (other_way (other_way (other_way (both letters (both tree (both (both one more) tt)))))))))));
        is = refl;
      }
