-- Heads of modules, modules and whole texts.
use Rattle.std.proofs.Common.{◌≡◌, ℕ, suc, ◌<◌, Bool, true, false, ◌&&◌, not, List, [], ◌∷◌, ◌++◌, Option, None, Some, is_some, refl, sym, ap, ◌∙◌, codes, zero-lt-suc}
use Rattle.std.specs.List.{list_all}
use Rattle.basis.proofs.Bools.{and_left, and_right, and_both, and_assoc}
use Rattle.vwords.specs.Words.{Text, is_name, reserved_words}
use Rattle.vast.specs.Expressions.{ExpressionTree}
use Rattle.vast.specs.Statements.{with_commas, in_parentheses}
use Rattle.vast.specs.Modules.{ParameterType, typed, SettingTree, DeclaredTree, DirectionTree, input, output, output_integer, PortTree, HeadParameter, ItemTree, parameters, declaration, variables, integers, directed, events, assignments, initial, always as always_item, instances, ModuleTree, SourceTree, spell_port, spell_head_parameter, spell_module, fits_direction, fits_declared, fits_port, is_directed, is_named_port, fits_behind, fits_ports, fits_head_parameter, is_kind, fits_head_parameters, fits_item, fits_module}
use Rattle.vast.specs.declared.module.NetKind.TheVariants as net
use Rattle.vexpr_parse.specs.declared.stop.Stop.TheVariants.{NoTree}
use Rattle.vexpr_parse.specs.Readers.{Reader, got, stop, is_front, past}
use Rattle.vexpr_parse.specs.Words.{binary_of, ends}
use Rattle.vexpr_parse.specs.Lawful.{Ends}
use Rattle.vexpr_parse.proofs.ReaderRules.{same_text, stop_got}
use Rattle.vgrammar.specs.Parts.{Both, both, Either, one_way, other_way, map_tree, pair, many, maybe}
use Rattle.vgrammar.specs.Statements.{word_only, List_of, ends_statement}
use Rattle.vgrammar.specs.Modules.{parameter_type, setting, item, declarator, first_parameter_of, head_parameter_of, first_parameter, head_parameter, head_parameters, direction, is_direction, port_of, port, named_port_of, named_port, PortsBehind, ports_behind, PortList, port_list, ports_of, ports, head_list_of, Module, module_of, module_tree, is_some_word, source}
use Rattle.vgrammar.proofs.Phrases.{Shape, Phrase, Example, Worded, Opens, Makes, From, always, made_phrase, past_shape, past_phrase, past_example, nothing_phrase, paired_shape, before_phrase, paired_example, free_phrase, next_phrase}
use Rattle.vgrammar.proofs.PhraseChoices.{ends_maybe, maybe_shape, maybe_phrase, either_shape, either_phrase, either_tested, either_worded, Tested, ends_many, allows_all, many_shape, many_phrase}
use Rattle.vgrammar.proofs.LevelFacts.{and_true}
use Rattle.vgrammar.proofs.ValuePhrases.{nothing_example, only_shape, only_phrase, comma, list_phrase, allows_each}
use Rattle.vgrammar.proofs.WordPhrases.{refused_first}
use Rattle.vgrammar.proofs.PartPhrases.{text_shape, a_name, named_phrase}
use Rattle.vgrammar.proofs.HeadPhrases.{name_isnt, ends_parameter_type, parameter_type_shape, parameter_type_phrase, name_ends_type, setting_shape, setting_phrase, a_setting, declared_shape, declared_phrase, declared_worded, declared_opens, a_declared}
use Rattle.vgrammar.proofs.DirectionPhrases.{ends_direction, name_ends_direction, no_direction, direction_shape, direction_phrase}
use Rattle.vgrammar.proofs.ItemPhrases.{item_shape, item_phrase}

no_list : (b : Bool) → (false && b) ≡ true → ⊥
no_list b e = let none : false ≡ true = e in cc

abbrev parameter_next : Option Text → Bool
parameter_next = is_front (codes "parameter")

abbrev close : Option Text → Bool
close = is_front (codes ")")

no_close_name : is_name (codes ")") ≡ false
unfolding reserved_words
no_close_name = refl

abbrev not_endmodule : Option Text → Bool
not_endmodule next = not (is_front (codes "endmodule") next)

abbrev hash : Option Text → Bool
hash = is_front (codes "#")

abbrev opening : Option Text → Bool
opening = is_front (codes "(")

-- what follows a port that has a direction
abbrev ends_port : Ends
ends_port = ends_maybe (is_front (codes "=")) (ends 0)

module _ (below : ℕ) where
  abbrev levels : ℕ
  levels = suc below

  -- Parameters of a head

  abbrev pub head_shape : Shape HeadParameter
  head_shape = record {
    spell = spell_head_parameter;
    valid = fits_head_parameter levels;
    closes = λ tree. ends 0;
    stops = λ tree next. true;
  }

  abbrev first_shape : Shape HeadParameter
  first_shape = record {
    spell = spell_head_parameter;
    valid = λ tree. is_kind tree.kind && fits_head_parameter levels tree;
    closes = λ tree. ends 0;
    stops = λ tree next. true;
  }

  abbrev FirstParts : Shape (Both ParameterType SettingTree)
  FirstParts = past_shape (codes "parameter") (paired_shape (parameter_type_shape below) (setting_shape below))

  abbrev KindPart : Shape (Option ParameterType)
  KindPart = maybe_shape parameter_next ends_parameter_type (past_shape (codes "parameter") (parameter_type_shape below))

  abbrev HeadParts : Shape (Both (Option ParameterType) SettingTree)
  HeadParts = paired_shape KindPart (setting_shape below)

  a_type : Example (parameter_type_shape below)
  a_type = record { tree = typed (record { signed = false; range = None }); valid = refl }

  setting_worded : Worded (setting_shape below)
  setting_worded tree v = zero-lt-suc _

  typed_setting : Phrase (pair (parameter_type levels) (setting levels)) (ends 0)
      (paired_shape (parameter_type_shape below) (setting_shape below))
  typed_setting =
      next_phrase (parameter_type_phrase below) (setting_phrase below) (a_setting below) setting_worded
      (λ tree v rest c. name_ends_type tree.name (and_left (is_name tree.name) _ v))

  first_parameter_phrase : Phrase (first_parameter levels) (ends 0) first_shape
  first_parameter_phrase =
      made_phrase first_parameter_of first_shape back makes (λ tree next e. e)
      (past_phrase (codes "parameter") typed_setting (paired_example a_type (a_setting below)))
    where
      by_kind : (tree : HeadParameter) (o : Option ParameterType) → tree.kind ≡ o → is_kind o ≡ true →
          From first_parameter_of tree
      by_kind tree None e v = let none : false ≡ true = v in absurd cc
      by_kind tree (Some kind) e v = record {
        parts = both kind tree.setting;
        is = λ i. record { kind = sym e i; setting = tree.setting };
      }

      back : (tree : HeadParameter) → (is_kind tree.kind && fits_head_parameter levels tree) ≡ true → From first_parameter_of tree
      back tree v = by_kind tree tree.kind refl (and_left (is_kind tree.kind) _ v)

      makes : Makes first_parameter_of FirstParts first_shape []
      makes = record { spelled = spelled; valid = valid; closes = closes; stops = λ tree next e. refl }
        where
          spelled : (tree : Both ParameterType SettingTree) → spell_head_parameter (first_parameter_of tree)
              ≡ FirstParts.spell tree
          spelled (both kind set) = refl

          valid : (tree : Both ParameterType SettingTree) → first_shape.valid (first_parameter_of tree) ≡ FirstParts.valid tree
          valid (both kind set) = refl

          closes : (tree : Both ParameterType SettingTree) (next : Option Text) → ends 0 next ≡ true →
              FirstParts.closes tree next ≡ true
          closes (both kind set) next e = e

  pub head_parameter_phrase : Phrase (head_parameter levels) (ends 0) head_shape
  unfolding reserved_words
  head_parameter_phrase =
      made_phrase head_parameter_of head_shape (λ tree v. record { parts = both tree.kind tree.setting; is = refl }) makes
      (λ tree next e. e)
      (next_phrase (maybe_phrase parameter_next (past_phrase (codes "parameter") (parameter_type_phrase below) a_type)
      (λ tree v. zero-lt-suc _)
      (λ tree v rest. refl)) (setting_phrase below) (a_setting below) setting_worded opens)
    where
      opens : Opens (ends_maybe parameter_next ends_parameter_type) (setting_shape below)
      opens tree v rest c =
          and_both (ends_parameter_type (Some tree.name)) (not (parameter_next (Some tree.name)))
          (name_ends_type tree.name (and_left (is_name tree.name) _ v))
          (ap not (name_isnt (codes "parameter") refl tree.name (and_left (is_name tree.name) _ v)))

      makes : Makes head_parameter_of HeadParts head_shape []
      makes = record { spelled = spelled; valid = valid; closes = closes; stops = λ tree next e. refl }
        where
          spelled : (tree : Both (Option ParameterType) SettingTree) → spell_head_parameter (head_parameter_of tree)
              ≡ HeadParts.spell tree
          spelled (both None set) = refl
          spelled (both (Some kind) set) = refl

          valid : (tree : Both (Option ParameterType) SettingTree) → fits_head_parameter levels (head_parameter_of tree)
              ≡ HeadParts.valid tree
          valid (both None set) = refl
          valid (both (Some kind) set) = refl

          closes : (tree : Both (Option ParameterType) SettingTree) (next : Option Text) → ends 0 next ≡ true →
              HeadParts.closes tree next ≡ true
          closes (both kind set) next e = e

  an_unkinded : Example head_shape
  an_unkinded = record { tree = record { kind = None; setting = (a_setting below).tree }; valid = (a_setting below).valid }

  a_first : Example first_shape
  a_first = record {
    tree = record {
      kind = Some a_type.tree;
      setting = (a_setting below).tree;
    };
    valid = and_both _ _ a_type.valid (a_setting below).valid;
  }

  abbrev HeadList : Shape (List_of HeadParameter)
  HeadList = paired_shape first_shape (many_shape comma (ends 0) (past_shape (codes ",") head_shape)
      (λ list. fits_head_parameter levels))

  abbrev HeadListParts : Shape (Both (List_of HeadParameter) (Unit {0}))
  HeadListParts = past_shape (codes "(") (paired_shape HeadList (only_shape (codes ")")))

  abbrev heads_shape : Shape (List HeadParameter)
  heads_shape = record {
    spell = λ list. in_parentheses (with_commas spell_head_parameter list);
    valid = fits_head_parameters levels;
    closes = λ list. always;
    stops = λ list next. true;
  }

  heads_phrase : Phrase (map_tree head_list_of (head_parameters levels)) always heads_shape
  unfolding binary_of
  heads_phrase =
      made_phrase head_list_of heads_shape back makes (λ list next e. refl)
      (past_phrase (codes "(")
      (before_phrase (codes ")") (list_phrase first_parameter_phrase head_parameter_phrase an_unkinded refl)
      (nothing_phrase always)
      nothing_example refl)
      (record { tree = both (both a_first.tree []) tt; valid = and_both _ true (and_both _ true a_first.valid refl) refl }))
    where
      back : (list : List HeadParameter) → fits_head_parameters levels list ≡ true → From head_list_of list
      back [] v = let none : false ≡ true = v in absurd cc
      back (tree ∷ more) v = record { parts = both (both tree more) tt; is = refl }

      makes : Makes head_list_of HeadListParts heads_shape []
      makes = record { spelled = spelled; valid = valid; closes = λ tree next e. closes tree next; stops = λ tree next e. refl }
        where
          spelled : (tree : Both (List_of HeadParameter) (Unit {0})) → heads_shape.spell (head_list_of tree)
              ≡ HeadListParts.spell tree
          spelled (both (both tree more) end) = refl

          valid : (tree : Both (List_of HeadParameter) (Unit {0})) → fits_head_parameters levels (head_list_of tree)
              ≡ HeadListParts.valid tree
          valid (both (both tree more) end) =
              sym (and_assoc (is_kind tree.kind) (fits_head_parameter levels tree) (list_all (fits_head_parameter levels) more))
              ∙ ap (λ b. (is_kind tree.kind && fits_head_parameter levels tree) && b)
              (sym (allows_each (fits_head_parameter levels) [] more))
              ∙ sym (and_true _)

          closes : (tree : Both (List_of HeadParameter) (Unit {0})) (next : Option Text) → HeadListParts.closes tree next ≡ true
          closes (both list end) next = refl

  heads_example : Example heads_shape
  unfolding a_first
  heads_example = record { tree = a_first.tree ∷ []; valid = and_both _ true a_first.valid refl }

  -- Ports

  abbrev PortPart : Shape (Option DirectionTree)
  PortPart = maybe_shape is_direction ends_direction (direction_shape below)

  abbrev pub port_shape : Shape PortTree
  port_shape = record { spell = spell_port; valid = fits_port levels; closes = λ tree. ends_port; stops = λ tree next. true }

  abbrev FirstPort : Shape (Both DirectionTree DeclaredTree)
  FirstPort = paired_shape (direction_shape below) (declared_shape below)

  first_port_phrase : Phrase (pair (direction levels) (declarator levels)) ends_port FirstPort
  first_port_phrase =
      next_phrase (direction_phrase below) (declared_phrase below) (a_declared below) (declared_worded below)
      (declared_opens below ends_direction name_ends_direction)

  pub port_phrase : Phrase (port levels) ends_port port_shape
  port_phrase =
      made_phrase port_of port_shape
      (λ tree v. record { parts = both tree.direction (record { name = tree.name; value = tree.value }); is = refl }) makes
      (λ tree next e. e)
      (next_phrase (maybe_phrase is_direction (direction_phrase below) some begins) (declared_phrase below) (a_declared below)
      (declared_worded below) (declared_opens below (ends_maybe is_direction ends_direction) ends_here))
    where
      ends_here : (letters : Text) → is_name letters ≡ true → ends_maybe is_direction ends_direction (Some letters) ≡ true
      ends_here letters is =
          and_both (ends_direction (Some letters)) (not (is_direction (Some letters))) (name_ends_direction letters is)
          (ap not (no_direction letters is))

      some : Worded (direction_shape below)
      some (input wire tree) v = zero-lt-suc _
      some (output kind tree) v = zero-lt-suc _
      some (output_integer long) v = zero-lt-suc _

      begins : Tested is_direction true (direction_shape below)
      begins (input wire tree) v rest = refl
      begins (output kind tree) v rest = refl
      begins (output_integer long) v rest = refl

      makes : Makes port_of (paired_shape PortPart (declared_shape below)) port_shape []
      makes = record { spelled = spelled; valid = valid; closes = closes; stops = λ tree next e. refl }
        where
          spelled : (tree : Both (Option DirectionTree) DeclaredTree) →
              spell_port (port_of tree) ≡ (paired_shape PortPart (declared_shape below)).spell tree
          spelled (both None one) = refl
          spelled (both (Some way) one) = refl

          valid : (tree : Both (Option DirectionTree) DeclaredTree) → fits_port levels (port_of tree)
              ≡ (paired_shape PortPart (declared_shape below)).valid tree
          valid (both None one) = refl
          valid (both (Some way) one) = refl

          closes : (tree : Both (Option DirectionTree) DeclaredTree) (next : Option Text) → ends_port next ≡ true →
              (paired_shape PortPart (declared_shape below)).closes tree next ≡ true
          closes (both way one) next e = e

  a_port : Example port_shape
  a_port = record {
    tree = record { direction = None; name = a_name.tree; value = None };
    valid = and_both _ true a_name.valid refl;
  }

  no_value : (tree : PortTree) → is_named_port tree ≡ true → not (is_some tree.value) ≡ true
  no_value tree v = and_right (is_name tree.name) _ (and_right (not (is_directed tree.direction)) _ v)

  abbrev pub named_port_shape : Shape PortTree
  named_port_shape = record { spell = spell_port; valid = is_named_port; closes = λ tree. always; stops = λ tree next. true }

  pub named_port_phrase : Phrase named_port always named_port_shape
  named_port_phrase = made_phrase named_port_of named_port_shape back makes (λ tree next e. refl) named_phrase
    where
      by_parts : (tree : PortTree) (o : Option DirectionTree) (w : Option ExpressionTree) → tree.direction ≡ o → tree.value ≡ w →
          not (is_directed o) ≡ true → not (is_some w) ≡ true → From named_port_of tree
      by_parts tree None None e f v w = record {
        parts = tree.name;
        is = λ i. record { direction = sym e i; name = tree.name; value = sym f i };
      }
      by_parts tree None (Some one) e f v w = let none : false ≡ true = w in absurd cc
      by_parts tree (Some way) value e f v w = let none : false ≡ true = v in absurd cc

      back : (tree : PortTree) → is_named_port tree ≡ true → From named_port_of tree
      back tree v =
          by_parts tree tree.direction tree.value refl refl (and_left (not (is_directed tree.direction)) _ v) (no_value tree v)

      makes : Makes named_port_of (text_shape is_name) named_port_shape []
      makes = record {
        spelled = λ letters. refl;
        valid = λ letters. and_true (is_name letters);
        closes = λ letters next e. refl;
        stops = λ letters next e. refl;
      }

  a_named_port : Example named_port_shape
  a_named_port = record { tree = named_port_of a_name.tree; valid = and_both _ true a_name.valid refl }

  abbrev BehindShape : {A : Type 0} → Ends → Shape A → Shape PortTree → Shape (PortsBehind A)
  BehindShape ends s t =
      paired_shape (paired_shape s (many_shape comma ends (past_shape (codes ",") t) (λ list. t.valid))) (only_shape (codes ")"))

  ports_behind_phrase : {A : Type 0} {first : Reader A} {read : Reader PortTree} {ends : Ends} {s : Shape A} {t : Shape PortTree} →
      Phrase first ends s → Phrase read ends t → Example t → ends (Some (codes ",")) ≡ true → ends (Some (codes ")")) ≡ true →
      Phrase (ports_behind first read) always (BehindShape ends s t)
  ports_behind_phrase {ends = ends} p q e opens ending =
      before_phrase (codes ")") (list_phrase p q e opens) (nothing_phrase always) nothing_example
      (and_both (ends (Some (codes ")"))) true ending refl)

  abbrev DirectedList : Shape (PortsBehind (Both DirectionTree DeclaredTree))
  DirectedList = BehindShape ends_port FirstPort port_shape

  abbrev NamedList : Shape (PortsBehind Text)
  NamedList = BehindShape always (text_shape is_name) named_port_shape

  directed_worded : Worded DirectedList
  directed_worded (both (both (both (input wire kind) one) more) end) v = zero-lt-suc _
  directed_worded (both (both (both (output net kind) one) more) end) v = zero-lt-suc _
  directed_worded (both (both (both (output_integer long) one) more) end) v = zero-lt-suc _

  named_worded : Worded NamedList
  named_worded (both (both letters more) end) v = zero-lt-suc _

  -- what a list with directions begins with, and one of names
  directed_begins : (test : Option Text → Bool) (answer : Bool) → test (Some (codes "input")) ≡ answer →
      test (Some (codes "output")) ≡ answer → Tested test answer DirectedList
  directed_begins test answer a b (both (both (both (input wire kind) one) more) end) v rest = a
  directed_begins test answer a b (both (both (both (output net kind) one) more) end) v rest = b
  directed_begins test answer a b (both (both (both (output_integer long) one) more) end) v rest = b

  names_begin : (test : Option Text → Bool) → ((letters : Text) → is_name letters ≡ true → test (Some letters) ≡ false) →
      Tested test false NamedList
  names_begin test none (both (both letters more) end) v rest = none letters (and_left (is_name letters) _ (and_left _ true v))

  abbrev ListShape : Shape PortList
  ListShape = either_shape DirectedList NamedList

  list_worded : Worded ListShape
  list_worded = either_worded DirectedList NamedList directed_worded named_worded

  port_list_phrase : Phrase (port_list levels) always ListShape
  unfolding binary_of
  port_list_phrase =
      either_phrase is_direction (ports_behind_phrase first_port_phrase port_phrase a_port refl refl)
      (ports_behind_phrase named_phrase named_port_phrase a_named_port refl refl) directed_worded named_worded
      (directed_begins is_direction true refl refl) (names_begin is_direction no_direction)

  abbrev PortsParts : Shape (Either (Unit {0}) PortList)
  PortsParts = past_shape (codes "(") (either_shape (only_shape (codes ")")) ListShape)

  abbrev ports_shape : Shape (List PortTree)
  ports_shape = record {
    spell = λ list. in_parentheses (with_commas spell_port list);
    valid = fits_ports levels;
    closes = λ list. always;
    stops = λ list next. true;
  }

  ports_phrase : Phrase (ports levels) always ports_shape
  ports_phrase =
      made_phrase ports_of ports_shape back makes (λ list next e. refl)
      (past_phrase (codes "(")
      (either_phrase close (only_phrase (codes ")")) port_list_phrase (λ tree v. zero-lt-suc _) list_worded (λ tree v rest. refl)
      (either_tested close false DirectedList NamedList (directed_begins close false refl refl)
      (names_begin close (name_isnt (codes ")") no_close_name))))
      (record { tree = one_way tt; valid = refl }))
    where
      by_value : (tree : PortTree) (more : List PortTree) (w : Option ExpressionTree) → tree.direction ≡ None → tree.value ≡ w →
          not (is_some w) ≡ true → From ports_of (tree ∷ more)
      by_value tree more None e f v = record {
        parts = other_way (other_way (both (both tree.name more) tt));
        is = λ i. record { direction = sym e i; name = tree.name; value = sym f i } ∷ more;
      }
      by_value tree more (Some one) e f v = let none : false ≡ true = v in absurd cc

      by_direction : (tree : PortTree) (more : List PortTree) (o : Option DirectionTree) → tree.direction ≡ o →
          fits_behind levels o (tree ∷ more) ≡ true → From ports_of (tree ∷ more)
      by_direction tree more None e v =
          by_value tree more tree.value e refl (no_value tree (and_left (is_named_port tree) (list_all is_named_port more) v))
      by_direction tree more (Some way) e v = record {
        parts = other_way (one_way (both (both (both way (record { name = tree.name; value = tree.value })) more) tt));
        is = λ i. record { direction = sym e i; name = tree.name; value = tree.value } ∷ more;
      }

      back : (list : List PortTree) → fits_ports levels list ≡ true → From ports_of list
      back [] v = record { parts = one_way tt; is = refl }
      back (tree ∷ more) v = by_direction tree more tree.direction refl v

      makes : Makes ports_of PortsParts ports_shape []
      makes = record { spelled = spelled; valid = valid; closes = λ tree next e. closes tree next; stops = λ tree next e. refl }
        where
          spelled : (tree : Either (Unit {0}) PortList) → ports_shape.spell (ports_of tree) ≡ PortsParts.spell tree
          spelled (one_way end) = refl
          spelled (other_way (one_way (both (both (both way one) more) end))) = refl
          spelled (other_way (other_way (both (both letters more) end))) = refl

          valid : (tree : Either (Unit {0}) PortList) → fits_ports levels (ports_of tree) ≡ PortsParts.valid tree
          valid (one_way end) = refl
          valid (other_way (one_way (both (both (both way one) more) end))) =
              ap (λ b. (fits_direction levels (Some way) && fits_declared levels one) && b) (sym (allows_each (fits_port levels) [] more))
              ∙ sym (and_true _)
          valid (other_way (other_way (both (both letters more) end))) =
              (λ i. and_true (is_name letters) i && sym (allows_each is_named_port [] more) i) ∙ sym (and_true _)

          closes : (tree : Either (Unit {0}) PortList) (next : Option Text) → PortsParts.closes tree next ≡ true
          closes (one_way end) next = refl
          closes (other_way (one_way (both list end))) next = refl
          closes (other_way (other_way (both list end))) next = refl

  pub item_worded : Worded (item_shape below)
  item_worded (parameters local kind list) v = zero-lt-suc _
  item_worded (declaration (variables kind tree) list) v = zero-lt-suc _
  item_worded (declaration (integers long) list) v = zero-lt-suc _
  item_worded (declaration (directed (input wire tree)) list) v = zero-lt-suc _
  item_worded (declaration (directed (output net tree)) list) v = zero-lt-suc _
  item_worded (declaration (directed (output_integer long)) list) v = zero-lt-suc _
  item_worded (events list) v = zero-lt-suc _
  item_worded (assignments list) v = zero-lt-suc _
  item_worded (initial body) v = zero-lt-suc _
  item_worded (always_item body) v = zero-lt-suc _
  item_worded (instances letters tree list) v = zero-lt-suc _

  -- a word that begins no item
  no_item : (text : Text) → ((words : List Text) → item levels (text ∷ words) ≡ stop NoTree (text ∷ words)) →
      Tested (is_front text) false (item_shape below)
  no_item text none = refused_first (is_front text) (item_phrase below) item_worded refl refuses
    where
      refuses : (word : Text) (words : List Text) (tree : ItemTree) (left : List Text) → is_front text (Some word) ≡ true →
          item levels (word ∷ words) ≡ got tree left → ⊥
      refuses word words tree left is e =
          stop_got (sym (none words) ∙ ap (λ w. item levels (w ∷ words)) (same_text text word is) ∙ e)

  no_endmodule : Tested (is_front (codes "endmodule")) false (item_shape below)
  unfolding reserved_words
  no_endmodule = no_item (codes "endmodule") (λ words. refl)

  no_else : Tested (is_front (codes "else")) false (item_shape below)
  unfolding reserved_words
  no_else = no_item (codes "else") (λ words. refl)

  abbrev Items : Shape (Both (List ItemTree) (Unit {0}))
  Items = paired_shape (many_shape not_endmodule ends_statement (item_shape below) (λ list. fits_item levels))
      (only_shape (codes "endmodule"))

  abbrev PortsPart : Shape (Both (Option (List PortTree)) (Both (List ItemTree) (Unit {0})))
  PortsPart = paired_shape (maybe_shape opening always ports_shape) (past_shape (codes ";") Items)

  abbrev HeadPart : Shape (Option (List HeadParameter))
  HeadPart = maybe_shape hash always (past_shape (codes "#") heads_shape)

  abbrev ModuleParts : Shape Module
  ModuleParts = past_shape (codes "module") (paired_shape (text_shape is_name) (paired_shape HeadPart PortsPart))

  abbrev pub module_shape : Shape ModuleTree
  module_shape = record { spell = spell_module; valid = fits_module levels; closes = λ tree. always; stops = λ tree next. true }

  no_items : Example Items
  no_items = record { tree = both [] tt; valid = refl }

  no_ports : Example (maybe_shape opening always ports_shape)
  no_ports = record { tree = None; valid = refl }

  no_head : Example HeadPart
  no_head = record { tree = None; valid = refl }

  ports_example : Example PortsPart
  ports_example = paired_example no_ports (past_example (codes ";") no_items)

  items_phrase : Phrase (pair (many not_endmodule (λ list. item levels)) (word_only (codes "endmodule"))) always Items
  items_phrase =
      before_phrase (codes "endmodule")
      (many_phrase not_endmodule (λ list. item levels) ends_statement (item_shape below) (λ list. fits_item levels)
      (λ list. item_phrase below)
      (λ list tree v. item_worded tree v)
      (λ list tree rest v. ap not (no_endmodule tree v rest)) (λ list tree rest v. ap not (no_else tree v rest)))
      (nothing_phrase always) nothing_example refl

  ports_part_phrase : Phrase (pair (maybe opening (ports levels))
      (past (codes ";") (pair (many not_endmodule (λ list. item levels))
      (word_only (codes "endmodule"))))) always PortsPart
  ports_part_phrase =
      before_phrase (codes ";")
      (maybe_phrase opening ports_phrase (λ tree v. zero-lt-suc _) (λ tree v rest. refl)) items_phrase no_items refl

  pub module_phrase : Phrase (module_tree levels) always module_shape
  module_phrase =
      made_phrase module_of module_shape
      (λ tree v. record { parts = both tree.name (both tree.parameters (both tree.ports (both tree.items tt))); is = refl }) makes
      (λ tree next e. refl)
      (past_phrase (codes "module")
      (free_phrase named_phrase
      (next_phrase (maybe_phrase hash (past_phrase (codes "#") heads_phrase heads_example) (λ tree v. zero-lt-suc _)
      (λ tree v rest. refl))
      ports_part_phrase ports_example some opens)
      (paired_example no_head ports_example))
      (paired_example a_name (paired_example no_head ports_example)))
    where
      some : Worded PortsPart
      some (both None body) v = zero-lt-suc _
      some (both (Some list) body) v = zero-lt-suc _

      opens : Opens (ends_maybe hash always) PortsPart
      opens (both None body) v rest c = refl
      opens (both (Some list) body) v rest c = refl

      makes : Makes module_of ModuleParts module_shape []
      makes = record { spelled = spelled; valid = valid; closes = λ tree next e. closes tree next; stops = λ tree next e. refl }
        where
          spelled : (tree : Module) → spell_module (module_of tree) ≡ ModuleParts.spell tree
          spelled (both letters (both None (both None (both body end)))) = refl
          spelled (both letters (both None (both (Some list) (both body end)))) = refl
          spelled (both letters (both (Some head) (both None (both body end)))) = refl
          spelled (both letters (both (Some head) (both (Some list) (both body end)))) = refl

          regroup : (a b c d : Bool) → (((a && b) && c) && d) ≡ (a && (b && (c && (d && true))))
          regroup true true true d = sym (and_true d)
          regroup true true false d = refl
          regroup true false c d = refl
          regroup false b c d = refl

          parts_valid : (letters : Text) (a b : Bool) (body : List ItemTree) →
              (((is_name letters && a) && b) && list_all (fits_item levels) body)
              ≡ (is_name letters && (a && (b && (allows_all (λ list. fits_item levels) [] body && true))))
          parts_valid letters a b body =
              regroup (is_name letters) a b (list_all (fits_item levels) body)
              ∙ ap (λ x. is_name letters && (a && (b && (x && true)))) (sym (allows_each (fits_item levels) [] body))

          valid : (tree : Module) → fits_module levels (module_of tree) ≡ ModuleParts.valid tree
          valid (both letters (both None (both None (both body end)))) = parts_valid letters true true body
          valid (both letters (both None (both (Some list) (both body end)))) =
              parts_valid letters true (fits_ports levels list) body
          valid (both letters (both (Some head) (both None (both body end)))) = parts_valid letters
              (fits_head_parameters levels head) true body
          valid (both letters (both (Some head) (both (Some list) (both body end)))) =
              parts_valid letters (fits_head_parameters levels head) (fits_ports levels list) body

          closes : (tree : Module) (next : Option Text) → ModuleParts.closes tree next ≡ true
          closes (both letters (both head (both list (both body end)))) next = refl

  -- Whole texts

  abbrev pub source_shape : Shape SourceTree
  source_shape = many_shape is_some_word always module_shape (λ list. fits_module levels)

  pub source_phrase : Phrase (source levels) (ends_many is_some_word always) source_shape
  unfolding source
  source_phrase =
      many_phrase is_some_word (λ list. module_tree levels) always module_shape (λ list. fits_module levels)
      (λ list. module_phrase)
      (λ list tree v. zero-lt-suc _)
      (λ list tree rest v. refl) (λ list tree rest v. refl)
