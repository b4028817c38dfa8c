-- The lists of declared names, and of their variables.
use Rattle.std.proofs.Common.{◌≡◌, ◌<◌, ℕ, ◌+◌, Bool, true, false, not, if◌then◌else◌, List, [], ◌∷◌, ◌++◌, length, drop, get_or, map, Vec, Global, Option, None, Result, Ok, Err, refl, sym, ap, ◌∙◌}
use Rattle.std.specs.Prelude.{option_map}
use Rattle.std.proofs.lemmas.List.{map-append}
use Rattle.std.specs.List.{flat_map}
use Rattle.vwords.specs.Words.{Text}
use Rattle.vast.specs.NumberedWords.{Word, word_of}
use Rattle.vast.specs.NumberedModules.{RangeTree, DeclaredTree, ItemTree, parameters, declaration, events, assignments, initial, always, instances}
use Rattle.vast.specs.NumberedTrees.{range_tree, declared_tree, item_tree, module_tree}
use Rattle.vast.specs.declared.module.Declared.{Declared}
use Rattle.vast.specs.declared.module.DeclarationKind.{DeclarationKind as DeclarationWords}
use Rattle.vast.specs.declared.module.DeclarationKind.TheVariants as declaring
use Rattle.vast.specs.declared.module.ModuleItem.{ModuleItem}
use Rattle.vast.specs.declared.module.ModuleItem.TheVariants.{Declaration}
use Rattle.vdesign.specs.Design.{Variable}
use Rattle.vdesign.specs.declared.design.Kind.{Kind}
use Rattle.velab_expr.specs.declared.fault.ElabFault.{ElabFault}
use Rattle.velab_expr.specs.Answers.{◌>>=◌, behind}
use Rattle.velab_expr.specs.Scopes.{Scope, at}
use Rattle.velab_expr.specs.Symbols.{symbols_by, behind_item}
use Rattle.velab_expr.proofs.AnswerLemmas.{goes_behind}
use Rattle.velab_expr.proofs.ListLemmas.{drop_at}
use Rattle.std.proofs.lemmas.List.Elements.{filter-append}
use Rattle.vast.specs.declared.module.NetKind.{NetKind}
use Rattle.vast.specs.declared.module.SignAndRange.{SignAndRange}
use Rattle.vmodules.specs.Names.{is_declared, letters_of}
use Rattle.vmodules.specs.Ports.{Port, own_item, own_items, plain_names}
use Rattle.vmodules.specs.declared.ports.PortForm.{PortForm}
use Rattle.vast.specs.declared.module.ModuleTree.{ModuleTree as Parsed}
use Rattle.vmodules.specs.Inner.{own_in, HoldSame}
use Rattle.velab_declaration.specs.Variables.{Declaration as Declared_as, declaration_with, all_declared, declarations_of, kind_of, variable_in, variables_in, lower_port, lower_ports, lower_declaration, lower_variables, integer_kind}
use Rattle.velab_declaration.specs.declared.variable.Form.{Form}
use Rattle.velab_declaration.specs.Inner.{names_of, declared_in, texts_of, own_texts, own_trees, own_tree, own_kind, own_variables, port_texts, names_before, names_declared}

-- ---- one item

module _ (kind : Kind) (signed : Bool) (range : Option RangeTree) where
  map_names : (ts : List Word) → map (λ (d : Declared_as). d.name) (map (declaration_with kind signed range) ts) ≡ ts
  map_names [] = refl
  map_names (t ∷ ts) = ap (λ l. t ∷ l) (map_names ts)

  module _ (words : List Text) (list : List Declared) where
    names_view : (ds : List Declared) → map (λ (d : DeclaredTree). d.name) (map (declared_tree words) ds) ≡ texts_of words ds
    names_view [] = refl
    names_view (d ∷ ds) = ap (λ l. word_of words d.name ∷ l) (names_view ds)

    pub item_names : texts_of words list ≡ map (λ (d : Declared_as). d.name) (all_declared kind signed range (map (declared_tree words) list))
    item_names = sym (map_names _ ∙ names_view list)

    module _ (made : List Text) where
      own_view : (ds : List Declared) → map (λ (d : DeclaredTree). d.name) (own_trees words made ds) ≡ own_texts words made ds
      own_view [] = refl
      own_view (d ∷ ds) = by (is_declared made (word_of words d.name).letters) (own_view ds)
        where
          by : (b : Bool) → map (λ (d : DeclaredTree). d.name) (own_trees words made ds) ≡ own_texts words made ds →
              map (λ (d : DeclaredTree). d.name) (if not b then declared_tree words d ∷ own_trees words made ds else own_trees words made ds)
              ≡ (if not b then word_of words d.name ∷ own_texts words made ds else own_texts words made ds)
          by true same = same
          by false same = ap (λ l. word_of words d.name ∷ l) same

      pub own_item_names : own_texts words made list ≡ map (λ (d : Declared_as). d.name) (all_declared kind signed range (own_trees words made list))
      own_item_names = sym (map_names _ ∙ own_view list)

-- the names of a declaration
module _ (words made : List Text) (list : List Declared) (kind : DeclarationWords) where
  pub variables_names : (net : NetKind) (type : SignAndRange) → kind ≡ declaring.Variables net type → own_texts words made list ≡ names_of (own_kind words made kind list)
  variables_names net type is =
      own_item_names (kind_of net) type.signed (option_map (range_tree words) type.range) words list made
      ∙ sym (ap (λ (k : DeclarationWords). names_of (own_kind words made k list)) is)

  pub integers_names : (long : Bool) → kind ≡ declaring.Integers long → texts_of words list ≡ names_of (own_kind words made kind list)
  integers_names long is = item_names (integer_kind long) (not long) None words list ∙ sym (ap (λ (k : DeclarationWords). names_of (own_kind words made k list)) is)

pub item_of_names : (words made : List Text) (item : ModuleItem) (place : ℕ) (kind : DeclarationWords) (declared : Vec Declared Global) (list : List Declared) →
    item ≡ Declaration place kind declared → list ≡ declared.items → names_of (own_kind words made kind list) ≡ names_of (own_tree words made item)
item_of_names words made item place kind declared list is same =
    ap (λ (l : List Declared). names_of (own_kind words made kind l)) same ∙ sym (ap (λ (m : ModuleItem). names_of (own_tree words made m)) is)

-- the names of a declaration one by one, and of items, item by item
pub own_first : (words made : List Text) (one : Declared) (more : List Declared) → own_texts words made (one ∷ more) ≡ own_texts words made (one ∷ []) ++ own_texts words made more
own_first words made one more = filter-append (λ (word : Word). not (is_declared made word.letters)) (word_of words one.name ∷ []) (texts_of words more)

pub in_order : (words made : List Text) (item : ModuleItem) (items : List ModuleItem) → declared_in (own_in words made (item ∷ items)) ≡ names_of (own_tree words made item) ++ declared_in (own_in words made items)
in_order words made item items =
    map-append (λ (d : Declared_as). d.name) (declarations_of (own_tree words made item)) (flat_map declarations_of (own_in words made items))

-- ---- items without the ports of a list of names alone

pub items_are : (words made : List Text) (unit : Parsed) (items : List ModuleItem) → items ≡ unit.items.items →
    HoldSame made (letters_of (plain_names (module_tree words unit).ports)) → own_in words made items ≡ own_items (module_tree words unit)
items_are words made unit items are same = λ i. map (own_item (λ text. same text i)) (map (item_tree words) (are i))

pub names_are : (words made : List Text) (ports : List PortForm) (unit : Parsed) (items : List ModuleItem) → items ≡ unit.items.items →
    HoldSame made (letters_of (plain_names (module_tree words unit).ports)) → names_before words made ports items ≡ names_declared words ports unit
names_are words made ports unit items are same =
    ap (λ (l : List ItemTree). port_texts words ports ++ declared_in l) (items_are words made unit items are same)

-- ---- the variables of items, and of ports, one after another

pub declaration_is : (words made : List Text) (item : ModuleItem) (place : ℕ) (kind : DeclarationWords) (declared : Vec Declared Global) (list : List Declared) →
    item ≡ Declaration place kind declared → list ≡ declared.items → own_kind words made kind list ≡ own_tree words made item
declaration_is words made item place kind declared list is same = ap (own_kind words made kind) same ∙ sym (ap (own_tree words made) is)

-- the variables of a declaration one by one
pub own_opens : (words made : List Text) (path : Text) (form : Form) (one : Declared) (more : List Declared) →
    own_variables words made path form (one ∷ more) ≡ own_variables words made path form (one ∷ []) ++ own_variables words made path form more
own_opens words made path form one more =
    ap (λ (l : List DeclaredTree). variables_in path form l)
    (filter-append (λ (d : DeclaredTree). not (is_declared made d.name.letters)) (declared_tree words one ∷ []) (map (declared_tree words) more))
    ∙ map-append (λ (d : DeclaredTree). variable_in path form d.name.letters) (own_trees words made (one ∷ [])) (own_trees words made more)

-- one that is a port has none, and one that isn't has its own
pub own_made : (words made : List Text) (path : Text) (form : Form) (one : Declared) → is_declared made (word_of words one.name).letters ≡ true →
    own_variables words made path form (one ∷ []) ≡ []
own_made words made path form one is =
    ap (λ b. variables_in path form (if not b then declared_tree words one ∷ [] else [])) is

pub own_put : (words made : List Text) (path : Text) (form : Form) (one : Declared) → is_declared made (word_of words one.name).letters ≡ false →
    own_variables words made path form (one ∷ []) ≡ variable_in path form (word_of words one.name).letters ∷ []
own_put words made path form one is =
    ap (λ b. variables_in path form (if not b then declared_tree words one ∷ [] else [])) is

pub ports_open : (path : Text) (scope : Scope) (p : Port) (more : List Port) →
    lower_ports path scope (p ∷ more) ≡ (lower_ports path scope (p ∷ []) >>= λ front. lower_ports path scope more >>= λ others. Ok (front ++ others))
ports_open path scope p more = by (lower_port path scope p)
  where
    by : (a : Result Variable ElabFault) → (a >>= λ one. lower_ports path scope more >>= λ others. Ok (one ∷ others))
        ≡ ((a >>= λ one. Ok (one ∷ [])) >>= λ front. lower_ports path scope more >>= λ others. Ok (front ++ others))
    by (Ok one) = refl
    by (Err fault) = refl

-- the fault of a first list is that of both
module _ {A : Type 0} (done : List A) where
  pub first_refused : (a b : Result (List A) ElabFault) (fault : ElabFault) → behind done a ≡ Err fault → behind done (a >>= λ front. b >>= λ others. Ok (front ++ others)) ≡ Err fault
  first_refused (Ok x) b fault is = absurd cc
  first_refused (Err other) b fault is = is

-- ---- items one after another, each in the scope of its place

-- without the names of ports they declare the same parameters
pub same_symbols : (is_port : Text → Bool) (item : ItemTree) → length (symbols_by (own_item is_port item)) ≡ length (symbols_by item)
same_symbols is_port (parameters local type settings) = refl
same_symbols is_port (declaration kind list) = refl
same_symbols is_port (events names) = refl
same_symbols is_port (assignments settings) = refl
same_symbols is_port (initial statement) = refl
same_symbols is_port (always statement) = refl
same_symbols is_port (instances letters overrides list) = refl

module _ (words made : List Text) (path : Text) (scope : Scope) (items : List ModuleItem) (i : ℕ) (x : ModuleItem) (within : i < length items) (is : x ≡ get_or items i x) (known : ℕ) (here : Scope)
    (there : here ≡ at scope known) (before : List Variable) (all : Result (List Variable) ElabFault)
    (same : behind before (lower_variables path (at scope known) (own_in words made (drop i items))) ≡ all) where
  abbrev item : ItemTree
  item = own_tree words made x

  abbrev rest : Result (List Variable) ElabFault
  rest = lower_variables path (behind_item (at scope known) item) (own_in words made (drop (i + 1) items))

  item_opens : all ≡ behind before (lower_declaration path here item >>= λ front. rest >>= λ others. Ok (front ++ others))
  item_opens =
      sym same
      ∙ ap (λ (l : List ModuleItem). behind before (lower_variables path (at scope known) (own_in words made l))) (drop_at items i x within is)
      ∙ ap (λ (s : Scope). behind before (lower_declaration path s item >>= λ front. rest >>= λ others. Ok (front ++ others))) (sym there)

  pub item_put : (n : ℕ) → n ≡ length (symbols_by (item_tree words x)) → (next : List Variable) → behind before (lower_declaration path here item) ≡ Ok next →
      behind next (lower_variables path (at scope (known + n)) (own_in words made (drop (i + 1) items))) ≡ all
  item_put n counted next put =
      ap (λ (k : ℕ). behind next (lower_variables path (at scope (known + k)) (own_in words made (drop (i + 1) items)))) (counted ∙ sym (same_symbols (is_declared made) (item_tree words x)))
      ∙ goes_behind before (lower_declaration path here item) rest next put
      ∙ sym item_opens

  pub item_refused : (fault : ElabFault) → behind before (lower_declaration path here item) ≡ Err fault → all ≡ Err fault
  item_refused fault put = item_opens ∙ first_refused before (lower_declaration path here item) rest fault put
