-- The scope of an instance: which names of its module stand where, at each of its places.
use Rattle.std.proofs.Common.{◌≡◌, ◌<◌, ◌≤◌, ℕ, ◌+◌, zero, suc, nat_lt, nat_le, not, List, [], ◌∷◌, ◌++◌, map, length, slice_get, Option, Some, None, Ok, refl, sym, ap, subst, ◌∙◌, ◌⊎◌, inl, inr, arith, append_assoc, length-append}
use Rattle.std.specs.Prelude.{option_map}
use Rattle.std.specs.List.{flat_map}
use Rattle.std.proofs.lemmas.List.{append-nil, length-map, map-append}
use Rattle.std.proofs.lemmas.List.Concat.{flat_map-append}
use Rattle.vwords.specs.Words.{Text}
use Rattle.vast.specs.NumberedWords.{Word}
use Rattle.vast.specs.NumberedModules.{ParameterType, HeadParameter, SettingTree, ItemTree, parameters, declaration, events, assignments, initial, always, instances, ModuleTree}
use Rattle.vmodules.specs.Names.{is_declared, letters_of, first_again}
use Rattle.velab_expr.specs.declared.fault.Rule.TheVariants.{Doubled, TooMany}
use Rattle.velab_expr.specs.declared.scope.Meaning.{Meaning}
use Rattle.velab_expr.specs.declared.scope.Meaning.TheVariants.{Variable, Parameter, Event, Instance}
use Rattle.velab_expr.specs.Answers.{◌>>=◌, require, answer_if}
use Rattle.velab_expr.specs.Scopes.{Scope, at}
use Rattle.velab_expr.specs.Symbols.{Symbol, parameter_symbol, event_symbol, instance_symbol, name_in, valueless_by, symbols_behind, symbols_in_head, symbols_by, behind_item}
use Rattle.velab_declaration.specs.Parameters.{Overrides, Base, lower_type, parameter_by, lower_setting, lower_meaning, with_meaning, add_symbol, add_symbols, first_scope, item_scope}
use Rattle.velab_declaration.specs.Variables.{Declaration, port_declaration, declarations, port_names, declared_names}
use Rattle.vmodules.specs.Ports.{Port, ports_of, port_values}
use Rattle.velab_process.proofs.ProcessLemmas.{values_placed}
use Rattle.vhierarchy.specs.Instances.{PartialDesign, Context, base_of, lower_names, no_scope, has_room}
use Rattle.elaboration_law.specs.Doubles.{names_in_module}
use Rattle.elaboration_law.specs.Places.{Place, Thing, a_variable, a_parameter, an_event, an_instance, no_place, variables_of, symbols_of, thing_by, things_in, names_behind, place_behind, place_after}
use Rattle.elaboration_law.proofs.StepLemmas.{same_value, then_ok, required_ok, provided_ok, barring_ok}
use Rattle.elaboration_law.proofs.NameRules.{letters_in, names_added, names_of_scope}

-- ---- what stands for names that are no variables

-- a parameter is the one at its place, and what has no value stands among so many first ones
abbrev pub StandsIn : ℕ → ℕ → Meaning → Type 0
StandsIn firm place (Variable number) = ⊥
StandsIn firm place (Parameter value bounds before) = before ≡ place
StandsIn firm place (Event number) = place < firm
StandsIn firm place Instance = place < firm

abbrev pub AllStand : ℕ → List Meaning → Type 0
AllStand firm others = (place : ℕ) (meaning : Meaning) → slice_get others place ≡ Some meaning → StandsIn firm place meaning

still_stands : (firm more place : ℕ) (meaning : Meaning) → firm ≤ more → StandsIn firm place meaning → StandsIn more place meaning
still_stands firm more place (Variable number) le s = s
still_stands firm more place (Parameter value bounds before) le s = s
still_stands firm more place (Event number) le s = omega (arith, le, s)
still_stands firm more place Instance le s = omega (arith, le, s)

before_or_last : {A : Type 0} (xs : List A) (last x : A) (k : ℕ) → slice_get (xs ++ last ∷ []) k ≡ Some x → (slice_get xs k ≡ Some x) ⊎ ((k ≡ length xs) × (last ≡ x))
before_or_last [] last x zero is = inr (refl, cc)
before_or_last [] last x (suc k) is = absurd cc
before_or_last (y ∷ ys) last x zero is = inl is
before_or_last (y ∷ ys) last x (suc k) is = by (before_or_last ys last x k is)
  where
    by : (slice_get ys k ≡ Some x) ⊎ ((k ≡ length ys) × (last ≡ x)) → (slice_get ys k ≡ Some x) ⊎ ((suc k ≡ length (y ∷ ys)) × (last ≡ x))
    by (inl h) = inl h
    by (inr (e, same)) = inr (omega (arith, e), same)

all_stand_behind : (firm more : ℕ) (others : List Meaning) (last : Meaning) → firm ≤ more → StandsIn more (length others) last → AllStand firm others → AllStand more (others ++ last ∷ [])
all_stand_behind firm more others last le s all = λ place meaning is. by place meaning (before_or_last others last meaning place is)
  where
    by : (place : ℕ) (meaning : Meaning) → (slice_get others place ≡ Some meaning) ⊎ ((place ≡ length others) × (last ≡ meaning)) → StandsIn more place meaning
    by place meaning (inl h) = still_stands firm more place meaning le (all place meaning h)
    by place meaning (inr (e, same)) = subst (λ (n : ℕ). StandsIn more n meaning) (sym e) (subst (StandsIn more (length others)) same s)

-- ---- elements by their numbers

module _ {A : Type 0} where
  pub there_is : (xs : List A) (k : ℕ) → k < length xs → (x : A) × (slice_get xs k ≡ Some x)
  there_is [] k lt = absurd (omega (arith, lt))
  there_is (one ∷ more) zero lt = (one, refl)
  there_is (one ∷ more) (suc k) lt = there_is more k (omega (arith, lt))

  pub got_in_front : (xs ys : List A) (k : ℕ) (x : A) → slice_get xs k ≡ Some x → slice_get (xs ++ ys) k ≡ Some x
  got_in_front [] ys k x is = absurd cc
  got_in_front (one ∷ more) ys zero x is = is
  got_in_front (one ∷ more) ys (suc k) x is = got_in_front more ys k x is

  pub got_behind : (xs ys : List A) (k n : ℕ) → n ≡ length xs + k → slice_get (xs ++ ys) n ≡ slice_get ys k
  got_behind [] ys k n is = ap (slice_get ys) (omega (arith, is))
  got_behind (one ∷ more) ys k zero is = absurd (omega (arith, is))
  got_behind (one ∷ more) ys k (suc n) is = got_behind more ys k n (omega (arith, is))

  pub got_mapped : {B : Type 0} (f : A → B) (xs : List A) (k : ℕ) (x : A) → slice_get xs k ≡ Some x → slice_get (map f xs) k ≡ Some (f x)
  got_mapped f [] k x is = absurd cc
  got_mapped f (one ∷ more) zero x is = ap (option_map f) is
  got_mapped f (one ∷ more) (suc k) x is = got_mapped f more k x is

-- ---- what names stand for

abbrev pub MeaningIs : Meaning → Thing → Type 0
MeaningIs (Variable number) thing = ⊥
MeaningIs (Parameter value bounds before) (a_variable d) = ⊥
MeaningIs (Parameter value bounds before) a_parameter = Unit {0}
MeaningIs (Parameter value bounds before) an_event = ⊥
MeaningIs (Parameter value bounds before) an_instance = ⊥
MeaningIs (Event number) (a_variable d) = ⊥
MeaningIs (Event number) a_parameter = ⊥
MeaningIs (Event number) an_event = Unit {0}
MeaningIs (Event number) an_instance = ⊥
MeaningIs Instance (a_variable d) = ⊥
MeaningIs Instance a_parameter = ⊥
MeaningIs Instance an_event = ⊥
MeaningIs Instance an_instance = Unit {0}

-- others stand for what these symbols declare
abbrev pub AllMean : List Meaning → List Symbol → Type 0
AllMean others done = (k : ℕ) (meaning : Meaning) → slice_get others k ≡ Some meaning → (one : Symbol) × (slice_get done k ≡ Some one) × MeaningIs meaning (thing_by one)

-- ---- a scope at a place

-- what the place says of the scope's names
pub record IsAt (place : Place) (scope : Scope) : Type 0 where
  pub firm : ℕ
  pub rest : List Text
  pub later : List Text
  pub names : scope.names ≡ place.names
  pub all : place.names ≡ place.known ++ later
  pub first : place.known ≡ place.variables ++ rest
  pub variables : scope.variables ≡ length place.variables
  pub known : scope.variables + scope.known ≡ length place.known
  pub whole : length scope.names ≡ scope.variables + length scope.others
  pub early : firm ≤ scope.known
  pub others : AllStand firm scope.others
  pub declared : (k : ℕ) → k < scope.variables → (d : Declaration) × (slice_get place.things k ≡ Some (a_variable d))
  pub kinds : (k : ℕ) (meaning : Meaning) → slice_get scope.others k ≡ Some meaning → (thing : Thing) × (slice_get place.things (scope.variables + k) ≡ Some thing) × MeaningIs meaning thing

-- the things of a module
module _ (m : ModuleTree) where
  abbrev pub all_declared : List Declaration
  all_declared = map port_declaration (ports_of m) ++ declarations m

  pub count_declared : length (variables_of m) ≡ length all_declared
  count_declared =
      let ports = ports_of m in
      let named = length-map (declared_names m) (λ (w : Word). w.letters) in
      let both = length-append (port_names m) (map (λ (d : Declaration). d.name) (declarations m)) in
      let one = length-map ports (λ (p : Port). p.name) in
      let two = length-map (declarations m) (λ (d : Declaration). d.name) in
      let other = length-append (map port_declaration ports) (declarations m) in
      let three = length-map ports port_declaration in
      omega (arith, named, both, one, two, other, three)

  module _ (scope : Scope) (count : scope.variables ≡ length (variables_of m)) where
    abbrev counted : ℕ
    counted = length (map a_variable all_declared)

    count_is : scope.variables ≡ counted
    count_is = let long = length-map all_declared a_variable in let same = count_declared in omega (arith, count, long, same)

    pub variables_declared : (k : ℕ) → k < scope.variables → (d : Declaration) × (slice_get (things_in m) k ≡ Some (a_variable d))
    variables_declared k lt =
        let same = count_declared in
        let it = there_is all_declared k (omega (arith, lt, count, same)) in
        (it.0, got_in_front (map a_variable all_declared) (map thing_by (symbols_of m)) k (a_variable it.0) (got_mapped a_variable all_declared k it.0 it.1))

    pub symbols_mean : AllMean scope.others (symbols_of m) → (k : ℕ) (meaning : Meaning) → slice_get scope.others k ≡ Some meaning →
        (thing : Thing) × (slice_get (things_in m) (scope.variables + k) ≡ Some thing) × MeaningIs meaning thing
    symbols_mean all k meaning is =
        let it = all k meaning is in
        let long = count_is in
        (thing_by it.0, got_behind (map a_variable all_declared) (map thing_by (symbols_of m)) k (scope.variables + k) (omega (arith, long)) ∙ got_mapped thing_by (symbols_of m) k it.0 it.1, it.2)

all_mean_behind : (others : List Meaning) (done : List Symbol) (last : Meaning) (one : Symbol) → length others ≡ length done → MeaningIs last (thing_by one) → AllMean others done → AllMean (others ++ last ∷ []) (done ++ one ∷ [])
all_mean_behind others done last one long s all = λ k meaning is. by k meaning (before_or_last others last meaning k is)
  where
    by : (k : ℕ) (meaning : Meaning) → (slice_get others k ≡ Some meaning) ⊎ ((k ≡ length others) × (last ≡ meaning)) → (x : Symbol) × (slice_get (done ++ one ∷ []) k ≡ Some x) × MeaningIs meaning (thing_by x)
    by k meaning (inl h) = let it = all k meaning h in (it.0, got_in_front done (one ∷ []) k it.0 it.1, it.2)
    by k meaning (inr (e, same)) = (one, got_behind done (one ∷ []) 0 k (omega (arith, e, long)), subst (λ (x : Meaning). MeaningIs x (thing_by one)) same s)

more_mean : (others : List Meaning) (done left all : List Symbol) → done ++ left ≡ all → AllMean others done → AllMean others all
more_mean others done left all is h = λ k meaning e. let it = h k meaning e in (it.0, sym (ap (λ (l : List Symbol). slice_get l k) is) ∙ got_in_front done left k it.0 it.1, it.2)

none_stand : (firm : ℕ) → AllStand firm []
none_stand firm = λ place meaning is. absurd cc

pub nowhere_is : IsAt no_place no_scope
nowhere_is = record {
  firm = 0;
  rest = [];
  later = [];
  names = refl;
  all = refl;
  first = refl;
  variables = refl;
  known = refl;
  whole = refl;
  early = omega arith;
  others = none_stand 0;
  declared = λ k lt. absurd (omega (arith, lt));
  kinds = λ k meaning is. absurd cc;
}

-- ---- while names are added

-- where the names of these symbols are left
pub record Grown (m : ModuleTree) (firm : ℕ) (left : List Symbol) (scope : Scope) : Type 0 where
  pub rest : List Text
  pub done : List Symbol
  pub first : scope.names ≡ variables_of m ++ rest
  pub variables : scope.variables ≡ length (variables_of m)
  pub whole : length scope.names ≡ scope.variables + length scope.others
  pub known : scope.known ≡ length scope.others
  pub early : firm ≤ scope.known
  pub others : AllStand firm scope.others
  pub all : done ++ left ≡ symbols_of m
  pub count : length scope.others ≡ length done
  pub kinds : AllMean scope.others done

pub grown_at : (m : ModuleTree) (firm : ℕ) (left : List Symbol) (scope : Scope) → Grown m firm left scope → IsAt (place_after m scope.names) scope
grown_at m firm left scope g = record {
  firm = firm;
  rest = g.rest;
  later = [];
  names = refl;
  all = sym (append-nil scope.names);
  first = g.first;
  variables = g.variables;
  known = ap (λ (n : ℕ). scope.variables + n) g.known ∙ sym g.whole;
  whole = g.whole;
  early = g.early;
  others = g.others;
  declared = variables_declared m scope g.variables;
  kinds = symbols_mean m scope g.variables (more_mean scope.others g.done left (symbols_of m) g.all g.kinds);
}

-- how many of the first ones may have no value, behind a symbol and behind several
abbrev pub firm_by : ℕ → ℕ → Symbol → ℕ
firm_by firm known (parameter_symbol type setting) = firm
firm_by firm known (event_symbol name) = known + 1
firm_by firm known (instance_symbol name) = known + 1

abbrev pub firm_behind : ℕ → ℕ → List Symbol → ℕ
firm_behind firm known [] = firm
firm_behind firm known (one ∷ more) = firm_behind (firm_by firm known one) (known + 1) more

settings_keep : (firm known : ℕ) (type : Option ParameterType) (settings : List SettingTree) (more : List Symbol) → ((k : ℕ) → firm_behind firm k more ≡ firm) → firm_behind firm known (map (parameter_symbol type) settings ++ more) ≡ firm
settings_keep firm known type [] more rest = rest known
settings_keep firm known type (one ∷ others) more rest = settings_keep firm (known + 1) type others more rest

items_keep : (firm known : ℕ) (items : List ItemTree) → firm_behind firm known (flat_map symbols_by items) ≡ firm
items_keep firm known [] = refl
items_keep firm known (parameters local type settings ∷ more) = settings_keep firm known (Some type) settings (flat_map symbols_by more) (λ k. items_keep firm k more)
items_keep firm known (declaration kind list ∷ more) = items_keep firm known more
items_keep firm known (events names ∷ more) = items_keep firm known more
items_keep firm known (assignments settings ∷ more) = items_keep firm known more
items_keep firm known (initial statement ∷ more) = items_keep firm known more
items_keep firm known (always statement ∷ more) = items_keep firm known more
items_keep firm known (instances name overrides list ∷ more) = items_keep firm known more

head_keeps : (firm known : ℕ) (parameters : Option (List HeadParameter)) → firm_behind firm known (symbols_in_head parameters) ≡ firm
head_keeps firm known None = refl
head_keeps firm known (Some list) = by known None list
  where
    by : (k : ℕ) (type : Option ParameterType) (heads : List HeadParameter) → firm_behind firm k (symbols_behind type heads) ≡ firm
    by k type [] = refl
    by k type (one ∷ more) = by (k + 1) _ more

module _ (overrides : Overrides) where
  -- where a symbol stands for something it stands at its place
  parameter_stands : (firm : ℕ) (scope : Scope) (type : Option ParameterType) (setting : SettingTree) (meaning : Meaning) → lower_meaning overrides scope (parameter_symbol type setting) ≡ Ok meaning → StandsIn firm scope.known meaning
  parameter_stands firm scope type setting meaning is =
      let bounds = then_ok (lower_type scope type) (λ bounds. lower_setting overrides scope setting >>= λ value. Ok (Parameter (parameter_by type bounds value) bounds scope.known)) meaning is in
      let value = then_ok (lower_setting overrides scope setting) (λ value. Ok (Parameter (parameter_by type bounds.0 value) bounds.0 scope.known)) meaning bounds.2 in
      subst (StandsIn firm scope.known) (same_value (Parameter (parameter_by type bounds.0 value.0) bounds.0 scope.known) meaning value.2) refl

  meaning_stands : (firm : ℕ) (scope : Scope) (one : Symbol) (meaning : Meaning) → lower_meaning overrides scope one ≡ Ok meaning → StandsIn (firm_by firm scope.known one) scope.known meaning
  meaning_stands firm scope (parameter_symbol type setting) meaning is = parameter_stands firm scope type setting meaning is
  meaning_stands firm scope (event_symbol name) meaning is =
      subst (StandsIn (scope.known + 1) scope.known) (required_ok (nat_lt scope.events 4294967295) TooMany (Some name) (Event scope.events) meaning is).1 (omega arith)
  meaning_stands firm scope (instance_symbol name) meaning is = subst (StandsIn (scope.known + 1) scope.known) (same_value Instance meaning is) (omega arith)

  -- of the symbol's kind
  parameter_means : (scope : Scope) (type : Option ParameterType) (setting : SettingTree) (meaning : Meaning) → lower_meaning overrides scope (parameter_symbol type setting) ≡ Ok meaning → MeaningIs meaning a_parameter
  parameter_means scope type setting meaning is =
      let bounds = then_ok (lower_type scope type) (λ bounds. lower_setting overrides scope setting >>= λ value. Ok (Parameter (parameter_by type bounds value) bounds scope.known)) meaning is in
      let value = then_ok (lower_setting overrides scope setting) (λ value. Ok (Parameter (parameter_by type bounds.0 value) bounds.0 scope.known)) meaning bounds.2 in
      subst (λ (x : Meaning). MeaningIs x a_parameter) (same_value (Parameter (parameter_by type bounds.0 value.0) bounds.0 scope.known) meaning value.2) tt

  meaning_means : (scope : Scope) (one : Symbol) (meaning : Meaning) → lower_meaning overrides scope one ≡ Ok meaning → MeaningIs meaning (thing_by one)
  meaning_means scope (parameter_symbol type setting) meaning is = parameter_means scope type setting meaning is
  meaning_means scope (event_symbol name) meaning is =
      subst (λ (x : Meaning). MeaningIs x an_event) (required_ok (nat_lt scope.events 4294967295) TooMany (Some name) (Event scope.events) meaning is).1 tt
  meaning_means scope (instance_symbol name) meaning is = subst (λ (x : Meaning). MeaningIs x an_instance) (same_value Instance meaning is) tt

  firm_grows : (firm : ℕ) (scope : Scope) (one : Symbol) → firm ≤ scope.known → (firm ≤ firm_by firm scope.known one) × (firm_by firm scope.known one ≤ scope.known + 1)
  firm_grows firm scope (parameter_symbol type setting) le = (omega arith, omega (arith, le))
  firm_grows firm scope (event_symbol name) le = (omega (arith, le), omega arith)
  firm_grows firm scope (instance_symbol name) le = (omega (arith, le), omega arith)

  -- what a symbol makes of the scope
  pub symbol_makes : (scope next : Scope) (one : Symbol) → add_symbol overrides scope one ≡ Ok next → (meaning : Meaning) × (lower_meaning overrides scope one ≡ Ok meaning) × (with_meaning scope one meaning ≡ next)
  symbol_makes scope next one is =
      let meaning = then_ok (lower_meaning overrides scope one) (λ meaning. require (not (is_declared scope.names (name_in one).letters)) Doubled (Some (name_in one)) (with_meaning scope one meaning)) next is in
      (meaning.0, meaning.1, (required_ok (not (is_declared scope.names (name_in one).letters)) Doubled (Some (name_in one)) (with_meaning scope one meaning.0) next meaning.2).1)

  pub symbol_grown : (m : ModuleTree) (firm : ℕ) (left : List Symbol) (scope : Scope) (one : Symbol) (meaning : Meaning) → lower_meaning overrides scope one ≡ Ok meaning → Grown m firm (one ∷ left) scope →
      Grown m (firm_by firm scope.known one) left (with_meaning scope one meaning)
  symbol_grown m firm left scope one meaning is g =
      let le = firm_grows firm scope one g.early in
      let whole = g.whole in
      let known = g.known in
      let count = g.count in
      let names = length-append scope.names ((name_in one).letters ∷ []) in
      let others = length-append scope.others (meaning ∷ []) in
      let done = length-append g.done (one ∷ []) in
      record {
        rest = g.rest ++ (name_in one).letters ∷ [];
        done = g.done ++ one ∷ [];
        first = ap (λ (l : List Text). l ++ (name_in one).letters ∷ []) g.first ∙ append_assoc (variables_of m) g.rest ((name_in one).letters ∷ []);
        variables = g.variables;
        whole = omega (arith, whole, names, others);
        known = omega (arith, known, others);
        early = le.1;
        others = all_stand_behind firm (firm_by firm scope.known one) scope.others meaning le.0
            (subst (λ (n : ℕ). StandsIn (firm_by firm scope.known one) n meaning) known (meaning_stands firm scope one meaning is)) g.others;
        all = append_assoc g.done (one ∷ []) left ∙ g.all;
        count = omega (arith, count, others, done);
        kinds = all_mean_behind scope.others g.done meaning one g.count (meaning_means scope one meaning is) g.kinds;
      }

  pub symbols_grown : (m : ModuleTree) (firm : ℕ) (left : List Symbol) (scope next : Scope) (list : List Symbol) → add_symbols overrides scope list ≡ Ok next → Grown m firm (list ++ left) scope → Grown m (firm_behind firm scope.known list) left next
  symbols_grown m firm left scope next [] is g = subst (Grown m firm left) (same_value scope next is) g
  symbols_grown m firm left scope next (one ∷ more) is g =
      let front = then_ok (add_symbol overrides scope one) (λ s. add_symbols overrides s more) next is in
      let made = symbol_makes scope front.0 one front.1 in
      symbols_grown m (firm_by firm scope.known one) left (with_meaning scope one made.0) next more
      (ap (λ (s : Scope). add_symbols overrides s more) made.2 ∙ front.2) (symbol_grown m firm (more ++ left) scope one made.0 made.1 g)

-- ---- the scope of a module

-- whatever is known
pub record IsOf (m : ModuleTree) (scope : Scope) : Type 0 where
  pub firm : ℕ
  pub names : scope.names ≡ names_in_module m
  pub variables : scope.variables ≡ length (variables_of m)
  pub whole : length scope.names ≡ scope.variables + length scope.others
  pub early : scope.variables + firm ≤ length (names_behind m [])
  pub others : AllStand firm scope.others
  pub kinds : AllMean scope.others (symbols_of m)

pub is_of_at : (m : ModuleTree) (scope : Scope) (known : ℕ) → IsOf m scope → IsOf m (at scope known)
is_of_at m scope known h = record { firm = h.firm; names = h.names; variables = h.variables; whole = h.whole; early = h.early; others = h.others; kinds = h.kinds }

-- behind these items of the module, before those
pub record Stands (m : ModuleTree) (before after : List ItemTree) (scope : Scope) : Type 0 where
  pub of : IsOf m scope
  pub items : before ++ after ≡ m.items
  pub known : scope.variables + scope.known ≡ length (names_behind m before)

module _ (m : ModuleTree) where
  letters_both : (xs ys : List Symbol) → letters_in (xs ++ ys) ≡ letters_in xs ++ letters_in ys
  letters_both xs ys = ap letters_of (map-append name_in xs ys) ∙ map-append (λ (w : Word). w.letters) (map name_in xs) (map name_in ys)

  -- further names behind further items
  names_further : (before after : List ItemTree) → names_behind m (before ++ after) ≡ names_behind m before ++ letters_in (flat_map symbols_by after)
  names_further before after =
      let valueless = flat_map valueless_by m.items in
      let head = symbols_in_head m.parameters in
      let front = flat_map symbols_by before in
      let back = flat_map symbols_by after in
      ap (λ (l : List Symbol). variables_of m ++ letters_in (valueless ++ (head ++ l))) (flat_map-append symbols_by before after)
      ∙ ap (λ (l : List Symbol). variables_of m ++ letters_in l) (ap (λ (l : List Symbol). valueless ++ l) (sym (append_assoc head front back)) ∙ sym (append_assoc valueless (head ++ front) back))
      ∙ ap (λ (l : List Text). variables_of m ++ l) (letters_both (valueless ++ (head ++ front)) back)
      ∙ sym (append_assoc (variables_of m) (letters_in (valueless ++ (head ++ front))) (letters_in back))

  count_of_letters : (list : List Symbol) → length (letters_in list) ≡ length list
  count_of_letters list = length-map (map name_in list) (λ (w : Word). w.letters) ∙ length-map list name_in

  count_further : (before after : List ItemTree) → length (names_behind m (before ++ after)) ≡ length (names_behind m before) + length (flat_map symbols_by after)
  count_further before after =
      ap length (names_further before after)
      ∙ length-append (names_behind m before) (letters_in (flat_map symbols_by after))
      ∙ ap (λ (n : ℕ). length (names_behind m before) + n) (count_of_letters (flat_map symbols_by after))

  pub stands_at : (before after : List ItemTree) (scope : Scope) → Stands m before after scope → IsAt (place_behind m before) scope
  stands_at before after scope s =
      let whole = count_further [] before in
      let known = s.known in
      let early = s.of.early in
      record {
        firm = s.of.firm;
        rest = letters_in (flat_map valueless_by m.items ++ (symbols_in_head m.parameters ++ flat_map symbols_by before));
        later = letters_in (flat_map symbols_by after);
        names = s.of.names;
        all = ap (names_behind m) (sym s.items) ∙ names_further before after;
        first = refl;
        variables = s.of.variables;
        known = s.known;
        whole = s.of.whole;
        early = omega (arith, whole, known, early);
        others = s.of.others;
        declared = variables_declared m scope s.of.variables;
        kinds = symbols_mean m scope s.of.variables s.of.kinds;
      }

  -- and behind more of them
  pub stands_behind : (before more after : List ItemTree) (scope : Scope) → more ++ after ≡ m.items → before ≡ [] → Stands m before m.items scope → Stands m more after (at scope (scope.known + length (flat_map symbols_by more)))
  stands_behind before more after scope items none s =
      let known = s.known in
      let count = ap (λ (l : List ItemTree). length (names_behind m (l ++ more))) none in
      let here = ap (λ (l : List ItemTree). length (names_behind m l)) none in
      let further = count_further [] more in
      record {
        of = is_of_at m scope (scope.known + length (flat_map symbols_by more)) s.of;
        items = items;
        known = omega (arith, known, here, further);
      }

  pub stands_on : (before after : List ItemTree) (item : ItemTree) (scope : Scope) → Stands m before (item ∷ after) scope → Stands m (before ++ item ∷ []) after (behind_item scope item)
  stands_on before after item scope s =
      let known = s.known in
      let further = count_further before (item ∷ []) in
      let one = ap length (append-nil (symbols_by item)) in
      record {
        of = is_of_at m scope (scope.known + length (symbols_by item)) s.of;
        items = append_assoc before (item ∷ []) after ∙ s.items;
        known = omega (arith, known, further, one);
      }

  -- the item of its ports' values names nothing
  pub values_stand : (scope : Scope) → Stands m [] m.items scope → Stands m [] m.items (behind_item scope (port_values m))
  values_stand scope s = subst (Stands m [] m.items) (sym (values_placed scope m)) s

  -- and behind all of them
  pub stands_last : (scope : Scope) → Stands m [] m.items scope → IsAt (place_behind m m.items) (at scope (length scope.others))
  stands_last scope s =
      let names : length scope.names ≡ length (names_behind m m.items) = ap length s.of.names in
      let whole = s.of.whole in
      let known = s.known in
      let further : length (names_behind m m.items) ≡ length (names_behind m []) + length (flat_map symbols_by m.items) = count_further [] m.items in
      let count : scope.known + length (flat_map symbols_by m.items) ≡ length scope.others = omega (arith, names, whole, known, further) in
      subst (λ (n : ℕ). IsAt (place_behind m m.items) (at scope n)) count
      (stands_at m.items [] (at scope (scope.known + length (flat_map symbols_by m.items))) (stands_behind [] m.items [] scope (append-nil m.items) refl s))

-- ---- the scope of an instance

pub first_grown : (base : Base) (m : ModuleTree) → Grown m 0 (symbols_of m) (first_scope base m)
first_grown base m = record {
  rest = [];
  done = [];
  first = sym (append-nil (variables_of m));
  variables = sym (length-map (declared_names m) (λ (w : Word). w.letters));
  whole = let long = length-map (declared_names m) (λ (w : Word). w.letters) in omega (arith, long);
  known = refl;
  early = omega arith;
  others = none_stand 0;
  all = refl;
  count = refl;
  kinds = λ k meaning is. absurd cc;
}

module _ (base : Base) (m : ModuleTree) where
  abbrev valueless : List Symbol
  valueless = flat_map valueless_by m.items

  abbrev head : List Symbol
  head = symbols_in_head m.parameters

  abbrev whole : List Symbol
  whole = flat_map symbols_by m.items

  -- the names before its first item
  first_names : names_behind m [] ≡ (variables_of m ++ letters_in valueless) ++ letters_in head
  first_names =
      ap (λ (l : List Symbol). variables_of m ++ letters_in (valueless ++ l)) (append-nil head)
      ∙ ap (λ (l : List Text). variables_of m ++ l) (letters_both m valueless head)
      ∙ sym (append_assoc (variables_of m) (letters_in valueless) (letters_in head))

  scope_stands : (scope : Scope) → item_scope base m ≡ Ok scope → Stands m [] m.items scope
  scope_stands scope is =
      let one = then_ok (add_symbols base.overrides (first_scope base m) valueless)
      (λ s. add_symbols base.overrides s head >>= λ h. add_symbols base.overrides h whole >>= λ w. Ok (at w h.known)) scope is in
      let two = then_ok (add_symbols base.overrides one.0 head) (λ h. add_symbols base.overrides h whole >>= λ w. Ok (at w h.known)) scope one.2 in
      let three = then_ok (add_symbols base.overrides two.0 whole) (λ w. Ok (at w two.0.known)) scope two.2 in
      let by_one = symbols_grown base.overrides m 0 (head ++ whole) (first_scope base m) one.0 valueless one.1 (first_grown base m) in
      let firm = firm_behind 0 0 valueless in
      let by_two = subst (λ (n : ℕ). Grown m n whole two.0) (head_keeps firm one.0.known m.parameters) (symbols_grown base.overrides m firm whole one.0 two.0 head two.1 by_one) in
      let left = subst (λ (l : List Symbol). Grown m firm l two.0) (sym (append-nil whole)) by_two in
      let by_three = subst (λ (n : ℕ). Grown m n [] three.0) (items_keep firm two.0.known m.items) (symbols_grown base.overrides m firm [] two.0 three.0 whole three.1 left) in
      let names = names_added base.overrides one.0 two.0 head two.1 ∙ ap (λ (l : List Text). l ++ letters_in head) (names_added base.overrides (first_scope base m) one.0 valueless one.1) in
      let long = ap length (names ∙ sym first_names) in
      let two_whole = by_two.whole in
      let two_known = by_two.known in
      let two_early = by_two.early in
      let two_count = by_two.variables in
      let three_count = by_three.variables in
      let same = same_value (at three.0 two.0.known) scope three.2 in
      subst (Stands m [] m.items) same (record {
        of = record {
          firm = firm;
          names = ap (λ (s : Scope). s.names) same ∙ names_of_scope base m scope is;
          variables = by_three.variables;
          whole = by_three.whole;
          early = omega (arith, long, two_whole, two_known, two_early, two_count, three_count);
          others = by_three.others;
          kinds = more_mean three.0.others by_three.done [] (symbols_of m) by_three.all by_three.kinds;
        };
        items = refl;
        known = omega (arith, long, two_whole, two_known, two_count, three_count);
      })

module _ (part : PartialDesign) (context : Context) where
  pub item_scope_of : (scope : Scope) → lower_names part context ≡ Ok scope → item_scope (base_of part context) context.unit ≡ Ok scope
  item_scope_of scope is =
      let counted = answer_if (has_room part context) TooMany (Some context.name) (item_scope (base_of part context) context.unit) in
      let few = nat_le (length part.variables + length (declared_names context.unit)) 1024 in
      let again = barring_ok (first_again (declared_names context.unit)) Doubled (answer_if few TooMany (Some context.name) counted) scope is in
      (provided_ok (has_room part context) TooMany (Some context.name) (item_scope (base_of part context) context.unit) scope (provided_ok few TooMany (Some context.name) counted scope again.1).1).1

  pub names_stand : (scope : Scope) → lower_names part context ≡ Ok scope → Stands context.unit [] context.unit.items scope
  names_stand scope is = scope_stands (base_of part context) context.unit scope (item_scope_of scope is)

-- ---- what no symbol changes in a scope

module _ {A : Type 0} (view : Scope → A) (keeps : (scope : Scope) (one : Symbol) (meaning : Meaning) → view (with_meaning scope one meaning) ≡ view scope) (keeps_at : (scope : Scope) (known : ℕ) → view (at scope known) ≡ view scope) where
  symbols_keep : (overrides : Overrides) (scope next : Scope) (list : List Symbol) → add_symbols overrides scope list ≡ Ok next → view next ≡ view scope
  symbols_keep overrides scope next [] is = sym (ap view (same_value scope next is))
  symbols_keep overrides scope next (one ∷ more) is =
      let front = then_ok (add_symbol overrides scope one) (λ s. add_symbols overrides s more) next is in
      let made = symbol_makes overrides scope front.0 one front.1 in
      symbols_keep overrides front.0 next more front.2 ∙ sym (ap view made.2) ∙ keeps scope one made.0

  pub scope_keeps : (base : Base) (m : ModuleTree) (scope : Scope) → item_scope base m ≡ Ok scope → view scope ≡ view (first_scope base m)
  scope_keeps base m scope is =
      let valueless = flat_map valueless_by m.items in
      let head = symbols_in_head m.parameters in
      let whole = flat_map symbols_by m.items in
      let one = then_ok (add_symbols base.overrides (first_scope base m) valueless)
      (λ s. add_symbols base.overrides s head >>= λ h. add_symbols base.overrides h whole >>= λ w. Ok (at w h.known)) scope is in
      let two = then_ok (add_symbols base.overrides one.0 head) (λ h. add_symbols base.overrides h whole >>= λ w. Ok (at w h.known)) scope one.2 in
      let three = then_ok (add_symbols base.overrides two.0 whole) (λ w. Ok (at w two.0.known)) scope two.2 in
      sym (ap view (same_value (at three.0 two.0.known) scope three.2))
      ∙ keeps_at three.0 two.0.known
      ∙ symbols_keep base.overrides two.0 three.0 whole three.1
      ∙ symbols_keep base.overrides one.0 two.0 head two.1
      ∙ symbols_keep base.overrides (first_scope base m) one.0 valueless one.1
