-- Faults of the modules' names, of the top and of the whole, and what they say of a text.
use Rattle.std.proofs.Common.{◌≡◌, ◌<◌, ℕ, ◌+◌, length, drop, get_or, List, [], ◌∷◌, ◌++◌, Option, Some, None, true, Result, Ok, Err, IfOk, refl, sym, ap, ◌∙◌}
use Rattle.vwords.specs.Words.{Text}
use Rattle.vast.specs.NumberedWords.{Word}
use Rattle.vast.specs.NumberedModules.{ModuleTree, SourceTree}
use Rattle.basis.specs.declared.memory.OrMemory.{OrMemory}
use Rattle.basis.specs.declared.memory.OrMemory.TheVariants.{Fault, Memory}
use Rattle.basis.specs.declared.timescale.Timescale.{Timescale}
use Rattle.basis.specs.Reasons.{Because, IfFault}
use Rattle.vdesign.specs.Design.{Design, Variable, Scope as Room}
use Rattle.vmodules.specs.Names.{has_double, is_declared, first_again}
use Rattle.vmodules.specs.Connected.{NamedConnection}
use Rattle.vmodules.proofs.NameLemmas.{doubles}
use Rattle.vmodules.specs.Hierarchy.{top_of, module_names, rival_of}
use Rattle.velab_expr.specs.declared.fault.Rule.TheVariants.{Doubled, Top}
use Rattle.velab_expr.specs.declared.fault.ElabFault.{ElabFault}
use Rattle.velab_expr.specs.Answers.{◌>>=◌, value_or_fault, fault_of, Refuses, Gives}
use Rattle.velab_expr.specs.Rules.{fault_at, broken_at, IsBroken}
use Rattle.velab_expr.proofs.ListLemmas.{drop_at}
use Rattle.velab_expr.proofs.AnswerLemmas.{still_refused}
use Rattle.velab_declaration.specs.Drives.{Place, start_of, with_start_values}
use Rattle.velab_declaration.specs.DriveMarks.{starts_from}
use Rattle.vhierarchy.proofs.StepLemmas.{barred, first_refused}
use Rattle.vhierarchy.specs.Instances.{unless_word, value_unless_fault, PartialDesign, Context, nothing, top_context, elaborate_instance, elaborate_top, design_by, broken_design, Whole, check, whole_of, broken_ports, unless_fault, top_whole, elaborated_whole, as_design, elaborated, Elaborates}
use Rattle.vhierarchy.specs.Reasons.{IsDesignReason, IsOnlyDesign, HasNoDesign}
use Rattle.vhierarchy.specs.Inner.{variable_names, scope_names, with_starts}

-- a path that stands before stands twice among all
pub paths_again : (list : List Variable) (i : ℕ) (v : Variable) (names all : List Text) → i < length list → v ≡ get_or list i v → names ++ variable_names (drop i list) ≡ all →
    is_declared names v.name ≡ true → has_double all ≡ true
paths_again list i v names all within at same =
    doubles names (variable_names (drop (i + 1) list)) all v.name (ap (λ (vs : List Variable). names ++ variable_names vs) (sym (drop_at list i v within at)) ∙ same)

pub scopes_again : (list : List Room) (i : ℕ) (s : Room) (names all : List Text) → i < length list → s ≡ get_or list i s → names ++ scope_names (drop i list) ≡ all →
    is_declared names s.path ≡ true → has_double all ≡ true
scopes_again list i s names all within at same =
    doubles names (scope_names (drop (i + 1) list)) all s.path (ap (λ (ss : List Room). names ++ scope_names ss) (sym (drop_at list i s within at)) ∙ same)

-- variables with what each is at first are what a design has
pub all_started : (driven : List Place) (n : ℕ) (vs : List Variable) → with_starts vs (starts_from driven n vs) ≡ with_start_values driven n vs
all_started driven n [] = refl
all_started driven n (v ∷ more) = ap (λ (l : List Variable). record v { start = start_of driven n v } ∷ l) (all_started driven (n + 1) more)

-- ---- the whole

module _ (modules : SourceTree) (m : ModuleTree) (levels : ℕ) (part : PartialDesign) (context : Context) (deep : levels ≡ 16) (empty : part ≡ nothing) (is_top : context ≡ top_context m) where
  pub top_elaborated : elaborate_instance levels modules part context ≡ elaborate_top modules m
  unfolding elaborate_top
  top_elaborated = λ i. elaborate_instance (deep i) modules (empty i) (is_top i)

-- the top, told of the program's values
pub top_is : (m : ModuleTree) (name : Text) (names : List Text) (connections : List NamedConnection) → name ≡ m.name.letters → names ≡ [] → connections ≡ [] →
    record {
      top = name;
      path = name;
      name = m.name;
      depth = 0;
      unit = m;
      overrides = record { scope = record { top = []; names = names; first = 0; variables = 0; events = 0; others = []; known = 0 }; values = connections };
      connections = connections;
    } ≡ top_context m
top_is m name names connections named none nothing_tied = λ i. record {
  top = named i;
  path = named i;
  name = m.name;
  depth = 0;
  unit = m;
  overrides = record { scope = record { top = []; names = none i; first = 0; variables = 0; events = 0; others = []; known = 0 }; values = nothing_tied i };
  connections = nothing_tied i;
}

-- what is broken of it is told, and nothing where none is
module _ (scale : Timescale) (m : ModuleTree) (part : PartialDesign) where
  pub wrong : (e : OrMemory ElabFault) → Because (IsBroken (broken_design m.name part)) e → Refuses e (as_design scale (check m part))
  wrong (Fault fault) h = ap (λ (b : Option ElabFault). as_design scale (value_unless_fault b (record { unit = m; part = part }))) h
  wrong (Memory memory) h = tt

  -- of the top
  module _ (modules : SourceTree) where
    pub top_wrong : (e : OrMemory ElabFault) → Refuses e (elaborate_top modules m) → Refuses e (as_design scale (whole_of modules m))
    top_wrong = still_refused (elaborate_top modules m) (as_design scale (whole_of modules m)) (λ fault is. ap (λ (r : Result PartialDesign ElabFault). as_design scale (r >>= λ p. check m p)) is)

    pub top_sound : elaborate_top modules m ≡ Ok part → as_design scale (whole_of modules m) ≡ as_design scale (check m part)
    top_sound is = ap (λ (r : Result PartialDesign ElabFault). as_design scale (r >>= λ p. check m p)) is

-- ---- the text

-- where no two modules have one name
module _ (tree : SourceTree) (top : Option Text) (scale : Timescale) where
  pub modules_doubled : (e : OrMemory ElabFault) → Because (IsBroken (broken_at Doubled (first_again (module_names tree)))) e → Refuses e (elaborated tree top scale)
  modules_doubled e h = first_refused (elaborated_whole tree top) (λ whole. Ok (design_by scale whole.unit whole.part)) e (barred Doubled (first_again (module_names tree)) _ e h)

  module _ (differ : first_again (module_names tree) ≡ None) where
    ports_first : elaborated tree top scale ≡ as_design scale (unless_fault (broken_ports tree) (top_whole tree top))
    ports_first = ap (λ (w : Option Word). as_design scale (unless_word w Doubled (unless_fault (broken_ports tree) (top_whole tree top)))) differ

    pub ports_broken : (e : OrMemory ElabFault) → Because (IsBroken (broken_ports tree)) e → Refuses e (elaborated tree top scale)
    ports_broken (Fault fault) h = ports_first ∙ ap (λ (b : Option ElabFault). as_design scale (unless_fault b (top_whole tree top))) h
    ports_broken (Memory memory) h = tt

    pub ports_sound : broken_ports tree ≡ None → elaborated tree top scale ≡ as_design scale (top_whole tree top)
    ports_sound none = ports_first ∙ ap (λ (b : Option ElabFault). as_design scale (unless_fault b (top_whole tree top))) none

  abbrev with_top : Option ModuleTree → Result Design ElabFault
  with_top unit = as_design scale (value_or_fault unit Top (rival_of tree top) >>= λ m. whole_of tree m)

  pub top_missing : top_of tree top ≡ None → as_design scale (top_whole tree top) ≡ Err (fault_at Top (rival_of tree top))
  top_missing is = ap (λ (u : Option ModuleTree). with_top u) is

  pub top_found : (m : ModuleTree) → top_of tree top ≡ Some m → as_design scale (top_whole tree top) ≡ as_design scale (whole_of tree m)
  top_found m is = ap (λ (u : Option ModuleTree). with_top u) is

-- ---- what an answer says

pub one_design : (tree : SourceTree) (top : Option Text) (scale : Timescale) (design other : Design) →
    Elaborates tree top scale design → Elaborates tree top scale other → design ≡ other
one_design tree top scale design other d e = given_once (elaborated tree top scale) design other d e
  where
    given_once : (answer : Result Design ElabFault) (x y : Design) → answer ≡ Ok x → answer ≡ Ok y → x ≡ y
    given_once (Ok z) x y first second = cc
    given_once (Err fault) x y first second = absurd cc

module _ (scale : Timescale) where
  told_fault : (answer : Result Whole ElabFault) (fault : ElabFault) → as_design scale answer ≡ Err fault → fault_of answer ≡ Some fault
  told_fault (Ok whole) fault is = absurd cc
  told_fault (Err other) fault is = let same : other ≡ fault = cc in ap Some same

  no_other : (answer : Result Whole ElabFault) (fault : ElabFault) → as_design scale answer ≡ Err fault → (other : Timescale) (design : Design) → as_design other answer ≡ Ok design → ⊥
  no_other (Ok whole) fault is other design also = cc
  no_other (Err f) fault is other design also = cc

module _ (tree : SourceTree) (top : Option Text) (scale : Timescale) where
  pub says_design : (result : Result Design (OrMemory ElabFault)) → Gives result (elaborated tree top scale) → IfOk result (Elaborates tree top scale)
  says_design (Ok design) h = h
  says_design (Err e) h = tt

  pub says_only : (result : Result Design (OrMemory ElabFault)) → Gives result (elaborated tree top scale) → IfOk result (IsOnlyDesign tree top scale)
  says_only (Ok design) h = λ other also. one_design tree top scale other design also h
  says_only (Err e) h = tt

  pub says_reason : (result : Result Design (OrMemory ElabFault)) → Gives result (elaborated tree top scale) → IfFault result (IsDesignReason tree top)
  says_reason (Ok design) h = tt
  says_reason (Err (Fault fault)) h = told_fault scale (elaborated_whole tree top) fault h
  says_reason (Err (Memory m)) h = tt

  pub says_none : (result : Result Design (OrMemory ElabFault)) → Gives result (elaborated tree top scale) → IfFault result (λ fault. HasNoDesign tree top)
  says_none (Ok design) h = tt
  says_none (Err (Fault fault)) h = no_other scale (elaborated_whole tree top) fault h
  says_none (Err (Memory m)) h = tt
