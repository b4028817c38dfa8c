-- Paths of `$dumpvars` in a finished table: where no selection is broken each is a scope or a variable, and where one is unknown one is neither.
use Rattle.std.proofs.Common.{◌≡◌, Bool, true, false, ◌&&◌, ◌||◌, if◌then◌else◌, List, [], ◌∷◌, map, drop, slice_get, ℕ, Option, None, Some, refl, sym, ap, subst, ◌∙◌}
use Rattle.std.specs.Prelude.{option_map, unwrap_or}
use Rattle.std.specs.List.{list_all, flat_map}
use Rattle.std.specs.Option.{option_or}
use Rattle.std.proofs.lemmas.List.Folds.{list_all-append}
use Rattle.basis.proofs.Bools.{and_both}
use Rattle.vwords.specs.Words.{Text}
use Rattle.vmodules.specs.Names.{is_declared}
use Rattle.vdesign.specs.declared.action.Action.{Action}
use Rattle.vdesign.specs.declared.action.Action.TheVariants.{Assign, Nonblocking, AssignDelayed, NonblockingDelayed, Trigger, Test, Case, While, Repeat, Forever, Delay, EventControl, Wait, ContinuousAssign, Print, DumpVars, Dump, NoOperation, Finish, Stop}
use Rattle.vdesign.specs.declared.dump.Chosen.{Chosen}
use Rattle.velab_expr.specs.declared.fault.Rule.{Rule}
use Rattle.velab_expr.specs.declared.fault.Rule.TheVariants.{Unknown, Kind}
use Rattle.velab_expr.specs.declared.fault.ElabFault.{ElabFault}
use Rattle.velab_declaration.specs.ActionFlaws.{table_fault}
use Rattle.vhierarchy.specs.Instances.{broken_path, broken_chosen, broken_selection}
use Rattle.elaboration_law.proofs.UseLemmas.{first_false, second_false}
use Rattle.elaboration_law.proofs.KnownUses.{is_unknown}
use Rattle.elaboration_law.proofs.DumpUses.{dumped_by}

-- nothing is told only where it holds, and what is unknown only where it doesn't
abbrev pub JudgesIf : {A : Type 0} → (A → Bool) → Bool → Option A → Type 0
JudgesIf unknown holds None = holds ≡ true
JudgesIf unknown holds (Some x) = unknown x ≡ true → holds ≡ false

module _ {A : Type 0} (unknown : A → Bool) where
  pub or_judged : (one other : Bool) (a b : Option A) → JudgesIf unknown one a → JudgesIf unknown other b → JudgesIf unknown (one && other) (option_or a b)
  or_judged one other None None h k = and_both one other h k
  or_judged one other None (Some x) h k = λ e. second_false one other (k e)
  or_judged one other (Some x) b h k = λ e. first_false one other (h e)

-- a test of each path, which is told by a rule where it isn't passed
module _ (asked : Rule → Bool) (scopes variables : List Text) (test : Text → Bool) (each : (path : Text) → JudgesIf asked (test path) (broken_path scopes variables path)) where
  chosen_judged : (list : List Chosen) → JudgesIf asked (list_all test (map (λ (c : Chosen). c.path) list)) (broken_chosen scopes variables list)
  chosen_judged [] = refl
  chosen_judged (one ∷ more) =
      or_judged asked (test one.path) (list_all test (map (λ (c : Chosen). c.path) more)) (broken_path scopes variables one.path) (broken_chosen scopes variables more) (each one.path) (chosen_judged more)

  selection_judged : (action : Action) → JudgesIf asked (list_all test (dumped_by action)) (broken_selection scopes variables action)
  selection_judged (DumpVars selection) = chosen_judged selection
  selection_judged (Assign targets value) = refl
  selection_judged (Nonblocking targets value) = refl
  selection_judged (AssignDelayed amount targets value) = refl
  selection_judged (NonblockingDelayed amount targets value) = refl
  selection_judged (Trigger number) = refl
  selection_judged (Test condition when_true otherwise) = refl
  selection_judged (Case kind value branches otherwise) = refl
  selection_judged (While condition body) = refl
  selection_judged (Repeat count body) = refl
  selection_judged (Forever body) = refl
  selection_judged (Delay amount body) = refl
  selection_judged (EventControl terms body) = refl
  selection_judged (Wait condition terms body) = refl
  selection_judged (ContinuousAssign targets value terms) = refl
  selection_judged (Print when pieces) = refl
  selection_judged (Dump command) = refl
  selection_judged NoOperation = refl
  selection_judged Finish = refl
  selection_judged Stop = refl

-- a whole table, where this is asked of each action
pub rules_judged : (asked : Rule → Bool) (rule : Action → Option Rule) (test : Action → Bool) → ((action : Action) → JudgesIf asked (test action) (rule action)) → (actions : List Action) (words : List (Option ℕ)) →
    JudgesIf (λ (f : ElabFault). asked f.rule) (list_all test actions) (table_fault rule actions words)
rules_judged asked rule test each [] words = refl
rules_judged asked rule test each (action ∷ more) words =
    or_judged (λ (f : ElabFault). asked f.rule) (test action) (list_all test more) (option_map (λ r. record { rule = r; at = unwrap_or (slice_get words 0) None }) (rule action)) (table_fault rule more (drop 1 words))
    (by (test action) (rule action) (each action)) (rules_judged asked rule test each more (drop 1 words))
  where
    by : (holds : Bool) (told : Option Rule) → JudgesIf asked holds told → JudgesIf (λ (f : ElabFault). asked f.rule) holds (option_map (λ r. record { rule = r; at = unwrap_or (slice_get words 0) None }) told)
    by holds None h = h
    by holds (Some r) h = h

all_dumped : (test : Text → Bool) (actions : List Action) → list_all (λ action. list_all test (dumped_by action)) actions ≡ list_all test (flat_map dumped_by actions)
all_dumped test [] = refl
all_dumped test (action ∷ more) = ap (λ (b : Bool). list_all test (dumped_by action) && b) (all_dumped test more) ∙ sym (list_all-append test (dumped_by action) (flat_map dumped_by more))

pub table_judged : (asked : Rule → Bool) (scopes variables : List Text) (test : Text → Bool) → ((path : Text) → JudgesIf asked (test path) (broken_path scopes variables path)) → (actions : List Action) (words : List (Option ℕ)) →
    JudgesIf (λ (f : ElabFault). asked f.rule) (list_all test (flat_map dumped_by actions)) (table_fault (broken_selection scopes variables) actions words)
table_judged asked scopes variables test each actions words =
    subst (λ (b : Bool). JudgesIf (λ (f : ElabFault). asked f.rule) b (table_fault (broken_selection scopes variables) actions words)) (all_dumped test actions)
    (rules_judged asked (broken_selection scopes variables) (λ action. list_all test (dumped_by action)) (selection_judged asked scopes variables test each) actions words)

-- a scope, or a variable
abbrev pub is_something : List Text → List Text → Text → Bool
is_something scopes variables path = is_declared scopes path || is_declared variables path

pub path_judged : (scopes variables : List Text) (path : Text) → JudgesIf is_unknown (is_something scopes variables path) (broken_path scopes variables path)
path_judged scopes variables path = by (is_declared scopes path) (is_declared variables path)
  where
    by : (s v : Bool) → JudgesIf is_unknown (s || v) (if s then None else Some (if v then Kind else Unknown))
    by true v = refl
    by false true = λ e. absurd cc
    by false false = λ e. refl
