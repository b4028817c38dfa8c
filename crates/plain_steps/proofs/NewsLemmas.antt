-- What wakes by a step: the tests of what is told of it are those of the values before and after it.
use Rattle.std.proofs.Common.{◌≡◌, ◌≢◌, ℕ, zero, suc, ◌<◌, ◌≤◌, Bool, true, false, ◌==◌, ◌&&◌, ◌||◌, cond, List, [], ◌∷◌, map, length, Option, Some, None, refl, sym, ap, ◌∙◌, arith}
use Rattle.std.specs.Prelude.{slice_get, slice_set, slice_index_or}
use Rattle.std.proofs.lemmas.Bool.Decides.{nat_tests}
use Rattle.vbits.specs.Vectors.{Vector}
use Rattle.vdesign.specs.Design.{Design}
use Rattle.vdesign.specs.declared.action.Edge.{Edge}
use Rattle.vdesign.specs.declared.action.Term.{Term}
use Rattle.vdesign.specs.declared.action.Term.TheVariants.{Change as ChangeTerm, Event}
use Rattle.vdesign.specs.declared.action.Action.{Action}
use Rattle.vdesign.specs.declared.action.Action.TheVariants.{Assign, Nonblocking, AssignDelayed, NonblockingDelayed, Trigger, Test, Case, While, Repeat, Forever, Delay, EventControl, Wait, ContinuousAssign, Print, DumpVars, Dump, NoOperation, Finish, Stop}
use Rattle.vmodel.specs.declared.values.Change.{Change}
use Rattle.vmodel.specs.Queue.{with_process}
use Rattle.vmodel.specs.State.{Process, State}
use Rattle.vmodel.specs.Step.{with_woken}
use Rattle.vmodel.specs.Parts.{value_in}
use Rattle.vmodel.specs.Waking.{is_edge, hears, any_hears, has_come, wakes_at, wakes, awake, with_awake}
use Rattle.plain_steps.specs.declared.waking.Changes.{Changes}
use Rattle.plain_steps.specs.declared.waking.Changes.TheVariants.{One, Many}
use Rattle.plain_steps.specs.declared.waking.News.{News}
use Rattle.vmodel.specs.InnerWaking.{Differ}
use Rattle.plain_steps.specs.InnerNews.{AreChanges, changes_so, hears_of, any_hears_of, comes_by, comes_at, comes}
use Rattle.vmodel.proofs.WakingLemmas.{edge_none}

-- ---- no change is heard

none_hears_one : (values : List Vector) (term : Term) → hears values values None term ≡ false
none_hears_one values (ChangeTerm edge variable) = let v = value_in values variable in edge_none edge v v refl
none_hears_one values (Event event) = refl

none_hears : (values : List Vector) (terms : List Term) → any_hears values values None terms ≡ false
none_hears values [] = refl
none_hears values (term ∷ terms) =
    ap (λ b. b || any_hears values values None terms) (none_hears_one values term) ∙ none_hears values terms

none_comes : (values : List Vector) (action : Option Action) → has_come action values values None ≡ false
none_comes values None = refl
none_comes values (Some (EventControl terms body)) = none_hears values terms
none_comes values (Some (Assign targets value)) = refl
none_comes values (Some (Nonblocking targets value)) = refl
none_comes values (Some (AssignDelayed amount targets value)) = refl
none_comes values (Some (NonblockingDelayed amount targets value)) = refl
none_comes values (Some (Trigger event)) = refl
none_comes values (Some (Test condition when_true otherwise)) = refl
none_comes values (Some (While condition body)) = refl
none_comes values (Some (Forever body)) = refl
none_comes values (Some (Delay amount body)) = refl
none_comes values (Some (Wait condition terms body)) = none_hears values terms
none_comes values (Some (Case kind value branches otherwise)) = refl
none_comes values (Some (Repeat count body)) = refl
none_comes values (Some (ContinuousAssign targets value terms)) = none_hears values terms
none_comes values (Some (Print when pieces)) = refl
none_comes values (Some (DumpVars selection)) = refl
none_comes values (Some (Dump switch)) = refl
none_comes values (Some NoOperation) = refl
none_comes values (Some Finish) = refl
none_comes values (Some Stop) = refl

none_wakes_at : (actions : List Action) (values : List Vector) (waits : Option ℕ) → wakes_at actions values values None waits ≡ false
none_wakes_at actions values None = refl
none_wakes_at actions values (Some place) = none_comes values (slice_get actions place)

awake_none : (comes : Process → Bool) (ps : List Process) → ((process : Process) → comes process ≡ false) → map (awake comes) ps ≡ ps
awake_none comes [] h = refl
awake_none comes (process ∷ rest) h =
    ap (λ b. cond b (record process { waits = None }) process ∷ map (awake comes) rest) (h process)
    ∙ ap (λ ps. process ∷ ps) (awake_none comes rest h)

with_awake_none : (comes : Process → Bool) (n : ℕ) (ps : List Process) (active : List ℕ) → ((process : Process) → comes process ≡ false) → with_awake comes n ps active ≡ active
with_awake_none comes n [] active h = refl
with_awake_none comes n (process ∷ rest) active h =
    ap (λ b. with_awake comes (suc n) rest (cond b (with_process n active) active)) (h process) ∙ with_awake_none comes (suc n) rest active h

pub woken_none : (design : Design) (s : State) → s ≡ with_woken design s.values None s
woken_none design s =
    let comes = wakes design.actions s.values s.values None in
    let no : (process : Process) → comes process ≡ false = λ process. none_wakes_at design.actions s.values process.waits in
    λ i. record s {
      processes = sym (awake_none comes s.processes no) i;
      queue = record s.queue { active = sym (with_awake_none comes 0 s.processes s.queue.active no) i };
    }

-- ---- a change of one variable

changes_by : (change : Change) (before after : List Vector) (edge : Edge) (variable : ℕ) → Differ change before after → (b : Bool) → (variable == change.variable) ≡ b →
    is_edge edge (value_in before variable) (value_in after variable) ≡ (b && is_edge edge change.old change.new)
changes_by change before after edge variable d true is =
    let same : variable ≡ change.variable = grind (arith, nat_tests) in
    ap (λ n. is_edge edge (value_in before n) (value_in after n)) same
    ∙ ap (λ v. is_edge edge v (value_in after change.variable)) d.old
    ∙ ap (is_edge edge change.old) d.new
changes_by change before after edge variable d false isnt =
    let other : variable ≢ change.variable = grind (arith, nat_tests) in
    edge_none edge (value_in before variable) (value_in after variable) (d.others variable other)

changes_are : (change : Changes) (before after : List Vector) (edge : Edge) (variable : ℕ) → AreChanges change before after →
    is_edge edge (value_in before variable) (value_in after variable) ≡ changes_so change edge variable
changes_are (One change) before after edge variable d = changes_by change before after edge variable d (variable == change.variable) refl
changes_are (Many values parts) before after edge variable d = λ i. is_edge edge (value_in (d.0 i) variable) (value_in (d.1 i) variable)

-- ---- what a step tells

module _ (news : News) (before after : List Vector) (d : AreChanges news.changes before after) where
  hears_is : (term : Term) → hears before after news.triggered term ≡ hears_of news term
  hears_is (ChangeTerm edge variable) = changes_are news.changes before after edge variable d
  hears_is (Event event) = refl

  any_is : (terms : List Term) → any_hears before after news.triggered terms ≡ any_hears_of news terms
  any_is [] = refl
  any_is (term ∷ terms) =
      ap (λ b. b || any_hears before after news.triggered terms) (hears_is term)
      ∙ ap (λ b. hears_of news term || b) (any_is terms)

  comes_is_by : (action : Option Action) → has_come action before after news.triggered ≡ comes_by news action
  comes_is_by None = refl
  comes_is_by (Some (EventControl terms body)) = any_is terms
  comes_is_by (Some (Assign targets value)) = refl
  comes_is_by (Some (Nonblocking targets value)) = refl
  comes_is_by (Some (AssignDelayed amount targets value)) = refl
  comes_is_by (Some (NonblockingDelayed amount targets value)) = refl
  comes_is_by (Some (Trigger event)) = refl
  comes_is_by (Some (Test condition when_true otherwise)) = refl
  comes_is_by (Some (While condition body)) = refl
  comes_is_by (Some (Forever body)) = refl
  comes_is_by (Some (Delay amount body)) = refl
  comes_is_by (Some (Wait condition terms body)) = any_is terms
  comes_is_by (Some (Case kind value branches otherwise)) = refl
  comes_is_by (Some (Repeat count body)) = refl
  comes_is_by (Some (ContinuousAssign targets value terms)) = any_is terms
  comes_is_by (Some (Print when pieces)) = refl
  comes_is_by (Some (DumpVars selection)) = refl
  comes_is_by (Some (Dump switch)) = refl
  comes_is_by (Some NoOperation) = refl
  comes_is_by (Some Finish) = refl
  comes_is_by (Some Stop) = refl

  comes_is_at : (actions : List Action) (waits : Option ℕ) → wakes_at actions before after news.triggered waits ≡ comes_at actions news waits
  comes_is_at actions None = refl
  comes_is_at actions (Some place) = comes_is_by (slice_get actions place)

pub comes_is : (actions : List Action) (news : News) (before after : List Vector) → AreChanges news.changes before after →
    wakes actions before after news.triggered ≡ comes actions news
comes_is actions news before after d = λ i process. comes_is_at news before after d actions process.waits i

-- ---- the first so many woken

abbrev pub awake_to : (Process → Bool) → ℕ → List Process → List Process
awake_to comes zero ps = ps
awake_to comes (suc n) [] = []
awake_to comes (suc n) (process ∷ rest) = awake comes process ∷ awake_to comes n rest

pub awake_step : (comes : Process → Bool) (n : ℕ) (ps : List Process) (old new d : Process) → n < length (awake_to comes n ps) →
    old ≡ slice_index_or (awake_to comes n ps) n d → new ≡ awake comes old → slice_set (awake_to comes n ps) n new ≡ awake_to comes (suc n) ps
awake_step comes zero [] old new d lt e is = absurd (omega (arith, lt))
awake_step comes (suc n) [] old new d lt e is = absurd (omega (arith, lt))
awake_step comes zero (process ∷ rest) old new d lt e is = ap (λ p. p ∷ rest) (is ∙ ap (awake comes) e)
awake_step comes (suc n) (process ∷ rest) old new d lt e is =
    ap (λ ps. awake comes process ∷ ps) (awake_step comes n rest old new d (omega (arith, lt)) e is)

pub awake_all : (comes : Process → Bool) (n : ℕ) (ps : List Process) → length ps ≤ n → awake_to comes n ps ≡ map (awake comes) ps
awake_all comes zero [] le = refl
awake_all comes (suc n) [] le = refl
awake_all comes zero (process ∷ rest) le = absurd (omega (arith, le))
awake_all comes (suc n) (process ∷ rest) le = ap (λ ps. awake comes process ∷ ps) (awake_all comes n rest (omega (arith, le)))

-- a turn of the loop that wakes them one by one
pub awake_turn : (comes : Process → Bool) (items ps : List Process) (n next : ℕ) (old new : Process) → n < length ps → length items ≡ length ps → next ≡ suc n →
    items ≡ awake_to comes n ps → new ≡ awake comes (slice_index_or items n old) → slice_set items n new ≡ awake_to comes next ps
awake_turn comes items ps n next old new lt len more so_far is =
    let here : n < length (awake_to comes n ps) = omega (arith, lt, len, ap length so_far) in
    ap (λ xs. slice_set xs n new) so_far
    ∙ awake_step comes n ps (slice_index_or (awake_to comes n ps) n old) new old here refl (is ∙ ap (λ xs. awake comes (slice_index_or xs n old)) so_far)
    ∙ ap (λ m. awake_to comes m ps) (sym more)
