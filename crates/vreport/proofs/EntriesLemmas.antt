-- The entries of a machine's exploration are entries of the rules of its setting.
use Rattle.std.proofs.Common.{◌≡◌, ℕ, ◌<◌, ◌≤◌, ◌==◌, ◌||◌, Bool, true, false, not, slice_get, map, Some, refl, sym, ap, ◌∙◌, subst}
use Rattle.std.proofs.lemmas.List.{length-map}
use Rattle.basis.proofs.Lists.{of_mapped}
use Rattle.sched_core.specs.Rules.{stands}
use Rattle.statebook.specs.ExplorerCore.{IsEntry}
use Rattle.statebook.specs.declared.entry.Entry.{Entry}
use Rattle.statebook.specs.declared.limits.Limits.{Limits}
use Rattle.explore.specs.Found.{HasEntries}
use Rattle.vmodel.specs.State.{State}
use Rattle.vmodel.specs.Run.{Setting, opening_of, rules_of, state_after}
use Rattle.vmodel.specs.RunProgress.{opening_is}
use Rattle.vmodel.specs.RulesLaws.{lawful}
use Rattle.vmodel.specs.SameLaws.{states_tell}
use Rattle.vmachine.specs.declared.machine_state.MachineState.{MachineState}
use Rattle.vmachine.specs.Machines.{Stands, machine_rules}
use Rattle.vreport.proofs.EndLemmas.{Alike, AllStand, RunThere}

-- what the law of machines says of a setting
pub record KnowsMachine (setting : Setting) : Type 0 where
  pub there : RunThere setting
  pub alike : Alike setting
  pub all : AllStand setting
  pub first : Stands setting (machine_rules setting).first (opening_of setting)
  pub width : (s : MachineState) (t : State) → Stands setting s t → (machine_rules setting).width s ≡ (rules_of setting).width t
  pub mark : (s : MachineState) (t : State) → Stands setting s t → (machine_rules setting).mark s ≡ (rules_of setting).mark t
  pub one : (s r : MachineState) (t : State) → Stands setting s t → Stands setting r t → (machine_rules setting).same s r ≡ true
  pub only : (s : MachineState) (t u : State) → Stands setting s t → Stands setting s u → t ≡ u

same_is : (setting : Setting) (s t : State) → (rules_of setting).same s t ≡ true → s ≡ t
unfolding rules_of
same_is setting s t e = (states_tell s t).0 e

either : (a b c d : Bool) → (a ≡ true → c ≡ true) → (b ≡ true → d ≡ true) → (a || b) ≡ true → (c || d) ≡ true
either true b true d f g e = refl
either true b false d f g e = absurd (false_not_true (f refl))
  where
    false_not_true : false ≡ true → ⊥
    false_not_true h = absurd (cc)
either false true true d f g e = refl
either false true false d f g e = g refl
either false false c d f g e = absurd (cc)

module _ (setting : Setting) (known : KnowsMachine setting) where
  -- the state that the entry's run comes to
  abbrev pub moved : Entry MachineState → Entry State
  moved e = record { state = state_after setting e.log e.steps; budget = e.budget; log = e.log; steps = e.steps }

  module _ (k limit : ℕ) (e : Entry MachineState) (is : IsEntry (machine_rules setting) k limit e) where
    pub stands_there : Stands setting e.state (state_after setting e.log e.steps)
    stands_there = known.alike (stands (machine_rules setting) e.log e.steps) e.state (state_after setting e.log e.steps) (known.all e.log e.steps) is.at

    at_first : (machine_rules setting).same e.state (machine_rules setting).first ≡ true → (rules_of setting).same (state_after setting e.log e.steps) (rules_of setting).first ≡ true
    at_first same =
        let there : Stands setting e.state (opening_of setting) = known.alike (machine_rules setting).first e.state (opening_of setting) known.first same in
        let equal : state_after setting e.log e.steps ≡ opening_of setting = known.only e.state (state_after setting e.log e.steps) (opening_of setting) stands_there there in
        subst (λ (s : State). (rules_of setting).same (state_after setting e.log e.steps) s ≡ true) (equal ∙ sym (opening_is setting))
        ((lawful setting).reflexive (state_after setting e.log e.steps))

    stops : (not ((machine_rules setting).width e.state == 1) || (machine_rules setting).mark e.state) ≡ true →
        (not ((rules_of setting).width (state_after setting e.log e.steps) == 1) || (rules_of setting).mark (state_after setting e.log e.steps)) ≡ true
    stops p =
        subst (λ (m : Bool). (not ((rules_of setting).width (state_after setting e.log e.steps) == 1) || m) ≡ true)
        (known.mark e.state (state_after setting e.log e.steps) stands_there)
        (subst (λ (w : ℕ). (not (w == 1) || (machine_rules setting).mark e.state) ≡ true)
        (known.width e.state (state_after setting e.log e.steps) stands_there) p)

    pub moved_entry : IsEntry (rules_of setting) k limit (moved e)
    moved_entry = record {
      run = known.there e.log e.steps is.run;
      at = (lawful setting).reflexive (state_after setting e.log e.steps);
      station = either _ _ _ _ at_first stops is.station;
      within = is.within;
      log = is.log;
      names = is.names;
      budget = is.budget;
    }

  -- as many of them
  pub moved_entries : (limits : Limits) → HasEntries (machine_rules setting) limits → HasEntries (rules_of setting) limits
  moved_entries limits has = record {
    entries = map moved has.entries;
    count = subst (λ (n : ℕ). limits.entries ≤ n) (sym (length-map has.entries moved)) has.count;
    allowed = λ i e at. (let from = of_mapped moved has.entries i e at in
        subst (IsEntry (rules_of setting) limits.depart limits.steps) from.2 (moved_entry limits.depart limits.steps from.0 (has.allowed i from.0 from.1)));
    differ = λ i j e f before at_e at_f same budgets. (let one = of_mapped moved has.entries i e at_e in let other = of_mapped moved has.entries j f at_f in
        differs i j one.0 other.0 before one.1 other.1
        (subst (λ (x : Entry State). (rules_of setting).same (moved one.0).state x.state ≡ true) (sym other.2) (subst (λ (x : Entry State). (rules_of setting).same x.state f.state ≡ true) (sym one.2) same))
        (ap (λ (x : Entry State). x.budget) one.2 ∙ budgets ∙ sym (ap (λ (x : Entry State). x.budget) other.2)));
  }
    where
      differs : (i j : ℕ) (e f : Entry MachineState) → i < j → slice_get has.entries i ≡ Some e → slice_get has.entries j ≡ Some f →
          (rules_of setting).same (moved e).state (moved f).state ≡ true → e.budget ≡ f.budget → ⊥
      differs i j e f before at_e at_f same budgets =
          let equal : (moved e).state ≡ (moved f).state = same_is setting (moved e).state (moved f).state same in
          let here : Stands setting e.state (moved f).state = subst (Stands setting e.state) equal (stands_there limits.depart limits.steps e (has.allowed i e at_e)) in
          has.differ i j e f before at_e at_f
          (known.one e.state f.state (moved f).state here (stands_there limits.depart limits.steps f (has.allowed j f at_f))) budgets
