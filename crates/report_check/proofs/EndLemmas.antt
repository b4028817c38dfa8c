-- A run of a machine that ends, and the end that is told of it.
use Rattle.std.proofs.Common.{◌≡◌, ℕ, ◌≤◌, Bool, true, List, Result, Ok, Err, IfOk, Decides, Some, refl, sym, ap, ◌∙◌, subst}
use Rattle.sched_core.specs.Rules.{stands}
use Rattle.sched_core.specs.Replay.{EndsAfter}
use Rattle.vmodel.specs.State.{State}
use Rattle.vmodel.specs.Run.{Setting, rules_of, state_after, end_of, history_after}
use Rattle.vmodel.specs.RunProgress.{width_is}
use Rattle.vmachine.specs.declared.machine_state.MachineState.{MachineState}
use Rattle.vmachine.specs.Machines.{Stands, machine_rules}
use Rattle.report_text.specs.Report.{End as ReportEnd}
use Rattle.vcd_text.specs.DumpText.{vcd}
use Rattle.vreport.specs.Dumps.{HasDump}
use Rattle.vreport.specs.Ends.{IsEndAfter}
use Rattle.vreport.specs.RunLaws.{same_end}
use Rattle.vreport.proofs.DumpLemmas.{the_dump}
use Rattle.racebook.proofs.InTimeLemmas.{told_where_ended}
use Rattle.vreport.proofs.EndLemmas.{Alike, AllStand, RunThere, ended}
use Rattle.vreport.proofs.WholeLemmas.{RunHere}
use Rattle.report_check.specs.Inner.{EndsSo, IsToldAt, TellsStanding}

abbrev pub WidthAlike : Setting → Type 0
WidthAlike setting = (s : MachineState) (t : State) → Stands setting s t → (machine_rules setting).width s ≡ (rules_of setting).width t

-- the run has a dump
pub so_has_dump : (setting : Setting) (limit : ℕ) (end : ReportEnd) (log : List (ℕ × ℕ)) → log ≡ end.log → EndsSo setting limit end → HasDump setting log limit
so_has_dump setting limit end log is so = subst (λ (l : List (ℕ × ℕ)). HasDump setting l limit) (sym is) (
  vcd setting.design (history_after setting end.log so.steps),
  the_dump setting end.log limit so.steps (end_of (state_after setting end.log so.steps)) (record { within = so.within; ends = so.after.ends; end_is = refl }),
)

module _ (setting : Setting) (alike : Alike setting) (all : AllStand setting) (there : RunThere setting) (here : RunHere setting) (wide : WidthAlike setting) (limit : ℕ) (end : ReportEnd) where
  ends_there : (n : ℕ) → EndsAfter (machine_rules setting) end.log n → EndsAfter (rules_of setting) end.log n
  ends_there n ends = record {
    run = there end.log n ends.run;
    end = sym (wide (stands (machine_rules setting) end.log n) (state_after setting end.log n) (all end.log n)) ∙ ends.end;
    names = ends.names;
  }

  pub ends_here : (n : ℕ) → EndsAfter (rules_of setting) end.log n → EndsAfter (machine_rules setting) end.log n
  ends_here n ends = record {
    run = here end.log n ends.run;
    end = wide (stands (machine_rules setting) end.log n) (state_after setting end.log n) (all end.log n) ∙ ends.end;
    names = ends.names;
  }

  module _ (s : MachineState) (n : ℕ) (ends : EndsAfter (machine_rules setting) end.log n)
      (at : (machine_rules setting).same s (stands (machine_rules setting) end.log n) ≡ true) (within : n ≤ limit) where
    abbrev t : State
    t = state_after setting end.log n

    stood : Stands setting s t
    stood = alike (stands (machine_rules setting) end.log n) s t (all end.log n) at

    told_so : IsToldAt end t → EndsSo setting limit end
    told_so told = record {
      steps = n;
      after = record { ends = ends_there n ends; end_is = (ended t (record { time = end.time; cause = end.cause }) told.end_is).is; line_is = told.line_is; printed_is = told.printed_is };
      within = within;
    }

    so_told : EndsSo setting limit end → IsToldAt end t
    so_told so =
        let e : n ≡ so.steps = same_end (rules_of setting) end.log n so.steps (ends_there n ends).run (ends_there n ends).end so.after.ends in
        let now : IsEndAfter setting end.log n end.time end.cause end.line end.printed = subst (λ (m : ℕ). IsEndAfter setting end.log m end.time end.cause end.line end.printed) (sym e) so.after in
        record {
          end_is = told_where_ended t (sym (width_is setting t) ∙ now.ends.end) ∙ ap Some now.end_is;
          line_is = now.line_is;
          printed_is = now.printed_is;
        }

    told_decides : (answer : Bool) → TellsStanding setting s end answer → Decides answer (EndsSo setting limit end)
    told_decides answer tells = let d = tells t stood in (λ h. told_so (d.0 h), λ so. d.1 (so_told so))

    told_where : {E : Type 0} (r : Result Bool E) → IfOk r (TellsStanding setting s end) → IfOk r (λ answer. Decides answer (EndsSo setting limit end))
    told_where (Ok answer) tells = told_decides answer tells
    told_where (Err e) tells = tt

  pub told_where_reached : {E : Type 0} (log : List (ℕ × ℕ)) (s : MachineState) (n : ℕ) → log ≡ end.log → EndsAfter (machine_rules setting) log n →
      (machine_rules setting).same s (stands (machine_rules setting) log n) ≡ true → n ≤ limit →
      (r : Result Bool E) → IfOk r (TellsStanding setting s end) → IfOk r (λ answer. Decides answer (EndsSo setting limit end))
  told_where_reached log s n is ends at within r tells =
      told_where s n (subst (λ (l : List (ℕ × ℕ)). EndsAfter (machine_rules setting) l n) is ends)
      (subst (λ (l : List (ℕ × ℕ)). (machine_rules setting).same s (stands (machine_rules setting) l n) ≡ true) is at) within r tells
