-- Ends and the runs that they are of.
use Rattle.std.proofs.Common.{◌≡◌, ℕ, ◌+◌, ◌-◌, ◌<◌, ◌==◌, ◌^◌, Bool, true, false, cond, List, length, slice_get, get_or, Decides, Some, None, refl, sym, ap, ◌∙◌, subst, arith}
use Rattle.std.proofs.lemmas.Bool.Decides.{nat_tests}
use Rattle.std.proofs.lemmas.Option.{same_Some, slice_get-get_or}
use Rattle.std.specs.Option.{option_eq}
use Rattle.std.specs.Cmp.Lexicographic.{pointwise, bytes_decides}
use Rattle.std.specs.Prelude.{not}
use lib.Dec.{eqb}
use Rattle.sched_core.specs.Bags.{lines_same, HasLines}
use Rattle.sched_core.specs.Logs.{IsLog}
use Rattle.sched_core.specs.BagLaws.{lines_tell}
use Rattle.sched_core.specs.Tests.{option_tells}
use Rattle.std.specs.declared.cmp.Ordering.TheVariants.{Equal}
use Rattle.basis.specs.Reasons.{Because}
use Rattle.basis.specs.declared.memory.OrMemory.{OrMemory}
use Rattle.basis.specs.declared.memory.OrMemory.TheVariants.{Fault, Memory}
use Rattle.sched_core.specs.Rules.{IsRun, stands}
use Rattle.statebook.specs.declared.limits.Limits.{Limits}
use Rattle.explore.specs.Found.{AreFound, IsFound}
use Rattle.sched_core.specs.declared.end.Cause.{Cause}
use Rattle.sched_core.specs.declared.end.Cause.TheVariants.{Finish, Stop, Quiet, Limit}
use Rattle.sched_core.specs.declared.end.End.{End}
use Rattle.vmodel.specs.State.{State}
use Rattle.vmodel.specs.Choices.{choices}
use Rattle.vmodel.specs.Run.{Setting, rules_of, state_after, end_of, history_after}
use Rattle.vmodel.specs.RunProgress.{Finishes, width_is}
use Rattle.vmachine.specs.declared.machine_state.MachineState.{MachineState}
use Rattle.vmachine.specs.Machines.{Stands, machine_rules}
use Rattle.vmachine.specs.Reads.{end_in}
use Rattle.vcd_text.specs.DumpText.{vcd}
use Rattle.vreport.specs.declared.row.Row.{Row}
use Rattle.vreport.specs.Dumps.{HasDump, IsRunDump}
use Rattle.report_text.specs.Report.{End as ReportEnd}
use Rattle.vreport.specs.Ends.{HasLongDump, HasSomeLongDump}
use Rattle.vreport.specs.Inner.{CountsDump, IsEndOfRow, IsRow, IsRowAt, IsRowOfSome, Repeats, cause_of, key_cmp, order_of}
use Rattle.vreport.proofs.DumpLemmas.{the_dump}
use Rattle.vreport.proofs.OrderLemmas.{key_same, same_key}

abbrev pub Alike : Setting → Type 0
Alike setting = (s r : MachineState) (t : State) → Stands setting s t → (machine_rules setting).same r s ≡ true → Stands setting r t

abbrev pub AllStand : Setting → Type 0
AllStand setting = (log : List (ℕ × ℕ)) (n : ℕ) → Stands setting (stands (machine_rules setting) log n) (state_after setting log n)

-- lines are there where they are looked at
abbrev pub LooksWhereAsked : Setting → Type 0
LooksWhereAsked setting = (log : List (ℕ × ℕ)) (n : ℕ) → HasLines setting.looked (state_after setting log n).printed

abbrev pub RunThere : Setting → Type 0
RunThere setting = (log : List (ℕ × ℕ)) (n : ℕ) → IsRun (machine_rules setting) log n → IsRun (rules_of setting) log n

-- where a state tells an end, no choice is left
pub record Ended (t : State) (end : End) : Type 0 where
  pub none : length (choices t) ≡ 0
  pub is : end_of t ≡ end

ended_when : (b : Bool) (n : ℕ) (one end : End) → (n == 0) ≡ b → cond b (Some one) None ≡ Some end → (n ≡ 0) × (one ≡ end)
ended_when true n one end e h = (grind (arith, nat_tests), same_Some one end h)
ended_when false n one end e h = absurd (cc)

pub ended : (t : State) (end : End) → end_in t ≡ Some end → Ended t end
ended t end h = let p = ended_when (length (choices t) == 0) (length (choices t)) (end_of t) end refl h in record { none = p.0; is = p.1 }

-- a reason that follows from another one
pub because : {F : Type 0} (e : OrMemory F) {P Q : F → Type 0} → ((f : F) → P f → Q f) → Because P e → Because Q e
because (Fault f) g p = g f p
because (Memory m) g p = tt

cause_back : (cause : Cause) → cause_of (order_of cause) ≡ cause
cause_back Finish = refl
cause_back Limit = refl
cause_back Quiet = refl
cause_back Stop = refl

module _ (setting : Setting) (alike : Alike setting) (all : AllStand setting) (there : RunThere setting) (limits : Limits) where
  -- where the run under a mark's log stands
  pub stood : (found : MachineState × List (ℕ × ℕ)) (f : IsFound (machine_rules setting) limits found) → Stands setting found.0 (state_after setting found.1 f.steps)
  stood found f = alike (stands (machine_rules setting) found.1 f.steps) found.0 (state_after setting found.1 f.steps) (all found.1 f.steps) f.at

  -- the run under the log of a row's mark ends there
  pub row_finishes : (found : MachineState × List (ℕ × ℕ)) (place : ℕ) (row : Row) (f : IsFound (machine_rules setting) limits found) → IsRow setting found place row →
      (end : End) × Finishes setting found.1 limits.steps f.steps end × IsRowAt row end (state_after setting found.1 f.steps)
  row_finishes found place row f of =
      let t = state_after setting found.1 f.steps in
      let told = of.at_end t (stood found f) in
      let h = ended t told.0 told.1 in (
        told.0,
        record {
          within = f.within;
          ends = record { run = there found.1 f.steps f.run; end = width_is setting t ∙ h.none; names = f.names };
          end_is = sym h.is;
        },
        told.2,
      )

  pub row_dump : (found : MachineState × List (ℕ × ℕ)) (place : ℕ) (row : Row) → IsFound (machine_rules setting) limits found → IsRow setting found place row →
      HasDump setting found.1 limits.steps
  row_dump found place row f of =
      let p = row_finishes found place row f of in
      (vcd setting.design (history_after setting found.1 f.steps), the_dump setting found.1 limits.steps f.steps p.0 p.1)

  module _ (marks : List (MachineState × List (ℕ × ℕ))) (found : AreFound (machine_rules setting) limits marks) (row : Row) (of : IsRowOfSome setting marks row)
      (mark : MachineState × List (ℕ × ℕ)) (at : slice_get marks row.place ≡ Some mark) where
    same_mark : of.found ≡ mark
    same_mark = same_Some of.found mark (sym of.at ∙ at)

    its_row : IsRow setting mark row.place row
    its_row = subst (λ (x : MachineState × List (ℕ × ℕ)). IsRow setting x row.place row) same_mark of.of

    pub its_dump : HasDump setting mark.1 limits.steps
    its_dump = row_dump mark row.place row (found row.place mark at) its_row

    pub its_long_dump : HasLongDump setting mark.1 limits.steps → HasSomeLongDump setting limits
    its_long_dump long = (mark.1, (found row.place mark at).short, long)

    -- the end that is made of it
    pub its_end : LooksWhereAsked setting → (end : ReportEnd) → end.time ≡ row.time → end.cause ≡ cause_of row.cause → end.line ≡ row.line.items → end.printed ≡ row.printed → end.log ≡ mark.1 →
        end.time < 2 ^ 64 → IsLog end.log → CountsDump setting mark.1 limits.steps end.bytes → IsEndOfRow setting limits marks row end
    its_end looks end time_is cause_is line_is printed_is log_is time log counts =
        let f = found row.place mark at in
        let t = state_after setting mark.1 f.steps in
        let told = its_row.at_end t (stood mark f) in
        record {
          found = mark;
          at = at;
          of = its_row;
          time_is = time_is;
          cause_is = told.2.cause_is ∙ ap order_of (sym (cause_is ∙ ap cause_of told.2.cause_is ∙ cause_back told.0.cause));
          line_is = line_is;
          printed_is = printed_is;
          log_is = log_is;
          kept = record { time = time; log = log; lines = subst (HasLines setting.looked) (sym (printed_is ∙ told.2.printed_is)) (looks mark.1 f.steps) };
          bytes = record {
            dump = counts.0;
            is_dump = subst (λ (l : List (ℕ × ℕ)). IsRunDump setting l limits.steps counts.0) (sym log_is) counts.1.0;
            bytes_are = counts.1.1;
          };
        }

-- lines that aren't told apart are the same
pub same_lines : (a b : List ℕ) → false ≡ not (pointwise eqb a b) → a ≡ b
same_lines a b alike = (bytes_decides a b).0 (no_longer (pointwise eqb a b) alike)
  where
    no_longer : (x : Bool) → false ≡ not x → x ≡ true
    no_longer true e = refl
    no_longer false e = absurd cc

-- rows of other lines are of other ends
pub other_lines : (r s : Row) → true ≡ not (pointwise eqb r.line.items s.line.items) → Decides false (key_cmp r s ≡ Equal)
other_lines r s differ =
    (λ h. absurd cc, λ alike. told_apart (pointwise eqb r.line.items s.line.items) ((bytes_decides r.line.items s.line.items).1 (same_key r s alike).line_same) differ)
  where
    told_apart : (x : Bool) → x ≡ true → true ≡ not x → false ≡ true
    told_apart true same e = sym e
    told_apart false same e = same

-- the same times, causes and lines
pub same_end_when : (r s : Row) (b : Bool) → r.time ≡ s.time → r.cause ≡ s.cause → r.line.items ≡ s.line.items → b ≡ option_eq lines_same r.printed s.printed → Decides b (key_cmp r s ≡ Equal)
same_end_when r s b e f g same =
    let exact = option_tells lines_same lines_tell r.printed s.printed in
    (λ h. key_same r s (record { time_same = e; cause_same = f; line_same = g; printed_same = exact.0 (sym same ∙ h) }), λ h. same ∙ exact.1 (same_key r s h).printed_same)

pub repeats_when : (rows : List Row) (place : ℕ) (r s : Row) (b : Bool) → (place ≡ 0 → ⊥) → place < length rows → get_or rows (place - 1) r ≡ r → get_or rows place s ≡ s →
    Decides b (key_cmp r s ≡ Equal) → Decides b (Repeats rows place)
repeats_when rows place r s b some within e f d =
    let less : place - 1 < length rows = omega arith in
    let at : slice_get rows (place - 1) ≡ Some r = slice_get-get_or rows (place - 1) r less ∙ ap Some e in
    let at' : slice_get rows place ≡ Some s = slice_get-get_or rows place s within ∙ ap Some f in
    let is : (place - 1) + 1 ≡ place = omega arith in (
      λ h. record { before = place - 1; first = r; second = s; is_before = is; first_at = at; second_at = at'; alike = d.0 h },
      λ p.
          let same : p.before ≡ place - 1 = omega (arith, p.is_before) in
          let one : p.first ≡ r = same_Some p.first r (sym p.first_at ∙ ap (slice_get rows) same ∙ at) in
          let two : p.second ≡ s = same_Some p.second s (sym p.second_at ∙ at') in
          d.1 (subst (λ (x : Row). key_cmp x s ≡ Equal) one (subst (λ (y : Row). key_cmp p.first y ≡ Equal) two p.alike)),
    )
