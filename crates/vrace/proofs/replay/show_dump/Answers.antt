use Rattle.std.proofs.Common.{ℕ, List, Option, OnOk, IfErr, inl, inr, refl, subst, sym}
use Rattle.std.specs.Prelude.{IfOk, IfSome}
use Rattle.byte_sinks.specs.Metered.{Grows}
use Rattle.vreport.specs.Dumps.{EndsAs, IsHeldDump, IsRunDump}
use Rattle.vreport.specs.declared.dump.HeldDump.{HeldDump}
use Rattle.vrace.specs.RunDumps.{Ends, IsRunFault}
use Rattle.vrace.proofs.DumpLemmas.{if_err, if_ok, on_ok, run_fault, stops_with}
use Rattle.vrace.proofs.DumpLemmas.{own_front}
use Rattle.vrace.proofs.replay.show_dump.Goals as goal

pub returns-in-Ok-Some-Whole-clause-ok : goal.returns-in-Ok-Some-Whole-clause-ok
returns-in-Ok-Some-Whole-clause-ok g c =
    let held = subst (λ (held : Option HeldDump). IfSome held (IsHeldDump c.args.machine.now c.args.log.now c.args.steps)) c.in-Ok-Some-Whole.field-0-is c.in-Ok-Some-Whole.ensures.held in
    let shown : IsRunDump c.args.machine.now c.args.log.now c.args.steps c.in-Ok-Some-Whole.text = (subst (IsHeldDump c.args.machine.now c.args.log.now c.args.steps) c.in-Ok-Some-Whole.field-0-0-is held).0 in
    on_ok c.write_whole.result (λ grown. (c.in-Ok-Some-Whole.text, shown, grown)) c.write_whole.ensures.ok

pub returns-in-Ok-Some-Whole-clause-err : goal.returns-in-Ok-Some-Whole-clause-err
returns-in-Ok-Some-Whole-clause-err g c =
    let held = subst (λ (held : Option HeldDump). IfSome held (IsHeldDump c.args.machine.now c.args.log.now c.args.steps)) c.in-Ok-Some-Whole.field-0-is c.in-Ok-Some-Whole.ensures.held in
    let shown : IsRunDump c.args.machine.now c.args.log.now c.args.steps c.in-Ok-Some-Whole.text = (subst (IsHeldDump c.args.machine.now c.args.log.now c.args.steps) c.in-Ok-Some-Whole.field-0-0-is held).0 in
    if_err c.write_whole.result
    (λ fault stops. inr (stops_with g.W.Write.contents (IsRunDump c.args.machine.now c.args.log.now c.args.steps) c.in-Ok-Some-Whole.text c.args.writer.now c.write_whole.new.writer fault shown stops))
    c.write_whole.ensures.err

pub dump_on-requires : goal.dump_on-requires
dump_on-requires g c =
    let held = subst (λ (held : Option HeldDump). IfSome held (IsHeldDump c.args.machine.now c.args.log.now c.args.steps)) c.in-Ok-Some-Front.field-0-is c.in-Ok-Some-Front.ensures.held in
    record {
      front = own_front c.args.machine.now c.args.log.now c.args.steps c.in-Ok-Some-Front.front
          (subst (IsHeldDump c.args.machine.now c.args.log.now c.args.steps) c.in-Ok-Some-Front.field-0-0-is held);
    }

pub returns-in-Ok-Some-Front-clause-ok : goal.returns-in-Ok-Some-Front-clause-ok
returns-in-Ok-Some-Front-clause-ok g c =
    let held = subst (λ (held : Option HeldDump). IfSome held (IsHeldDump c.args.machine.now c.args.log.now c.args.steps)) c.in-Ok-Some-Front.field-0-is c.in-Ok-Some-Front.ensures.held in
    let front = subst (IsHeldDump c.args.machine.now c.args.log.now c.args.steps) c.in-Ok-Some-Front.field-0-0-is held in
    subst (λ (log : List (ℕ × ℕ)). OnOk c.dump_on.result ((text : List ℕ) × IsRunDump c.args.machine.now log c.args.steps text × Grows g.W.Write.contents c.args.writer.now c.dump_on.new.writer text)) front.log_is
    c.dump_on.ensures.ok

pub returns-in-Ok-Some-Front-clause-err : goal.returns-in-Ok-Some-Front-clause-err
returns-in-Ok-Some-Front-clause-err g c =
    let held = subst (λ (held : Option HeldDump). IfSome held (IsHeldDump c.args.machine.now c.args.log.now c.args.steps)) c.in-Ok-Some-Front.field-0-is c.in-Ok-Some-Front.ensures.held in
    let front = subst (IsHeldDump c.args.machine.now c.args.log.now c.args.steps) c.in-Ok-Some-Front.field-0-0-is held in
    subst (λ (log : List (ℕ × ℕ)). IfErr c.dump_on.result (λ fault. Ends g.W.Write.contents (IsRunDump c.args.machine.now log c.args.steps) c.args.machine.now log c.args.steps c.args.writer.now c.dump_on.new.writer fault)) front.log_is
    c.dump_on.ensures.err

pub returns-in-Err-clause-err : goal.returns-in-Err-clause-err
returns-in-Err-clause-err g c =
    inl (
      subst (IsRunFault c.args.machine.now c.args.log.now c.args.steps) (sym c.of_replay.ensures)
          (run_fault c.args.machine.now c.args.log.now c.args.steps c.in-Err.fault c.in-Err.ensures.reason),
      refl,
    )

pub returns-in-Ok-Some-Whole-clause-ends : goal.returns-in-Ok-Some-Whole-clause-ends
returns-in-Ok-Some-Whole-clause-ends g c =
    let held = subst (λ (held : Option HeldDump). IfSome held (IsHeldDump c.args.machine.now c.args.log.now c.args.steps)) c.in-Ok-Some-Whole.field-0-is c.in-Ok-Some-Whole.ensures.held in
    let whole = subst (IsHeldDump c.args.machine.now c.args.log.now c.args.steps) c.in-Ok-Some-Whole.field-0-0-is held in
    if_ok c.write_whole.result (λ told is. subst (EndsAs c.args.machine.now c.args.log.now c.args.steps) (sym is) whole.1) c.write_whole.ensures.end

pub returns-in-Ok-Some-Front-clause-ends : goal.returns-in-Ok-Some-Front-clause-ends
returns-in-Ok-Some-Front-clause-ends g c =
    let held = subst (λ (held : Option HeldDump). IfSome held (IsHeldDump c.args.machine.now c.args.log.now c.args.steps)) c.in-Ok-Some-Front.field-0-is c.in-Ok-Some-Front.ensures.held in
    let front = subst (IsHeldDump c.args.machine.now c.args.log.now c.args.steps) c.in-Ok-Some-Front.field-0-0-is held in
    subst (λ (log : List (ℕ × ℕ)). IfOk c.dump_on.result (EndsAs c.args.machine.now log c.args.steps)) front.log_is c.dump_on.ensures.ends
