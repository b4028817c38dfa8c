-- What stands written of a run's dump.
use Rattle.std.proofs.Common.{◌≡◌, ℕ, List, Option, Result, Ok, Err, OnOk, IfOk, IfErr, refl, sym, subst}
use Rattle.sched_core.specs.Replay.{IsReplayReason}
use Rattle.sched_core.specs.declared.run.ReplayFault.{ReplayFault}
use Rattle.sched_core.specs.declared.run.ReplayFault.TheVariants as replay
use Rattle.sched_core.specs.declared.end.End.{End}
use Rattle.vmodel.specs.Run.{Setting, rules_of, history_after}
use Rattle.vmodel.specs.RunProgress.{Finishes}
use Rattle.basis.specs.Reasons.{Because}
use Rattle.basis.specs.declared.memory.OrMemory.{OrMemory}
use Rattle.basis.specs.declared.memory.OrMemory.TheVariants as or
use Rattle.vcd_text.specs.DumpText.{vcd}
use Rattle.byte_sinks.specs.Metered.{Written, Broken}
use Rattle.byte_sinks.specs.MeteredLaws.{stops_of}
use Rattle.byte_sinks.specs.declared.metered.Metered.{Metered}
use Rattle.byte_sinks.specs.declared.fault.WriteFault.{WriteFault}
use Rattle.vreport.specs.Dumps.{IsDumpFront, IsRunDump, StopsDump as StopsByteSink}
use Rattle.vreport.specs.declared.dump.DumpFront.{DumpFront}
use Rattle.vrace.specs.RunDumps.{IsRunFault, StopsText, fault_of, replay_fault_of, seeing_fault_of}
use Rattle.vrace.specs.declared.fault.Fault.{Fault}

pub on_ok : {T E : Type 0} (r : Result T E) {P Q : Type 0} → (P → Q) → OnOk r P → OnOk r Q
on_ok (Ok x) f p = f p
on_ok (Err e) f p = tt

pub if_ok : {T E : Type 0} (r : Result T E) {P Q : T → Type 0} → ((x : T) → P x → Q x) → IfOk r P → IfOk r Q
if_ok (Ok x) f p = f x p
if_ok (Err e) f p = tt

pub if_err : {T E : Type 0} (r : Result T E) {P Q : E → Type 0} → ((e : E) → P e → Q e) → IfErr r P → IfErr r Q
if_err (Ok x) f p = tt
if_err (Err e) f p = f e p

-- the dump of a run that ends
pub the_dump : (setting : Setting) (log : List (ℕ × ℕ)) (limit n : ℕ) (end : End) → Finishes setting log limit n end →
    IsRunDump setting log limit (vcd setting.design (history_after setting log n))
the_dump setting log limit n end finishes = record { steps = n; end = end; finishes = finishes; is_text = refl }

-- the fault that came as the dump went out
pub stops : {W : Type 0} (contents : W → Option (List ℕ)) (setting : Setting) (log : List (ℕ × ℕ)) (limit : ℕ) (old new : Metered W) (cause : OrMemory WriteFault) (fault : Fault) →
    fault ≡ fault_of cause → StopsByteSink (Written contents) (Broken contents) setting log limit old cause new →
    StopsText contents (IsRunDump setting log limit) old new fault
stops contents setting log limit old new cause fault is (dump, known, stopped) =
    record { cause = cause; is = is; text = dump; holds = known; stops = stops_of contents old new dump cause stopped }

-- where this text went out, it was one of which this holds
pub stops_with : {W : Type 0} (contents : W → Option (List ℕ)) (Holds : List ℕ → Type 0) (one : List ℕ) (old new : Metered W) (fault : Fault) → Holds one →
    StopsText contents (λ text. text ≡ one) old new fault → StopsText contents Holds old new fault
stops_with contents Holds one old new fault holds s =
    record { cause = s.cause; is = s.is; text = s.text; holds = subst Holds (sym s.holds) holds; stops = s.stops }

-- why there is no such run
pub run_fault : (setting : Setting) (log : List (ℕ × ℕ)) (limit : ℕ) (why : ReplayFault) → IsReplayReason (rules_of setting) log limit why →
    IsRunFault setting log limit (replay_fault_of why)
run_fault setting log limit replay.NoSuchChoice missing = missing
run_fault setting log limit replay.TooManySteps more = more

-- why there is no such run, where memory may be refused, too
pub seeing_fault : (setting : Setting) (log : List (ℕ × ℕ)) (limit : ℕ) (e : OrMemory ReplayFault) → Because (IsReplayReason (rules_of setting) log limit) e →
    IsRunFault setting log limit (seeing_fault_of e)
seeing_fault setting log limit (or.Fault why) because = run_fault setting log limit why because
seeing_fault setting log limit (or.Memory m) because = tt

-- a front is that of its own log
pub own_front : (setting : Setting) (log : List (ℕ × ℕ)) (limit : ℕ) (front : DumpFront) → IsDumpFront setting log limit front → IsDumpFront setting front.run.log.now limit front
own_front setting log limit front is = subst (λ (l : List (ℕ × ℕ)). IsDumpFront setting l limit front) (sym is.log_is) is
