-- Dumps of which the front is held.
use Rattle.std.proofs.Common.{◌≡◌, ℕ, List, [], ◌++◌, Result, Ok, Err, IfErr, IsErrAnd, refl, sym, ap, subst, ◌∙◌, append-nil}
use Rattle.basis.specs.declared.memory.NoMemory.{NoMemory}
use Rattle.basis.specs.declared.memory.OrMemory.{OrMemory}
use Rattle.basis.specs.declared.memory.OrMemory.TheVariants as or
use Rattle.vdesign.specs.Design.{Design}
use Rattle.vmodel.specs.declared.history.Item.{Item}
use Rattle.vmodel.specs.Run.{Setting, rules_of, items_after, history_after}
use Rattle.vmachine.specs.Runs.{AllWaits, IsHandedSo, IsRunAt, waiting}
use Rattle.vmachine.specs.declared.run.Run.{Run}
use Rattle.vmachine.proofs.GivenLemmas.{given_nothing}
use Rattle.vcd_text.specs.DumpText.{vcd}
use Rattle.vcd_text.specs.DumpLaws.{front_of_dump}
use Rattle.byte_sinks.specs.ByteSinks.{IsByteSink, Stopped}
use Rattle.byte_sinks.specs.ByteSinkLaws.{stopped_before}
use Rattle.byte_sinks.specs.Held.{Appended}
use Rattle.vcd_text.specs.Sinks.{Fails, IsSameDump, Takes, items_text, progress_over}
use Rattle.vmachine.specs.Handed.{LeavesSink}
use Rattle.vmachine.specs.declared.run.RunFault.{RunFault}
use Rattle.vmachine.specs.declared.run.RunFault.TheVariants.{Replay, Sink}
use Rattle.vcd_text.specs.SinkLaws.{takes_none}
use Rattle.vcd_text.specs.declared.progress.Progress.{Progress}
use Rattle.vcd_text.specs.declared.progress.Progress.TheVariants.{Waiting}
use Rattle.vcd_text.specs.declared.sink.DumpSink.{DumpSink}
use Rattle.vreport.specs.declared.dump.DumpFront.{DumpFront}
use Rattle.vreport.specs.Dumps.{HasDump, IsDumpFront, IsFrontOf, StopsDump}
use Rattle.vreport.specs.RunLaws.{not_behind, given_front}
use Rattle.vreport.proofs.DumpLemmas.{the_dump}

-- what holds of the fault that `?` hands on
pub of_fault : {R E : Type 0} (P : E → Type 0) (result : Result R E) (e : E) → IsErrAnd result (λ y. y ≡ e) → P e → IfErr result P
of_fault P (Ok x) e is holds = tt
of_fault P (Err y) e is holds = subst P (sym is) holds

module _ {O F : Type 0} (takes : O → List ℕ → O → Type 0) (fails : O → List ℕ → F → O → Type 0) (laws : IsByteSink takes fails) (setting : Setting) where
  -- a run of which nothing was handed on, to a sink that has taken nothing
  pub fresh_front : (run : Run) (s : DumpSink O) → s.progress ≡ Waiting [] → s.design.now ≡ setting.design → AllWaits setting run →
      IsFrontOf takes setting run s s
  fresh_front run s fresh design waits = record {
    fresh = fresh;
    design = design;
    given = given_nothing (Takes takes) (takes_none takes fails laws) setting run waits s;
  }

  -- want of memory before the run was begun
  pub stops_unbegun : (log : List (ℕ × ℕ)) (limit : ℕ) (old : O) (refused : NoMemory) → HasDump setting log limit →
      StopsDump takes fails setting log limit old (or.Memory refused) old
  stops_unbegun log limit old refused (dump, known) = (dump, known, (0, laws.none old))

  module _ (limit : ℕ) (front : DumpFront) (is : IsDumpFront setting front.run.log.now limit front) where
    abbrev gave : List Item
    gave = items_after setting front.run.log.now front.run.n

    -- the sink as it was before it took anything
    abbrev pub unfilled : DumpSink O → O → DumpSink O
    unfilled s old = record {
      alloc = s.alloc;
      design = s.design;
      byte_sink = record { ref_ptr = s.byte_sink.ref_ptr; ghost_name = s.byte_sink.ghost_name; now = old };
      progress = Waiting [];
    }

    -- a sink that goes on from the front
    pub resumed_front : (s : DumpSink O) (old : O) → s.design.now ≡ setting.design → s.progress ≡ front.progress → takes old front.text s.byte_sink.now →
        IsFrontOf takes setting front.run (unfilled s old) s
    resumed_front s old design progress taken = record {
      fresh = refl;
      design = design;
      given = record {
        handed = gave;
        taken = (
          (refl, refl),
          progress ∙ is.progress_is ∙ ap (λ (d : Design). progress_over d (Waiting []) gave) (sym design),
          subst (λ (text : List ℕ). takes old text s.byte_sink.now) (is.text_is ∙ ap (λ (d : Design). items_text d (Waiting []) gave) (sym design)) taken,
        );
        is = ap (λ (xs : List Item). gave ++ xs) is.none_wait ∙ append-nil gave;
      };
    }

    -- the fault came in the front
    pub stops_in_front : (old new : O) (fault : OrMemory F) → HasDump setting front.run.log.now limit → Stopped takes fails old front.text fault new →
        StopsDump takes fails setting front.run.log.now limit old fault new
    stops_in_front old new fault (dump, known) stops =
        let log : List (ℕ × ℕ) = front.run.log.now in
        let later = given_front setting log front.run.n known.steps (not_behind (rules_of setting) log front.run.n known.steps is.here.so.run known.finishes.ends) in
        let rest = front_of_dump setting.design (history_after setting log known.steps) gave later.0 later.1 in (
          vcd setting.design (history_after setting log known.steps),
          the_dump setting log limit known.steps known.end known.finishes,
          subst (λ (text : List ℕ). Stopped takes fails old text fault new) (sym rest.1)
              (stopped_before takes fails laws old new (items_text setting.design (Waiting []) gave) rest.0 fault
              (subst (λ (text : List ℕ). Stopped takes fails old text fault new) is.text_is stops)),
        )

-- two sinks that are the dump of a third are the same one
pub same_between : {O : Type 0} (first s t : DumpSink O) → IsSameDump first s → IsSameDump first t → IsSameDump s t
same_between first s t p q = (q.0 ∙ sym p.0, q.1 ∙ sym p.1)

-- the sink that a fault leaves is the same one
pub same_left : {O F : Type 0} (takes : O → List ℕ → O → Type 0) (fails : O → List ℕ → F → O → Type 0) (setting : Setting) (log : List (ℕ × ℕ)) (limit : ℕ) (first t : DumpSink O)
    (e : OrMemory (RunFault (OrMemory F))) (left : LeavesSink (Takes takes) (Fails takes fails) setting log limit first e t) → IsSameDump first t
same_left takes fails setting log limit first t (or.Fault (Replay fault)) (n, k, way, taken) = taken.0
same_left takes fails setting log limit first t (or.Fault (Sink fault)) (n, way, failed) = failed.0
same_left takes fails setting log limit first t (or.Memory m) (n, k, way, taken) = taken.0

-- what is held where the run paused is the front of its dump
pub held_front : (setting : Setting) (log : List (ℕ × ℕ)) (limit : ℕ) (front : DumpFront) (s t : DumpSink (List ℕ)) →
    front.run.log.now ≡ log → IsRunAt setting limit front.run → IsHandedSo (Takes Appended) setting front.run s t → waiting front.run ≡ [] →
    s.progress ≡ Waiting [] → s.design.now ≡ setting.design → s.byte_sink.now ≡ [] → front.text ≡ t.byte_sink.now → front.progress ≡ t.progress →
    IsDumpFront setting log limit front
held_front setting log limit front s t log_is here given none fresh design empty text progress =
    let gave : List Item = items_after setting log front.run.n in
    let all : given.handed ≡ gave =
    sym (append-nil given.handed) ∙ ap (λ (xs : List Item). given.handed ++ xs) (sym none) ∙ given.is
    ∙ ap (λ (l : List (ℕ × ℕ)). items_after setting l front.run.n) log_is in
    record {
      log_is = log_is;
      here = here;
      none_wait = none;
      text_is =
          text
          ∙ given.taken.2
          ∙ ap (λ (old : List ℕ). old ++ items_text s.design.now s.progress given.handed) empty
          ∙ ap (λ (d : Design). items_text d s.progress given.handed) design
          ∙ ap (λ (p : Progress). items_text setting.design p given.handed) fresh
          ∙ ap (items_text setting.design (Waiting [])) all;
      progress_is =
          progress
          ∙ given.taken.1
          ∙ ap (λ (d : Design). progress_over d s.progress given.handed) design
          ∙ ap (λ (p : Progress). progress_over setting.design p given.handed) fresh
          ∙ ap (progress_over setting.design (Waiting [])) all;
    }
