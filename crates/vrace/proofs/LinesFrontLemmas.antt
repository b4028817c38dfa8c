-- Lines of which those in front are held.
use Rattle.std.proofs.Common.{◌≡◌, ℕ, List, [], ◌++◌, refl, sym, ap, subst, ◌∙◌, append-nil}
use Rattle.basis.specs.declared.memory.NoMemory.{NoMemory}
use Rattle.basis.specs.declared.memory.OrMemory.{OrMemory}
use Rattle.basis.specs.declared.memory.OrMemory.TheVariants as or
use Rattle.vdesign.specs.Design.{Design}
use Rattle.vmodel.specs.declared.history.Item.{Item}
use Rattle.vmodel.specs.Run.{Setting, rules_of, items_after}
use Rattle.vmachine.specs.Runs.{AllWaits, IsHandedSo, IsRunAt, waiting}
use Rattle.vmachine.specs.declared.run.Run.{Run}
use Rattle.vmachine.proofs.GivenLemmas.{given_nothing}
use Rattle.byte_sinks.specs.ByteSinks.{IsByteSink, Stopped}
use Rattle.byte_sinks.specs.ByteSinkLaws.{stopped_before}
use Rattle.lines_text.specs.LinesText.{lines, lines_from}
use Rattle.lines_text.specs.Sinks.{Fails, IsSameSink, Takes, in_force_over}
use Rattle.vmachine.specs.Handed.{LeavesSink}
use Rattle.vmachine.specs.declared.run.RunFault.{RunFault}
use Rattle.vmachine.specs.declared.run.RunFault.TheVariants.{Replay, Sink}
use Rattle.byte_sinks.specs.Held.{Appended}
use Rattle.lines_text.specs.SinkLaws.{takes_none, text_joins}
use Rattle.lines_text.specs.declared.in_force.InForce.{InForce}
use Rattle.lines_text.specs.declared.in_force.InForce.TheVariants.{Nobody}
use Rattle.lines_text.specs.declared.sink.LinesSink.{LinesSink}
use Rattle.vreport.specs.RunLaws.{not_behind, given_front}
use Rattle.vrace.specs.declared.lines.LinesFront.{LinesFront}
use Rattle.vrace.specs.RunLines.{HasEnd, IsLinesFront, IsFrontOf, StopsLines}
use Rattle.vrace.proofs.LinesLemmas.{the_lines}

module _ {O F : Type 0} (takes : O → List ℕ → O → Type 0) (fails : O → List ℕ → F → O → Type 0) (laws : IsByteSink takes fails) (setting : Setting) where
  -- a run of which nothing was handed on, to a sink that has taken nothing
  pub fresh_front : (run : Run) (s : LinesSink O) → s.in_force ≡ Nobody → s.design.now ≡ setting.design → AllWaits setting run →
      IsFrontOf takes setting run s s
  fresh_front run s fresh design waits = record {
    fresh = fresh;
    design = design;
    given = given_nothing (Takes takes) (takes_none takes fails laws) setting run waits s;
  }

  -- want of memory before the run was begun
  pub stops_unbegun : (log : List (ℕ × ℕ)) (limit : ℕ) (old : O) (refused : NoMemory) → HasEnd setting log limit →
      StopsLines takes fails setting log limit old (or.Memory refused) old
  stops_unbegun log limit old refused (n, end, finishes) =
      (lines setting.design (items_after setting log n), the_lines setting log limit n end finishes, (0, laws.none old))

  module _ (limit : ℕ) (front : LinesFront) (is : IsLinesFront setting front.run.log.now limit front) where
    abbrev gave : List Item
    gave = items_after setting front.run.log.now front.run.n

    -- the sink as it was before it took anything
    abbrev pub unfilled : LinesSink O → O → LinesSink O
    unfilled s old = record {
      alloc = s.alloc;
      design = s.design;
      byte_sink = record { ref_ptr = s.byte_sink.ref_ptr; ghost_name = s.byte_sink.ghost_name; now = old };
      in_force = Nobody;
    }

    -- a sink that goes on from the front
    pub resumed_front : (s : LinesSink O) (old : O) → s.design.now ≡ setting.design → s.in_force ≡ front.in_force → takes old front.text s.byte_sink.now →
        IsFrontOf takes setting front.run (unfilled s old) s
    resumed_front s old design in_force taken = record {
      fresh = refl;
      design = design;
      given = record {
        handed = gave;
        taken = (
          (refl, refl),
          in_force ∙ is.in_force_is ∙ ap (λ (d : Design). in_force_over d Nobody gave) (sym design),
          subst (λ (text : List ℕ). takes old text s.byte_sink.now) (is.text_is ∙ ap (λ (d : Design). lines_from d Nobody gave) (sym design)) taken,
        );
        is = ap (λ (xs : List Item). gave ++ xs) is.none_wait ∙ append-nil gave;
      };
    }

    -- the fault came in the front
    pub stops_in_front : (old new : O) (fault : OrMemory F) → HasEnd setting front.run.log.now limit → Stopped takes fails old front.text fault new →
        StopsLines takes fails setting front.run.log.now limit old fault new
    stops_in_front old new fault (steps, end, finishes) stops =
        let log : List (ℕ × ℕ) = front.run.log.now in
        let later = given_front setting log front.run.n steps (not_behind (rules_of setting) log front.run.n steps is.here.so.run finishes.ends) in
        let more : List ℕ = lines_from setting.design (in_force_over setting.design Nobody gave) later.0 in
        let whole : lines setting.design (items_after setting log steps) ≡ lines setting.design gave ++ more =
        ap (lines setting.design) later.1 ∙ text_joins setting.design Nobody gave later.0 in (
          lines setting.design (items_after setting log steps),
          the_lines setting log limit steps end finishes,
          subst (λ (text : List ℕ). Stopped takes fails old text fault new) (sym whole)
              (stopped_before takes fails laws old new (lines setting.design gave) more fault
              (subst (λ (text : List ℕ). Stopped takes fails old text fault new) is.text_is stops)),
        )

-- lines in front are those of their own log
pub own_front : (setting : Setting) (log : List (ℕ × ℕ)) (limit : ℕ) (front : LinesFront) → IsLinesFront setting log limit front → IsLinesFront setting front.run.log.now limit front
own_front setting log limit front is = subst (λ (l : List (ℕ × ℕ)). IsLinesFront setting l limit front) (sym is.log_is) is

-- what is held where the run paused are the lines in front
pub held_front : (setting : Setting) (log : List (ℕ × ℕ)) (limit : ℕ) (front : LinesFront) (s t : LinesSink (List ℕ)) →
    front.run.log.now ≡ log → IsRunAt setting limit front.run → IsHandedSo (Takes Appended) setting front.run s t → waiting front.run ≡ [] →
    s.in_force ≡ Nobody → s.design.now ≡ setting.design → s.byte_sink.now ≡ [] → front.text ≡ t.byte_sink.now → front.in_force ≡ t.in_force →
    IsLinesFront setting log limit front
held_front setting log limit front s t log_is here given none fresh design empty text in_force =
    let gave : List Item = items_after setting log front.run.n in
    let all : given.handed ≡ gave =
    sym (append-nil given.handed) ∙ ap (λ (xs : List Item). given.handed ++ xs) (sym none) ∙ given.is
    ∙ ap (λ (l : List (ℕ × ℕ)). items_after setting l front.run.n) log_is in
    record {
      log_is = log_is;
      here = here;
      none_wait = none;
      text_is =
          text
          ∙ given.taken.2
          ∙ ap (λ (old : List ℕ). old ++ lines_from s.design.now s.in_force given.handed) empty
          ∙ ap (λ (d : Design). lines_from d s.in_force given.handed) design
          ∙ ap (λ (m : InForce). lines_from setting.design m given.handed) fresh
          ∙ ap (lines_from setting.design Nobody) all;
      in_force_is =
          in_force
          ∙ given.taken.1
          ∙ ap (λ (d : Design). in_force_over d s.in_force given.handed) design
          ∙ ap (λ (m : InForce). in_force_over setting.design m given.handed) fresh
          ∙ ap (in_force_over setting.design Nobody) all;
    }

-- two sinks that are that of a third are the same one
pub same_between : {O : Type 0} (first s t : LinesSink O) → IsSameSink first s → IsSameSink first t → IsSameSink s t
same_between first s t p q = (q.0 ∙ sym p.0, q.1 ∙ sym p.1)

-- the sink that a fault leaves is the same one
pub same_left : {O F : Type 0} (takes : O → List ℕ → O → Type 0) (fails : O → List ℕ → F → O → Type 0) (setting : Setting) (log : List (ℕ × ℕ)) (limit : ℕ) (first t : LinesSink O)
    (e : OrMemory (RunFault (OrMemory F))) (left : LeavesSink (Takes takes) (Fails takes fails) setting log limit first e t) → IsSameSink first t
same_left takes fails setting log limit first t (or.Fault (Replay fault)) (n, k, way, taken) = taken.0
same_left takes fails setting log limit first t (or.Fault (Sink fault)) (n, way, failed) = failed.0
same_left takes fails setting log limit first t (or.Memory m) (n, k, way, taken) = taken.0
