-- From the run of a design to the replay of files.
use Rattle.std.proofs.Common.{◌≡◌, inl, inr, ℕ, List, Option, refl, sym, ap, subst, ◌∙◌}
use Rattle.vmodel.specs.Run.{Setting, rules_of, history_after}
use Rattle.sched_core.specs.declared.end.End.{End}
use Rattle.vmodel.specs.RunProgress.{Finishes}
use Rattle.sched_core.specs.Replay.{IsMissing, TakesMore}
use Rattle.vcd_text.specs.DumpText.{vcd}
use Rattle.byte_sinks.specs.declared.metered.Metered.{Metered}
use Rattle.byte_sinks.specs.declared.fault.WriteFault.{WriteFault}
use Rattle.byte_sinks.specs.declared.fault.WriteFault.TheVariants as write
use Rattle.basis.specs.declared.memory.OrMemory.{OrMemory}
use Rattle.basis.specs.declared.memory.OrMemory.TheVariants as or
use Rattle.byte_sinks.specs.Metered.{count_after}
use Rattle.vrace.specs.Request.{Request}
use Rattle.vrace.specs.Replays.{Replayed, setting_of, text_of_run, IsShown, IsDump}
use Rattle.vrace.specs.declared.replay.Show.{Show}
use Rattle.vrace.specs.declared.replay.Show.TheVariants.{Dump, Lines}
use Rattle.lines_text.specs.LinesText.{lines}
use Rattle.vrace.specs.RunLines.{IsRunLines}
use Rattle.vrace.specs.Refusals.{IsRunReason, IsReason, IsOfWriting, Leaves}
use Rattle.vreport.specs.Dumps.{IsRunDump}
use Rattle.vrace.proofs.DumpLemmas.{the_dump}
use Rattle.vrace.specs.RunDumps.{IsRunFault, IsRunShown, Ends, fault_of, failures_after}
use Rattle.vrace.specs.declared.fault.Fault.{Fault}
use Rattle.vrace.specs.declared.fault.Fault.TheVariants.{NotEnded, BadToken, Directive, NoMacro, TooLarge, LeftOpen, Timescales, NoTree, Outside, TooDeep, NoDesign, BadLog, NoSuchChoice, TooManySteps, OutOfLimit, BadReport, FalseEnd, FalseRace, FalseHead, Memory, Write, Read, TooLong}

pub of_writing : (cause : OrMemory WriteFault) → IsOfWriting (fault_of cause)
of_writing (or.Memory m) = tt
of_writing (or.Fault write.Write) = tt

reason_of_writing : (files : List (List ℕ)) (asked : Request) (log dump : List ℕ) (cause : OrMemory WriteFault) → IsDump files asked log dump → IsRunReason files asked log (fault_of cause)
reason_of_writing files asked log dump (or.Memory m) is = tt
reason_of_writing files asked log dump (or.Fault write.Write) is = (dump, is)

pub count_of_writing : (cause : OrMemory WriteFault) (n : ℕ) → count_after cause n ≡ failures_after (fault_of cause) n
count_of_writing (or.Memory m) n = refl
count_of_writing (or.Fault write.Write) n = refl

-- no failure of a writer is told of a run that isn't written
run_unwritten : (setting : Setting) (log : List (ℕ × ℕ)) (limit : ℕ) (fault : Fault) (n : ℕ) → IsRunFault setting log limit fault → n ≡ failures_after fault n
run_unwritten setting log limit Write n why = absurd why
run_unwritten setting log limit _ n why = refl

-- the count of a writer's failures where a run wasn't shown to its end
pub failures_told : {W : Type 0} (contents : W → Option (List ℕ)) (Holds : List ℕ → Type 0) (setting : Setting) (log : List (ℕ × ℕ)) (limit : ℕ) (old new : Metered W)
    (fault : Fault) → Ends contents Holds setting log limit old new fault → new.failures ≡ failures_after fault old.failures
failures_told contents Holds setting log limit old new fault (inl (why, kept)) =
    ap (λ (w : Metered _). w.failures) kept ∙ run_unwritten setting log limit fault old.failures why
failures_told contents Holds setting log limit old new fault (inr stops) =
    stops.stops.1 ∙ count_of_writing stops.cause old.failures ∙ ap (λ (f : Fault). failures_after f old.failures) (sym stops.is)

module _ (files : List (List ℕ)) (asked : Request) (log : List ℕ) (replayed : Replayed files asked log) (setting : Setting) (same : setting ≡ setting_of files asked log replayed) where
  pub dumped : (dump : List ℕ) → IsRunDump setting replayed.members asked.steps dump → IsDump files asked log dump
  dumped dump d = record {
    replayed = replayed;
    steps = d.steps;
    end = d.end;
    finishes = subst (λ (s : Setting). Finishes s replayed.members asked.steps d.steps d.end) same d.finishes;
    is_text = d.is_text ∙ ap (λ (s : Setting). vcd s.design (history_after s replayed.members d.steps)) same;
  }

  printed : (text : List ℕ) → IsRunLines setting replayed.members asked.steps text → IsShown Lines files asked log text
  printed text d = record {
    replayed = replayed;
    steps = d.steps;
    end = d.end;
    finishes = subst (λ (s : Setting). Finishes s replayed.members asked.steps d.steps d.end) same d.finishes;
    is_text = d.is_text ∙ ap (λ (s : Setting). lines s.design (history_after s replayed.members d.steps).items) same;
  }

  -- what is shown of the run is what is shown of the files
  pub shown_so : (show : Show) (text : List ℕ) → IsRunShown show setting replayed.members asked.steps text → IsShown show files asked log text
  shown_so Dump text d = dumped text d
  shown_so Lines text d = printed text d

  pub run_reason : (fault : Fault) → IsRunFault setting replayed.members asked.steps fault → IsRunReason files asked log fault
  run_reason NoSuchChoice p = (replayed, subst (λ (s : Setting). IsMissing (rules_of s) replayed.members asked.steps) same p)
  run_reason TooManySteps p = (replayed, subst (λ (s : Setting). TakesMore (rules_of s) replayed.members asked.steps) same p)
  run_reason (Memory m) p = tt
  run_reason (NotEnded at) p = absurd p
  run_reason (BadToken at) p = absurd p
  run_reason (Directive at) p = absurd p
  run_reason (NoMacro at) p = absurd p
  run_reason (TooLarge at) p = absurd p
  run_reason (LeftOpen at) p = absurd p
  run_reason (Timescales at) p = absurd p
  run_reason (NoTree at) p = absurd p
  run_reason (Outside at) p = absurd p
  run_reason (TooDeep at) p = absurd p
  run_reason (NoDesign rule at) p = absurd p
  run_reason BadLog p = absurd p
  run_reason OutOfLimit p = absurd p
  run_reason BadReport p = absurd p
  run_reason (FalseEnd i) p = absurd p
  run_reason (FalseRace i) p = absurd p
  run_reason FalseHead p = absurd p
  run_reason Write p = absurd p
  run_reason Read p = absurd p
  run_reason TooLong p = absurd p

  -- where something is shown there is a dump
  dump_of : (show : Show) (text : List ℕ) → IsShown show files asked log text → (dump : List ℕ) × IsDump files asked log dump
  dump_of show text d = (
    text_of_run Dump d.replayed.design (history_after (setting_of files asked log d.replayed) d.replayed.members d.steps),
    record { replayed = d.replayed; steps = d.steps; end = d.end; finishes = d.finishes; is_text = refl },
  )

  -- where the run ends there is a dump, so that a writer that fails has its reason
  pub writing_reason : (n : ℕ) (end : End) → Finishes setting replayed.members asked.steps n end → (cause : OrMemory WriteFault) → IsReason files asked log (fault_of cause)
  writing_reason n end finishes cause =
      let dump = the_dump setting replayed.members asked.steps n end finishes in
      inr (reason_of_writing files asked log _ cause (dumped _ dump))

  module _ {W : Type 0} (contents : W → Option (List ℕ)) (show : Show) (old new : Metered W) where
    pub reason : (fault : Fault) → Ends contents (IsRunShown show setting replayed.members asked.steps) setting replayed.members asked.steps old new fault →
        IsReason files asked log fault
    reason fault (inl (p, kept)) = inr (run_reason fault p)
    reason fault (inr stops) =
        let dump = dump_of show stops.text (shown_so show stops.text stops.holds) in
        inr (subst (IsRunReason files asked log) (sym stops.is) (reason_of_writing files asked log dump.0 stops.cause dump.1))

    pub left : (fault : Fault) → Ends contents (IsRunShown show setting replayed.members asked.steps) setting replayed.members asked.steps old new fault →
        Leaves contents show files asked log fault old new
    left fault (inl (p, kept)) = inl kept
    left fault (inr stops) = inr (
      subst IsOfWriting (sym stops.is) (of_writing stops.cause),
      record { text = stops.text; is_text = shown_so show stops.text stops.holds; len = stops.stops.0.0; front = stops.stops.0.1 },
    )
