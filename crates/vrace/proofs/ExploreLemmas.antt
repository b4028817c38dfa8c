-- From the exploration of a design to that of files.
use Rattle.std.proofs.Common.{◌≡◌, ◌≤◌, inl, inr, ℕ, List, Option, length, refl, sym, ap, subst, ◌∙◌, arith}
use Rattle.statebook.specs.declared.limits.Limits.{Limits}
use Rattle.explore.specs.Found.{HasEntries}
use Rattle.explore.specs.declared.ranked_findings.RankedFindings.{RankedFindings}
use Rattle.vmodel.specs.Run.{Setting, rules_of}
use Rattle.basis.specs.Reasons.{Because}
use Rattle.basis.specs.declared.memory.OrMemory.{OrMemory}
use Rattle.basis.specs.declared.memory.OrMemory.TheVariants as or
use Rattle.byte_sinks.specs.Metered.{Written, Broken, count_after}
use Rattle.byte_sinks.specs.MeteredLaws.{stops_of}
use Rattle.byte_sinks.specs.declared.metered.Metered.{Metered}
use Rattle.byte_sinks.specs.declared.fault.TooMany.{TooMany}
use Rattle.byte_sinks.specs.declared.fault.WriteFault.{WriteFault}
use Rattle.byte_sinks.specs.declared.fault.WriteFault.TheVariants as write
use Rattle.dump_law.specs.Small.{IsSmall}
use Rattle.dump_law.specs.LengthLaws.{DumpsAreShort}
use Rattle.report_text.specs.declared.report.Outcome.TheVariants.{CutEntries}
use Rattle.report_text.specs.Report.{Report}
use Rattle.report_text.specs.ReportText.{report_text}
use Rattle.vreport.specs.Ends.{HasSomeLongDump}
use Rattle.vreport.specs.Formed.{IsFormed}
use Rattle.vreport.specs.InTime.{TellsOfClosed, TellsUpTo, outcome_in_time}
use Rattle.vreport.specs.declared.timed.Spent.{Spent}
use Rattle.vreport.specs.Reports.{IsExploration}
use Rattle.vreport.specs.Written.{TakesReport, StopsReport as StopsByteSink}
use Rattle.vrace.specs.Request.{Request}
use Rattle.vrace.specs.Explores.{AreWorkers, EndsSearch, Explores, FilesHaveEntriesWhereCut, HasEntriesWhereCut, IsExploreReason, IsReported, IsSearchReason, IsSharedReason, IsStatusOf, LeavesReport, Reports, Searched, setting_for}
use Rattle.vrace.specs.ExploresInTime.{ExploresInTime, ReportsInTime, SaysInShort}
use Rattle.vrace.specs.declared.in_time.Timed.{Timed}
use Rattle.vrace.specs.Refusals.{IsOfMemory, IsOfWriting}
use Rattle.vrace.specs.RunDumps.{failures_after, fault_of}
use Rattle.vrace.specs.declared.exploring.Status.{Status}
use Rattle.vrace.specs.declared.fault.Fault.{Fault}
use Rattle.vrace.specs.declared.fault.Fault.TheVariants.{NotEnded, BadToken, Directive, NoMacro, TooLarge, LeftOpen, Timescales, NoTree, Outside, TooDeep, NoDesign, BadLog, NoSuchChoice, TooManySteps, OutOfLimit, BadReport, FalseEnd, FalseRace, FalseHead, Memory, Write, Read, TooLong}

of_writing : (cause : OrMemory WriteFault) → IsOfWriting (fault_of cause)
of_writing (or.Memory m) = tt
of_writing (or.Fault write.Write) = tt

count_of_writing : (cause : OrMemory WriteFault) (n : ℕ) → count_after cause n ≡ failures_after (fault_of cause) n
count_of_writing (or.Memory m) n = refl
count_of_writing (or.Fault write.Write) n = refl

-- ---- dumps

-- the runs of a small design that end within the steps have short dumps
pub short_dumps : DumpsAreShort → (setting : Setting) (limits : Limits) → IsSmall setting.design → setting.until ≤ 4611686018427387903 → ¬ HasSomeLongDump setting limits
short_dumps law setting limits small early (log, departs, (dump, is_dump, long)) =
    let few = limits.within.few_steps in
    let within = is_dump.finishes.within in
    let short = law setting log is_dump.steps small (omega (arith, early)) (omega (arith, few, within)) in
    let same = ap length is_dump.is_text in
    omega (arith, short, same, long)

pub never_long : (setting : Setting) (limits : Limits) (fault : OrMemory TooMany) → ¬ HasSomeLongDump setting limits → Because (λ _. HasSomeLongDump setting limits) fault → Because (λ _. ⊥) fault
never_long setting limits (or.Fault f) short long = short long
never_long setting limits (or.Memory m) short long = tt

-- ---- of a setting

module _ {W : Type 0} (contents : W → Option (List ℕ)) (setting : Setting) (limits : Limits) (report : Report) (exploration : IsExploration setting limits report) (formed : IsFormed setting report) (old new : Metered W) where
  pub reported : (status : Status) → IsStatusOf report status → TakesReport (Written contents) setting report old new → Reports contents setting limits status old new
  reported status is taken = record {
    report = report;
    dumps = taken.dumps;
    is_report = record { exploration = exploration; are_dumps = taken.are_dumps; formed = formed taken.dumps taken.are_dumps };
    status_is = is;
    written = taken.taken;
  }

  pub reported_in_time : (lacked : Spent) (search : RankedFindings) (timed : Timed) → TellsUpTo setting limits search.closed report → TellsOfClosed search.closed report → report.outcome ≡ outcome_in_time lacked search.status →
      (report.outcome ≡ CutEntries → HasEntries (rules_of setting) limits) → SaysInShort report timed → timed.search ≡ search → TakesReport (Written contents) setting report old new →
      ReportsInTime contents setting limits lacked timed old new
  reported_in_time lacked search timed up_to of_closed outcome_is entries says same taken = record {
    report = report;
    dumps = taken.dumps;
    is_report = record { exploration = exploration; are_dumps = taken.are_dumps; formed = formed taken.dumps taken.are_dumps };
    up_to = subst (λ (s : RankedFindings). TellsUpTo setting limits s.closed report) (sym same) up_to;
    of_closed = subst (λ (s : RankedFindings). TellsOfClosed s.closed report) (sym same) of_closed;
    says = says;
    outcome_is = sym says.outcome_is ∙ outcome_is ∙ ap (λ (s : RankedFindings). outcome_in_time lacked s.status) (sym same);
    entries = λ e. entries (says.outcome_is ∙ e);
    written = taken.taken;
  }

  pub report_stops : (cause : OrMemory WriteFault) (fault : Fault) → fault ≡ fault_of cause → StopsByteSink (Written contents) (Broken contents) setting report old cause new →
      EndsSearch contents setting limits old new fault
  report_stops cause fault is stopped = inr (record {
    cause = cause;
    is = is;
    report = report;
    dumps = stopped.dumps;
    is_report = record { exploration = exploration; are_dumps = stopped.are_dumps; formed = formed stopped.dumps stopped.are_dumps };
    stops = stops_of contents old new (report_text report stopped.dumps) cause stopped.stopped;
  })

-- ---- of files

module _ (files : List (List ℕ)) (asked : Request) (searched : Searched files asked) (limits : Limits) (setting : Setting) (same : setting ≡ setting_for files asked searched) where
  pub files_have : (status : Status) → HasEntriesWhereCut setting limits status → FilesHaveEntriesWhereCut files asked limits status
  files_have status has = (searched, subst (λ (s : Setting). HasEntriesWhereCut s limits status) same has)

  search_reason : (fault : Fault) → IsOfMemory fault → IsSearchReason files asked limits fault
  search_reason (TooLarge at) p = absurd p
  search_reason (Memory m) p = tt
  search_reason (NotEnded at) p = absurd p
  search_reason (BadToken at) p = absurd p
  search_reason (NoTree at) p = absurd p
  search_reason (Outside at) p = absurd p
  search_reason (TooDeep at) p = absurd p
  search_reason (Directive at) p = absurd p
  search_reason (NoMacro at) p = absurd p
  search_reason (LeftOpen at) p = absurd p
  search_reason (Timescales at) p = absurd p
  search_reason (NoDesign rule at) p = absurd p
  search_reason BadLog p = absurd p
  search_reason NoSuchChoice p = absurd p
  search_reason TooManySteps p = absurd p
  search_reason OutOfLimit p = absurd p
  search_reason BadReport p = absurd p
  search_reason (FalseEnd i) p = absurd p
  search_reason (FalseRace i) p = absurd p
  search_reason FalseHead p = absurd p
  search_reason Write p = absurd p
  search_reason Read p = absurd p
  search_reason TooLong p = absurd p

  no_failure : (fault : Fault) (n : ℕ) → IsOfMemory fault → n ≡ failures_after fault n
  no_failure (TooLarge at) n p = absurd p
  no_failure (Memory m) n p = refl
  no_failure (NotEnded at) n p = absurd p
  no_failure (BadToken at) n p = absurd p
  no_failure (NoTree at) n p = absurd p
  no_failure (Outside at) n p = absurd p
  no_failure (TooDeep at) n p = absurd p
  no_failure (Directive at) n p = absurd p
  no_failure (NoMacro at) n p = absurd p
  no_failure (LeftOpen at) n p = absurd p
  no_failure (Timescales at) n p = absurd p
  no_failure (NoDesign rule at) n p = absurd p
  no_failure BadLog n p = absurd p
  no_failure NoSuchChoice n p = absurd p
  no_failure TooManySteps n p = absurd p
  no_failure OutOfLimit n p = absurd p
  no_failure BadReport n p = absurd p
  no_failure (FalseEnd i) n p = absurd p
  no_failure (FalseRace i) n p = absurd p
  no_failure FalseHead n p = absurd p
  no_failure Write n p = absurd p
  no_failure Read n p = absurd p
  no_failure TooLong n p = absurd p

  reason_of_writing : (report : Report) (dumps : List (List ℕ)) (cause : OrMemory WriteFault) → IsReported (setting_for files asked searched) limits report dumps →
      IsSearchReason files asked limits (fault_of cause)
  reason_of_writing report dumps (or.Memory m) is = tt
  reason_of_writing report dumps (or.Fault write.Write) is = (searched, report, dumps, is)

  module _ {W : Type 0} (contents : W → Option (List ℕ)) (old new : Metered W) where
    pub explores : (status : Status) → Reports contents setting limits status old new → Explores contents files asked limits status old new
    explores status r = record { searched = searched; reports = subst (λ (s : Setting). Reports contents s limits status old new) same r }

    pub explores_in_time : (lacked : Spent) (timed : Timed) → ReportsInTime contents setting limits lacked timed old new → ExploresInTime contents files asked limits lacked timed old new
    explores_in_time lacked timed r = record { searched = searched; reports = subst (λ (s : Setting). ReportsInTime contents s limits lacked timed old new) same r }

    pub explore_reason : (fault : Fault) → EndsSearch contents setting limits old new fault → IsExploreReason files asked limits fault
    explore_reason fault (inl (p, kept)) = inr (search_reason fault p)
    explore_reason fault (inr s) = inr (subst (IsSearchReason files asked limits) (sym s.is)
        (reason_of_writing s.report s.dumps s.cause (subst (λ (t : Setting). IsReported t limits s.report s.dumps) same s.is_report)))

    pub shared_reason : (workers : ℕ) → AreWorkers workers → (fault : Fault) → EndsSearch contents setting limits old new fault → IsSharedReason files asked limits workers fault
    shared_reason workers are fault ends = inr (are, explore_reason fault ends)

    pub explore_left : (fault : Fault) → EndsSearch contents setting limits old new fault → LeavesReport contents files asked limits fault old new
    explore_left fault (inl (p, kept)) = inl kept
    explore_left fault (inr s) = inr (
      subst IsOfWriting (sym s.is) (of_writing s.cause),
      record {
        searched = searched;
        report = s.report;
        dumps = s.dumps;
        is_report = subst (λ (t : Setting). IsReported t limits s.report s.dumps) same s.is_report;
        len = s.stops.0.0;
        front = s.stops.0.1;
      },
    )

    pub explore_failures : (fault : Fault) → EndsSearch contents setting limits old new fault → new.failures ≡ failures_after fault old.failures
    explore_failures fault (inl (p, kept)) = ap (λ (m : Metered W). m.failures) kept ∙ no_failure fault old.failures p
    explore_failures fault (inr s) = s.stops.1 ∙ count_of_writing s.cause old.failures ∙ ap (λ (f : Fault). failures_after f old.failures) (sym s.is)
