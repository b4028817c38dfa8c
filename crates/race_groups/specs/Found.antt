-- *product rule*: What a search for races tells, by causes (IEEE 1364-2005, 11.3, 11.4; crates/race_groups/README.md): differences that are
-- some, causes that are theirs, and where nothing is told, that there is nothing from one time on, up to another or for good.
use Rattle.std.specs.Prelude.{◌≡◌, ◌≢◌, ⊤, Bool, false, true, ℕ, ◌≤◌, ◌⊎◌, List, [], ◌∷◌, ◌++◌, length, map, take, slice_get, min, Option}
use Rattle.std.specs.Prelude.{Some, None, IfNone, IfSome, if◌then◌else◌}
use Rattle.std.specs.List.{Contains}
use Rattle.basis.specs.declared.memory.NoMemory.{NoMemory}
use Rattle.sched_core.specs.declared.end.Cause.{Cause}
use Rattle.sched_core.specs.declared.end.Cause.TheVariants.{Finish, Stop, Quiet, Limit}
use Rattle.sched_core.specs.declared.end.End.{End}
use Rattle.sched_core.specs.Replay.{EndsAfter}
use Rattle.sched_core.specs.Rules.{IsRun}
use Rattle.statebook.specs.declared.limits.Limits.{Limits}
use Rattle.explore.specs.Ranked.{pairs_of}
use Rattle.explore.specs.declared.ranked_findings.RankedStatus.TheVariants.{Exhausted}
use Rattle.vbits.specs.Vectors.{Vector}
use Rattle.vmodel.specs.State.{State}
use Rattle.vmodel.specs.Run.{Setting, rules_of, state_after, end_of}
use Rattle.vmachine.specs.declared.machine_state.MachineState.{MachineState}
use Rattle.vmachine.specs.Machines.{Stands}
use Rattle.racebook.specs.InTime.{EachEnd, IsClosed, IsEndOfRun}
use Rattle.cause.specs.Causes.{HasNoCause, IsCause}
use Rattle.race_groups.specs.Blame.{HasSameCause}
use Rattle.race_groups.specs.declared.group.Difference.{Difference}
use Rattle.race_groups.specs.declared.group.Difference.TheVariants.{Values, Lines, Ends}
use Rattle.race_groups.specs.declared.group.Group.{Group}
use Rattle.race_groups.specs.declared.group.Name.{Name}
use Rattle.race_groups.specs.declared.group.Races.{Races}
use Rattle.race_groups.specs.declared.group.Scope.{Scope}
use Rattle.race_groups.specs.Shown.{IsLineRaceAt, IsRaceAt, TwoRunsDifferAt, TwoRunsPrintAt}

-- ---- one difference, and its cause

-- 17.4: `$finish` and `$stop` end a run in the middle of a slot
abbrev pub cuts_slot : Cause → Bool
cuts_slot Finish = true
cuts_slot Stop = true
cuts_slot Quiet = false
cuts_slot Limit = false

-- where the time limit cuts a run, its end isn't compared
abbrev pub compared_by : Cause → End → Option End
compared_by Finish end = Some end
compared_by Stop end = Some end
compared_by Quiet end = Some end
compared_by Limit end = None

-- What is compared of the end of a run: its time and cause; and where the slot is cut and lines are looked at, the lines that it printed.
-- What a slot printed that has an end is compared there.
pub record Verdict : Type 0 where
  pub end : Option End
  pub printed : Option (List (List ℕ))

abbrev pub verdict_by : End → State → Verdict
verdict_by end t = record {
  end = compared_by end.cause end;
  printed = if cuts_slot end.cause then t.printed else None;
}

-- the values that a cut slot leaves; none of a slot that has an end
abbrev pub cut_values_by : End → State → List Vector
cut_values_by end t = if cuts_slot end.cause then t.values else []

-- runs that end in these two end alike
abbrev pub EndsAgree : State → State → Type 0
EndsAgree one other = verdict_by (end_of one) one ≡ verdict_by (end_of other) other

-- and leave a cut slot with the same values
abbrev pub CutAlike : State → State → Type 0
CutAlike one other = cut_values_by (end_of one) one ≡ cut_values_by (end_of other) other

-- two of these ends differ
pub record TwoEndsDiffer (setting : Setting) (ends : List (MachineState × List (ℕ × ℕ))) : Type 0 where
  pub one : MachineState × List (ℕ × ℕ)
  pub other : MachineState × List (ℕ × ℕ)
  pub has_one : Contains ends one
  pub has_other : Contains ends other
  pub state : State
  pub other_state : State
  pub stands : Stands setting one.0 state
  pub other_stands : Stands setting other.0 other_state
  pub differ : EndsAgree state other_state → ⊥

-- two of these ends are alike, but for the values that a cut slot leaves
pub record TwoCutsDiffer (setting : Setting) (ends : List (MachineState × List (ℕ × ℕ))) : Type 0 where
  pub one : MachineState × List (ℕ × ℕ)
  pub other : MachineState × List (ℕ × ℕ)
  pub has_one : Contains ends one
  pub has_other : Contains ends other
  pub state : State
  pub other_state : State
  pub stands : Stands setting one.0 state
  pub other_stands : Stands setting other.0 other_state
  pub agree : EndsAgree state other_state
  pub differ : CutAlike state other_state → ⊥

-- runs within the limits differ so, each under its log
abbrev pub IsDifference : Setting → Limits → Difference → Type 0
IsDifference setting limits (Values race) = IsRaceAt setting limits race
IsDifference setting limits (Lines race) = IsLineRaceAt setting limits race
IsDifference setting limits (Ends ends) = EachEnd (IsEndOfRun setting limits) (pairs_of ends.items)
    × TwoEndsDiffer setting (pairs_of ends.items)

-- the fact holds of each group
abbrev pub EachGroup : (Group → Type 0) → List Group → Type 0
EachGroup P groups = (i : ℕ) (group : Group) → slice_get groups i ≡ Some group → P group

-- its cause, where it has one, is that of its log
abbrev pub HasItsCause : Setting → Group → Type 0
HasItsCause setting group = IfSome group.cause (IsCause setting group.log)

-- and where it has none, its log has none, if the slot ends within the steps that are allowed
abbrev pub LacksOnlyNoCause : Setting → Limits → Group → Type 0
LacksOnlyNoCause setting limits group = IfNone group.cause (HasNoCause setting group.log limits.steps)

abbrev pub HasFirstDifference : Setting → Limits → Group → Type 0
HasFirstDifference setting limits group = IsDifference setting limits group.first

-- the logs under which it is seen, one for each side
abbrev pub logs_of : Difference → List (List (ℕ × ℕ))
logs_of (Values race) = map (λ side. side.1) race.values
logs_of (Lines race) = map (λ side. side.1) race.sides
logs_of (Ends ends) = map (λ end. end.1) (pairs_of ends.items)

-- one of these, which names a departure; or none that does, as none of these does
abbrev pub IsLogOf : Difference → List (ℕ × ℕ) → Type 0
IsLogOf difference log = (Contains (logs_of difference) log × (log ≢ []))
    ⊎ ((log ≡ []) × ((other : List (ℕ × ℕ)) → Contains (logs_of difference) other → other ≡ []))

abbrev pub HasLogOfFirst : Group → Type 0
HasLogOfFirst group = IsLogOf group.first group.log

-- a time from this one on, which was closed
abbrev pub IsClosedFrom : ℕ → Option ℕ → ℕ → Type 0
IsClosedFrom from closed time = (from ≤ time) × IsClosed closed time

-- the difference is of such a time; of ends, each is
abbrev pub IsInTime : Setting → ℕ → Option ℕ → Difference → Type 0
IsInTime setting from closed (Values race) = IsClosedFrom from closed race.time
IsInTime setting from closed (Lines race) = IsClosedFrom from closed race.time
IsInTime setting from closed (Ends ends) =
    EachEnd (λ end. (t : State) → Stands setting end.0 t → IsClosedFrom from closed t.queue.time) (pairs_of ends.items)

-- ---- what a group counts

-- a difference in a slot by its name: a time, and a variable or, where it is of none, the lines
abbrev pub name_of : Difference → Option Name
name_of (Values race) = Some (record { time = race.time; variable = Some race.variable })
name_of (Lines race) = Some (record { time = race.time; variable = None })
name_of (Ends ends) = None

-- Beside its first difference the group sums up these, in the order in which they were met: of their names it keeps the first as far as
-- it may, and of all their number and the time of the last.
pub record Summarizes (names : ℕ) (group : Group) (rest : List Name) : Type 0 where
  pub next : group.next.items ≡ take names rest
  pub more : group.more ≡ min (length rest) 18446744073709551615
  pub last : (before : List Name) (name : Name) → rest ≡ before ++ name ∷ [] → group.last ≡ name.time
  pub alone : (name : Name) → rest ≡ [] → name_of group.first ≡ Some name → group.last ≡ name.time

-- each sums up those of its place
abbrev pub AllSummarize : ℕ → List Group → (ℕ → List Name) → Type 0
AllSummarize names groups rests = (i : ℕ) (group : Group) → slice_get groups i ≡ Some group → Summarizes names group (rests i)

-- the group at the place has the difference of this name: it is its first, or one of those that it sums up
pub record IsNameIn (groups : List Group) (rests : ℕ → List Name) (place : ℕ) (name : Name) : Type 0 where
  pub group : Group
  pub at : slice_get groups place ≡ Some group
  pub has : (name_of group.first ≡ Some name) ⊎ Contains (rests place) name

-- one of the groups has it
abbrev pub IsNameInOne : List Group → (ℕ → List Name) → Name → Type 0
IsNameInOne groups rests name = (place : ℕ) × IsNameIn groups rests place name

-- two runs of at most so many departures differ at this time (`Shown`), in this variable or, where it is of none, in lines
abbrev pub TwoRunsDifferIn : Setting → ℕ → ℕ → Option ℕ → Type 0
TwoRunsDifferIn setting depart time None = TwoRunsPrintAt setting depart time
TwoRunsDifferIn setting depart time (Some variable) = TwoRunsDifferAt setting depart time variable

-- the name stands at place k of what the group at place i sums up
pub record IsNamedAt (groups : List Group) (rests : ℕ → List Name) (i k : ℕ) (name : Name) : Type 0 where
  pub group : Group
  pub at : slice_get groups i ≡ Some group
  pub named : slice_get (rests i) k ≡ Some name

-- no difference is summed up twice, nor by the group that it is the first of
pub record AreNamedOnce (groups : List Group) (rests : ℕ → List Name) : Type 0 where
  pub once : (i j k l : ℕ) (name : Name) → IsNamedAt groups rests i k name → IsNamedAt groups rests j l name → (i ≡ j) × (k ≡ l)
  pub not_first : (i : ℕ) (group : Group) (name : Name) → slice_get groups i ≡ Some group → name_of group.first ≡ Some name →
      Contains (rests i) name → ⊥

-- The group's cause explains the difference of this name: runs differ so within the limits, and what is told of the log of a side blames the
-- same two statements as the group's cause. Where the group has no cause, none is told of the log.
pub record IsExplained (setting : Setting) (limits : Limits) (group : Group) (name : Name) : Type 0 where
  pub difference : Difference
  pub named : name_of difference ≡ Some name
  pub is : IsDifference setting limits difference
  pub log : List (ℕ × ℕ)
  pub of : IsLogOf difference log
  pub same : HasSameCause setting limits.steps group.cause log

-- what groups sum up are differences at these times, none twice, and each under its cause
pub record NoneIsMadeUp (setting : Setting) (limits : Limits) (groups : List Group) (rests : ℕ → List Name) (Within : ℕ → Type 0) : Type 0 where
  pub differ : (i k : ℕ) (name : Name) → IsNamedAt groups rests i k name → Within name.time
      × TwoRunsDifferIn setting limits.depart name.time name.variable
  pub named_once : AreNamedOnce groups rests
  pub caused : (i k : ℕ) (name : Name) (is : IsNamedAt groups rests i k name) → IsExplained setting limits is.group name

-- Wherever two runs of at most so many departures differ at these times (`Shown`), in a variable or in lines, a group has the difference.
-- If memory wasn't refused meanwhile, it has no others.
pub record AllAreCounted (setting : Setting) (limits : Limits) (names : ℕ) (groups : List Group) (refused : Option NoMemory)
    (Within : ℕ → Type 0) : Type 0 where
  pub rests : ℕ → List Name
  pub summaries : AllSummarize names groups rests
  pub values : (time variable : ℕ) → Within time → TwoRunsDifferAt setting limits.depart time variable →
      IsNameInOne groups rests (record { time = time; variable = Some variable })
  pub lines : (time : ℕ) → Within time → TwoRunsPrintAt setting limits.depart time →
      IsNameInOne groups rests (record { time = time; variable = None })
  pub none_made_up : refused ≡ None → NoneIsMadeUp setting limits groups rests Within

-- ---- where nothing is told

-- all runs of at most so many departures that end at these times end alike
abbrev pub AllEndsAgree : Setting → ℕ → (ℕ → Type 0) → Type 0
AllEndsAgree setting depart Within = (log other : List (ℕ × ℕ)) (steps others : ℕ) → length log ≤ depart → length other ≤ depart →
    EndsAfter (rules_of setting) log steps → EndsAfter (rules_of setting) other others →
    Within (state_after setting log steps).queue.time → Within (state_after setting other others).queue.time →
    EndsAgree (state_after setting log steps) (state_after setting other others)

-- and leave a cut slot with the same values
abbrev pub AllCutAlike : Setting → ℕ → (ℕ → Type 0) → Type 0
AllCutAlike setting depart Within = (log other : List (ℕ × ℕ)) (steps others : ℕ) → length log ≤ depart → length other ≤ depart →
    EndsAfter (rules_of setting) log steps → EndsAfter (rules_of setting) other others →
    Within (state_after setting log steps).queue.time → Within (state_after setting other others).queue.time →
    CutAlike (state_after setting log steps) (state_after setting other others)

-- of runs of at most so many departures: at these times no two differ in a variable, no two in lines (`Shown`), and all that end do so
-- alike
pub record NoneDiffer (setting : Setting) (depart : ℕ) (Within : ℕ → Type 0) : Type 0 where
  pub values : (time variable : ℕ) → Within time → TwoRunsDifferAt setting depart time variable → ⊥
  pub lines : (time : ℕ) → Within time → TwoRunsPrintAt setting depart time → ⊥
  pub ends : AllEndsAgree setting depart Within

-- none that ends at these times was cut by the time limit
abbrev pub NoneIsCut : Setting → ℕ → (ℕ → Type 0) → Type 0
NoneIsCut setting depart Within = (log : List (ℕ × ℕ)) (steps : ℕ) → length log ≤ depart → EndsAfter (rules_of setting) log steps →
    Within (state_after setting log steps).queue.time → (end_of (state_after setting log steps)).cause ≢ Limit

-- ---- the clauses

-- from the scope's time up to the time that was closed every difference is counted
abbrev pub TellsOfAll : Setting → Limits → Scope → Races → Type 0
TellsOfAll setting limits scope races = AllAreCounted setting limits scope.names races.groups.items races.refused
    (IsClosedFrom scope.from races.search.closed)

-- and every difference from the scope's time on, where the status says so
abbrev pub TellsOfAllThroughout : Setting → Limits → Scope → Races → Type 0
TellsOfAllThroughout setting limits scope races = races.search.status ≡ Exhausted →
    AllAreCounted setting limits scope.names races.groups.items races.refused (λ time. scope.from ≤ time)

-- the first difference of each group is of a time from the scope's on, which was closed
abbrev pub FirstsAreInTime : Setting → Scope → Races → Type 0
FirstsAreInTime setting scope races = EachGroup (λ group. IsInTime setting scope.from races.search.closed group.first) races.groups.items

-- where the status says so, each run of at most so many departures that ends does so by the time that was closed
abbrev pub ClosesAllEnds : Setting → Limits → Races → Type 0
ClosesAllEnds setting limits races = races.search.status ≡ Exhausted →
    (log : List (ℕ × ℕ)) (steps : ℕ) → length log ≤ limits.depart → EndsAfter (rules_of setting) log steps →
    IsClosed races.search.closed (state_after setting log steps).queue.time

-- within the limits a run comes to the end of a slot of this time, or ends then
pub record IsTimeOfRun (setting : Setting) (limits : Limits) (time : ℕ) : Type 0 where
  pub log : List (ℕ × ℕ)
  pub steps : ℕ
  pub run : IsRun (rules_of setting) log steps
  pub mark : (rules_of setting).mark (state_after setting log steps) ≡ true
  pub time_is : (state_after setting log steps).queue.time ≡ time
  pub within : steps ≤ limits.steps
  pub short : length log ≤ limits.depart

-- the time that was closed is one of these
abbrev pub ClosesTimeOfRun : Setting → Limits → Races → Type 0
ClosesTimeOfRun setting limits races = IfSome races.search.closed (IsTimeOfRun setting limits)

-- where there is no group, none differ from the scope's time up to the time that was closed
abbrev pub TellsOfNone : Setting → Limits → Scope → Races → Type 0
TellsOfNone setting limits scope races = races.groups.items ≡ [] →
    IfSome races.search.closed (λ top. NoneDiffer setting limits.depart (λ time. (scope.from ≤ time) × (time ≤ top)))

-- and none at all from the scope's time on, where the status says so
abbrev pub TellsOfNoneThroughout : Setting → Limits → Scope → Races → Type 0
TellsOfNoneThroughout setting limits scope races = races.groups.items ≡ [] → races.search.status ≡ Exhausted →
    NoneDiffer setting limits.depart (λ time. scope.from ≤ time)

-- ---- how runs end

abbrev pub IsOfEnds : Difference → Type 0
IsOfEnds (Values race) = ⊥
IsOfEnds (Lines race) = ⊥
IsOfEnds (Ends ends) = ⊤

-- no group tells that runs end in different ways
abbrev pub TellsNoEnds : List Group → Type 0
TellsNoEnds groups = (group : Group) → Contains groups group → IsOfEnds group.first → ⊥

-- where no group tells so, all that end from the scope's time up to the time that was closed end alike
abbrev pub TellsOfEnds : Setting → Limits → Scope → Races → Type 0
TellsOfEnds setting limits scope races = TellsNoEnds races.groups.items →
    IfSome races.search.closed (λ top. AllEndsAgree setting limits.depart (λ time. (scope.from ≤ time) × (time ≤ top)))

-- and all from the scope's time on, where the status says so
abbrev pub TellsOfEndsThroughout : Setting → Limits → Scope → Races → Type 0
TellsOfEndsThroughout setting limits scope races = TellsNoEnds races.groups.items → races.search.status ≡ Exhausted →
    AllEndsAgree setting limits.depart (λ time. scope.from ≤ time)

-- the cut ends that are told, if any are, are ends of runs within the limits; two are alike, but for the values that they leave
abbrev pub IsCutValues : Setting → Limits → Races → Type 0
IsCutValues setting limits races = (races.cut_ends.items ≡ [])
    ⊎ (EachEnd (IsEndOfRun setting limits) (pairs_of races.cut_ends.items) × TwoCutsDiffer setting (pairs_of races.cut_ends.items))

-- where neither different ends nor cut ends are told, all that end at these times leave the same values in a cut slot
abbrev pub TellsOfCutValues : Setting → Limits → Scope → Races → Type 0
TellsOfCutValues setting limits scope races = TellsNoEnds races.groups.items → races.cut_ends.items ≡ [] →
    IfSome races.search.closed (λ top. AllCutAlike setting limits.depart (λ time. (scope.from ≤ time) × (time ≤ top)))

abbrev pub TellsOfCutValuesThroughout : Setting → Limits → Scope → Races → Type 0
TellsOfCutValuesThroughout setting limits scope races = TellsNoEnds races.groups.items → races.cut_ends.items ≡ [] →
    races.search.status ≡ Exhausted → AllCutAlike setting limits.depart (λ time. scope.from ≤ time)

-- none ends at these times
abbrev pub NoneEnds : Setting → ℕ → (ℕ → Type 0) → Type 0
NoneEnds setting depart Within = (log : List (ℕ × ℕ)) (steps : ℕ) → length log ≤ depart → EndsAfter (rules_of setting) log steps →
    Within (state_after setting log steps).queue.time → ⊥

-- where it isn't said that a run ended, none did up to the time that was closed
abbrev pub TellsOfNoEnd : Setting → Limits → Races → Type 0
TellsOfNoEnd setting limits races = races.ended ≡ false →
    IfSome races.search.closed (λ top. NoneEnds setting limits.depart (λ time. time ≤ top))

-- and none does, where the status says so
abbrev pub TellsOfNoEndThroughout : Setting → Limits → Races → Type 0
TellsOfNoEndThroughout setting limits races = races.ended ≡ false → races.search.status ≡ Exhausted →
    NoneEnds setting limits.depart (λ time. ⊤)

-- where it isn't said that a run was cut by the time limit, none was up to the time that was closed
abbrev pub TellsOfCuts : Setting → Limits → Races → Type 0
TellsOfCuts setting limits races = races.cut_runs ≡ false →
    IfSome races.search.closed (λ top. NoneIsCut setting limits.depart (λ time. time ≤ top))

-- and none at all, where the status says so
abbrev pub TellsOfCutsThroughout : Setting → Limits → Races → Type 0
TellsOfCutsThroughout setting limits races = races.cut_runs ≡ false → races.search.status ≡ Exhausted →
    NoneIsCut setting limits.depart (λ time. ⊤)
