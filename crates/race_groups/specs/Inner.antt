-- *internal*: Words for the contracts of calls within: what is kept of closed slots, group by group.
use Rattle.std.specs.Prelude.{◌≡◌, ◌≢◌, Bool, false, ℕ, ◌+◌, ◌<◌, ◌≤◌, ◌⊎◌, List, [], ◌∷◌, ◌++◌, length, map, slice_get, min, Option, Some}
use Rattle.std.specs.Prelude.{None, if◌then◌else◌}
use Rattle.std.specs.List.{Contains}
use Rattle.std.proofs.Common.{append-nil, refl, subst, sym}
use Rattle.basis.specs.declared.memory.NoMemory.{NoMemory}
use Rattle.sched_core.specs.declared.end.End.{End}
use Rattle.sched_core.specs.declared.end.Cause.TheVariants.{Limit}
use Rattle.explore.specs.Ranked.{Closing, OfEach, pairs_of}
use Rattle.explore.specs.declared.rank_marks.FoundMark.{FoundMark}
use Rattle.vbits.specs.Vectors.{Vector}
use Rattle.vmodel.specs.State.{State}
use Rattle.vmodel.specs.Run.{Setting}
use Rattle.vmachine.specs.declared.machine_state.MachineState.{MachineState}
use Rattle.vmachine.specs.Machines.{Stands}
use Rattle.vmachine.specs.Reads.{end_in}
use Rattle.racebook.specs.Races.{Race}
use Rattle.racebook.specs.LineRaces.{LineRace}
use Rattle.racebook.specs.Inner.{AreEndsOf, AreInTurn, HasEnded}
use Rattle.racebook.specs.declared.slots.FoundInSlot.{FoundInSlot}
use Rattle.cause.specs.declared.cause.Cause.{Cause}
use Rattle.race_groups.specs.Blame.{AreSameTwo, HasSameCause, blamed_by}
use Rattle.race_groups.specs.Tracing.{IsTraced, Tracing}
use Rattle.race_groups.specs.declared.causes.Causes.{Causes}
use Rattle.race_groups.specs.declared.causes.Placed.{Placed}
use Rattle.race_groups.specs.declared.causes.Placed.TheVariants.{With, Apart}
use Rattle.race_groups.specs.declared.collected.RaceGroups.{RaceGroups}
use Rattle.race_groups.specs.declared.group.Difference.{Difference}
use Rattle.race_groups.specs.declared.group.Difference.TheVariants.{Values, Lines, Ends}
use Rattle.race_groups.specs.declared.group.Group.{Group}
use Rattle.race_groups.specs.declared.group.Name.{Name}
use Rattle.race_groups.specs.declared.group.Scope.{Scope}
use Rattle.race_groups.specs.Found.{AllSummarize, AreNamedOnce, IsLogOf, IsNameIn, IsNameInOne, TellsNoEnds, Verdict, compared_by}
use Rattle.race_groups.specs.Found.{cuts_slot, name_of}
use Rattle.race_groups.specs.Standing.{AreLineRacesShown, AreRacesShown, AreStanding, ShowsLineRace, ShowsRace}
use Rattle.race_groups.specs.declared.standing.Standing.{Standing}

-- ---- groups

-- what stays of a group: its cause, its log and its first difference
pub record GroupHead : Type 0 where
  pub cause : Option Cause
  pub log : List (ℕ × ℕ)
  pub first : Difference

abbrev pub group_head : Group → GroupHead
group_head group = record { cause = group.cause; log = group.log; first = group.first }

abbrev pub group_heads : List Group → List GroupHead
group_heads groups = map group_head groups

-- how logs are traced to their causes
abbrev pub tracing_of : Causes → Tracing
tracing_of causes = causes.table

-- its cause is that of its log, and this is one of its first difference
abbrev pub IsCaused : Tracing → GroupHead → Type 0
IsCaused tracing t = IsTraced tracing t.log t.cause × IsLogOf t.first t.log

-- the group at the place blames the same statements as what is told of the log
pub record IsWith (tracing : Tracing) (groups : List Group) (log : List (ℕ × ℕ)) (place : ℕ) : Type 0 where
  pub group : Group
  pub at : slice_get groups place ≡ Some group
  pub same : HasSameCause tracing.setting tracing.steps group.cause log

-- a log belongs to such a group, or to none, with its cause
abbrev pub IsPlaced : Tracing → List Group → List (ℕ × ℕ) → Placed → Type 0
IsPlaced tracing groups log (With place) = IsWith tracing groups log place
IsPlaced tracing groups log (Apart cause) = IsTraced tracing log cause

-- the group at the place blames these two statements, in one order or the other
pub record HasPairAt (groups : List Group) (pair : Option (ℕ × ℕ)) (place : ℕ) : Type 0 where
  pub group : Group
  pub at : slice_get groups place ≡ Some group
  pub same : AreSameTwo (blamed_by group.cause) pair

-- groups stand behind those that there were, of such differences, each with its cause
pub record Adds (tracing : Tracing) (P : Difference → Type 0) (old new : List GroupHead) : Type 0 where
  pub more : List GroupHead
  pub is : new ≡ old ++ more
  pub causes : (t : GroupHead) → Contains more t → IsCaused tracing t
  pub firsts : (t : GroupHead) → Contains more t → P t.first

-- ---- logs

-- the side's log names a departure
abbrev pub IsDeparted : List (List (ℕ × ℕ)) → ℕ → List (ℕ × ℕ) → Type 0
IsDeparted logs side log = (slice_get logs side ≡ Some log) × (log ≢ [])

-- the log of the side, if there is one, names none
abbrev pub IsDefault : List (List (ℕ × ℕ)) → ℕ → Type 0
IsDefault logs side = (log : List (ℕ × ℕ)) → slice_get logs side ≡ Some log → log ≡ []

-- so it is of the first so many
abbrev pub AreDefault : List (List (ℕ × ℕ)) → ℕ → Type 0
AreDefault logs count = (side : ℕ) → side < count → IsDefault logs side

-- ---- what groups count

-- one difference more follows the group's first
pub record Follows (names : ℕ) (name : Name) (old new : Group) : Type 0 where
  pub told : group_head new ≡ group_head old
  pub room : length old.next.items < names → new.next.items ≡ old.next.items ++ name ∷ []
  pub full : names ≤ length old.next.items → new.next.items ≡ old.next.items
  pub more : new.more ≡ min (old.more + 1) 18446744073709551615
  pub last : new.last ≡ name.time

pub record IsUntouched (old new : Group) : Type 0 where
  pub told : group_head new ≡ group_head old
  pub next : new.next.items ≡ old.next.items
  pub more : new.more ≡ old.more
  pub last : new.last ≡ old.last

-- the groups summed up these, and sum up them still, maybe more
pub record SummarizesStill (names : ℕ) (old : List Group) (before : ℕ → List Name) (new : List Group) : Type 0 where
  pub after : ℕ → List Name
  pub summaries : AllSummarize names new after
  pub still : (place : ℕ) (name : Name) → IsNameIn old before place name → IsNameIn new after place name

-- so it is, whatever they summed up
abbrev pub CountsStill : ℕ → List Group → List Group → Type 0
CountsStill names old new = (before : ℕ → List Name) → AllSummarize names old before → SummarizesStill names old before new

-- a group of this cause sums up the name
pub record IsSummedUp (groups : List Group) (rests : ℕ → List Name) (cause : Option Cause) (name : Name) : Type 0 where
  pub place : ℕ
  pub group : Group
  pub at : slice_get groups place ≡ Some group
  pub under : group.cause ≡ cause
  pub among : Contains (rests place) name

-- They have those that are new, too, and no others; each once, if none of them was there. What a group sums up that is new fits its cause.
pub record SummarizesMore (names : ℕ) (IsNew : Name → Type 0) (Fits : Option Cause → Name → Type 0) (old : List Group) (before : ℕ → List Name)
    (new : List Group) : Type 0 where
  pub after : ℕ → List Name
  pub summaries : AllSummarize names new after
  pub still : (place : ℕ) (name : Name) → IsNameIn old before place name → IsNameIn new after place name
  pub named : (name : Name) → IsNew name → IsNameInOne new after name
  pub only : (name : Name) → IsNameInOne new after name → IsNameInOne old before name ⊎ IsNew name
  pub once : ((name : Name) → IsNew name → IsNameInOne old before name → ⊥) → AreNamedOnce old before → AreNamedOnce new after
  pub caused : (cause : Option Cause) (name : Name) → IsSummedUp new after cause name → IsSummedUp old before cause name ⊎ Fits cause name

-- so it is, whatever they summed up
abbrev pub Counts : ℕ → (Name → Type 0) → (Option Cause → Name → Type 0) → List Group → List Group → Type 0
Counts names IsNew Fits old new = (before : ℕ → List Name) → AllSummarize names old before →
    SummarizesMore names IsNew Fits old before new

-- the group at the place has this cause
abbrev pub HasCauseAt : List Group → ℕ → Option Cause → Type 0
HasCauseAt groups place cause = (group : Group) × (slice_get groups place ≡ Some group) × (group.cause ≡ cause)

-- no cause is fit
abbrev pub NoneFits : Option Cause → Name → Type 0
NoneFits cause name = ⊥

-- the difference has the name, and what is told of the log of a side blames the same statements as the cause
pub record Explains (tracing : Tracing) (difference : Difference) (cause : Option Cause) (name : Name) : Type 0 where
  pub named : name_of difference ≡ Some name
  pub log : List (ℕ × ℕ)
  pub of : IsLogOf difference log
  pub same : HasSameCause tracing.setting tracing.steps cause log

-- so it is of one of these
abbrev pub ExplainsOne : Tracing → (Difference → Type 0) → Option Cause → Name → Type 0
ExplainsOne tracing P cause name = (difference : Difference) × P difference × Explains tracing difference cause name

abbrev pub NoName : Name → Type 0
NoName name = ⊥

-- a group stands last that begins with the difference, and sums up no other
pub record IsOpened (difference : Difference) (group : Group) (old new : List Group) : Type 0 where
  pub is : new ≡ old ++ group ∷ []
  pub first : group.first ≡ difference
  pub next : group.next.items ≡ []
  pub more : group.more ≡ 0
  pub last : (name : Name) → name_of difference ≡ Some name → group.last ≡ name.time

-- there is such a group, or there is none more
abbrev pub Widens : Difference → List Group → List Group → Type 0
Widens difference old new = (new ≡ old) ⊎ ((group : Group) × IsOpened difference group old new)

-- the difference has this name
abbrev pub HasName : Difference → Name → Type 0
HasName difference name = name_of difference ≡ Some name

-- one of the first so many has this name
pub record IsNamedIn {R : Type 0} (difference : R → Difference) (races : List R) (count : ℕ) (name : Name) : Type 0 where
  pub place : ℕ
  pub race : R
  pub within : place < count
  pub at : slice_get races place ≡ Some race
  pub is : name_of (difference race) ≡ Some name

-- no two have one name
abbrev pub AreNamedApart : {R : Type 0} → (R → Difference) → List R → Type 0
AreNamedApart {R} difference races = (i j : ℕ) (a b : R) (name : Name) → i < j → slice_get races i ≡ Some a → slice_get races j ≡ Some b →
    name_of (difference a) ≡ Some name → name_of (difference b) ≡ Some name → ⊥

-- so it is of what a slot gave
abbrev pub AreApartInSlot : FoundInSlot → Type 0
AreApartInSlot found = AreNamedApart Values found.races.items × AreNamedApart Lines found.line_races.items

-- a slot gave a difference of this name
abbrev pub IsNamedInSlot : FoundInSlot → Name → Type 0
IsNamedInSlot found name = IsNamedIn Values found.races.items (length found.races.items) name
    ⊎ IsNamedIn Lines found.line_races.items (length found.line_races.items) name

abbrev pub setting_of : RaceGroups → Setting
setting_of kept = kept.causes.table.setting

abbrev pub traced_by : RaceGroups → Tracing
traced_by kept = tracing_of kept.causes

-- ---- ends

-- the end as it is compared, where there is one
abbrev pub compared_end : Option End → Option End
compared_end None = None
compared_end (Some end) = compared_by end.cause end

-- whether the run ended in the middle of a slot
abbrev pub is_in_cut : Option End → Bool
is_in_cut None = false
is_in_cut (Some end) = cuts_slot end.cause

abbrev pub cut_lines_in : State → Option (List (List ℕ))
cut_lines_in t = if is_in_cut (end_in t) then t.printed else None

abbrev pub cut_values_in : State → List Vector
cut_values_in t = if is_in_cut (end_in t) then t.values else []

-- what is compared of the end of a run, by what a machine tells of its state
abbrev pub verdict_in : State → Verdict
verdict_in t = record { end = compared_end (end_in t); printed = cut_lines_in t }

abbrev pub AreAlike : Setting → MachineState → MachineState → Type 0
AreAlike setting one other = (t u : State) → Stands setting one t → Stands setting other u → verdict_in t ≡ verdict_in u

abbrev pub AreUnlike : Setting → MachineState → MachineState → Type 0
AreUnlike setting one other = (t u : State) → Stands setting one t → Stands setting other u → verdict_in t ≢ verdict_in u

-- the same of the values that a cut slot leaves
abbrev pub AreCutAlike : Setting → MachineState → MachineState → Type 0
AreCutAlike setting one other = (t u : State) → Stands setting one t → Stands setting other u → cut_values_in t ≡ cut_values_in u

abbrev pub AreCutUnlike : Setting → MachineState → MachineState → Type 0
AreCutUnlike setting one other = (t u : State) → Stands setting one t → Stands setting other u → cut_values_in t ≢ cut_values_in u

-- where they end alike, a cut slot leaves the same values
abbrev pub AreWhollyAlike : Setting → MachineState → MachineState → Type 0
AreWhollyAlike setting one other = (t u : State) → Stands setting one t → Stands setting other u → verdict_in t ≡ verdict_in u →
    cut_values_in t ≡ cut_values_in u

abbrev pub AllWhollyAlike : Setting → List (MachineState × List (ℕ × ℕ)) → MachineState × List (ℕ × ℕ) → Type 0
AllWhollyAlike setting ends one = (end : MachineState × List (ℕ × ℕ)) → Contains ends end → AreWhollyAlike setting end.0 one.0

-- no run was cut there by the time limit
abbrev pub IsUncut : Setting → MachineState → Type 0
IsUncut setting s = (t : State) (end : End) → Stands setting s t → end_in t ≡ Some end → end.cause ≢ Limit

abbrev pub AreUncut : Setting → List (MachineState × List (ℕ × ℕ)) → Type 0
AreUncut setting ends = (end : MachineState × List (ℕ × ℕ)) → Contains ends end → IsUncut setting end.0

abbrev pub AllAlike : Setting → List (MachineState × List (ℕ × ℕ)) → MachineState × List (ℕ × ℕ) → Type 0
AllAlike setting ends one = (end : MachineState × List (ℕ × ℕ)) → Contains ends end → AreAlike setting end.0 one.0

-- the first two, where there are two
abbrev pub FirstTwoUnlike : Setting → List (MachineState × List (ℕ × ℕ)) → Type 0
FirstTwoUnlike setting ends = (one other : MachineState × List (ℕ × ℕ)) → slice_get ends 0 ≡ Some one → slice_get ends 1 ≡ Some other →
    AreUnlike setting one.0 other.0

-- what is new stands behind what there was
abbrev pub GrowsTo : {A : Type 0} → List A → List A → Type 0
GrowsTo {A} old new = (more : List A) × (new ≡ old ++ more)

-- of these ends it was kept what tells whether all are alike
pub record SumsUp (setting : Setting) (ends old new : List (MachineState × List (ℕ × ℕ))) : Type 0 where
  pub more : List (MachineState × List (ℕ × ℕ))
  pub is : new ≡ old ++ more
  pub among : (end : MachineState × List (ℕ × ℕ)) → Contains more end → Contains ends end
  pub none : new ≡ [] → ends ≡ []
  pub alike : (one : MachineState × List (ℕ × ℕ)) → new ≡ one ∷ [] → AllAlike setting ends one
  pub unlike : FirstTwoUnlike setting old → FirstTwoUnlike setting new

-- A cut end is kept beside the first end: it is alike, but for the values that its slot leaves.
pub record KeepsCut (setting : Setting) (ends cuts : List (MachineState × List (ℕ × ℕ))) : Type 0 where
  pub bare : ends ≡ [] → cuts ≡ []
  pub alike : (one other : MachineState × List (ℕ × ℕ)) → slice_get ends 0 ≡ Some one → slice_get cuts 0 ≡ Some other →
      AreAlike setting one.0 other.0
  pub unlike : (one other : MachineState × List (ℕ × ℕ)) → slice_get ends 0 ≡ Some one → slice_get cuts 0 ≡ Some other →
      AreCutUnlike setting one.0 other.0

-- of these ends it was kept what tells whether those that are like the first leave its values, too
pub record SumsUpCuts (setting : Setting) (ends old_ends new_ends old new : List (MachineState × List (ℕ × ℕ))) : Type 0 where
  pub more : List (MachineState × List (ℕ × ℕ))
  pub is : new ≡ old ++ more
  pub among : (end : MachineState × List (ℕ × ℕ)) → Contains more end → Contains ends end
  pub none : new ≡ [] → (one : MachineState × List (ℕ × ℕ)) → slice_get new_ends 0 ≡ Some one → AllWhollyAlike setting ends one
  pub kept : KeepsCut setting old_ends old → KeepsCut setting new_ends new

-- the state is kept, if none was, and a cut slot leaves other values there than in the first
pub record PutsCut (setting : Setting) (first : MachineState) (found : FoundMark MachineState)
    (old new : List (FoundMark MachineState)) : Type 0 where
  pub full : old ≢ [] → new ≡ old
  pub empty : old ≡ [] → ((new ≡ old) × AreCutAlike setting first found.state)
      ⊎ ((new ≡ old ++ found ∷ []) × AreCutUnlike setting first found.state)

-- where none was kept, the first of these is the first that is
abbrev pub KeepsFirst : List (MachineState × List (ℕ × ℕ)) → List (MachineState × List (ℕ × ℕ)) → List (MachineState × List (ℕ × ℕ)) → Type 0
KeepsFirst ends old new = old ≡ [] → (end : MachineState × List (ℕ × ℕ)) → slice_get ends 0 ≡ Some end → slice_get new 0 ≡ Some end

-- where none was kept, the first that is has no more departures than any of these
abbrev pub BeginsWithFewest : List (MachineState × List (ℕ × ℕ)) → List (MachineState × List (ℕ × ℕ)) → List (MachineState × List (ℕ × ℕ)) → Type 0
BeginsWithFewest ends old new = old ≡ [] → (one end : MachineState × List (ℕ × ℕ)) → slice_get new 0 ≡ Some one → Contains ends end →
    length one.1 ≤ length end.1

-- ---- slots

-- the differences that a slot gave
abbrev pub differences_in : FoundInSlot → List Difference
differences_in found = map Values found.races.items ++ map Lines found.line_races.items

-- all that a slot gave was taken
pub record TakesAll (found : FoundInSlot) (old new : RaceGroups) : Type 0 where
  pub traced : traced_by new ≡ traced_by old
  pub scope : new.scope ≡ old.scope
  pub ended : new.ended ≡ old.ended
  pub cut : new.cut_runs ≡ old.cut_runs
  pub adds : Adds (traced_by old) (Contains (differences_in found)) (group_heads old.groups.items) (group_heads new.groups.items)
  pub counts : AreApartInSlot found → Counts old.scope.names (IsNamedInSlot found)
      (ExplainsOne (traced_by old) (Contains (differences_in found))) old.groups.items new.groups.items
  pub ends : SumsUp (setting_of old) (pairs_of found.ends.items) (pairs_of old.ends.items) (pairs_of new.ends.items)
  pub cut_ends : SumsUpCuts (setting_of old) (pairs_of found.ends.items) (pairs_of old.ends.items) (pairs_of new.ends.items)
      (pairs_of old.cut_ends.items) (pairs_of new.cut_ends.items)

-- what a slot gave was taken: from the scope's time on
pub record TakesSlot (time : ℕ) (found : FoundInSlot) (old new : RaceGroups) : Type 0 where
  pub traced : traced_by new ≡ traced_by old
  pub scope : new.scope ≡ old.scope
  pub adds : Adds (traced_by old) (Contains (differences_in found)) (group_heads old.groups.items) (group_heads new.groups.items)
  pub early : time < old.scope.from → new.groups.items ≡ old.groups.items
  pub counts : old.scope.from ≤ time → AreApartInSlot found → Counts old.scope.names (IsNamedInSlot found)
      (ExplainsOne (traced_by old) (Contains (differences_in found))) old.groups.items new.groups.items
  pub before : time < old.scope.from → new.ends.items ≡ old.ends.items
  pub ends : old.scope.from ≤ time → SumsUp (setting_of old) (pairs_of found.ends.items) (pairs_of old.ends.items) (pairs_of new.ends.items)
  pub cuts_before : time < old.scope.from → new.cut_ends.items ≡ old.cut_ends.items
  pub cut_ends : old.scope.from ≤ time → SumsUpCuts (setting_of old) (pairs_of found.ends.items) (pairs_of old.ends.items)
      (pairs_of new.ends.items) (pairs_of old.cut_ends.items) (pairs_of new.cut_ends.items)
  pub ended : new.ended ≡ false → (old.ended ≡ false) × (found.ends.items ≡ [])
  pub cut : new.cut_runs ≡ false → (old.cut_runs ≡ false) × AreUncut (setting_of old) (pairs_of found.ends.items)

-- what is new stands behind what there was
pub record GrowsBehind (old new : RaceGroups) : Type 0 where
  pub traced : traced_by new ≡ traced_by old
  pub scope : new.scope ≡ old.scope
  pub groups : GrowsTo (group_heads old.groups.items) (group_heads new.groups.items)
  pub still : CountsStill old.scope.names old.groups.items new.groups.items
  pub ends : GrowsTo old.ends.items new.ends.items
  pub cut_ends : GrowsTo old.cut_ends.items new.cut_ends.items
  pub ended : new.ended ≡ false → old.ended ≡ false
  pub cut : new.cut_runs ≡ false → old.cut_runs ≡ false

-- no more is kept than was
pub record StaysSo (old new : RaceGroups) : Type 0 where
  pub traced : traced_by new ≡ traced_by old
  pub scope : new.scope ≡ old.scope
  pub groups : group_heads new.groups.items ≡ group_heads old.groups.items
  pub still : CountsStill old.scope.names old.groups.items new.groups.items
  pub ends : new.ends.items ≡ old.ends.items
  pub cut_ends : new.cut_ends.items ≡ old.cut_ends.items
  pub ended : new.ended ≡ false → old.ended ≡ false
  pub cut : new.cut_runs ≡ false → old.cut_runs ≡ false
  pub standing : new.standing.items ≡ old.standing.items

-- ---- closings

-- the closing at this place shows the difference
abbrev pub IsShownBy : Setting → List (Closing MachineState) → ℕ → Closing MachineState → Difference → Type 0
IsShownBy setting closings place c (Values race) = ShowsRace setting closings place c race
IsShownBy setting closings place c (Lines race) = ShowsLineRace setting closings place c race
IsShownBy setting closings place c (Ends ends) = ⊥

pub record IsOfSome (setting : Setting) (from : ℕ) (closings : List (Closing MachineState)) (difference : Difference) : Type 0 where
  pub place : ℕ
  pub closing : Closing MachineState
  pub at : slice_get closings place ≡ Some closing
  pub late : from ≤ closing.rank
  pub shown : IsShownBy setting closings place closing difference

pub record IsEndOfSome (setting : Setting) (from : ℕ) (closings : List (Closing MachineState))
    (end : MachineState × List (ℕ × ℕ)) : Type 0 where
  pub place : ℕ
  pub closing : Closing MachineState
  pub at : slice_get closings place ≡ Some closing
  pub late : from ≤ closing.rank
  pub among : Contains closing.marks end
  pub ended : HasEnded setting end.0

-- each difference that the closing at this place shows has its name here
pub record ShowsNamed (setting : Setting) (IsHere : Name → Type 0) (closings : List (Closing MachineState)) (place : ℕ)
    (c : Closing MachineState) : Type 0 where
  pub standing : List Standing
  pub stand : AreStanding setting closings place standing
  pub races : List Race
  pub line_races : List LineRace
  pub values : AreRacesShown setting c.rank c.marks standing races
  pub lines : AreLineRacesShown setting c.rank c.marks standing line_races
  pub each : (race : Race) → Contains races race → IsHere (record { time = race.time; variable = Some race.variable })
  pub each_line : (race : LineRace) → Contains line_races race → IsHere (record { time = race.time; variable = None })

-- each difference that a closing from this time on shows has its name here
abbrev pub ShowNamedFrom : Setting → ℕ → (Name → Type 0) → List (Closing MachineState) → Type 0
ShowNamedFrom setting from IsHere closings = (place : ℕ) (c : Closing MachineState) → slice_get closings place ≡ Some c → from ≤ c.rank →
    ShowsNamed setting IsHere closings place c

-- the marks in which runs end are so
abbrev pub OfEnds : Setting → List (MachineState × List (ℕ × ℕ)) → (List (MachineState × List (ℕ × ℕ)) → Type 0) → Type 0
OfEnds setting marks P = (ends : List (MachineState × List (ℕ × ℕ))) × AreEndsOf setting marks ends × P ends

-- from this time on it is so of each closing
abbrev pub OfEachFrom : ℕ → List (Closing MachineState) → (List (MachineState × List (ℕ × ℕ)) → Type 0) → Type 0
OfEachFrom from closings P = OfEach closings (λ c. from ≤ c.rank → P c.marks)

-- a closing from this time on shows a difference of the name
pub record IsNamedByOne (setting : Setting) (from : ℕ) (closings : List (Closing MachineState)) (name : Name) : Type 0 where
  pub place : ℕ
  pub closing : Closing MachineState
  pub at : slice_get closings place ≡ Some closing
  pub late : from ≤ closing.rank
  pub difference : Difference
  pub shown : IsShownBy setting closings place closing difference
  pub is : name_of difference ≡ Some name

-- From this time on each difference that a closing shows is in a group. If memory wasn't refused, no other is, and none twice; and each that a
-- group sums up has a side that its cause explains.
pub record HaveAllOf (tracing : Tracing) (scope : Scope) (groups : List Group) (refused : Option NoMemory)
    (closings : List (Closing MachineState)) : Type 0 where
  pub rests : ℕ → List Name
  pub summaries : AllSummarize scope.names groups rests
  pub shown : ShowNamedFrom tracing.setting scope.from (IsNameInOne groups rests) closings
  pub only : refused ≡ None → (name : Name) → IsNameInOne groups rests name → IsNamedByOne tracing.setting scope.from closings name
  pub once : refused ≡ None → AreInTurn tracing.setting closings → AreNamedOnce groups rests
  pub caused : refused ≡ None → (cause : Option Cause) (name : Name) → IsSummedUp groups rests cause name →
      ExplainsOne tracing (IsOfSome tracing.setting scope.from closings) cause name

-- a closing of this rank has marks, and none behind it has any; where there is none, none at all has
pub record IsLastWithMarks (closings : List (Closing MachineState)) (rank : ℕ) : Type 0 where
  pub place : ℕ
  pub closing : Closing MachineState
  pub at : slice_get closings place ≡ Some closing
  pub rank_is : closing.rank ≡ rank
  pub some : 0 < length closing.marks
  pub none_behind : (i : ℕ) (c : Closing MachineState) → place < i → slice_get closings i ≡ Some c → c.marks ≡ []

abbrev pub IsLastSeen : Option ℕ → List (Closing MachineState) → Type 0
IsLastSeen None closings = OfEach closings (λ c. c.marks ≡ [])
IsLastSeen (Some rank) closings = IsLastWithMarks closings rank

-- what is kept of closings
pub record AreGroupsOf (tracing : Tracing) (scope : Scope) (groups : List Group) (heads : List GroupHead)
    (kept : List (MachineState × List (ℕ × ℕ))) (cut : Bool) (seen : Option ℕ) (refused : Option NoMemory)
    (closings : List (Closing MachineState)) : Type 0 where
  pub causes : (t : GroupHead) → Contains heads t → IsCaused tracing t
  pub firsts : (t : GroupHead) → Contains heads t → IsOfSome tracing.setting scope.from closings t.first
  pub all : HaveAllOf tracing scope groups refused closings
  pub ends : (end : MachineState × List (ℕ × ℕ)) → Contains kept end → IsEndOfSome tracing.setting scope.from closings end
  pub no_end : kept ≡ [] → OfEachFrom scope.from closings (λ marks. AreEndsOf tracing.setting marks [])
  pub alike : (one : MachineState × List (ℕ × ℕ)) → kept ≡ one ∷ [] →
      OfEachFrom scope.from closings (λ marks. OfEnds tracing.setting marks (λ ends. AllAlike tracing.setting ends one))
  pub unlike : FirstTwoUnlike tracing.setting kept
  pub uncut : cut ≡ false → OfEach closings (λ c. OfEnds tracing.setting c.marks (AreUncut tracing.setting))
  pub last_seen : IsLastSeen seen closings

-- what is kept of cut ends, beside the ends
pub record AreCutsOf (setting : Setting) (from : ℕ) (ends cuts : List (MachineState × List (ℕ × ℕ)))
    (closings : List (Closing MachineState)) : Type 0 where
  pub each : (end : MachineState × List (ℕ × ℕ)) → Contains cuts end → IsEndOfSome setting from closings end
  pub none : cuts ≡ [] → (one : MachineState × List (ℕ × ℕ)) → slice_get ends 0 ≡ Some one →
      OfEachFrom from closings (λ marks. OfEnds setting marks (λ list. AllWhollyAlike setting list one))
  pub kept : KeepsCut setting ends cuts

pub record KeepsGroups (tracing : Tracing) (scope : Scope) (kept : RaceGroups) (closings : List (Closing MachineState)) : Type 0 where
  pub groups : AreGroupsOf tracing scope kept.groups.items (group_heads kept.groups.items)
      (pairs_of kept.ends.items) kept.cut_runs kept.seen kept.refused closings
  pub cuts : AreCutsOf tracing.setting scope.from (pairs_of kept.ends.items) (pairs_of kept.cut_ends.items) closings
  pub unended : kept.ended ≡ false → OfEach closings (λ c. AreEndsOf tracing.setting c.marks [])
  pub standing : AreStanding tracing.setting closings (length closings) kept.standing.items

-- what collecting these closings makes of groups that kept what there was before
pub record CollectsGroups (first : RaceGroups) (closings : List (Closing MachineState)) (now : RaceGroups) : Type 0 where
  pub traced : traced_by now ≡ traced_by first
  pub scope : now.scope ≡ first.scope
  pub kept : (before : List (Closing MachineState)) → KeepsGroups (traced_by first) first.scope first before →
      KeepsGroups (traced_by first) first.scope now (before ++ closings)

pub collects_nothing : (kept : RaceGroups) → CollectsGroups kept [] kept
collects_nothing kept = record {
  traced = refl;
  scope = refl;
  kept = λ before so. subst (KeepsGroups (traced_by kept) kept.scope kept) (sym (append-nil before)) so;
}

-- ---- what is told

-- the log of one of these that names a departure; or none that does, as none of these does
abbrev pub IsLogOfEnds : List (MachineState × List (ℕ × ℕ)) → List (ℕ × ℕ) → Type 0
IsLogOfEnds ends log = (Contains (map (λ end. end.1) ends) log × (log ≢ []))
    ⊎ ((log ≡ []) × ((other : List (ℕ × ℕ)) → Contains (map (λ end. end.1) ends) other → other ≡ []))

-- these ends are the difference
abbrev pub TellsEnds : List (FoundMark MachineState) → Difference → Type 0
TellsEnds ends (Values race) = ⊥
TellsEnds ends (Lines race) = ⊥
TellsEnds ends (Ends list) = list.items ≡ ends

-- the group tells them, with their cause
pub record IsGroupOfEnds (tracing : Tracing) (ends : List (FoundMark MachineState)) (group : Group) : Type 0 where
  pub caused : IsCaused tracing (group_head group)
  pub next : group.next.items ≡ []
  pub more : group.more ≡ 0
  pub tells : TellsEnds ends group.first

-- the groups that were kept, and where two ends differ, a group of these behind them
pub record AreTold (tracing : Tracing) (kept : RaceGroups) (groups : List Group) : Type 0 where
  pub none : TellsNoEnds groups → length kept.ends.items ≤ 1
  pub whole : (groups ≡ kept.groups.items) ⊎ ((group : Group) × (groups ≡ kept.groups.items ++ group ∷ [])
      × (1 < length kept.ends.items) × IsGroupOfEnds tracing kept.ends.items group)

-- the end that was kept with the cut end beside it; nothing where there is no cut end, or two ends differ
pub record AreCutsTold (kept : RaceGroups) (told : List (FoundMark MachineState)) : Type 0 where
  pub whole : (told ≡ []) ⊎ ((told ≡ kept.ends.items ++ kept.cut_ends.items) × (length kept.ends.items ≤ 1)
      × (kept.cut_ends.items ≢ []))
  pub none : told ≡ [] → length kept.ends.items ≤ 1 → kept.cut_ends.items ≡ []
