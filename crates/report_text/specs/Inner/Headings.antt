-- *internal*: The lines of a head before its variables.
use Rattle.std.specs.Prelude.{◌≡◌, ℕ, ◌<◌, ◌≤◌, ◌^◌, true, List, ◌∷◌, ◌++◌, codes, decimal}
use Rattle.sched_core.specs.declared.setting.Grain.{Grain}
use Rattle.sched_core.specs.declared.setting.Grain.TheVariants.{Process}
use Rattle.sched_core.specs.declared.setting.Departures.{Departures}
use Rattle.sched_core.specs.declared.setting.Departures.TheVariants.{Taking}
use Rattle.sched_core.specs.declared.setting.Looked.{Looked}
use Rattle.sched_core.specs.declared.setting.Looked.TheVariants.{Values}
use Rattle.report_text.specs.declared.report.Version.{Version}
use Rattle.report_text.specs.declared.report.Version.TheVariants.{One, Two, Three}
use Rattle.report_text.specs.declared.report.Outcome.{Outcome}
use Rattle.report_text.specs.ReportText.{version_number, grain_word, departures_word, looked_word, outcome_words}
use Rattle.report_text.specs.WellFormed.{HasViews}
use Rattle.vwords.specs.Names.{has_letters_of_name}
use Rattle.report_text.specs.Inner.Fronts.{lacks}

-- the text is a line of this label and a value, and then the rest
abbrev pub IsLabelLine : List ℕ → List ℕ → List ℕ → List ℕ → Type 0
IsLabelLine label text value rest = (lacks 10 value ≡ true) × (text ≡ label ++ (value ++ 10 ∷ rest))

-- the same with a number of 64 bits from low to high
pub record IsNumberLine (label : List ℕ) (low high : ℕ) (text : List ℕ) (n : ℕ) (rest : List ℕ) : Type 0 where
  pub small : n < 2 ^ 64
  pub above : low ≤ n
  pub below : n ≤ high
  pub whole : text ≡ label ++ (decimal n ++ 10 ∷ rest)

-- what the head tells before its variables
pub record Heading : Type 0 where
  pub version : Version
  pub top : List ℕ
  pub until : ℕ
  pub depart : ℕ
  pub steps : ℕ
  pub grain : Grain
  pub departures : Departures
  pub looked : Looked
  pub outcome : Outcome

-- a label and a value, before the rest
abbrev pub label_line_before : List ℕ → List ℕ → List ℕ → List ℕ
label_line_before label value rest = label ++ (value ++ 10 ∷ rest)

abbrev pub grain_before : Version → Grain → List ℕ → List ℕ
grain_before One grain rest = rest
grain_before Two grain rest = label_line_before (codes "grain ") (grain_word grain) rest
grain_before Three grain rest = label_line_before (codes "grain ") (grain_word grain) rest

-- which departures there are, and what is looked at
abbrev pub Views : Type 0
Views = Departures × Looked

abbrev pub named_views_before : Views → List ℕ → List ℕ
named_views_before views rest =
    label_line_before (codes "departures ") (departures_word views.0) (label_line_before (codes "looked ") (looked_word views.1) rest)

abbrev pub views_before : Version → Views → List ℕ → List ℕ
views_before One views rest = rest
views_before Two views rest = rest
views_before Three views rest = named_views_before views rest

-- these lines, before the rest
abbrev pub heading_before : Heading → List ℕ → List ℕ
heading_before h rest =
    label_line_before (codes "vrace report ") (decimal (version_number h.version))
    (label_line_before (codes "top ") h.top
    (label_line_before (codes "until ") (decimal h.until)
    (label_line_before (codes "depart ") (decimal h.depart)
    (label_line_before (codes "steps ") (decimal h.steps)
    (grain_before h.version h.grain
    (views_before h.version (h.departures, h.looked)
    (label_line_before (codes "state ") (outcome_words h.outcome) rest)))))))

pub record IsHeading (h : Heading) : Type 0 where
  pub top : has_letters_of_name h.top ≡ true
  pub until : h.until ≤ 4611686018427387903
  pub depart : h.depart ≤ 4
  pub some_steps : 1 ≤ h.steps
  pub few_steps : h.steps ≤ 1000000
  pub grain : h.version ≡ One → h.grain ≡ Process
  pub views : HasViews h.version h.departures h.looked h.outcome

abbrev pub IsVersionLine : List ℕ → Version → List ℕ → Type 0
IsVersionLine text version rest = text ≡ label_line_before (codes "vrace report ") (decimal (version_number version)) rest

abbrev pub IsOutcomeLine : List ℕ → Outcome → List ℕ → Type 0
IsOutcomeLine text outcome rest = text ≡ label_line_before (codes "state ") (outcome_words outcome) rest

-- the name of a top module
abbrev pub IsTop : List ℕ → Type 0
IsTop top = has_letters_of_name top ≡ true

-- a report of the first version is of grain process
abbrev pub IsGrainIn : Version → Grain → Type 0
IsGrainIn version grain = version ≡ One → grain ≡ Process

abbrev pub IsGrainLine : List ℕ → Grain → List ℕ → Type 0
IsGrainLine text grain rest = text ≡ label_line_before (codes "grain ") (grain_word grain) rest

abbrev pub IsDeparturesLine : List ℕ → Departures → List ℕ → Type 0
IsDeparturesLine text departures rest = text ≡ label_line_before (codes "departures ") (departures_word departures) rest

abbrev pub IsLookedLine : List ℕ → Looked → List ℕ → Type 0
IsLookedLine text looked rest = text ≡ label_line_before (codes "looked ") (looked_word looked) rest

-- what a version without lines for them tells
abbrev pub AreViewsIn : Version → Views → Type 0
AreViewsIn One views = (views.0 ≡ Taking) × (views.1 ≡ Values)
AreViewsIn Two views = (views.0 ≡ Taking) × (views.1 ≡ Values)
AreViewsIn Three views = Unit {0}

-- which departures there are, what is looked at, and how the exploration went
abbrev pub Told : Type 0
Told = Departures × Looked × Outcome

abbrev pub IsToldIn : Version → Told → Type 0
IsToldIn version told = HasViews version told.0 told.1 told.2

abbrev pub told_before : Version → Told → List ℕ → List ℕ
told_before version told rest = views_before version (told.0, told.1) (label_line_before (codes "state ") (outcome_words told.2) rest)
