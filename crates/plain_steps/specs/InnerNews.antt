-- *internal*: What is told of a step to find what it wakes: words for the contracts of parts within.
use Rattle.std.specs.Prelude.{◌≡◌, ℕ, Bool, false, ◌==◌, ◌&&◌, ◌||◌, List, [], ◌∷◌, Option, Some, None, slice_get}
use Rattle.vbits.specs.Vectors.{Vector}
use Rattle.vdesign.specs.declared.action.Edge.{Edge}
use Rattle.vdesign.specs.declared.action.Term.{Term}
use Rattle.vdesign.specs.declared.action.Term.TheVariants.{Change as ChangeTerm, Event}
use Rattle.vdesign.specs.declared.action.Action.{Action}
use Rattle.vdesign.specs.declared.action.Action.TheVariants.{EventControl, Wait, ContinuousAssign}
use Rattle.vmodel.specs.declared.values.Change.{Change}
use Rattle.plain_steps.specs.declared.waking.Changes.{Changes}
use Rattle.plain_steps.specs.declared.waking.Changes.TheVariants.{One, Many}
use Rattle.plain_steps.specs.declared.waking.News.{News}
use Rattle.vmodel.specs.declared.part.Part.{Part}
use Rattle.vmodel.specs.InnerWaking.{Differ}
use Rattle.vmodel.specs.State.{Process}
use Rattle.vmodel.specs.Parts.{value_in, with_parts}
use Rattle.vmodel.specs.Waking.{is_edge, is_triggered}

-- whether these are such a change of a variable
abbrev pub changes_one : Change → Edge → ℕ → Bool
changes_one change edge variable = (variable == change.variable) && is_edge edge change.old change.new

abbrev pub changes_many : List Vector → List Part → Edge → ℕ → Bool
changes_many values parts edge variable = is_edge edge (value_in values variable) (value_in (with_parts parts values) variable)

abbrev pub changes_so : Changes → Edge → ℕ → Bool
changes_so (One change) edge variable = changes_one change edge variable
changes_so (Many values parts) edge variable = changes_many values.now parts.now edge variable

-- whether a term hears of this
abbrev pub hears_of : News → Term → Bool
hears_of news (ChangeTerm edge variable) = changes_so news.changes edge variable
hears_of news (Event event) = is_triggered news.triggered event

-- these are the changes between the values before and after
abbrev pub AreChanges : Changes → List Vector → List Vector → Type 0
AreChanges (One change) before after = Differ change before after
AreChanges (Many values parts) before after = (before ≡ values.now) × (after ≡ with_parts parts.now values.now)

abbrev pub any_hears_of : News → List Term → Bool
any_hears_of news [] = false
any_hears_of news (term ∷ terms) = hears_of news term || any_hears_of news terms

abbrev pub comes_by : News → Option Action → Bool
comes_by news (Some (EventControl terms body)) = any_hears_of news terms
comes_by news (Some (Wait condition terms body)) = any_hears_of news terms
comes_by news (Some (ContinuousAssign targets value terms)) = any_hears_of news terms
comes_by news _ = false

abbrev pub comes_at : List Action → News → Option ℕ → Bool
comes_at actions news None = false
comes_at actions news (Some place) = comes_by news (slice_get actions place)

-- whether a process waits for this
abbrev pub comes : List Action → News → Process → Bool
comes actions news process = comes_at actions news process.waits
