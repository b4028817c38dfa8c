-- *internal*: What a book answers on meeting an entry, over the list of the entries of its shard.
use Rattle.std.specs.Prelude.{◌≡◌, ℕ, Bool, List, [], ◌∷◌, ◌++◌, slice_get, Some, Contains}
use Rattle.statebook.specs.Books.{Dominates}
use Rattle.statebook.specs.declared.entry.Entry.{Entry}
use Rattle.shardbook.specs.Passes.{Counts, HasCounted}
use Rattle.shardbook.specs.declared.met.Met.{Met}
use Rattle.shardbook.specs.declared.met.Met.TheVariants.{New, Known}

-- None of the entries dominates this one.
abbrev pub HasNone : {S : Type 0} → (S → S → Bool) → List (Entry S) → Entry S → Type 0
HasNone {S} same entries e = (i : ℕ) (f : Entry S) → slice_get entries i ≡ Some f → ¬ Dominates same f e.state e.budget

-- New only where none dominates the entry, and then it stands last; Known with one of the list that does, and the list stays.
abbrev pub Inserts : {S Q B : Type 0} → (S → S → Bool) → List (Entry S) → Entry S → Met S Q B → List (Entry S) → Type 0
Inserts same old e (New seen) new = HasNone same old e × (seen.entry ≡ e) × (new ≡ old ++ e ∷ [])
Inserts same old e (Known seen) new = Contains old seen.entry × Dominates same seen.entry e.state e.budget × (new ≡ old)

-- what is read by the answer: the entry itself, or one that dominates it
abbrev pub Shows : {S Q B : Type 0} → (S → S → Bool) → Entry S → Met S Q B → Type 0
Shows same e (New seen) = seen.entry ≡ e
Shows same e (Known seen) = Dominates same seen.entry e.state e.budget

-- A New answer is counted, another isn't.
abbrev pub CountsInsert : {S Q B : Type 0} → Met S Q B → Counts → Counts → Type 0
CountsInsert (New seen) old new = HasCounted old new
CountsInsert (Known seen) old new = new ≡ old
