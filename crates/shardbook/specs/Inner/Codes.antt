-- *internal*: The code of a state.
use Rattle.std.specs.Prelude.{ℕ, List, fold, map}
use Rattle.std.specs.Hash.FoldHasher as folding
use Rattle.statebook.specs.declared.entry.Entry.{Entry}

-- what a hasher of the fixed seed makes of the writes
unfoldable pub code_of_writes : List (List ℕ) → ℕ
code_of_writes writes = folding.finish (fold folding.write folding.initial writes)

-- the codes of the entries' states, by what each state feeds a hasher
abbrev pub codes_of : {S : Type 0} → (S → List (List ℕ)) → List (Entry S) → List ℕ
codes_of {S} input entries = map (λ (e : Entry S). code_of_writes (input e.state)) entries
