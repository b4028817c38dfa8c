-- *internal*: The lines of a header as they are written, one list of variables after another.
use Rattle.std.specs.Prelude.{◌≡◌, ℕ, ◌+◌, Bool, if◌then◌else◌, List, [], ◌++◌}
use Rattle.vdesign.specs.Design.{Variable, Scope}
use Rattle.vcd_text.specs.DumpText.{code, scope_lines, scope_text, variable_lines}

-- from the code of a variable to that of the one so many later
abbrev pub IsCodeAfter : List ℕ → ℕ → List ℕ → Type 0
IsCodeAfter name count next = (n : ℕ) → name ≡ code n → next ≡ code (n + count)

-- the text grew by the lines of these variables, the first of which has that code
abbrev pub Lists : List ℕ → List Variable → List ℕ → List ℕ → Type 0
Lists name variables old new = (n : ℕ) → name ≡ code n → new ≡ old ++ variable_lines n variables

-- the text grew by the lines of these variables, where they are selected
abbrev pub ListsMarked : Bool → List ℕ → List Variable → List ℕ → List ℕ → Type 0
ListsMarked mark name variables old new = (n : ℕ) → name ≡ code n → new ≡ old ++ (if mark then variable_lines n variables else [])

-- the text grew by the lines of a scope, where it is written
abbrev pub ListsScope : ℕ → Bool → Bool → Scope → List ℕ → List Variable → List ℕ → List ℕ → Type 0
ListsScope around written mark scope name variables old new =
    (n : ℕ) → name ≡ code n → new ≡ old ++ (if written then scope_text around n mark scope variables else [])

-- all scopes, from variable 0 on
abbrev pub all_scopes : List Bool → List Scope → List Variable → List ℕ
all_scopes = scope_lines 0 0
