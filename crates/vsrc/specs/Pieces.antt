-- *internal*: The macros that are defined, by the index of their names, and the uses in their texts.
use Rattle.std.specs.Prelude.{◌≡◌, ℕ, zero, suc, ◌+◌, ◌==◌, ◌<◌, ◌≤◌, Bool, true, false, if◌then◌else◌, nat_le, List, [], ◌∷◌, length, take, drop, map, slice_get, slice_index_or, Option, None, Some, option_map, option_and_then, Vec, Result, Err}
use Rattle.std.specs.Map.{lookup}
use Rattle.std.specs.Str.{bytes_eq}
use Rattle.std.specs.Borrow.{Bor}
use Rattle.vsrc.specs.declared.refusal.Refusal.{Refusal}
use Rattle.vsrc.specs.declared.refusal.Why.TheVariants.{Limit}
use Rattle.vsrc.specs.declared.pieces.Kind.{Kind}
use Rattle.vsrc.specs.declared.pieces.Kind.TheVariants.{Kept, Use, Refused}
use Rattle.vsrc.specs.declared.pieces.Piece.{Piece}
use Rattle.vsrc.specs.declared.pieces.Macro.{Macro}
use Rattle.vsrc.specs.Outside.{stretch_len}
use Rattle.vsrc.specs.Words.{name_len}
use Rattle.vsrc.specs.Macros.{Macros, Made, count_use, expand_text, may_be_macro, piece_len, refused_at, use_limit, make_use}

-- ---- the pieces of a text

-- a use stands at the head: a backtick, with a name behind it
abbrev pub begins_use : List ℕ → Bool
begins_use [] = false
begins_use (c ∷ cs) = c == 96

abbrev pub used_name : List ℕ → List ℕ
used_name [] = []
used_name (c ∷ cs) = take (name_len cs) cs

-- what a name behind a backtick is: one that no macro can have, or the name of this index
abbrev pub IsUse : List (List ℕ) → List ℕ → Kind → Type 0
IsUse names name Kept = true ≡ false
IsUse names name (Use index) = (may_be_macro name ≡ true) × (slice_get names index ≡ Some name)
IsUse names name Refused = may_be_macro name ≡ false

abbrev pub IsKind : List (List ℕ) → List ℕ → Kind → Type 0
IsKind names rest Kept = begins_use rest ≡ false
IsKind names rest (Use index) = (begins_use rest ≡ true) × IsUse names (used_name rest) (Use index)
IsKind names rest Refused = (begins_use rest ≡ true) × IsUse names (used_name rest) Refused

-- the piece that stands at the head of the rest
pub record IsPiece (names : List (List ℕ)) (rest : List ℕ) (piece : Piece) : Type 0 where
  pub some : 0 < piece.len
  pub within : piece.len ≤ length rest
  pub value : piece.len ≡ piece_len rest
  pub kind : IsKind names rest piece.kind

-- the pieces lead from the head of the text to the rest
abbrev pub Leads : List (List ℕ) → List ℕ → List Piece → List ℕ → Type 0
Leads names text [] rest = text ≡ rest
Leads names text (piece ∷ pieces) rest = IsPiece names text piece × Leads names (drop piece.len text) pieces rest

-- the uses among pieces
abbrev pub is_use : Kind → Bool
is_use Kept = false
is_use (Use index) = true
is_use Refused = true

abbrev pub uses_in : List Piece → List Piece
uses_in [] = []
uses_in (piece ∷ pieces) = if is_use piece.kind then piece ∷ uses_in pieces else uses_in pieces

-- these are the uses in the text before the rest
abbrev pub AreUses : List (List ℕ) → List ℕ → List Piece → List ℕ → Type 0
AreUses names text uses rest = (pieces : List Piece) × (Leads names text pieces rest × (uses ≡ uses_in pieces))

-- the piece at the head of what is left of a text, where the uses from `next` on are those in it
abbrev pub head_of : List ℕ → List Piece → ℕ → Piece
head_of rest uses next =
    if begins_use rest then slice_index_or uses next (record { len = 0; kind = Kept })
    else record { len = stretch_len rest; kind = Kept }

abbrev pub next_of : List ℕ → ℕ → ℕ
next_of rest next = if begins_use rest then next + 1 else next

-- ---- the table

-- the names, each at its index
abbrev pub names_of : {A : Type 0} → List (Vec ℕ A × Option Macro) → List (List ℕ)
names_of entries = map (λ entry. entry.0.items) entries

-- the text of a macro, where there is one
abbrev pub text_of : Option Macro → Option (List ℕ)
text_of = option_map (λ found. found.text.items)

-- the bytes of a macro's text that was found
abbrev pub found_text : Option (Bor Macro) → Option (List ℕ)
found_text = option_map (λ found. found.now.text.items)

-- the names with their texts
abbrev pub Texts : Type 0
Texts = List (List ℕ × Option (List ℕ))

abbrev pub texts_of : {A : Type 0} → List (Vec ℕ A × Option Macro) → Texts
texts_of entries = map (λ entry. (entry.0.items, text_of entry.1)) entries

-- what they say of a name
abbrev pub by_name : Texts → Macros
by_name texts name = option_and_then (λ text. text) (lookup (bytes_eq name) texts)

-- what the entries of a table say of a name
abbrev pub macros_of : {A : Type 0} → List (Vec ℕ A × Option Macro) → Macros
macros_of entries = by_name (texts_of entries)

-- a macro's uses are those in its text
abbrev pub IsCut : List (List ℕ) → Macro → Type 0
IsCut names found = AreUses names found.text.items found.uses.items []

abbrev pub IsCutIfAny : List (List ℕ) → Option Macro → Type 0
IsCutIfAny names None = Unit {0}
IsCutIfAny names (Some found) = IsCut names found

abbrev pub EachIsCut : {A : Type 0} → List (List ℕ) → List (Vec ℕ A × Option Macro) → Type 0
EachIsCut names [] = Unit {0}
EachIsCut names (entry ∷ entries) = IsCutIfAny names entry.1 × EachIsCut names entries

abbrev pub AreCut : {A : Type 0} → List (Vec ℕ A × Option Macro) → Type 0
AreCut entries = EachIsCut (names_of entries) entries

-- a table got names and kept what it had
pub record Keeps {A : Type 0} (old new : List (Vec ℕ A × Option Macro)) : Type 0 where
  pub same : macros_of new ≡ macros_of old
  pub grown : (index : ℕ) (name : List ℕ) → slice_get (names_of old) index ≡ Some name → slice_get (names_of new) index ≡ Some name
  pub cut : AreCut old → AreCut new

-- ---- uses

-- what a use makes of the text that its name has
unfoldable pub of_text : ℕ → Macros → ℕ → List ℕ → Made → Result Made Refusal
of_text zero macros at text made = Err (refused_at at Limit)
of_text (suc levels) macros at text made =
    if nat_le use_limit made.uses then Err (refused_at at Limit)
    else expand_text (make_use levels macros at) at (length text) text (count_use made)
