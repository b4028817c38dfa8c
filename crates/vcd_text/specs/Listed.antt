-- *internal*: What is told of one variable, and which of the variables of a list comes next.
use Rattle.std.specs.Prelude.{◌≡◌, ℕ, ◌≤◌, nat_lt, not, ◌&&◌, Bool, true, if◌then◌else◌, List, [], ◌∷◌, drop, slice_get, Option, Some, None}
use Rattle.vbits.specs.Vectors.{Vector}
use Rattle.vcd_text.specs.DumpText.{changes, is_news}
use Rattle.vmodel.specs.Touched.{is_in}

-- a number stands from another one on, before the one found, if one was
abbrev pub is_between : ℕ → Option ℕ → ℕ → Bool
is_between from None n = not (nat_lt n from)
is_between from (Some next) n = not (nat_lt n from) && nat_lt n next

-- the one found or this number, whichever comes first from there on
abbrev pub nearer : ℕ → Option ℕ → ℕ → Option ℕ
nearer from found n = if is_between from found n then Some n else found

-- the one found is of the list, and stands from that number on
abbrev pub IsListed : List ℕ → ℕ → Option ℕ → Type 0
IsListed list from None = Unit {0}
IsListed list from (Some next) = (from ≤ next) × (is_in next list ≡ true)

-- what is told of the variable of a number, by its value, its mark and its earlier value
abbrev pub news : ℕ → Option Vector → Option Bool → Option Vector → List (ℕ × Vector)
news n None mark before = []
news n (Some v) None before = []
news n (Some v) (Some mark) None = []
news n (Some v) (Some mark) (Some u) = if is_news mark u v then (n, v) ∷ [] else []

abbrev pub change_at : ℕ → List Bool → List Vector → List Vector → List (ℕ × Vector)
change_at n marks us vs = news n (slice_get vs n) (slice_get marks n) (slice_get us n)

-- what is told of the variables from a number on
abbrev pub changes_from : ℕ → List Bool → List Vector → List Vector → List (ℕ × Vector)
changes_from n marks us vs = changes n (drop n marks) (drop n us) (drop n vs)
