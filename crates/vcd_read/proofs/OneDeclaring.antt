-- What words declare, word by word: so they declare one unit and one list of variables, up to one place.
use Rattle.std.proofs.Common.{◌≡◌, ℕ, Bool, true, false, not, ◌&&◌, ◌||◌, ◌==◌, if◌then◌else◌, List, [], ◌∷◌, ◌++◌, Option, None, Some, get_or, refl, ap, sym, ◌∙◌, append_assoc, append-nil}
use Rattle.std.specs.Prelude.{codes}
use Rattle.std.specs.Str.{bytes_eq}
use Rattle.std.specs.Str.Parse.{digits_value}
use Rattle.std.proofs.lemmas.Bool.{not-true}
use Rattle.std.proofs.lemmas.List.{append_cancel_right}
use Rattle.basis.proofs.Bools.{and_left, and_right}
use Rattle.basis.specs.declared.timescale.Span.{Span}
use Rattle.vcd_read.specs.Words.{Text}
use Rattle.vcd_read.specs.Timescale.{span_in}
use Rattle.vcd_read.specs.Declarations.{Variable, Declares, done, note, scope, timescale, upscope, variable, is_declaring, is_note, is_telling, HaveNoEnd, end_word, declared_variable}
use Rattle.vcd_read.proofs.OneTelling.{no_end}

-- what comes next, with the unit so far and the prefixes of the open scope and of those round it: a declaration; words up to an end; the words
-- of a unit; those of a scope; one word; those of a variable; the last word
data State : Type 0 where
  begins : (unit : Option Span) (prefix : Text) (outer : List Text) → State
  noted : (unit : Option Span) (prefix : Text) (outer : List Text) → State
  timed : (prefix : Text) (outer before : List Text) → State
  scope_kind : (unit : Option Span) (prefix : Text) (outer : List Text) → State
  scope_name : (unit : Option Span) (prefix : Text) (outer : List Text) → State
  passes : (unit : Option Span) (prefix : Text) (outer : List Text) → State
  variable_kind : (unit : Option Span) (prefix : Text) (outer : List Text) → State
  variable_size : (unit : Option Span) (prefix : Text) (outer : List Text) → State
  variable_code : (unit : Option Span) (prefix : Text) (outer : List Text) (width : ℕ) → State
  variable_name : (unit : Option Span) (prefix : Text) (outer : List Text) (width : ℕ) (code : Text) → State
  last : (unit : Option Span) → State

abbrev out_of : Option Span → List Text → State
out_of unit [] = last unit
out_of unit (prefix ∷ outer) = passes unit prefix outer

abbrev begun : Option Span → Text → List Text → Text → State
begun unit prefix outer word =
    if bytes_eq word (codes "$scope") then scope_kind unit prefix outer
    else if bytes_eq word (codes "$upscope") then out_of unit outer
    else if bytes_eq word (codes "$var") then variable_kind unit prefix outer
    else if bytes_eq word (codes "$timescale") then timed prefix outer []
    else if bytes_eq word (codes "$enddefinitions") then last unit
    else noted unit prefix outer

abbrev step : State → Text → State
step (begins unit prefix outer) word = begun unit prefix outer word
step (noted unit prefix outer) word = if bytes_eq word end_word then begins unit prefix outer else noted unit prefix outer
step (timed prefix outer before) word = if bytes_eq word end_word then begins (span_in before) prefix outer else timed prefix outer (before ++ word ∷ [])
step (scope_kind unit prefix outer) word = scope_name unit prefix outer
step (scope_name unit prefix outer) word = passes unit (prefix ++ (word ++ 46 ∷ [])) (prefix ∷ outer)
step (passes unit prefix outer) word = begins unit prefix outer
step (variable_kind unit prefix outer) word = variable_size unit prefix outer
step (variable_size unit prefix outer) word = variable_code unit prefix outer (digits_value 10 word)
step (variable_code unit prefix outer width) word = variable_name unit prefix outer width word
step (variable_name unit prefix outer width code) word = noted unit prefix outer
step (last unit) word = last unit

abbrev adds : State → Text → List Variable
adds (begins unit prefix outer) word = []
adds (noted unit prefix outer) word = []
adds (timed prefix outer before) word = []
adds (scope_kind unit prefix outer) word = []
adds (scope_name unit prefix outer) word = []
adds (passes unit prefix outer) word = []
adds (variable_kind unit prefix outer) word = []
adds (variable_size unit prefix outer) word = []
adds (variable_code unit prefix outer width) word = []
adds (variable_name unit prefix outer width code) word = declared_variable prefix word width code ∷ []
adds (last unit) word = []

abbrev is_last : State → Bool
is_last (begins unit prefix outer) = false
is_last (noted unit prefix outer) = false
is_last (timed prefix outer before) = false
is_last (scope_kind unit prefix outer) = false
is_last (scope_name unit prefix outer) = false
is_last (passes unit prefix outer) = false
is_last (variable_kind unit prefix outer) = false
is_last (variable_size unit prefix outer) = false
is_last (variable_code unit prefix outer width) = false
is_last (variable_name unit prefix outer width code) = false
is_last (last unit) = true

abbrev last_unit : State → Option Span
last_unit (begins unit prefix outer) = None
last_unit (noted unit prefix outer) = None
last_unit (timed prefix outer before) = None
last_unit (scope_kind unit prefix outer) = None
last_unit (scope_name unit prefix outer) = None
last_unit (passes unit prefix outer) = None
last_unit (variable_kind unit prefix outer) = None
last_unit (variable_size unit prefix outer) = None
last_unit (variable_code unit prefix outer width) = None
last_unit (variable_name unit prefix outer width code) = None
last_unit (last unit) = unit

-- a unit, variables, and the words behind the declarations
record Read : Type 0 where
  unit : Option Span
  variables : List Variable
  left : List Text

abbrev with_more : List Variable → Read → Read
with_more variables r = record { unit = r.unit; variables = variables ++ r.variables; left = r.left }

abbrev read : State → List Text → Read
read state [] = record { unit = None; variables = []; left = [] }
read state (word ∷ words) =
    if is_last state then record { unit = last_unit state; variables = []; left = words } else with_more (adds state word) (read (step state word) words)

note_ends : (unit : Option Span) (prefix : Text) (outer words rest : List Text) → HaveNoEnd words →
    read (noted unit prefix outer) (words ++ end_word ∷ rest) ≡ read (begins unit prefix outer) rest
note_ends unit prefix outer [] rest without = refl
note_ends unit prefix outer (word ∷ words) rest without =
    ap (λ (b : Bool). read (if b then begins unit prefix outer else noted unit prefix outer) (words ++ end_word ∷ rest)) (no_end word without.0)
    ∙ note_ends unit prefix outer words rest without.1

note_passed : (unit : Option Span) (prefix : Text) (outer words rest after : List Text) → HaveNoEnd words →
    read (noted unit prefix outer) ((words ++ end_word ∷ rest) ++ after) ≡ read (begins unit prefix outer) (rest ++ after)
note_passed unit prefix outer words rest after without =
    ap (read (noted unit prefix outer)) (append_assoc words (end_word ∷ rest) after) ∙ note_ends unit prefix outer words (rest ++ after) without

unit_ends : (prefix : Text) (outer before words rest : List Text) → HaveNoEnd words →
    read (timed prefix outer before) (words ++ end_word ∷ rest) ≡ read (begins (span_in (before ++ words)) prefix outer) rest
unit_ends prefix outer before [] rest without =
    ap (λ (list : List Text). read (begins (span_in list) prefix outer) rest) (sym (append-nil before))
unit_ends prefix outer before (word ∷ words) rest without =
    ap (λ (b : Bool). read (if b then begins (span_in before) prefix outer else timed prefix outer (before ++ word ∷ [])) (words ++ end_word ∷ rest))
    (no_end word without.0) ∙ unit_ends prefix outer (before ++ word ∷ []) words rest without.1
    ∙ ap (λ (list : List Text). read (begins (span_in list) prefix outer) rest) (append_assoc before (word ∷ []) words)

unit_passed : (prefix : Text) (outer words rest after : List Text) (span : Span) → HaveNoEnd words → span_in words ≡ Some span →
    read (timed prefix outer []) ((words ++ end_word ∷ rest) ++ after) ≡ read (begins (Some span) prefix outer) (rest ++ after)
unit_passed prefix outer words rest after span without is =
    ap (read (timed prefix outer [])) (append_assoc words (end_word ∷ rest) after) ∙ unit_ends prefix outer [] words (rest ++ after) without
    ∙ ap (λ (unit : Option Span). read (begins unit prefix outer) (rest ++ after)) is

-- no keyword that declares is passed over
begun_so : (unit : Option Span) (prefix : Text) (outer : List Text) (a b c d e : Bool) → (a || (b || (c || (d || e)))) ≡ false →
    (if a then scope_kind unit prefix outer else if b then out_of unit outer else if c then variable_kind unit prefix outer
    else if d then timed prefix outer [] else if e then last unit else noted unit prefix outer) ≡ noted unit prefix outer
begun_so unit prefix outer true b c d e h = absurd cc
begun_so unit prefix outer false true c d e h = absurd cc
begun_so unit prefix outer false false true d e h = absurd cc
begun_so unit prefix outer false false false true e h = absurd cc
begun_so unit prefix outer false false false false true h = absurd cc
begun_so unit prefix outer false false false false false h = refl

note_begins : (unit : Option Span) (prefix : Text) (outer : List Text) (keyword : Text) (words : List Text) → is_note keyword ≡ true →
    read (begins unit prefix outer) (keyword ∷ words) ≡ read (noted unit prefix outer) words
note_begins unit prefix outer keyword words is =
    let other : (not (is_declaring keyword) && not (is_telling keyword)) ≡ true =
    and_right (get_or keyword 0 0 == 36) (not (is_declaring keyword) && not (is_telling keyword)) is in
    ap (λ (state : State). with_more [] (read state words))
    (begun_so unit prefix outer (bytes_eq keyword (codes "$scope")) (bytes_eq keyword (codes "$upscope")) (bytes_eq keyword (codes "$var"))
    (bytes_eq keyword (codes "$timescale")) (bytes_eq keyword (codes "$enddefinitions"))
    (not-true (is_declaring keyword) (and_left (not (is_declaring keyword)) (not (is_telling keyword)) other)))

read_is : (before : Option Span) (prefix : Text) (outer words : List Text) (unit : Option Span) (variables : List Variable) (after : List Text) →
    Declares before prefix outer words unit variables →
    read (begins before prefix outer) (words ++ after) ≡ record { unit = unit; variables = variables; left = after }
read_is before prefix outer words unit variables after (done _ _ _) = refl
read_is before prefix outer words unit variables after (note _ _ _ _ keyword notes rest more is without d) =
    note_begins before prefix outer keyword ((notes ++ end_word ∷ rest) ++ after) is ∙ note_passed before prefix outer notes rest after without
    ∙ read_is before prefix outer rest unit more after d
read_is before prefix outer words unit variables after (scope _ _ _ _ kind name rest more d) =
    read_is before (prefix ++ (name ++ 46 ∷ [])) (prefix ∷ outer) rest unit more after d
read_is before prefix outer words unit variables after (timescale _ _ _ list rest span more without is d) =
    unit_passed prefix outer list rest after span without is ∙ read_is (Some span) prefix outer rest unit more after d
read_is before prefix outer words unit variables after (upscope _ _ round _ around rest more d) = read_is before round around rest unit more after d
read_is before prefix outer words unit variables after (variable _ _ _ _ kind size code reference range rest width more number named without d) =
    let next = note_passed before prefix outer range rest after without ∙ read_is before prefix outer rest unit more after d in
    λ i. record { unit = (next i).unit; variables = declared_variable prefix reference (number.value i) code ∷ (next i).variables; left = (next i).left }

pub declare_one : (before : Option Span) (prefix : Text) (outer these those x y : List Text) (u v : Option Span) (a b : List Variable) →
    Declares before prefix outer these u a → Declares before prefix outer those v b → these ++ x ≡ those ++ y → (these ≡ those) × (u ≡ v) × (a ≡ b)
declare_one before prefix outer these those x y u v a b d e same =
    let one : ◌≡◌ {A = Read} (record { unit = u; variables = a; left = x }) (record { unit = v; variables = b; left = y }) =
    sym (read_is before prefix outer these u a x d) ∙ ap (read (begins before prefix outer)) same ∙ read_is before prefix outer those v b y e in (
      append_cancel_right these those x (same ∙ ap (λ (r : Read). those ++ r.left) (sym one)),
      ap (λ (r : Read). r.unit) one,
      ap (λ (r : Read). r.variables) one,
    )
