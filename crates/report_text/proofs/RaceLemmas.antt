-- Races, as they are read.
use Rattle.std.proofs.Common.{◌≡◌, ℕ, ◌<◌, ◌≤◌, ◌^◌, cond, true, List, [], ◌∷◌, ◌++◌, map, length, slice_get, get_or, position, Some, None, arith, ap, refl, sym, subst, ◌∙◌, inl, inr, append_assoc}
use Rattle.std.specs.Prelude.{codes, nat_lt}
use Rattle.std.specs.List.{flat_map, position_or_len}
use Rattle.std.specs.Str.{bytes_eq}
use Rattle.std.specs.Fmt.{decimal}
use Rattle.std.proofs.lemmas.List.Quantifiers.{position-Some}
use Rattle.std.proofs.lemmas.List.Sums.{position_or_len_is}
use Rattle.std.proofs.lemmas.Option.{slice_get-get_or, get_or_from_slice_get}
use Rattle.std.proofs.lemmas.Slice.Eq.{bytes_eq-Decides}
use Rattle.std.proofs.lemmas.Bool.Decides.{nat_tests}
use Rattle.basis.proofs.Lists.{place_within, of_mapped}
use Rattle.sched_core.specs.LogText.{log_text}
use Rattle.report_text.specs.Report.{Column, Race}
use Rattle.report_text.specs.ReportText.{joined_by_space, name_at, race_text, races_text, value_lines}
use Rattle.report_text.specs.WellFormed.{IsValue, IsRaceForm, IsRaceBefore, EachTwo}
use Rattle.report_text.specs.Inner.Columns.{Differ}
use Rattle.report_text.specs.Inner.Races.{Shown, shown_line, IsShown, IsShownBefore, IsRaceLine, IsRaceTaken}
use Rattle.report_text.specs.Inner.Lists.{Listed}
use Rattle.report_text.proofs.EndLemmas.{less_trans}
use Rattle.report_text.proofs.EndedLemmas.{part_at}
use Rattle.report_text.proofs.ColumnLemmas.{no_test}

pub shown_spelled : (shown : Shown) (rest : List ℕ) → shown_line shown ++ rest ≡ shown.0 ++ 32 ∷ (log_text shown.1 ++ 10 ∷ rest)
shown_spelled shown rest = append_assoc (joined_by_space shown.0 (log_text shown.1)) (10 ∷ []) rest ∙ append_assoc shown.0 (32 ∷ log_text shown.1) (10 ∷ rest)

pub values_spelled : (values : List Shown) → flat_map shown_line values ≡ value_lines values
values_spelled [] = refl
values_spelled (shown ∷ values) = ap (λ t. shown_line shown ++ t) (values_spelled values)

pub races_spelled : (columns : List Column) (races : List Race) → flat_map (race_text columns) races ≡ races_text columns races
races_spelled columns [] = refl
races_spelled columns (race ∷ races) = ap (λ t. race_text columns race ++ t) (races_spelled columns races)

pub shown_trans : (a b c : Shown) → IsShownBefore a b → IsShownBefore b c → IsShownBefore a c
shown_trans a b c h k = less_trans a.0 b.0 c.0 h k

pub race_trans : (a b c : Race) → IsRaceBefore a b → IsRaceBefore b c → IsRaceBefore a c
race_trans a b c (inl h) (inl k) = inl (omega (arith, h, k))
race_trans a b c (inl h) (inr k) = inl (omega (arith, h, k.0))
race_trans a b c (inr h) (inl k) = inl (omega (arith, h.0, k))
race_trans a b c (inr h) (inr k) = inr (h.0 ∙ k.0, omega (arith, h.1, k.1))

-- a name is found at its variable
pub found_at : (columns : List Column) (names : List (List ℕ)) (name : List ℕ) (i : ℕ) → names ≡ map (λ c. c.name) columns → position (bytes_eq name) names ≡ Some i → (column : Column) × (slice_get columns i ≡ Some column) × (column.name ≡ name)
found_at columns names name i shown e =
    let p = position-Some (bytes_eq name) names i [] e in
    let at : slice_get names i ≡ Some name = slice_get-get_or names i [] p.0 ∙ ap Some (sym ((bytes_eq-Decides name (get_or names i [])).0 p.1)) in
    of_mapped (λ c. c.name) columns i name (ap (λ ns. slice_get ns i) (sym shown) ∙ at)

pub place_of : (columns : List Column) (names : List (List ℕ)) (name : List ℕ) (i : ℕ) (column : Column) → names ≡ map (λ c. c.name) columns → EachTwo Differ columns → slice_get columns i ≡ Some column → column.name ≡ name → position (bytes_eq name) names ≡ Some i
place_of columns names name i column shown differ at is =
    let here : slice_get names i ≡ Some name = ap (λ ns. slice_get ns i) shown ∙ part_at (λ c. c.name) columns i column at ∙ ap Some is in
    let within : i < length names = place_within names i name here in
    let count : position_or_len (bytes_eq name) names ≡ i =
    position_or_len_is (bytes_eq name) names i [] (omega (arith, within))
    (λ j low. no_test (bytes_eq name (get_or names j [])) (name ≡ get_or names j []) (bytes_eq-Decides name (get_or names j []))
    (λ e.
    let there : slice_get names j ≡ Some name = slice_get-get_or names j [] (omega (arith, low, within)) ∙ ap Some (sym e) in
    let x = of_mapped (λ c. c.name) columns j name (ap (λ ns. slice_get ns j) (sym shown) ∙ there) in
    differ j i x.0 column low x.1 at (x.2 ∙ sym is)))
    (λ low. (bytes_eq-Decides name (get_or names i [])).1 (sym (get_or_from_slice_get names i name [] here))) in
    by (position_or_len (bytes_eq name) names) count within
  where
    by : (n : ℕ) → n ≡ i → i < length names → cond (nat_lt n (length names)) (Some n) None ≡ Some i
    by n e lt = let small : nat_lt n (length names) ≡ true = grind (arith, nat_tests, e, lt) in rw small (ap Some e)

spell_race : (e t n k v rest : List ℕ) → (((e ++ joined_by_space t (joined_by_space n k)) ++ 10 ∷ []) ++ v) ++ rest ≡ e ++ (t ++ 32 ∷ (n ++ 32 ∷ (k ++ 10 ∷ (v ++ rest))))
spell_race e t n k v rest =
    append_assoc ((e ++ joined_by_space t (joined_by_space n k)) ++ 10 ∷ []) v rest
    ∙ append_assoc (e ++ joined_by_space t (joined_by_space n k)) (10 ∷ []) (v ++ rest)
    ∙ append_assoc e (joined_by_space t (joined_by_space n k)) (10 ∷ (v ++ rest))
    ∙ ap (λ r. e ++ r) (append_assoc t (32 ∷ joined_by_space n k) (10 ∷ (v ++ rest)) ∙ ap (λ r. t ++ 32 ∷ r) (append_assoc n (32 ∷ k) (10 ∷ (v ++ rest))))

pub race_spelled : (columns : List Column) (race : Race) (column : Column) (rest : List ℕ) → slice_get columns race.variable ≡ Some column →
    race_text columns race ++ rest ≡ codes "race " ++ (decimal race.time ++ 32 ∷ (column.name ++ 32 ∷ (decimal (length race.values) ++ 10 ∷ (value_lines race.values ++ rest))))
race_spelled columns race column rest at =
    ap (λ o. ((codes "race " ++ joined_by_space (decimal race.time) (joined_by_space (name_at o) (decimal (length race.values)))) ++ 10 ∷ [] ++ value_lines race.values) ++ rest) at
    ∙ spell_race (codes "race ") (decimal race.time) column.name (decimal (length race.values)) (value_lines race.values) rest

-- a race's first line and its values
pub race_is : (columns : List Column) (race : Race) (count width : ℕ) (column : Column) (text mid rest : List ℕ) → width ≡ column.width → IsRaceLine columns text race.time race.variable count column mid →
    Listed (IsShown width) IsShownBefore race.values → length race.values ≡ count → mid ≡ value_lines race.values ++ rest → IsRaceTaken columns text race rest
race_is columns race count width column text mid rest w l h n e = (
  (
    record {
      time = l.small;
      column = column;
      listed = l.listed;
      two = subst (λ k. 2 ≤ k) (sym n) l.two;
      values = λ i x at. subst (λ k. IsValue k x.0) w (h.0 i x at).0;
      logs = λ i x at. (h.0 i x at).1;
      order = h.1;
    },
    subst (λ k. k < 2 ^ 64) (sym n) l.few,
  ),
  l.whole ∙ (λ i. codes "race " ++ (decimal race.time ++ 32 ∷ (column.name ++ 32 ∷ (decimal (sym n i) ++ 10 ∷ (e i))))) ∙ sym (race_spelled columns race column rest l.listed),
)

pub race_front : (columns : List Column) (race : Race) (text rest : List ℕ) → (h : IsRaceTaken columns text race rest) → IsRaceLine columns text race.time race.variable (length race.values) h.0.0.column (value_lines race.values ++ rest)
race_front columns race text rest h = record {
  small = h.0.0.time;
  listed = h.0.0.listed;
  two = h.0.0.two;
  few = h.0.1;
  whole = h.1 ∙ race_spelled columns race h.0.0.column rest h.0.0.listed;
}

pub race_values : (columns : List Column) (race : Race) (width : ℕ) → (h : IsRaceForm columns race) → width ≡ h.column.width → Listed (IsShown width) IsShownBefore race.values
race_values columns race width h w = (λ i x at. (subst (λ k. IsValue k x.0) (sym w) (h.values i x at), h.logs i x at), h.order)
