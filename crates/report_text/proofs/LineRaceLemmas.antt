-- Races of lines, as they are read.
use Rattle.std.proofs.Common.{◌≡◌, ℕ, ◌<◌, ◌≤◌, ◌^◌, List, [], ◌∷◌, ◌++◌, length, arith, ap, refl, sym, subst, ◌∙◌, append_assoc}
use Rattle.std.specs.Prelude.{codes}
use Rattle.std.specs.List.{flat_map}
use Rattle.std.specs.Fmt.{decimal}
use Rattle.sched_core.specs.LogText.{log_text}
use Rattle.sched_core.specs.BagLaws.{bags_total}
use Rattle.sched_core.specs.declared.setting.Looked.{Looked}
use Rattle.sched_core.specs.declared.setting.Looked.TheVariants.{Values, Lines}
use Rattle.report_text.specs.Report.{LineRace}
use Rattle.report_text.specs.ReportText.{line, joined_by_space, number_line, counted_texts, side_text, side_texts, line_race_text, line_races_text, line_races_part}
use Rattle.report_text.specs.WellFormed.{Each, IsLineRaceBefore}
use Rattle.report_text.specs.Inner.Headings.{label_line_before}
use Rattle.report_text.specs.Inner.Lines.{AreCountable}
use Rattle.report_text.specs.Inner.LineRaces.{Side, IsSide, IsSideBefore, IsCountedLines, IsLineRaceTaken, IsLineRaceLine, AreLastTaken}
use Rattle.report_text.specs.Inner.Lists.{Listed}
use Rattle.report_text.specs.Inner.Places.{Place, TakesEach, HasTaken}
use Rattle.report_text.proofs.BagLemmas.{texts_fit}
use Rattle.report_text.proofs.ListLemmas.{listed_none}
use Rattle.report_text.proofs.SpellingLemmas.{line_before, left_le, right_le, items_le, item_le, line_some}

spell_side : (e n l t rest : List ℕ) → (((e ++ joined_by_space n l) ++ 10 ∷ []) ++ t) ++ rest ≡ e ++ (n ++ 32 ∷ (l ++ 10 ∷ (t ++ rest)))
spell_side e n l t rest =
    append_assoc ((e ++ joined_by_space n l) ++ 10 ∷ []) t rest
    ∙ append_assoc (e ++ joined_by_space n l) (10 ∷ []) (t ++ rest)
    ∙ append_assoc e (joined_by_space n l) (10 ∷ (t ++ rest))
    ∙ ap (λ r. e ++ r) (append_assoc n (32 ∷ l) (10 ∷ (t ++ rest)))

pub side_spelled : (side : Side) (rest : List ℕ) → side_text side ++ rest ≡ codes "lines " ++ (decimal (length side.0) ++ 32 ∷ (log_text side.1 ++ 10 ∷ (counted_texts side.0 ++ rest)))
side_spelled side rest = spell_side (codes "lines ") (decimal (length side.0)) (log_text side.1) (counted_texts side.0) rest

pub line_race_spelled : (race : LineRace) (rest : List ℕ) →
    line_race_text race ++ rest ≡ codes "line race " ++ (decimal race.time ++ 32 ∷ (decimal (length race.sides) ++ 10 ∷ (side_texts race.sides ++ rest)))
line_race_spelled race rest = spell_side (codes "line race ") (decimal race.time) (decimal (length race.sides)) (side_texts race.sides) rest

pub sides_spelled : (sides : List Side) → flat_map side_text sides ≡ side_texts sides
sides_spelled [] = refl
sides_spelled (side ∷ sides) = ap (λ t. side_text side ++ t) (sides_spelled sides)

pub line_races_spelled : (races : List LineRace) → flat_map line_race_text races ≡ line_races_text races
line_races_spelled [] = refl
line_races_spelled (race ∷ races) = ap (λ t. line_race_text race ++ t) (line_races_spelled races)

pub last_spelled : (races : List LineRace) (rest : List ℕ) → line_races_part Lines races ++ rest ≡ label_line_before (codes "line races ") (decimal (length races)) (line_races_text races ++ rest)
last_spelled races rest =
    append_assoc (number_line (codes "line races") (length races)) (line_races_text races) rest ∙ line_before (codes "line races") (decimal (length races)) (line_races_text races ++ rest)

pub side_trans : (a b c : Side) → IsSideBefore a b → IsSideBefore b c → IsSideBefore a c
side_trans a b c h k = bags_total.trans a.0 b.0 c.0 h k

pub line_race_trans : (a b c : LineRace) → IsLineRaceBefore a b → IsLineRaceBefore b c → IsLineRaceBefore a c
line_race_trans a b c h k = omega (arith, h, k)

-- a first line and its sides
pub line_race_is : (race : LineRace) (count : ℕ) (text mid rest : List ℕ) → IsLineRaceLine text (race.time, count) mid → Listed IsSide IsSideBefore race.sides → length race.sides ≡ count → mid ≡ side_texts race.sides ++ rest → IsLineRaceTaken text race rest
line_race_is race count text mid rest l h n e = (
  (
    record {
      time = l.small;
      two = subst (λ k. 2 ≤ k) (sym n) l.two;
      lines = λ i x at. (h.0 i x at).0;
      logs = λ i x at. (h.0 i x at).2;
      order = h.1;
    },
    subst (λ k. k < 2 ^ 64) (sym n) l.few,
    λ i x at. (h.0 i x at).1,
  ),
  l.whole ∙ (λ i. codes "line race " ++ (decimal race.time ++ 32 ∷ (decimal (sym n i) ++ 10 ∷ e i))) ∙ sym (line_race_spelled race rest),
)

pub line_race_front : (race : LineRace) (text rest : List ℕ) → IsLineRaceTaken text race rest → IsLineRaceLine text (race.time, length race.sides) (side_texts race.sides ++ rest)
line_race_front race text rest h = record {
  small = h.0.0.time;
  two = h.0.0.two;
  few = h.0.1;
  whole = h.1 ∙ line_race_spelled race rest;
}

pub sides_of : (race : LineRace) → IsCountedLines race → Listed IsSide IsSideBefore race.sides
sides_of race h = (λ i x at. (h.0.lines i x at, h.2 i x at, h.0.logs i x at), h.0.order)

pub lines_seen : (races : List LineRace) → Lines ≡ Values → races ≡ []
lines_seen races e = absurd cc

-- where values are looked at there are none
pub no_last : (old : Place) → HasTaken old old (AreLastTaken Values) []
no_last old ok = (ok, ((listed_none IsCountedLines IsLineRaceBefore, omega arith, λ e. refl), refl))

pub no_last_each : (old : Place) → TakesEach old old (AreLastTaken Values) []
no_last_each old races rest ok h = (sym (h.0.2 refl), (ok, h.1 ∙ refl))

-- ---- sizes

side_some : (side : Side) → 1 ≤ length (side_text side)
side_some side =
    let front : List ℕ = codes "lines " ++ joined_by_space (decimal (length side.0)) (log_text side.1) in
    let a = left_le (line front) (counted_texts side.0) in
    let b = line_some front in
    omega (arith, a, b)

race_some : (race : LineRace) → 1 ≤ length (line_race_text race)
race_some race =
    let front : List ℕ = codes "line race " ++ joined_by_space (decimal race.time) (decimal (length race.sides)) in
    let a = left_le (line front) (side_texts race.sides) in
    let b = line_some front in
    omega (arith, a, b)

abbrev pub AreFew : LineRace → Type 0
AreFew race = (length race.sides < 2 ^ 64) × Each (λ s. AreCountable s.0) race.sides

sides_fit : (n : ℕ) (race : LineRace) → n < 2 ^ 64 → length (line_race_text race) ≤ n → AreFew race
sides_fit n race small le =
    let front : List ℕ = line (codes "line race " ++ joined_by_space (decimal race.time) (decimal (length race.sides))) in
    let a = right_le front (side_texts race.sides) in
    let same : length (flat_map side_text race.sides) ≡ length (side_texts race.sides) = ap length (sides_spelled race.sides) in (
      (let b = items_le side_text race.sides side_some in omega (arith, a, b, same, small, le)),
      λ i x at.
          let b = item_le side_text race.sides i x at in
          let d = right_le (line (codes "lines " ++ joined_by_space (decimal (length x.0)) (log_text x.1))) (counted_texts x.0) in
          texts_fit n x.0 small (omega (arith, a, b, d, same, le)),
    )

-- what stands in a text that can be counted can be counted
pub last_fit : (n : ℕ) (looked : Looked) (races : List LineRace) → n < 2 ^ 64 → length (line_races_part looked races) ≤ n → (looked ≡ Values → races ≡ []) → (length races < 2 ^ 64) × Each AreFew races
last_fit n Values races small le none =
    subst (λ xs. (length xs < 2 ^ 64) × Each AreFew xs) (sym (none refl)) (omega arith, λ i x at. absurd cc)
last_fit n Lines races small le none =
    let a = right_le (number_line (codes "line races") (length races)) (line_races_text races) in
    let same : length (flat_map line_race_text races) ≡ length (line_races_text races) = ap length (line_races_spelled races) in (
      (let b = items_le line_race_text races race_some in omega (arith, a, b, same, small, le)),
      λ i x at. (let b = item_le line_race_text races i x at in sides_fit n x small (omega (arith, a, b, same, le))),
    )
