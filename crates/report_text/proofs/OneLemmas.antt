-- A text is that of one report at most.
use Rattle.std.proofs.Common.{◌≡◌, ℕ, ◌<◌, ◌^◌, inl, inr, true, List, [], ◌∷◌, ◌++◌, map, length, slice_get, Option, Some, None, suc, arith, ap, refl, sym, subst, ◌∙◌, append_assoc}
use Rattle.std.specs.Prelude.{codes}
use Rattle.std.specs.List.{flat_map}
use Rattle.std.specs.Fmt.{decimal}
use Rattle.std.proofs.lemmas.Bool.{cases_lt}
use Rattle.std.proofs.lemmas.Fmt.{decimal_injective}
use Rattle.std.proofs.lemmas.List.{append_cancel_left}
use Rattle.std.proofs.lemmas.Option.{same_Some}
use Rattle.sched_core.specs.declared.log.LogHead.TheVariants.{Plain}
use Rattle.sched_core.specs.Logs.{IsLog}
use Rattle.sched_core.specs.LogText.{log_text}
use Rattle.sched_core.proofs.OneLemmas.{one_named_text}
use Rattle.sched_core.specs.declared.setting.Grain.{Grain}
use Rattle.sched_core.specs.declared.setting.Grain.TheVariants.{Process, Statement}
use Rattle.sched_core.specs.declared.setting.Departures.{Departures}
use Rattle.sched_core.specs.declared.setting.Looked.{Looked}
use Rattle.sched_core.specs.declared.setting.Looked.TheVariants.{Values, Lines}
use Rattle.sched_core.specs.declared.end.Cause.{Cause}
use Rattle.sched_core.specs.declared.end.Cause.TheVariants.{Finish, Stop, Quiet, Limit}
use Rattle.report_text.specs.declared.report.Version.{Version}
use Rattle.report_text.specs.declared.report.Version.TheVariants.{One, Two, Three}
use Rattle.report_text.specs.declared.report.Outcome.{Outcome}
use Rattle.report_text.specs.declared.report.Outcome.TheVariants.{Exhausted, CutMemory, CutEntries, CutSteps, CutTime}
use Rattle.report_text.specs.Report.{Column, Race, LineRace, Report}
use Rattle.report_text.specs.ReportText.{version_number, grain_word, departures_word, looked_word, cause_word, outcome_words, column_line, counted_text, counted_texts, printed_lines, race_text, side_text, line_race_text, line_races_part, report_text}
use Rattle.report_text.specs.WellFormed.{Each, EachTwo, HasViews, IsColumn, IsReport, IsValue}
use Rattle.report_text.specs.Inner.Columns.{Differ}
use Rattle.report_text.specs.Inner.Ends.{Ended, ended_text, IsEnded}
use Rattle.report_text.specs.Inner.Fronts.{lacks}
use Rattle.report_text.specs.Inner.Lines.{IsCountable, ArePrinted}
use Rattle.report_text.specs.Inner.Headings.{AreViewsIn, Heading, IsHeading, heading_before, grain_before, views_before, label_line_before}
use Rattle.report_text.specs.Inner.LineRaces.{Side, IsSide, IsCountedLines, AreLast}
use Rattle.report_text.specs.Inner.Races.{Shown, shown_line, IsShown, IsCounted}
use Rattle.report_text.specs.Inner.Wholes.{IsBodyTaken}
use Rattle.report_text.proofs.FrontLemmas.{cut_unique}
use Rattle.report_text.proofs.LineLemmas.{decimal_lacks}
use Rattle.report_text.proofs.HeadingLemmas.{name_lacks, departures_lacks, views_in}
use Rattle.report_text.proofs.BagLemmas.{text_spelled, texts_spelled, bag_spelled}
use Rattle.report_text.proofs.ColumnLemmas.{path_lacks, column_spelled, columns_spelled}
use Rattle.report_text.proofs.LogLemmas.{log_lacks, value_lacks, feed_outside, is_spelling, end_spelled}
use Rattle.report_text.proofs.LineRaceLemmas.{side_spelled, sides_spelled, sides_of, line_race_spelled, line_races_spelled, last_spelled}
use Rattle.report_text.proofs.RaceLemmas.{shown_spelled, values_spelled, races_spelled, race_spelled}
use Rattle.report_text.proofs.WordLemmas.{version_injective, grain_injective, departures_injective, looked_injective, cause_injective, outcome_injective}
use Rattle.report_text.proofs.SpellingLemmas.{heading_of, body_before}
use Rattle.report_text.proofs.WholeLemmas.{read_from, same_report}

labelled_one : (w v u x y : List ℕ) → label_line_before w v x ≡ label_line_before w u y → lacks 10 v ≡ true → lacks 10 u ≡ true → (v ≡ u) × (x ≡ y)
labelled_one w v u x y e p q = cut_unique 10 v u x y p q (append_cancel_left w (v ++ 10 ∷ x) (u ++ 10 ∷ y) e)

numbers_one : (b m n : ℕ) (x y : List ℕ) → lacks b (decimal m) ≡ true → lacks b (decimal n) ≡ true → m < 2 ^ 64 → n < 2 ^ 64 → decimal m ++ b ∷ x ≡ decimal n ++ b ∷ y → (m ≡ n) × (x ≡ y)
numbers_one b m n x y p q small few e = let c = cut_unique b (decimal m) (decimal n) x y p q e in (decimal_injective m n small few c.0, c.1)

feed_number : (m n : ℕ) (x y : List ℕ) → m < 2 ^ 64 → n < 2 ^ 64 → decimal m ++ 10 ∷ x ≡ decimal n ++ 10 ∷ y → (m ≡ n) × (x ≡ y)
feed_number m n x y small few e = numbers_one 10 m n x y (decimal_lacks 10 m refl small) (decimal_lacks 10 n refl few) small few e

space_number : (m n : ℕ) (x y : List ℕ) → m < 2 ^ 64 → n < 2 ^ 64 → decimal m ++ 32 ∷ x ≡ decimal n ++ 32 ∷ y → (m ≡ n) × (x ≡ y)
space_number m n x y small few e = numbers_one 32 m n x y (decimal_lacks 32 m refl small) (decimal_lacks 32 n refl few) small few e

number_one : (w : List ℕ) (m n : ℕ) (x y : List ℕ) → m < 2 ^ 64 → n < 2 ^ 64 → label_line_before w (decimal m) x ≡ label_line_before w (decimal n) y → (m ≡ n) × (x ≡ y)
number_one w m n x y small few e = feed_number m n x y small few (append_cancel_left w (decimal m ++ 10 ∷ x) (decimal n ++ 10 ∷ y) e)

version_small : (v : Version) → version_number v < 2 ^ 64
version_small One = omega arith
version_small Two = omega arith
version_small Three = omega arith

grain_lacks : (g : Grain) → lacks 10 (grain_word g) ≡ true
grain_lacks Process = refl
grain_lacks Statement = refl

looked_lacks : (l : Looked) → lacks 10 (looked_word l) ≡ true
looked_lacks Values = refl
looked_lacks Lines = refl

outcome_lacks : (o : Outcome) → lacks 10 (outcome_words o) ≡ true
outcome_lacks Exhausted = refl
outcome_lacks CutMemory = refl
outcome_lacks CutEntries = refl
outcome_lacks CutSteps = refl
outcome_lacks CutTime = refl

cause_lacks : (c : Cause) → lacks 32 (cause_word c) ≡ true
cause_lacks Finish = refl
cause_lacks Stop = refl
cause_lacks Quiet = refl
cause_lacks Limit = refl

grain_one : (v : Version) (g h : Grain) (x y : List ℕ) → (v ≡ One → g ≡ Process) → (v ≡ One → h ≡ Process) → grain_before v g x ≡ grain_before v h y → (g ≡ h) × (x ≡ y)
grain_one One g h x y p q e = (p refl ∙ sym (q refl), e)
grain_one Two g h x y p q e = let l = labelled_one (codes "grain ") (grain_word g) (grain_word h) x y e (grain_lacks g) (grain_lacks h) in (grain_injective g h l.0, l.1)
grain_one Three g h x y p q e = let l = labelled_one (codes "grain ") (grain_word g) (grain_word h) x y e (grain_lacks g) (grain_lacks h) in (grain_injective g h l.0, l.1)

views_one : (v : Version) (d e : Departures) (l m : Looked) (x y : List ℕ) → AreViewsIn v (d, l) → AreViewsIn v (e, m) → views_before v (d, l) x ≡ views_before v (e, m) y → (d ≡ e) × (l ≡ m) × (x ≡ y)
views_one One d e l m x y p q same = (p.0 ∙ sym q.0, p.1 ∙ sym q.1, same)
views_one Two d e l m x y p q same = (p.0 ∙ sym q.0, p.1 ∙ sym q.1, same)
views_one Three d e l m x y p q same =
    let a = labelled_one (codes "departures ") (departures_word d) (departures_word e) _ _ same (departures_lacks d) (departures_lacks e) in
    let b = labelled_one (codes "looked ") (looked_word l) (looked_word m) x y a.1 (looked_lacks l) (looked_lacks m) in
    (departures_injective d e a.0, looked_injective l m b.0, b.1)

heading_one : (h k : Heading) (x y : List ℕ) → IsHeading h → IsHeading k → heading_before h x ≡ heading_before k y → (h ≡ k) × (x ≡ y)
heading_one h k x y p q e =
    let v = number_one (codes "vrace report ") (version_number h.version) (version_number k.version) _ _ (version_small h.version) (version_small k.version) e in
    let version = version_injective h.version k.version v.0 in
    let t = labelled_one (codes "top ") h.top k.top _ _ v.1 (name_lacks 10 h.top refl p.top) (name_lacks 10 k.top refl q.top) in
    let u = number_one (codes "until ") h.until k.until _ _ (omega (arith, p.until)) (omega (arith, q.until)) t.1 in
    let d = number_one (codes "depart ") h.depart k.depart _ _ (omega (arith, p.depart)) (omega (arith, q.depart)) u.1 in
    let s = number_one (codes "steps ") h.steps k.steps _ _ (omega (arith, p.few_steps)) (omega (arith, q.few_steps)) d.1 in
    let above : List ℕ = label_line_before (codes "state ") (outcome_words h.outcome) x in
    let below : List ℕ = label_line_before (codes "state ") (outcome_words k.outcome) y in
    let g = grain_one h.version h.grain k.grain (views_before h.version (h.departures, h.looked) above) (views_before h.version (k.departures, k.looked) below) p.grain (λ one. q.grain (sym version ∙ one))
    (s.1 ∙ ap (λ w. grain_before w k.grain (views_before w (k.departures, k.looked) below)) (sym version)) in
    let w = views_one h.version h.departures k.departures h.looked k.looked above below (views_in h.version h.departures h.looked h.outcome p.views)
    (views_in h.version k.departures k.looked k.outcome (subst (λ v. HasViews v k.departures k.looked k.outcome) (sym version) q.views)) g.1 in
    let o = labelled_one (codes "state ") (outcome_words h.outcome) (outcome_words k.outcome) x y w.2 (outcome_lacks h.outcome) (outcome_lacks k.outcome) in
    let outcome = outcome_injective h.outcome k.outcome o.0 in (
      λ i. record { version = version i; top = t.0 i; until = u.0 i; depart = d.0 i; steps = s.0 i; grain = g.0 i; departures = w.0 i; looked = w.1 i; outcome = outcome i },
      o.1,
    )

flat_one : {A : Type 0} (f : A → List ℕ) (P : A → Type 0) → ((a b : A) (r s : List ℕ) → P a → P b → f a ++ r ≡ f b ++ s → (a ≡ b) × (r ≡ s)) → (xs ys : List A) (r s : List ℕ) → Each P xs → Each P ys →
    length xs ≡ length ys → flat_map f xs ++ r ≡ flat_map f ys ++ s → (xs ≡ ys) × (r ≡ s)
flat_one f P one [] [] r s p q n e = (refl, e)
flat_one f P one [] (y ∷ ys) r s p q n e = absurd (omega (arith, n))
flat_one f P one (x ∷ xs) [] r s p q n e = absurd (omega (arith, n))
flat_one {A} f P one (x ∷ xs) (y ∷ ys) r s p q n e =
    let first = one x y (flat_map f xs ++ r) (flat_map f ys ++ s) (p 0 x refl) (q 0 y refl) (sym (append_assoc (f x) (flat_map f xs) r) ∙ e ∙ append_assoc (f y) (flat_map f ys) s) in
    let rest : ◌≡◌ {A = List A} xs ys × (r ≡ s) = flat_one f P one xs ys r s (λ i a at. p (suc i) a at) (λ i a at. q (suc i) a at) (omega (arith, n)) first.1 in
    ((λ i. first.0 i ∷ rest.0 i), rest.1)

column_one : (a b : Column) (r s : List ℕ) → IsColumn a → IsColumn b → column_line a ++ r ≡ column_line b ++ s → (a ≡ b) × (r ≡ s)
column_one a b r s p q e =
    let n = cut_unique 32 a.name b.name (decimal a.width ++ 10 ∷ r) (decimal b.width ++ 10 ∷ s) (path_lacks 32 a.name refl p.0) (path_lacks 32 b.name refl q.0) (sym (column_spelled a r) ∙ e ∙ column_spelled b s) in
    let w = feed_number a.width b.width r s (omega (arith, p.2)) (omega (arith, q.2)) n.1 in
    ((λ i. record { name = n.0 i; width = w.0 i }), w.1)

log_one : (a b : List (ℕ × ℕ)) → IsLog a → IsLog b → log_text a ≡ log_text b → a ≡ b
log_one a b p q e = (one_named_text Plain Plain a b p q e).1

shown_one : (width : ℕ) (a b : Shown) (r s : List ℕ) → IsShown width a → IsShown width b → shown_line a ++ r ≡ shown_line b ++ s → (a ≡ b) × (r ≡ s)
shown_one width a b r s p q e =
    let v = cut_unique 32 a.0 b.0 (log_text a.1 ++ 10 ∷ r) (log_text b.1 ++ 10 ∷ s) (value_lacks 32 width a.0 refl p.0) (value_lacks 32 width b.0 refl q.0) (sym (shown_spelled a r) ∙ e ∙ shown_spelled b s) in
    let l = cut_unique 10 (log_text a.1) (log_text b.1) r s (log_lacks 10 a.1 feed_outside p.1) (log_lacks 10 b.1 feed_outside q.1) v.1 in
    let log = log_one a.1 b.1 p.1 q.1 l.0 in
    ((λ i. (v.0 i, log i)), l.1)

split_one : (a b r s : List ℕ) → length a ≡ length b → a ++ r ≡ b ++ s → (a ≡ b) × (r ≡ s)
split_one [] [] r s n e = (refl, e)
split_one [] (y ∷ ys) r s n e = absurd (omega (arith, n))
split_one (x ∷ xs) [] r s n e = absurd (omega (arith, n))
split_one (x ∷ xs) (y ∷ ys) r s n e =
    let head : x ≡ y = cc in
    let tail : xs ++ r ≡ ys ++ s = cc in
    let rest : ◌≡◌ {A = List ℕ} xs ys × (r ≡ s) = split_one xs ys r s (omega (arith, n)) tail in
    ((λ i. head i ∷ rest.0 i), rest.1)

text_one : (a b r s : List ℕ) → IsCountable a → IsCountable b → counted_text a ++ r ≡ counted_text b ++ s → (a ≡ b) × (r ≡ s)
text_one a b r s p q e =
    let n = number_one (codes "line ") (length a) (length b) (a ++ r) (b ++ s) p q (sym (text_spelled a r) ∙ e ∙ text_spelled b s) in
    split_one a b r s n.0 n.1

texts_one : (a b : List (List ℕ)) (r s : List ℕ) → Each IsCountable a → Each IsCountable b → length a ≡ length b → counted_texts a ++ r ≡ counted_texts b ++ s → (a ≡ b) × (r ≡ s)
texts_one a b r s p q n e = flat_one counted_text IsCountable text_one a b r s p q n (ap (λ t. t ++ r) (texts_spelled a) ∙ e ∙ ap (λ t. t ++ s) (sym (texts_spelled b)))

printed_one : (looked : Looked) (p q : Option (List (List ℕ))) (r s : List ℕ) → ArePrinted looked p → ArePrinted looked q → printed_lines p ++ r ≡ printed_lines q ++ s → (p ≡ q) × (r ≡ s)
printed_one Values None None r s h k e = (refl, e)
printed_one Values None (Some b) r s h k e = absurd k.0
printed_one Values (Some a) q r s h k e = absurd h.0
printed_one Lines None q r s h k e = absurd h.0
printed_one Lines (Some a) None r s h k e = absurd k.0
printed_one Lines (Some a) (Some b) r s h k e =
    let n = number_one (codes "lines ") (length a) (length b) _ _ h.1.1 k.1.1 (sym (bag_spelled a r) ∙ e ∙ bag_spelled b s) in
    let t = texts_one a b r s h.1.0 k.1.0 n.0 n.1 in
    (ap Some t.0, t.1)

ended_one : (looked : Looked) (columns : List Column) (a b : Ended) (r s : List ℕ) → IsEnded looked columns a → IsEnded looked columns b → ended_text a ++ r ≡ ended_text b ++ s → (a ≡ b) × (r ≡ s)
ended_one looked columns a b r s p q e =
    let f = is_spelling looked columns a p in
    let g = is_spelling looked columns b q in
    let whole = append_cancel_left (codes "end ") _ _ (sym (end_spelled a r) ∙ e ∙ end_spelled b s) in
    let t = space_number a.0.time b.0.time _ _ f.time g.time whole in
    let c = cut_unique 32 (cause_word a.0.cause) (cause_word b.0.cause) _ _ (cause_lacks a.0.cause) (cause_lacks b.0.cause) t.1 in
    let l = cut_unique 32 (log_text a.0.log) (log_text b.0.log) _ _ f.log g.log c.1 in
    let n = feed_number a.0.bytes b.0.bytes _ _ f.small g.small l.1 in
    let v = cut_unique 10 a.0.line b.0.line _ _ f.line g.line n.1 in
    let k = printed_one looked a.0.printed b.0.printed (a.1 ++ r) (b.1 ++ s) (p.0.lines, p.3) (q.0.lines, q.3) v.1 in
    let d = split_one a.1 b.1 r s (sym p.1 ∙ n.0 ∙ q.1) k.1 in
    let cause = cause_injective a.0.cause b.0.cause c.0 in
    let log = log_one a.0.log b.0.log p.0.log q.0.log l.0 in
    ((λ i. (record { time = t.0 i; cause = cause i; log = log i; bytes = n.0 i; line = v.0 i; printed = k.0 i }, d.0 i)), d.1)

variable_one : (columns : List Column) (i j : ℕ) (a b : Column) → EachTwo Differ columns → slice_get columns i ≡ Some a → slice_get columns j ≡ Some b → a.name ≡ b.name → i ≡ j
variable_one columns i j a b differ at there same = elim (cases_lt i j) [
  | inl lt ↦ absurd (differ i j a b lt at there same)
  | inr ge ↦ elim (cases_lt j i) [
    | inl lt ↦ absurd (differ j i b a lt there at (sym same))
    | inr le ↦ omega (arith, ge, le)
  ]
]

race_one : (columns : List Column) → Each IsColumn columns → EachTwo Differ columns → (a b : Race) (r s : List ℕ) → IsCounted columns a → IsCounted columns b → race_text columns a ++ r ≡ race_text columns b ++ s → (a ≡ b) × (r ≡ s)
race_one columns each differ a b r s p q e =
    let whole = append_cancel_left (codes "race ") _ _ (sym (race_spelled columns a p.0.column r p.0.listed) ∙ e ∙ race_spelled columns b q.0.column s q.0.listed) in
    let t = space_number a.time b.time _ _ p.0.time q.0.time whole in
    let n = cut_unique 32 p.0.column.name q.0.column.name _ _ (path_lacks 32 p.0.column.name refl (each a.variable p.0.column p.0.listed).0) (path_lacks 32 q.0.column.name refl (each b.variable q.0.column q.0.listed).0) t.1 in
    let k = feed_number (length a.values) (length b.values) _ _ p.1 q.1 n.1 in
    let variable = variable_one columns a.variable b.variable p.0.column q.0.column differ p.0.listed q.0.listed n.0 in
    let column = same_Some p.0.column q.0.column (sym p.0.listed ∙ ap (slice_get columns) variable ∙ q.0.listed) in
    let v = flat_one shown_line (IsShown p.0.column.width) (shown_one p.0.column.width) a.values b.values r s (λ i x at. (p.0.values i x at, p.0.logs i x at))
    (λ i x at. (subst (λ w. IsValue w.width x.0) (sym column) (q.0.values i x at), q.0.logs i x at)) k.0
    (ap (λ t. t ++ r) (values_spelled a.values) ∙ k.1 ∙ ap (λ t. t ++ s) (sym (values_spelled b.values))) in
    ((λ i. record { time = t.0 i; variable = variable i; values = v.0 i }), v.1)

side_one : (a b : Side) (r s : List ℕ) → IsSide a → IsSide b → side_text a ++ r ≡ side_text b ++ s → (a ≡ b) × (r ≡ s)
side_one a b r s p q e =
    let whole = append_cancel_left (codes "lines ") _ _ (sym (side_spelled a r) ∙ e ∙ side_spelled b s) in
    let n = space_number (length a.0) (length b.0) _ _ p.1.1 q.1.1 whole in
    let l = cut_unique 10 (log_text a.1) (log_text b.1) _ _ (log_lacks 10 a.1 feed_outside p.2) (log_lacks 10 b.1 feed_outside q.2) n.1 in
    let t = texts_one a.0 b.0 r s p.1.0 q.1.0 n.0 l.1 in
    let log = log_one a.1 b.1 p.2 q.2 l.0 in
    ((λ i. (t.0 i, log i)), t.1)

line_race_one : (a b : LineRace) (r s : List ℕ) → IsCountedLines a → IsCountedLines b → line_race_text a ++ r ≡ line_race_text b ++ s → (a ≡ b) × (r ≡ s)
line_race_one a b r s p q e =
    let whole = append_cancel_left (codes "line race ") _ _ (sym (line_race_spelled a r) ∙ e ∙ line_race_spelled b s) in
    let t = space_number a.time b.time _ _ p.0.time q.0.time whole in
    let n = feed_number (length a.sides) (length b.sides) _ _ p.1 q.1 t.1 in
    let v = flat_one side_text IsSide side_one a.sides b.sides r s (sides_of a p).0 (sides_of b q).0 n.0
    (ap (λ t. t ++ r) (sides_spelled a.sides) ∙ n.1 ∙ ap (λ t. t ++ s) (sym (sides_spelled b.sides))) in
    ((λ i. record { time = t.0 i; sides = v.0 i }), v.1)

last_one : (looked : Looked) (a b : List LineRace) → AreLast looked a → AreLast looked b → line_races_part looked a ≡ line_races_part looked b → a ≡ b
last_one Values a b h k e = h.2 refl ∙ sym (k.2 refl)
last_one Lines a b h k e =
    let n = number_one (codes "line races ") (length a) (length b) _ _ h.1 k.1 (sym (last_spelled a []) ∙ ap (λ t. t ++ []) e ∙ last_spelled b []) in
    (flat_one line_race_text IsCountedLines line_race_one a b [] [] h.0.0 k.0.0 n.0
    (ap (λ t. t ++ []) (line_races_spelled a) ∙ n.1 ∙ ap (λ t. t ++ []) (sym (line_races_spelled b)))).0

pub report_one : (r s : Report) (dumps others : List (List ℕ)) → IsReport r dumps → IsReport s others → length (report_text r dumps) < 2 ^ 64 → report_text r dumps ≡ report_text s others → (r ≡ s) × (dumps ≡ others)
report_one r s dumps others is js small e =
    let f = read_from (report_text r dumps) r dumps small is refl in
    let g = read_from (report_text r dumps) s others small js e in
    let h = heading_one (heading_of r) (heading_of s) _ _ f.head.heading g.head.heading (sym f.head.whole ∙ g.head.whole) in
    let n = number_one (codes "vars ") (length r.variables) (length s.variables) _ _ f.head.few g.head.few h.1 in
    let c = flat_one column_line IsColumn column_one r.variables s.variables (body_before r dumps) (body_before s others) f.head.listed.0 g.head.listed.0 n.0
    (ap (λ t. t ++ body_before r dumps) (columns_spelled r.variables) ∙ n.1 ∙ ap (λ t. t ++ body_before s others) (sym (columns_spelled s.variables))) in
    let looked : s.looked ≡ r.looked = ap (λ k. k.looked) (sym h.0) in
    let body : IsBodyTaken r.looked r.variables (body_before s others) g.all s.races (line_races_part s.looked s.line_races) =
    subst (λ l. IsBodyTaken l r.variables (body_before s others) g.all s.races (line_races_part s.looked s.line_races)) looked
    (subst (λ cs. IsBodyTaken s.looked cs (body_before s others) g.all s.races (line_races_part s.looked s.line_races)) (sym c.0) g.body) in
    let m = number_one (codes "ends ") (length f.all) (length g.all) _ _ f.body.few_ends body.few_ends (sym f.body.whole ∙ c.1 ∙ body.whole) in
    let d = flat_one ended_text (IsEnded r.looked r.variables) (ended_one r.looked r.variables) f.all g.all _ _ f.body.ends.0 body.ends.0 m.0 m.1 in
    let k = number_one (codes "races ") (length r.races) (length s.races) _ _ f.body.few_races body.few_races d.1 in
    let q = flat_one (race_text r.variables) (IsCounted r.variables) (race_one r.variables f.head.listed.0 f.head.listed.1) r.races s.races (line_races_part r.looked r.line_races) (line_races_part s.looked s.line_races) f.body.listed.0 body.listed.0 k.0
    (ap (λ t. t ++ line_races_part r.looked r.line_races) (races_spelled r.variables r.races) ∙ k.1 ∙ ap (λ t. t ++ line_races_part s.looked s.line_races) (sym (races_spelled r.variables s.races))) in
    let last = last_one r.looked r.line_races s.line_races f.last.0 (subst (λ l. AreLast l s.line_races) looked g.last.0) (q.1 ∙ ap (λ l. line_races_part l s.line_races) looked) in
    same_report (report_text r dumps) s others g (heading_of r) r.variables r.ends dumps r.races r.line_races h.0 c.0 (f.ends_are ∙ ap (map (λ x. x.0)) d.0) (f.dumps_are ∙ ap (map (λ x. x.1)) d.0) q.0 last
