-- A report is its head, its ends with their dumps, its races and its races of lines.
use Rattle.std.proofs.Common.{◌≡◌, ℕ, ◌<◌, ◌≤◌, ◌^◌, List, [], ◌∷◌, ◌++◌, map, length, slice_get, Some, zero, suc, arith, ap, refl, sym, subst, ◌∙◌, append-nil}
use Rattle.std.specs.Prelude.{codes}
use Rattle.std.specs.List.{flat_map}
use Rattle.std.specs.Fmt.{decimal}
use Rattle.std.proofs.lemmas.List.{length-map}
use Rattle.basis.proofs.Lists.{of_mapped}
use Rattle.sched_core.specs.LogText.{log_text}
use Rattle.std.proofs.lemmas.Option.{same_Some}
use Rattle.report_text.specs.Report.{Column, End, Race, LineRace, Report}
use Rattle.report_text.specs.ReportText.{line, joined_by_space, cause_word, name_at, column_line, column_lines, printed_lines, end_text, ends_text, race_text, races_text, value_lines, line_races_part, report_text}
use Rattle.report_text.specs.WellFormed.{Each, IsEnd, IsEndBefore, HaveBytes, IsReport}
use Rattle.report_text.specs.Inner.Ends.{Ended, ended_text}
use Rattle.report_text.specs.Inner.Headings.{Heading, heading_before, label_line_before}
use Rattle.report_text.specs.Inner.Races.{shown_line}
use Rattle.report_text.specs.Inner.LineRaces.{AreLastTaken}
use Rattle.report_text.specs.Inner.Wholes.{IsHeadTaken, IsBodyTaken}
use Rattle.report_text.proofs.BagLemmas.{printed_fit}
use Rattle.report_text.proofs.EndedLemmas.{part_at}
use Rattle.report_text.proofs.ColumnLemmas.{columns_spelled}
use Rattle.report_text.proofs.LineRaceLemmas.{last_fit}
use Rattle.report_text.proofs.RaceLemmas.{values_spelled, races_spelled}
use Rattle.report_text.proofs.SpellingLemmas.{heading_of, body_before, report_spelled, ends_spelled, right_le, left_le, labelled_le, heading_le, items_le, item_le, line_some}

abbrev pub IsSized : Ended → Type 0
IsSized ended = ended.0.bytes ≡ length ended.1

-- ends beside their dumps
pub record Paired (ends : List End) (dumps : List (List ℕ)) : Type 0 where
  pub all : List Ended
  pub ends_are : ends ≡ map (λ e. e.0) all
  pub dumps_are : dumps ≡ map (λ e. e.1) all
  pub sized : Each IsSized all

each_more : {A : Type 0} (P : A → Type 0) (x : A) (xs : List A) → P x → Each P xs → Each P (x ∷ xs)
each_more P x xs p ps zero y e = subst P (same_Some x y e) p
each_more P x xs p ps (suc i) y e = ps i y e

paired : (ends : List End) (dumps : List (List ℕ)) → HaveBytes ends dumps → Paired ends dumps
paired [] [] h = record { all = []; ends_are = refl; dumps_are = refl; sized = λ i x e. absurd cc }
paired [] (d ∷ ds) h = absurd h
paired (e ∷ es) [] h = absurd h
paired (e ∷ es) (d ∷ ds) h =
    let p = paired es ds h.1 in
    record { all = (e, d) ∷ p.all; ends_are = ap (λ t. e ∷ t) p.ends_are; dumps_are = ap (λ t. d ∷ t) p.dumps_are; sized = each_more IsSized (e, d) p.all h.0 p.sized }

have_bytes : (all : List Ended) → Each IsSized all → HaveBytes (map (λ e. e.0) all) (map (λ e. e.1) all)
have_bytes [] h = tt
have_bytes (ended ∷ all) h = (h 0 ended refl, have_bytes all (λ i x at. h (suc i) x at))

abbrev pub report_of : Heading → List Column → List End → List Race → List LineRace → Report
report_of h columns ends races line_races = record {
  version = h.version;
  top = h.top;
  until = h.until;
  depart = h.depart;
  steps = h.steps;
  grain = h.grain;
  departures = h.departures;
  looked = h.looked;
  outcome = h.outcome;
  variables = columns;
  ends = ends;
  races = races;
  line_races = line_races;
}

-- what was read is a report
pub is_report : (h : Heading) (columns : List Column) (all : List Ended) (races : List Race) (line_races : List LineRace) (text mid last : List ℕ) → IsHeadTaken text h columns mid → IsBodyTaken h.looked columns mid all races last → AreLastTaken h.looked last line_races [] →
    IsReport (report_of h columns (map (λ e. e.0) all) races line_races) (map (λ e. e.1) all) × (text ≡ report_text (report_of h columns (map (λ e. e.0) all) races line_races) (map (λ e. e.1) all))
is_report h columns all races line_races text mid last head body end = (
  record {
    head = record { top = head.heading.top; until = head.heading.until; depart = head.heading.depart; some_steps = head.heading.some_steps; few_steps = head.heading.few_steps; grain = head.heading.grain; views = head.heading.views };
    columns = head.listed.0;
    names = head.listed.1;
    ends = λ i x at. (let w = of_mapped (λ e. e.0) all i x at in subst (IsEnd h.looked columns) w.2 (body.ends.0 i w.0 w.1).0);
    ends_order = λ i j x y lt at there.
        let v = of_mapped (λ e. e.0) all i x at in
        let w = of_mapped (λ e. e.0) all j y there in
        let b : IsEndBefore v.0.0 w.0.0 = body.ends.1 i j v.0 w.0 lt v.1 w.1 in
        subst (λ k. IsEndBefore k y) v.2 (subst (λ k. IsEndBefore v.0.0 k) w.2 b);
    bytes = have_bytes all (λ i x at. (body.ends.0 i x at).1);
    races = λ i x at. (body.listed.0 i x at).0;
    races_order = body.listed.1;
    line_races = λ i x at. (end.0.0.0 i x at).0;
    line_races_order = end.0.0.1;
    no_lines = end.0.2;
  },
  head.whole
      ∙ ap (λ m. heading_before h (label_line_before (codes "vars ") (decimal (length columns)) (column_lines columns ++ m)))
      (body.whole ∙ (λ i. label_line_before (codes "ends ") (decimal (sym (length-map all (λ e. e.0)) i)) (sym (ends_spelled all) i ++ label_line_before (codes "races ") (decimal (length races)) (races_text columns races ++ (end.1 ∙ append-nil (line_races_part h.looked line_races)) i))))
      ∙ sym (report_spelled (report_of h columns (map (λ e. e.0) all) races line_races) (map (λ e. e.1) all)),
)

-- a report as it is read from its text
pub record IsReadFrom (text : List ℕ) (r : Report) (dumps : List (List ℕ)) : Type 0 where
  pub all : List Ended
  pub ends_are : r.ends ≡ map (λ e. e.0) all
  pub dumps_are : dumps ≡ map (λ e. e.1) all
  pub head : IsHeadTaken text (heading_of r) r.variables (body_before r dumps)
  pub body : IsBodyTaken r.looked r.variables (body_before r dumps) all r.races (line_races_part r.looked r.line_races)
  pub last : AreLastTaken r.looked (line_races_part r.looked r.line_races) r.line_races []

race_some : (columns : List Column) (race : Race) → length race.values ≤ length (race_text columns race)
race_some columns race =
    let front : List ℕ = line (codes "race " ++ joined_by_space (decimal race.time) (joined_by_space (name_at (slice_get columns race.variable)) (decimal (length race.values)))) in
    let a = right_le front (value_lines race.values) in
    let b = items_le shown_line race.values (λ shown. line_some (joined_by_space shown.0 (log_text shown.1))) in
    let c : length (flat_map shown_line race.values) ≡ length (value_lines race.values) = ap length (values_spelled race.values) in
    omega (arith, a, b, c)

race_one : (columns : List Column) (race : Race) → 1 ≤ length (race_text columns race)
race_one columns race =
    let front : List ℕ = codes "race " ++ joined_by_space (decimal race.time) (joined_by_space (name_at (slice_get columns race.variable)) (decimal (length race.values))) in
    let a = left_le (line front) (value_lines race.values) in
    let b = line_some front in
    omega (arith, a, b)

ended_one : (ended : Ended) → 1 ≤ length (ended_text ended)
ended_one ended =
    let front : List ℕ = line (codes "end " ++ joined_by_space (decimal ended.0.time) (joined_by_space (cause_word ended.0.cause) (joined_by_space (log_text ended.0.log) (decimal ended.0.bytes)))) in
    let a = left_le (end_text ended.0) ended.1 in
    let b = left_le (front ++ line ended.0.line) (printed_lines ended.0.printed) in
    let c = right_le front (line ended.0.line) in
    let d = line_some ended.0.line in
    omega (arith, a, b, c, d)

printed_le : (end : End) → length (printed_lines end.printed) ≤ length (end_text end)
printed_le end =
    right_le (line (codes "end " ++ joined_by_space (decimal end.time) (joined_by_space (cause_word end.cause) (joined_by_space (log_text end.log) (decimal end.bytes)))) ++ line end.line) (printed_lines end.printed)

-- how long what is told of a report is, beside its text
record HasSizes (n : ℕ) (r : Report) (all : List Ended) : Type 0 where
  columns : length r.variables ≤ n
  ends : length all ≤ n
  races : length r.races ≤ n
  dumps : (i : ℕ) (x : Ended) → slice_get all i ≡ Some x → length x.1 ≤ n
  printed : (i : ℕ) (x : Ended) → slice_get all i ≡ Some x → length (printed_lines x.0.printed) ≤ n
  values : (i : ℕ) (x : Race) → slice_get r.races i ≡ Some x → length x.values ≤ n
  last : length (line_races_part r.looked r.line_races) ≤ n

sizes : (text : List ℕ) (r : Report) (dumps : List (List ℕ)) (all : List Ended) → text ≡ report_text r dumps → ends_text r.ends dumps ≡ flat_map ended_text all → HasSizes (length text) r all
sizes text r dumps all e f =
    let whole : length text ≡ length (heading_before (heading_of r) (label_line_before (codes "vars ") (decimal (length r.variables)) (column_lines r.variables ++ body_before r dumps))) = ap length (e ∙ report_spelled r dumps) in
    let part : List ℕ = line_races_part r.looked r.line_races in
    let tail : List ℕ = label_line_before (codes "races ") (decimal (length r.races)) (races_text r.variables r.races ++ part) in
    let a = heading_le (heading_of r) (label_line_before (codes "vars ") (decimal (length r.variables)) (column_lines r.variables ++ body_before r dumps)) in
    let b = labelled_le (codes "vars ") (decimal (length r.variables)) (column_lines r.variables ++ body_before r dumps) in
    let c = left_le (column_lines r.variables) (body_before r dumps) in
    let d = right_le (column_lines r.variables) (body_before r dumps) in
    let g = labelled_le (codes "ends ") (decimal (length r.ends)) (ends_text r.ends dumps ++ tail) in
    let h = left_le (ends_text r.ends dumps) tail in
    let k = right_le (ends_text r.ends dumps) tail in
    let l = labelled_le (codes "races ") (decimal (length r.races)) (races_text r.variables r.races ++ part) in
    let m = left_le (races_text r.variables r.races) part in
    let o = right_le (races_text r.variables r.races) part in
    let columns_len : length (column_lines r.variables) ≤ length text = omega (arith, whole, a, b, c) in
    let body_len : length (body_before r dumps) ≤ length text = omega (arith, whole, a, b, d) in
    let ends_len : length (flat_map ended_text all) ≤ length text = subst (λ t. length t ≤ length text) f (omega (arith, body_len, g, h)) in
    let races_len : length (flat_map (race_text r.variables) r.races) ≤ length text = subst (λ t. length t ≤ length text) (sym (races_spelled r.variables r.races)) (omega (arith, body_len, g, k, l, m)) in
    record {
      columns =
          let s = items_le column_line r.variables (λ column. line_some (joined_by_space column.name (decimal column.width))) in
          let t : length (flat_map column_line r.variables) ≡ length (column_lines r.variables) = ap length (columns_spelled r.variables) in
          omega (arith, s, t, columns_len);
      ends = (let s = items_le ended_text all ended_one in omega (arith, s, ends_len));
      races = (let s = items_le (race_text r.variables) r.races (race_one r.variables) in omega (arith, s, races_len));
      dumps = λ i x at. (let s = item_le ended_text all i x at in let t = right_le (end_text x.0) x.1 in omega (arith, s, t, ends_len));
      printed = λ i x at.
          let s = item_le ended_text all i x at in
          let t = left_le (end_text x.0) x.1 in
          let u = printed_le x.0 in
          omega (arith, s, t, u, ends_len);
      values = λ i x at. (let s = item_le (race_text r.variables) r.races i x at in let t = race_some r.variables x in omega (arith, s, t, races_len));
      last = omega (arith, body_len, g, k, l, o);
    }

-- each report's text is read so
pub read_from : (text : List ℕ) (r : Report) (dumps : List (List ℕ)) → length text < 2 ^ 64 → IsReport r dumps → text ≡ report_text r dumps → IsReadFrom text r dumps
read_from text r dumps small is e =
    let p = paired r.ends dumps is.bytes in
    let same : ends_text r.ends dumps ≡ flat_map ended_text p.all = (λ i. ends_text (p.ends_are i) (p.dumps_are i)) ∙ ends_spelled p.all in
    let s = sizes text r dumps p.all e same in
    let few = last_fit (length text) r.looked r.line_races small s.last is.no_lines in
    let count : length r.ends ≡ length p.all = ap length p.ends_are ∙ length-map p.all (λ x. x.0) in
    record {
      all = p.all;
      ends_are = p.ends_are;
      dumps_are = p.dumps_are;
      head = record {
        heading = record { top = is.head.top; until = is.head.until; depart = is.head.depart; some_steps = is.head.some_steps; few_steps = is.head.few_steps; grain = is.head.grain; views = is.head.views };
        listed = (is.columns, is.names);
        few = omega (arith, small, s.columns);
        whole = e ∙ report_spelled r dumps;
      };
      body = record {
        ends = (
          λ i x at.
              let end_at : slice_get r.ends i ≡ Some x.0 = ap (λ es. slice_get es i) p.ends_are ∙ part_at (λ k. k.0) p.all i x at in
              let sized : x.0.bytes ≡ length x.1 = p.sized i x at in
              let short : length x.1 ≤ length text = s.dumps i x at in
              let bound : x.0.bytes < 2 ^ 64 = omega (arith, sized, short, small) in
              (is.ends i x.0 end_at, sized, bound, printed_fit (length text) x.0.printed small (s.printed i x at)),
          λ i j x y lt at there.
              is.ends_order i j x.0 y.0 lt (ap (λ es. slice_get es i) p.ends_are ∙ part_at (λ k. k.0) p.all i x at) (ap (λ es. slice_get es j) p.ends_are ∙ part_at (λ k. k.0) p.all j y there),
        );
        few_ends = omega (arith, small, s.ends);
        listed = (λ i x at. (is.races i x at, (let short : length x.values ≤ length text = s.values i x at in omega (arith, short, small))), is.races_order);
        few_races = omega (arith, small, s.races);
        whole = λ i. label_line_before (codes "ends ") (decimal (count i)) (same i ++ label_line_before (codes "races ") (decimal (length r.races)) (races_text r.variables r.races ++ line_races_part r.looked r.line_races));
      };
      last = (
        ((λ i x at. (is.line_races i x at, (few.1 i x at).0, (few.1 i x at).1), is.line_races_order), few.0, is.no_lines),
        sym (append-nil (line_races_part r.looked r.line_races)),
      );
    }

-- what was read is the report whose text it is
pub same_report : (text : List ℕ) (r : Report) (dumps : List (List ℕ)) (f : IsReadFrom text r dumps) (h : Heading) (columns : List Column) (ends : List End) (told : List (List ℕ)) (races : List Race) (line_races : List LineRace) →
    h ≡ heading_of r → columns ≡ r.variables → ends ≡ map (λ e. e.0) f.all → told ≡ map (λ e. e.1) f.all → races ≡ r.races → line_races ≡ r.line_races → (report_of h columns ends races line_races ≡ r) × (told ≡ dumps)
same_report text r dumps f h columns ends told races line_races eh ec ee et er el = ((λ i. report_of (eh i) (ec i) ((ee ∙ sym f.ends_are) i) (er i) (el i)), et ∙ sym f.dumps_are)
