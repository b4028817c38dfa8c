-- A report's text, line by line.
use Rattle.std.proofs.Common.{◌≡◌, ℕ, ◌+◌, ◌≤◌, List, [], ◌∷◌, ◌++◌, map, length, slice_get, Some, zero, suc, arith, ap, refl, sym, ◌∙◌, append_assoc, length-append, le_trans}
use Rattle.std.specs.Prelude.{codes}
use Rattle.std.specs.List.{flat_map}
use Rattle.std.specs.Fmt.{decimal}
use Rattle.std.proofs.lemmas.Option.{same_Some}
use Rattle.sched_core.specs.declared.setting.Grain.{Grain}
use Rattle.sched_core.specs.declared.setting.Departures.{Departures}
use Rattle.sched_core.specs.declared.setting.Looked.{Looked}
use Rattle.report_text.specs.declared.report.Version.{Version}
use Rattle.report_text.specs.declared.report.Version.TheVariants.{One, Two, Three}
use Rattle.report_text.specs.Report.{Report}
use Rattle.report_text.specs.ReportText.{line, joined_by_space, version_number, grain_word, departures_word, looked_word, outcome_words, grain_lines, view_lines, column_lines, head_text, ends_text, races_text, line_races_part, report_text}
use Rattle.report_text.specs.Inner.Ends.{Ended, ended_text}
use Rattle.report_text.specs.Inner.Headings.{Heading, Views, heading_before, grain_before, views_before, label_line_before}

abbrev before : List ℕ → List ℕ → List ℕ → List ℕ
before w v y = (w ++ 32 ∷ []) ++ (v ++ 10 ∷ y)

pub line_before : (w v y : List ℕ) → line (joined_by_space w v) ++ y ≡ before w v y
line_before w v y = append_assoc (joined_by_space w v) (10 ∷ []) y ∙ append_assoc w (32 ∷ v) (10 ∷ y) ∙ sym (append_assoc w (32 ∷ []) (v ++ 10 ∷ y))

peel : (p w v y : List ℕ) → (p ++ line (joined_by_space w v)) ++ y ≡ p ++ before w v y
peel p w v y = append_assoc p (line (joined_by_space w v)) y ∙ ap (λ t. p ++ t) (line_before w v y)

grain_spelled : (version : Version) (grain : Grain) (y : List ℕ) → grain_lines version grain ++ y ≡ grain_before version grain y
grain_spelled One grain y = refl
grain_spelled Two grain y = line_before (codes "grain") (grain_word grain) y
grain_spelled Three grain y = line_before (codes "grain") (grain_word grain) y

views_spelled : (version : Version) (departures : Departures) (looked : Looked) (y : List ℕ) → view_lines version departures looked ++ y ≡ views_before version (departures, looked) y
views_spelled One departures looked y = refl
views_spelled Two departures looked y = refl
views_spelled Three departures looked y =
    peel (line (joined_by_space (codes "departures") (departures_word departures))) (codes "looked") (looked_word looked) y
    ∙ line_before (codes "departures") (departures_word departures) (before (codes "looked") (looked_word looked) y)

peel_all : (w1 v1 w2 v2 w3 v3 w4 v4 w5 v5 g u w6 v6 w7 v7 c y : List ℕ) →
    ((((((((((line (joined_by_space w1 v1) ++ line (joined_by_space w2 v2)) ++ line (joined_by_space w3 v3)) ++ line (joined_by_space w4 v4)) ++ line (joined_by_space w5 v5)) ++ g) ++ u) ++ line (joined_by_space w6 v6)) ++ line (joined_by_space w7 v7)) ++ c) ++ y)
    ≡ before w1 v1 (before w2 v2 (before w3 v3 (before w4 v4 (before w5 v5 (g ++ (u ++ before w6 v6 (before w7 v7 (c ++ y))))))))
peel_all w1 v1 w2 v2 w3 v3 w4 v4 w5 v5 g u w6 v6 w7 v7 c y =
    let l1 : List ℕ = line (joined_by_space w1 v1) in
    let l2 : List ℕ = l1 ++ line (joined_by_space w2 v2) in
    let l3 : List ℕ = l2 ++ line (joined_by_space w3 v3) in
    let l4 : List ℕ = l3 ++ line (joined_by_space w4 v4) in
    let l5 : List ℕ = l4 ++ line (joined_by_space w5 v5) in
    let l6 : List ℕ = ((l5 ++ g) ++ u) ++ line (joined_by_space w6 v6) in
    let l7 : List ℕ = l6 ++ line (joined_by_space w7 v7) in
    let last : List ℕ = before w6 v6 (before w7 v7 (c ++ y)) in
    append_assoc l7 c y
    ∙ peel l6 w7 v7 (c ++ y)
    ∙ peel ((l5 ++ g) ++ u) w6 v6 (before w7 v7 (c ++ y))
    ∙ append_assoc (l5 ++ g) u last
    ∙ append_assoc l5 g (u ++ last)
    ∙ peel l4 w5 v5 (g ++ (u ++ last))
    ∙ peel l3 w4 v4 (before w5 v5 (g ++ (u ++ last)))
    ∙ peel l2 w3 v3 (before w4 v4 (before w5 v5 (g ++ (u ++ last))))
    ∙ peel l1 w2 v2 (before w3 v3 (before w4 v4 (before w5 v5 (g ++ (u ++ last)))))
    ∙ line_before w1 v1 (before w2 v2 (before w3 v3 (before w4 v4 (before w5 v5 (g ++ (u ++ last))))))

abbrev pub heading_of : Report → Heading
heading_of r = record { version = r.version; top = r.top; until = r.until; depart = r.depart; steps = r.steps; grain = r.grain; departures = r.departures; looked = r.looked; outcome = r.outcome }

pub head_spelled : (r : Report) (y : List ℕ) → head_text r ++ y ≡ heading_before (heading_of r) (label_line_before (codes "vars ") (decimal (length r.variables)) (column_lines r.variables ++ y))
head_spelled r y =
    let last : List ℕ = before (codes "state") (outcome_words r.outcome) (before (codes "vars") (decimal (length r.variables)) (column_lines r.variables ++ y)) in
    peel_all (codes "vrace report") (decimal (version_number r.version)) (codes "top") r.top (codes "until") (decimal r.until) (codes "depart") (decimal r.depart) (codes "steps") (decimal r.steps)
    (grain_lines r.version r.grain) (view_lines r.version r.departures r.looked) (codes "state") (outcome_words r.outcome) (codes "vars") (decimal (length r.variables)) (column_lines r.variables) y
    ∙ ap (λ t. before (codes "vrace report") (decimal (version_number r.version)) (before (codes "top") r.top (before (codes "until") (decimal r.until) (before (codes "depart") (decimal r.depart) (before (codes "steps") (decimal r.steps) t)))))
    (grain_spelled r.version r.grain (view_lines r.version r.departures r.looked ++ last) ∙ ap (grain_before r.version r.grain) (views_spelled r.version r.departures r.looked last))

body_peel : (h we ve e wr vr r p : List ℕ) → ((((h ++ line (joined_by_space we ve)) ++ e) ++ line (joined_by_space wr vr)) ++ r) ++ p ≡ h ++ before we ve (e ++ before wr vr (r ++ p))
body_peel h we ve e wr vr r p =
    append_assoc (((h ++ line (joined_by_space we ve)) ++ e) ++ line (joined_by_space wr vr)) r p
    ∙ peel ((h ++ line (joined_by_space we ve)) ++ e) wr vr (r ++ p) ∙ append_assoc (h ++ line (joined_by_space we ve)) e (before wr vr (r ++ p)) ∙ peel h we ve (e ++ before wr vr (r ++ p))

abbrev pub body_before : Report → List (List ℕ) → List ℕ
body_before r dumps = label_line_before (codes "ends ") (decimal (length r.ends)) (ends_text r.ends dumps ++ label_line_before (codes "races ") (decimal (length r.races)) (races_text r.variables r.races ++ line_races_part r.looked r.line_races))

pub report_spelled : (r : Report) (dumps : List (List ℕ)) → report_text r dumps ≡ heading_before (heading_of r) (label_line_before (codes "vars ") (decimal (length r.variables)) (column_lines r.variables ++ body_before r dumps))
report_spelled r dumps =
    body_peel (head_text r) (codes "ends") (decimal (length r.ends)) (ends_text r.ends dumps) (codes "races") (decimal (length r.races)) (races_text r.variables r.races) (line_races_part r.looked r.line_races)
    ∙ head_spelled r (body_before r dumps)

pub ends_spelled : (all : List Ended) → ends_text (map (λ e. e.0) all) (map (λ e. e.1) all) ≡ flat_map ended_text all
ends_spelled [] = refl
ends_spelled (ended ∷ all) = ap (λ t. ended_text ended ++ t) (ends_spelled all)

-- ---- sizes

pub right_le : (xs ys : List ℕ) → length ys ≤ length (xs ++ ys)
right_le xs ys = let l = length-append xs ys in omega (arith, l)

pub left_le : (xs ys : List ℕ) → length xs ≤ length (xs ++ ys)
left_le xs ys = let l = length-append xs ys in omega (arith, l)

pub labelled_le : (w v y : List ℕ) → length y ≤ length (label_line_before w v y)
labelled_le w v y =
    let a = length-append w (v ++ 10 ∷ y) in
    let b = length-append v (10 ∷ y) in
    let c : length (10 ∷ y) ≡ length y + 1 = omega arith in
    omega (arith, a, b, c)

grain_le : (version : Version) (grain : Grain) (y : List ℕ) → length y ≤ length (grain_before version grain y)
grain_le One grain y = omega arith
grain_le Two grain y = labelled_le (codes "grain ") (grain_word grain) y
grain_le Three grain y = labelled_le (codes "grain ") (grain_word grain) y

views_le : (version : Version) (views : Views) (y : List ℕ) → length y ≤ length (views_before version views y)
views_le One views y = omega arith
views_le Two views y = omega arith
views_le Three views y =
    let t : List ℕ = label_line_before (codes "looked ") (looked_word views.1) y in
    le_trans {n = length y} {m = length t} (labelled_le (codes "looked ") (looked_word views.1) y) (labelled_le (codes "departures ") (departures_word views.0) t)

pub heading_le : (h : Heading) (y : List ℕ) → length y ≤ length (heading_before h y)
heading_le h y =
    let t7 : List ℕ = label_line_before (codes "state ") (outcome_words h.outcome) y in
    let t6 : List ℕ = views_before h.version (h.departures, h.looked) t7 in
    let t5 : List ℕ = grain_before h.version h.grain t6 in
    let t4 : List ℕ = label_line_before (codes "steps ") (decimal h.steps) t5 in
    let t3 : List ℕ = label_line_before (codes "depart ") (decimal h.depart) t4 in
    let t2 : List ℕ = label_line_before (codes "until ") (decimal h.until) t3 in
    let t1 : List ℕ = label_line_before (codes "top ") h.top t2 in
    le_trans {n = length y} {m = length t7} (labelled_le (codes "state ") (outcome_words h.outcome) y)
    (le_trans {n = length t7} {m = length t6} (views_le h.version (h.departures, h.looked) t7)
    (le_trans {n = length t6} {m = length t5} (grain_le h.version h.grain t6)
    (le_trans {n = length t5} {m = length t4} (labelled_le (codes "steps ") (decimal h.steps) t5)
    (le_trans {n = length t4} {m = length t3} (labelled_le (codes "depart ") (decimal h.depart) t4)
    (le_trans {n = length t3} {m = length t2} (labelled_le (codes "until ") (decimal h.until) t3)
    (le_trans {n = length t2} {m = length t1} (labelled_le (codes "top ") h.top t2)
    (labelled_le (codes "vrace report ") (decimal (version_number h.version)) t1)))))))

pub items_le : {A : Type 0} (f : A → List ℕ) (xs : List A) → ((x : A) → 1 ≤ length (f x)) → length xs ≤ length (flat_map f xs)
items_le f [] some = omega arith
items_le f (x ∷ xs) some =
    let rest = items_le f xs some in
    let one = some x in
    let l = length-append (f x) (flat_map f xs) in
    omega (arith, rest, one, l)

pub item_le : {A : Type 0} (f : A → List ℕ) (xs : List A) (i : ℕ) (x : A) → slice_get xs i ≡ Some x → length (f x) ≤ length (flat_map f xs)
item_le f [] i x e = absurd cc
item_le f (y ∷ ys) zero x e = let l = left_le (f y) (flat_map f ys) in let same : length (f y) ≡ length (f x) = ap (λ z. length (f z)) (same_Some y x e) in omega (arith, l, same)
item_le f (y ∷ ys) (suc i) x e = let r = right_le (f y) (flat_map f ys) in let rest = item_le f ys i x e in omega (arith, r, rest)

pub line_some : (t : List ℕ) → 1 ≤ length (line t)
line_some t = let l = length-append t (10 ∷ []) in omega (arith, l)
