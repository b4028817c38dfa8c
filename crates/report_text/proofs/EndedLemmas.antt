-- Ends with their dumps, one after another.
use Rattle.std.proofs.Common.{◌≡◌, ℕ, ◌-◌, ◌<◌, ◌&&◌, zero, suc, Bool, true, List, [], ◌∷◌, ◌++◌, map, length, slice_get, Some, ap, sym, subst, ◌∙◌}
use Rattle.std.specs.Prelude.{◌↔◌, IsTrue}
use Rattle.std.proofs.lemmas.List.{length-map, map-append}
use Rattle.std.proofs.lemmas.Option.{same_Some}
use Rattle.basis.proofs.Lists.{of_mapped}
use Rattle.basis.proofs.Bools.{and_left, and_right, and_both}
use Rattle.sched_core.specs.declared.setting.Looked.{Looked}
use Rattle.report_text.specs.Report.{Column, End}
use Rattle.report_text.specs.WellFormed.{IsEndBefore}
use Rattle.report_text.specs.Inner.Ends.{Ended, ended_text, IsEnded, IsEndedBefore, IsEndedTaken, FollowsLast}
use Rattle.report_text.specs.Inner.Places.{Place, Took, Stands}
use Rattle.report_text.proofs.ListLemmas.{HasRead, has_more}
use Rattle.report_text.proofs.EndLemmas.{end_before_trans, behind_all}

-- what stands in a list of parts
pub part_at : {A B : Type 0} (f : A → B) (xs : List A) (i : ℕ) (x : A) → slice_get xs i ≡ Some x → slice_get (map f xs) i ≡ Some (f x)
part_at f [] i x e = absurd cc
part_at f (y ∷ ys) zero x e = ap (λ z. Some (f z)) (same_Some y x e)
part_at f (y ∷ ys) (suc i) x e = part_at f ys i x e

pub ended_step : (looked : Looked) (columns : List Column) (count : ℕ) (old now mid next : Place) (all : List Ended) (ended : Ended) (ends : List End) (follows : Bool) → HasRead ended_text (IsEnded looked columns) IsEndedBefore count old all now →
    length all < count → ends ≡ map (λ e. e.0) all → Took now mid (λ text rest. IsEndedTaken looked columns text ended rest) →
    ((z : Ended) (rest : List ℕ) → now.ok ≡ true → IsEndedTaken looked columns now.rest z rest → (ended.0 ≡ z.0) × (ended.1 ≡ z.1) × Stands mid rest) →
    (IsTrue follows ↔ FollowsLast ends ended.0) → next.ok ≡ (mid.ok && follows) → next.rest ≡ mid.rest → HasRead ended_text (IsEnded looked columns) IsEndedBefore count old (all ++ ended ∷ []) next
ended_step looked columns count old now mid next all ended ends follows h lt shown took each told ok rest =
    has_more ended_text (IsEnded looked columns) IsEndedBefore count old now next all ended h lt
    (λ fine.
    let s : (mid.ok && follows) ≡ true = sym ok ∙ fine in
    let t = took (and_left _ _ s) in
    let last = told.0 (and_right mid.ok follows s) in
    let same : length ends ≡ length all = ap length shown ∙ length-map all (λ e. e.0) in (
      t.0,
      (
        t.1.0,
        behind_all (IsEnded looked columns) IsEndedBefore (λ a b c. end_before_trans a.0 b.0 c.0) all ended (h.sound t.0).1.0
            (λ before at. last before.0 (ap (λ n. slice_get ends (n - 1)) same ∙ ap (λ es. slice_get es (length all - 1)) shown ∙ part_at (λ e. e.0) all (length all - 1) before at)),
        t.1.1 ∙ ap (λ r. ended_text ended ++ r) (sym rest),
      ),
    ))
    (λ z after fine is apart e.
    let w = each z after fine (is, e) in
    let follows_is = told.1 (λ before at.
    let x = of_mapped (λ e. e.0) all (length ends - 1) before (ap (λ es. slice_get es (length ends - 1)) (sym shown) ∙ at) in
    let behind : IsEndBefore x.0.0 z.0 = apart (length ends - 1) x.0 x.1 in
    subst (λ b. IsEndBefore b ended.0) x.2 (subst (λ k. IsEndBefore x.0.0 k) (sym w.0) behind)) in
    ((λ i. (w.0 i, w.1 i)), (ok ∙ and_both _ _ w.2.0 follows_is, rest ∙ w.2.1)))

-- one more end, with its dump
pub parts_more : {A B : Type 0} (f : A → B) (xs : List A) (x : A) (parts put : List B) (part : B) → parts ≡ map f xs → put ≡ parts ++ part ∷ [] → part ≡ f x → put ≡ map f (xs ++ x ∷ [])
parts_more f xs x parts put part e p is = p ∙ (λ i. e i ++ is i ∷ []) ∙ sym (map-append f xs (x ∷ []))
