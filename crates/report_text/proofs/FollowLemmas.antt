-- Lists read one thing after another, each behind the last.
use Rattle.std.proofs.Common.{◌≡◌, ℕ, ◌-◌, ◌<◌, ◌&&◌, Bool, true, List, [], ◌∷◌, ◌++◌, length, slice_get, Some, ap, sym, subst, ◌∙◌}
use Rattle.std.specs.Prelude.{◌↔◌, IsTrue}
use Rattle.basis.proofs.Bools.{and_left, and_right, and_both}
use Rattle.report_text.specs.Inner.Places.{Place, Took, Stands}
use Rattle.report_text.proofs.ListLemmas.{HasRead, has_more}
use Rattle.report_text.proofs.EndLemmas.{behind_all}

pub follow_step : {A : Type 0} (f : A → List ℕ) (P : A → Type 0) (Q : A → A → Type 0) → ((a b c : A) → Q a b → Q b c → Q a c) → (count : ℕ) (old now mid next : Place) (xs : List A) (y : A) (follows : Bool) → HasRead f P Q count old xs now →
    length xs < count → Took now mid (λ text rest. P y × (text ≡ f y ++ rest)) → ((z : A) (rest : List ℕ) → now.ok ≡ true → P z × (now.rest ≡ f z ++ rest) → (y ≡ z) × Stands mid rest) →
    (IsTrue follows ↔ ((before : A) → slice_get xs (length xs - 1) ≡ Some before → Q before y)) → next.ok ≡ (mid.ok && follows) → next.rest ≡ mid.rest → HasRead f P Q count old (xs ++ y ∷ []) next
follow_step f P Q trans count old now mid next xs y follows h lt took each told ok rest =
    has_more f P Q count old now next xs y h lt
    (λ fine.
    let s : (mid.ok && follows) ≡ true = sym ok ∙ fine in
    let t = took (and_left _ _ s) in
    (t.0, (t.1.0, behind_all P Q trans xs y (h.sound t.0).1.0 (told.0 (and_right mid.ok follows s)), t.1.1 ∙ ap (λ r. f y ++ r) (sym rest))))
    (λ z after fine is apart e.
    let w = each z after fine (is, e) in
    let follows_is = told.1 (λ before at. subst (λ k. Q before k) (sym w.0) (apart (length xs - 1) before at)) in
    (w.0, (ok ∙ and_both _ _ w.1.0 follows_is, rest ∙ w.1.1)))
