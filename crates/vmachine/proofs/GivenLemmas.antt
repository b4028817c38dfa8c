-- What a sink took of what a run gave.
use Rattle.std.proofs.Common.{◌≡◌, ℕ, ◌+◌, Bool, true, false, List, [], ◌∷◌, ◌++◌, refl, sym, ap, subst, ◌∙◌, append_assoc, append-nil}
use Rattle.vmodel.specs.declared.history.Item.{Item}
use Rattle.vmodel.specs.Run.{Setting, items_after}
use Rattle.vmachine.specs.Inner.{HandsOn}
use Rattle.vmachine.specs.Runs.{AllWaits, IsHandedBySlot, IsHandedSo}
use Rattle.vmachine.specs.declared.run.Run.{Run}

-- what the sink took, where this is left of what was pending
pub record IsTaken {T : Type 0} (takes : T → List Item → T → Type 0) (first new : T) (all left : List Item) : Type 0 where
  pub handed : List Item
  pub taken : takes first handed new
  pub is : handed ++ left ≡ all

module _ {T : Type 0} (takes : T → List Item → T → Type 0) (joins : (s t u : T) (xs ys : List Item) → takes s xs t → takes t ys u → takes s (xs ++ ys) u) where
  pub taken_on : (mark : Bool) (first now new : T) (handed waiting left : List Item) → takes first handed now → HandsOn takes mark now waiting new left →
      IsTaken takes first new (handed ++ waiting) left
  taken_on false first now new handed waiting left taken on = record {
    handed = handed;
    taken = subst (takes first handed) (sym on.0) taken;
    is = ap (λ (xs : List Item). handed ++ xs) on.1;
  }
  taken_on true first now new handed [] left taken on = record {
    handed = handed;
    taken = subst (takes first handed) (sym on.0) taken;
    is = ap (λ (xs : List Item). handed ++ xs) on.1;
  }
  taken_on true first now new handed (x ∷ xs) left taken on = record {
    handed = handed ++ x ∷ xs;
    taken = joins first now new handed (x ∷ xs) taken on.0;
    is = ap (λ (ys : List Item). (handed ++ x ∷ xs) ++ ys) on.1 ∙ append-nil (handed ++ x ∷ xs);
  }

module _ {T : Type 0} (takes : T → List Item → T → Type 0) (none : (s : T) → takes s [] s) (setting : Setting) (run : Run) (waits : AllWaits setting run) (first : T) where
  -- a run of which nothing was handed on
  pub given_nothing : IsHandedSo takes setting run first first
  given_nothing = record { handed = []; taken = none first; is = waits.is }

  pub given_no_slot : IsHandedBySlot takes setting run first first
  unfolding given_nothing
  given_no_slot = record { so = given_nothing; each = refl; cut = λ more. refl; waits = waits.waits }

-- what was handed on and what is pending, after a step that gave more
pub gave_more : (setting : Setting) (log : List (ℕ × ℕ)) (n : ℕ) (more : List Item) → items_after setting log n ++ more ≡ items_after setting log (n + 1) →
    (handed waiting now : List Item) → now ≡ waiting ++ more → handed ++ waiting ≡ items_after setting log n → handed ++ now ≡ items_after setting log (n + 1)
gave_more setting log n more gave handed waiting now is all =
    ap (λ (xs : List Item). handed ++ xs) is
    ∙ sym (append_assoc handed waiting more)
    ∙ ap (λ (xs : List Item). xs ++ more) all
    ∙ gave
