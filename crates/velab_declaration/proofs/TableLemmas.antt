-- The first action of a table that breaks a rule, one after another.
use Rattle.std.proofs.Common.{◌≡◌, ◌<◌, ◌≤◌, ℕ, zero, suc, ◌+◌, Option, None, Some, List, [], ◌∷◌, length, drop, get_or, slice_get, refl, sym, ap, ◌∙◌, add-one}
use Rattle.std.specs.Prelude.{option_map, unwrap_or}
use Rattle.std.specs.Option.{option_or}
use Rattle.std.proofs.lemmas.List.{drop_all}
use Rattle.vdesign.specs.declared.action.Action.{Action}
use Rattle.velab_expr.specs.declared.fault.Rule.{Rule}
use Rattle.velab_expr.specs.declared.fault.ElabFault.{ElabFault}
use Rattle.velab_declaration.specs.ActionFlaws.{table_fault}
use Rattle.velab_expr.proofs.ListLemmas.{drop_at}

pub got_behind : {A : Type 0} (i : ℕ) (xs : List A) → slice_get (drop i xs) 0 ≡ slice_get xs i
got_behind zero xs = refl
got_behind (suc i) [] = refl
got_behind (suc i) (x ∷ xs) = got_behind i xs

further : {A : Type 0} (i : ℕ) (xs : List A) → drop 1 (drop i xs) ≡ drop (suc i) xs
further zero xs = refl
further (suc i) [] = refl
further (suc i) (x ∷ xs) = further i xs

pub drop_further : {A : Type 0} (i : ℕ) (xs : List A) → drop 1 (drop i xs) ≡ drop (i + 1) xs
drop_further i xs = further i xs ∙ ap (λ (n : ℕ). drop n xs) (sym (add-one i))

module _ (rule : Action → Option Rule) (actions : List Action) (words : List (Option ℕ)) (i : ℕ) where
  abbrev pub fault_of : Rule → ElabFault
  fault_of r = record { rule = r; at = unwrap_or (slice_get words i) None }

  module _ (x : Action) (within : i < length actions) (is : x ≡ get_or actions i x) where
    opened : table_fault rule (drop i actions) (drop i words) ≡ option_or (option_map fault_of (rule x)) (table_fault rule (drop (i + 1) actions) (drop (i + 1) words))
    opened =
        ap (λ (l : List Action). table_fault rule l (drop i words)) (drop_at actions i x within is)
        ∙ (λ j. option_or (option_map (λ (r : Rule). record { rule = r; at = unwrap_or (got_behind i words j) None }) (rule x)) (table_fault rule (drop (i + 1) actions) (drop_further i words j)))

    -- this one breaks it
    pub breaks_at : (r : Rule) (all : Option ElabFault) → rule x ≡ Some r → table_fault rule (drop i actions) (drop i words) ≡ all → all ≡ Some (fault_of r)
    breaks_at r all e same = sym same ∙ opened ∙ ap (λ o. option_or (option_map fault_of o) (table_fault rule (drop (i + 1) actions) (drop (i + 1) words))) e

    -- this one doesn't
    pub breaks_later : (all : Option ElabFault) → rule x ≡ None → table_fault rule (drop i actions) (drop i words) ≡ all → table_fault rule (drop (i + 1) actions) (drop (i + 1) words) ≡ all
    breaks_later all e same = sym (opened ∙ ap (λ o. option_or (option_map fault_of o) (table_fault rule (drop (i + 1) actions) (drop (i + 1) words))) e) ∙ same

  -- none is left
  pub breaks_nowhere : (all : Option ElabFault) → length actions ≤ i → table_fault rule (drop i actions) (drop i words) ≡ all → all ≡ None
  breaks_nowhere all done same = sym same ∙ ap (λ (l : List Action). table_fault rule l (drop i words)) (drop_all i actions done)
