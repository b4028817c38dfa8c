-- Parameters one after another, each known to those behind it.
use Rattle.std.proofs.Common.{◌≡◌, ◌<◌, ℕ, ◌+◌, List, [], ◌∷◌, ◌++◌, length, drop, get_or, Result, Ok, Err, refl, sym, ap, ◌∙◌}
use Rattle.vwords.specs.Words.{Text}
use Rattle.vast.specs.NumberedTrees.{item_tree}
use Rattle.vast.specs.declared.module.ModuleItem.{ModuleItem}
use Rattle.velab_expr.specs.declared.fault.ElabFault.{ElabFault}
use Rattle.velab_expr.specs.Answers.{◌>>=◌}
use Rattle.velab_expr.specs.Scopes.{Scope}
use Rattle.velab_expr.specs.Symbols.{Symbol, symbols_by, valueless_by}
use Rattle.velab_declaration.specs.Parameters.{Overrides, add_symbol, add_symbols}
use Rattle.velab_expr.specs.Inner.{symbols_in}
use Rattle.velab_declaration.specs.Inner.{valueless_in}
use Rattle.velab_expr.proofs.ListLemmas.{drop_at}

-- ---- one list after another

then_all : {A B C F : Type 0} (a : Result A F) (next : A → Result B F) (last : B → Result C F) → (a >>= λ x. next x >>= last) ≡ ((a >>= next) >>= last)
then_all (Ok x) next last = refl
then_all (Err fault) next last = refl

add_both : (overrides : Overrides) (scope : Scope) (xs ys : List Symbol) → add_symbols overrides scope (xs ++ ys) ≡ (add_symbols overrides scope xs >>= λ next. add_symbols overrides next ys)
add_both overrides scope [] ys = refl
add_both overrides scope (x ∷ xs) ys =
    (λ i. add_symbol overrides scope x >>= λ next. add_both overrides next xs ys i)
    ∙ then_all (add_symbol overrides scope x) (λ next. add_symbols overrides next xs) (λ next. add_symbols overrides next ys)

module _ (overrides : Overrides) (scope : Scope) (front rest left : List Symbol) (opens : left ≡ front ++ rest) (whole : Result Scope ElabFault) (same : add_symbols overrides scope left ≡ whole) where
  more_opens : whole ≡ (add_symbols overrides scope front >>= λ next. add_symbols overrides next rest)
  more_opens = sym same ∙ ap (add_symbols overrides scope) opens ∙ add_both overrides scope front rest

  pub more_step : (next : Scope) → add_symbols overrides scope front ≡ Ok next → add_symbols overrides next rest ≡ whole
  more_step next added = sym (more_opens ∙ ap (λ (r : Result Scope ElabFault). r >>= λ s. add_symbols overrides s rest) added)

  pub more_refused : (fault : ElabFault) → add_symbols overrides scope front ≡ Err fault → whole ≡ Err fault
  more_refused fault added = more_opens ∙ ap (λ (r : Result Scope ElabFault). r >>= λ s. add_symbols overrides s rest) added

-- ---- what is left of a list

module _ (words : List Text) where
  pub given_open : (items : List ModuleItem) (i : ℕ) (x : ModuleItem) → i < length items → x ≡ get_or items i x →
      symbols_in words (drop i items) ≡ symbols_by (item_tree words x) ++ symbols_in words (drop (i + 1) items)
  given_open items i x within is = ap (symbols_in words) (drop_at items i x within is)

  pub valueless_open : (items : List ModuleItem) (i : ℕ) (x : ModuleItem) → i < length items → x ≡ get_or items i x →
      valueless_in words (drop i items) ≡ valueless_by (item_tree words x) ++ valueless_in words (drop (i + 1) items)
  valueless_open items i x within is = ap (valueless_in words) (drop_at items i x within is)
