-- What follows from the answers of steps.
use Rattle.std.proofs.Common.{◌≡◌, List, ◌++◌, Result, Ok, Err, IsErrAnd, refl, sym, ap, subst, ◌∙◌, append_assoc}
use Rattle.basis.specs.declared.memory.OrMemory.{OrMemory}
use Rattle.basis.specs.declared.memory.OrMemory.TheVariants.{Fault, Memory}
use Rattle.velab_expr.specs.Answers.{◌>>=◌, behind, Refuses, Makes}

-- the fault of a step is one of the whole
pub still_refused : {A B F : Type 0} (a : Result A F) (b : Result B F) → ((fault : F) → a ≡ Err fault → b ≡ Err fault) → (e : OrMemory F) → Refuses e a → Refuses e b
still_refused a b leads (Fault fault) h = leads fault h
still_refused a b leads (Memory m) h = tt

-- a fault that `?` hands on
pub hands_on : {T A F : Type 0} (result : Result T (OrMemory F)) (e : OrMemory F) (made : A) (answer : Result A F) → IsErrAnd result (λ y. y ≡ e) → Refuses e answer → Makes result made answer
hands_on (Ok x) e made answer h p = absurd h
hands_on {F = F} (Err y) e made answer h p = subst (λ (o : OrMemory F). Refuses o answer) (sym h) p

-- lists, one behind another
module _ {A F : Type 0} (done : List A) where
  pub goes_behind : (a b : Result (List A) F) (next : List A) → behind done a ≡ Ok next → behind next b ≡ behind done (a >>= λ front. b >>= λ others. Ok (front ++ others))
  goes_behind (Ok x) (Ok y) next is =
      let same : done ++ x ≡ next = cc in
      ap Ok (ap (λ l. l ++ y) (sym same) ∙ append_assoc done x y)
  goes_behind (Ok x) (Err fault) next is = refl
  goes_behind (Err fault) b next is = absurd cc
