-- What follows from the answers of steps, one after another.
use Rattle.std.proofs.Common.{◌≡◌, Option, Some, None, List, ◌++◌, Result, Ok, Err, IsErrAnd, refl, sym, ap, subst, append_assoc}
use Rattle.basis.specs.declared.memory.OrMemory.{OrMemory}
use Rattle.basis.specs.declared.memory.OrMemory.TheVariants.{Fault, Memory}
use Rattle.basis.specs.Reasons.{Because}
use Rattle.vast.specs.NumberedWords.{Word}
use Rattle.velab_expr.specs.declared.fault.Rule.{Rule}
use Rattle.velab_expr.specs.declared.fault.ElabFault.{ElabFault}
use Rattle.velab_expr.specs.Answers.{◌>>=◌, behind, Refuses, Gives, Makes}
use Rattle.velab_expr.specs.Rules.{fault_at, broken_at, IsBroken}
use Rattle.velab_expr.proofs.AnswerLemmas.{still_refused}
use Rattle.vhierarchy.specs.Instances.{unless_word}
use Rattle.vhierarchy.specs.Inner.{GivesAs}

-- the same answer under another name
pub same_refused : {A F : Type 0} (a b : Result A F) → a ≡ b → (e : OrMemory F) → Refuses e a → Refuses e b
same_refused a b is e h = subst (λ (r : Result _ _). Refuses e r) is h

pub same_made : {T A F : Type 0} (result : Result T (OrMemory F)) (made : A) (a b : Result A F) → a ≡ b → Makes result made a → Makes result made b
same_made result made a b is h = subst (λ (r : Result _ _). Makes result made r) is h

pub same_given : {A F : Type 0} (result : Result A (OrMemory F)) (a b : Result A F) → a ≡ b → Gives result a → Gives result b
same_given result a b is h = subst (λ (r : Result _ _). Gives result r) is h

-- a fault that `?` hands on
pub hands_over : {A F : Type 0} (result : Result A (OrMemory F)) (e : OrMemory F) (answer : Result A F) → IsErrAnd result (λ y. y ≡ e) → Refuses e answer → Gives result answer
hands_over (Ok x) e answer h p = absurd h
hands_over {F = F} (Err y) e answer h p = subst (λ (o : OrMemory F). Refuses o answer) (sym h) p

pub hands_as : {A B F : Type 0} (told : A → B) (result : Result A (OrMemory F)) (e : OrMemory F) (answer : Result B F) → IsErrAnd result (λ y. y ≡ e) → Refuses e answer → GivesAs told result answer
hands_as told (Ok x) e answer h p = absurd h
hands_as {F = F} told (Err y) e answer h p = subst (λ (o : OrMemory F). Refuses o answer) (sym h) p

-- the fault of a first step is that of both
pub first_refused : {A B F : Type 0} (a : Result A F) (rest : A → Result B F) (e : OrMemory F) → Refuses e a → Refuses e (a >>= rest)
first_refused a rest = still_refused a (a >>= rest) (λ fault is. ap (λ (r : Result _ _). r >>= rest) is)

-- where the first step gives this, the second takes it
pub then_is : {A B F : Type 0} (a : Result A F) (rest : A → Result B F) (x : A) → a ≡ Ok x → (a >>= rest) ≡ rest x
then_is a rest x is = ap (λ (r : Result _ _). r >>= rest) is

-- a rule that is broken at a word, or at none
pub barred : {A : Type 0} (rule : Rule) (word : Option Word) (answer : Result A ElabFault) (e : OrMemory ElabFault) → Because (IsBroken (broken_at rule word)) e → Refuses e (unless_word word rule answer)
barred rule None answer (Fault fault) h = absurd cc
barred rule (Some word) answer (Fault fault) h = let same : fault_at rule (Some word) ≡ fault = cc in ap Err same
barred rule word answer (Memory m) h = tt

-- ---- lists, one behind another

module _ {A F : Type 0} (done : List A) where
  pub behind_both : (front : List A) (answer : Result (List A) F) → behind (done ++ front) answer ≡ behind done (answer >>= λ others. Ok (front ++ others))
  behind_both front (Ok others) = ap Ok (append_assoc done front others)
  behind_both front (Err fault) = refl
