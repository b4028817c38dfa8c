-- What a fault of a part says of the whole.
use Rattle.std.proofs.Common.{◌≡◌, ℕ, Option, Some, None, Result, Ok, Err, IsErrAnd, refl, sym, ap, subst, ◌∙◌}
use Rattle.std.specs.Option.{option_or}
use Rattle.basis.specs.declared.memory.OrMemory.{OrMemory}
use Rattle.basis.specs.declared.memory.OrMemory.TheVariants.{Fault, Memory}
use Rattle.basis.specs.Reasons.{Because, IfFault}
use Rattle.velab_expr.specs.declared.fault.ElabFault.{ElabFault}
use Rattle.vast.specs.NumberedWords.{Word}
use Rattle.vmodules.specs.Inner.{IsTold}
use Rattle.velab_expr.specs.declared.fault.Rule.{Rule}
use Rattle.velab_expr.specs.Rules.{IsBroken, broken_at}

-- what a part breaks is broken by the whole
pub still : (a b : Option ElabFault) → ((r : ElabFault) → a ≡ Some r → b ≡ Some r) → (e : OrMemory ElabFault) → Because (IsBroken a) e → Because (IsBroken b) e
still a b leads (Fault f) h = leads f h
still a b leads (Memory m) h = tt

-- what is left begins with a part that breaks a rule
pub stops_at : (front rest left whole : Option ElabFault) → left ≡ option_or front rest → left ≡ whole → (e : OrMemory ElabFault) →
    Because (IsBroken front) e → Because (IsBroken whole) e
stops_at front rest left whole opens same = still front whole (λ r h. sym same ∙ opens ∙ ap (λ o. option_or o rest) h)

-- what is left begins with a part that breaks none
pub goes_on : (front rest left whole : Option ElabFault) → left ≡ option_or front rest → front ≡ None → left ≡ whole → rest ≡ whole
goes_on front rest left whole opens right same = sym (ap (λ o. option_or o rest) right) ∙ sym opens ∙ same

-- a fault that `?` hands on
pub handed_on : {T : Type 0} (P : ElabFault → Type 0) (result : Result T (OrMemory ElabFault)) (e : OrMemory ElabFault) → IsErrAnd result (λ y. y ≡ e) → Because P e → IfFault result P
handed_on P (Ok x) e h p = absurd h
handed_on P (Err y) e h p = subst (Because P) (sym h) p

-- ---- one rule behind another

pub first_breaks : (a b : Option ElabFault) (e : OrMemory ElabFault) → Because (IsBroken a) e → Because (IsBroken (option_or a b)) e
first_breaks a b = still a (option_or a b) (λ r h. ap (λ o. option_or o b) h)

-- where the first isn't broken
pub then_breaks : (a b : Option ElabFault) → a ≡ None → (e : OrMemory ElabFault) → Because (IsBroken b) e → Because (IsBroken (option_or a b)) e
then_breaks a b right = still b (option_or a b) (λ r h. ap (λ o. option_or o b) right ∙ h)

-- the same of what a call answers
pub then_told : {T : Type 0} (result : Result T (OrMemory ElabFault)) (a b : Option ElabFault) → a ≡ None → IfFault result (IsBroken b) → IfFault result (IsBroken (option_or a b))
then_told (Ok x) a b right h = tt
then_told (Err e) a b right h = then_breaks a b right e h

pub both_right : (a b : Option ElabFault) → a ≡ None → b ≡ None → option_or a b ≡ None
both_right a b first second = ap (λ o. option_or o b) first ∙ second

pub first_right : (a b : Option ElabFault) → option_or a b ≡ None → a ≡ None
first_right None b e = refl
first_right (Some r) b e = cc

pub then_right : (a b : Option ElabFault) → option_or a b ≡ None → b ≡ None
then_right None b e = e
then_right (Some r) b e = cc

-- the same rule under another name
pub same_rule : (a b : Option ElabFault) → a ≡ b → (e : OrMemory ElabFault) → Because (IsBroken a) e → Because (IsBroken b) e
same_rule a b is e h = subst (λ (rule : Option ElabFault). Because (IsBroken rule) e) is h

-- a rule isn't broken where none is
pub not_both : (rule : Option ElabFault) (r : ElabFault) → rule ≡ Some r → rule ≡ None → ⊥
not_both None r is none = cc
not_both (Some other) r is none = cc

-- ---- a rule that is told at a word

-- by its number
pub told_by : (rule : Rule) (word : Option Word) (number : ℕ) (fault : ElabFault) → IsTold word number → fault ≡ record { rule = rule; at = Some number } → broken_at rule word ≡ Some fault
told_by rule None number fault told is = cc
told_by rule (Some w) number fault told is = ap (λ at. Some (record { rule = rule; at = at })) told ∙ ap Some (sym is)

-- a word of a part, as one of the whole
pub part_told : (rule : Rule) (front rest whole : Option Word) → option_or front rest ≡ whole → (fault : ElabFault) → broken_at rule front ≡ Some fault → broken_at rule whole ≡ Some fault
part_told rule None rest whole is fault e = cc
part_told rule (Some w) rest whole is fault e = ap (broken_at rule) (sym is) ∙ e

-- none is told
pub none_told : (rule : Rule) (word : Option Word) → word ≡ None → broken_at rule word ≡ None
none_told rule word is = ap (broken_at rule) is
