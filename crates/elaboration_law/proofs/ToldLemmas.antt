-- Which rules an answer can tell.
use Rattle.std.proofs.Common.{◌≡◌, Bool, true, false, Option, Some, None, Result, Ok, Err, refl, sym, ap, ◌∙◌, true≢false}
use Rattle.vast.specs.NumberedWords.{Word}
use Rattle.velab_expr.specs.declared.fault.Rule.{Rule}
use Rattle.velab_expr.specs.declared.fault.Rule.TheVariants.{Top, Doubled, Unknown, Drivers, Ports, Width, Constant, Depth, TooMany, Kind}
use Rattle.velab_expr.specs.declared.fault.ElabFault.{ElabFault}
use Rattle.velab_expr.specs.Answers.{◌>>=◌, require, answer_if, value_or_fault}
use Rattle.vhierarchy.specs.Instances.{unless_word}

-- a fault in it is of one of these rules
abbrev pub Tells : {A : Type 0} → (Rule → Bool) → Result A ElabFault → Type 0
Tells rules (Ok x) = Unit {0}
Tells rules (Err fault) = rules fault.rule ≡ true

-- those that an expression, a statement or a declaration can break by itself
abbrev pub is_local : Rule → Bool
is_local Top = false
is_local Doubled = false
is_local Unknown = true
is_local Drivers = false
is_local Ports = false
is_local Width = true
is_local Constant = true
is_local Depth = false
is_local TooMany = false
is_local Kind = true

-- and those that connections can
abbrev pub is_of_connections : Rule → Bool
is_of_connections Top = false
is_of_connections Doubled = false
is_of_connections Unknown = true
is_of_connections Drivers = false
is_of_connections Ports = true
is_of_connections Width = true
is_of_connections Constant = true
is_of_connections Depth = false
is_of_connections TooMany = false
is_of_connections Kind = true

pub local_connections : (rule : Rule) → is_local rule ≡ true → is_of_connections rule ≡ true
local_connections Top e = absurd cc
local_connections Doubled e = absurd cc
local_connections Unknown e = refl
local_connections Drivers e = absurd cc
local_connections Ports e = absurd cc
local_connections Width e = refl
local_connections Constant e = refl
local_connections Depth e = absurd cc
local_connections TooMany e = absurd cc
local_connections Kind e = refl

-- a rule that isn't one of them isn't told
pub untold : {A : Type 0} (rules : Rule → Bool) (a : Result A ElabFault) (fault : ElabFault) (rule : Rule) → Tells rules a → rules rule ≡ false → a ≡ Err fault → fault.rule ≡ rule → ⊥
untold rules (Ok x) fault rule h not is same = cc
untold rules (Err f) fault rule h not is same =
    let it : f ≡ fault = cc in
    true≢false (sym h ∙ ap (λ (e : ElabFault). rules e.rule) it ∙ ap rules same ∙ not)

pub wider : {A : Type 0} (few many : Rule → Bool) → ((rule : Rule) → few rule ≡ true → many rule ≡ true) → (a : Result A ElabFault) → Tells few a → Tells many a
wider few many h (Ok x) t = tt
wider few many h (Err fault) t = h fault.rule t

module _ (rules : Rule → Bool) where
  pub then_tells : {A B : Type 0} (a : Result A ElabFault) (next : A → Result B ElabFault) → Tells rules a → ((x : A) → Tells rules (next x)) → Tells rules (a >>= next)
  then_tells (Ok x) next h more = more x
  then_tells (Err fault) next h more = h

  pub required_tells : {A : Type 0} (holds : Bool) (rule : Rule) (word : Option Word) (x : A) → rules rule ≡ true → Tells rules (require holds rule word x)
  required_tells true rule word x e = tt
  required_tells false rule word x e = e

  pub provided_tells : {A : Type 0} (holds : Bool) (rule : Rule) (word : Option Word) (a : Result A ElabFault) → rules rule ≡ true → Tells rules a → Tells rules (answer_if holds rule word a)
  provided_tells true rule word a e h = h
  provided_tells false rule word a e h = e

  pub barring_tells : {A : Type 0} (word : Option Word) (rule : Rule) (a : Result A ElabFault) → rules rule ≡ true → Tells rules a → Tells rules (unless_word word rule a)
  barring_tells None rule a e h = h
  barring_tells (Some word) rule a e h = e

  pub found_tells : {A : Type 0} (x : Option A) (rule : Rule) (word : Option Word) → rules rule ≡ true → Tells rules (value_or_fault x rule word)
  found_tells None rule word e = e
  found_tells (Some x) rule word e = tt

-- the same of a fault that there may be, and of a rule
abbrev pub TellsFault : (Rule → Bool) → Option ElabFault → Type 0
TellsFault rules None = Unit {0}
TellsFault rules (Some fault) = rules fault.rule ≡ true

abbrev pub TellsRule : (Rule → Bool) → Option Rule → Type 0
TellsRule rules None = Unit {0}
TellsRule rules (Some rule) = rules rule ≡ true

pub untold_fault : (rules : Rule → Bool) (broken : Option ElabFault) (fault : ElabFault) (rule : Rule) → TellsFault rules broken → rules rule ≡ false → broken ≡ Some fault → fault.rule ≡ rule → ⊥
untold_fault rules None fault rule h not is same = cc
untold_fault rules (Some f) fault rule h not is same =
    let it : f ≡ fault = cc in
    true≢false (sym h ∙ ap (λ (e : ElabFault). rules e.rule) it ∙ ap rules same ∙ not)
