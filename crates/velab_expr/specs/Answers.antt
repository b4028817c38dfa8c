-- *product rule*: What a definition makes of a part of a text: a value, or the first fault in it. And what a call says by such an answer.
use Rattle.std.specs.Prelude.{◌≡◌, Bool, true, false, Option, None, Some, List, ◌++◌, Result, Ok, Err}
use Rattle.basis.specs.declared.memory.OrMemory.{OrMemory}
use Rattle.basis.specs.declared.memory.OrMemory.TheVariants.{Fault, Memory}
use Rattle.vast.specs.NumberedWords.{Word}
use Rattle.vvalue.specs.declared.flaw.Flaw.{Flaw}
use Rattle.velab_expr.specs.declared.fault.Rule.{Rule}
use Rattle.velab_expr.specs.declared.fault.ElabFault.{ElabFault}
use Rattle.velab_expr.specs.Rules.{fault_at, rule_of}

-- the second step takes what the first gives; the first fault ends both
infixl 10 ◌>>=◌
abbrev pub ◌>>=◌ : {A B F : Type 0} → Result A F → (A → Result B F) → Result B F
Ok x >>= next = next x
Err fault >>= next = Err fault

-- the rule is broken at this word
abbrev pub refuse : {A : Type 0} → Rule → Option Word → Result A ElabFault
refuse rule word = Err (fault_at rule word)

-- this, where it holds; else the rule is broken at this word
abbrev pub require : {A : Type 0} → Bool → Rule → Option Word → A → Result A ElabFault
require true rule word x = Ok x
require false rule word x = refuse rule word

-- this answer, where it holds; else the rule is broken at this word
abbrev pub answer_if : {A : Type 0} → Bool → Rule → Option Word → Result A ElabFault → Result A ElabFault
answer_if true rule word answer = answer
answer_if false rule word answer = refuse rule word

-- what there is; where there is nothing, the rule is broken at this word
abbrev pub value_or_fault : {A : Type 0} → Option A → Rule → Option Word → Result A ElabFault
value_or_fault None rule word = refuse rule word
value_or_fault (Some x) rule word = Ok x

-- this, where no size is wrong
abbrev pub value_unless_flawed : {A : Type 0} → Option Flaw → Option Word → A → Result A ElabFault
value_unless_flawed None word x = Ok x
value_unless_flawed (Some flaw) word x = refuse (rule_of flaw) word

-- what the answer lists, behind these
abbrev pub behind : {A F : Type 0} → List A → Result (List A) F → Result (List A) F
behind done answer = answer >>= λ more. Ok (done ++ more)

-- ---- what a call says

abbrev pub Refuses : {A F : Type 0} → OrMemory F → Result A F → Type 0
Refuses (Fault fault) answer = answer ≡ Err fault
Refuses (Memory m) answer = Unit {0}

-- it gives the answer, or it had no memory
abbrev pub Gives : {A F : Type 0} → Result A (OrMemory F) → Result A F → Type 0
Gives (Ok x) answer = answer ≡ Ok x
Gives (Err e) answer = Refuses e answer

-- the same of a call that changes something into what the answer says
abbrev pub Makes : {T A F : Type 0} → Result T (OrMemory F) → A → Result A F → Type 0
Makes (Ok x) made answer = answer ≡ Ok made
Makes (Err e) made answer = Refuses e answer

-- ---- an answer in two parts

-- the fault, if there is one
abbrev pub fault_of : {A F : Type 0} → Result A F → Option F
fault_of (Ok x) = None
fault_of (Err fault) = Some fault

-- what there is, or what stands for it
abbrev pub value_or : {A F : Type 0} → A → Result A F → A
value_or other (Ok x) = x
value_or other (Err fault) = other
