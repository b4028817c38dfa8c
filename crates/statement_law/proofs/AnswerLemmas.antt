-- What holds of an answer, where there is one, step by step.
use Rattle.std.proofs.Common.{◌≡◌, ℕ, List, ◌++◌, Result, Ok, Err, refl, subst}
use Rattle.vdesign.specs.declared.action.Branch.{Branch}
use Rattle.velab_expr.specs.declared.fault.ElabFault.{ElabFault}
use Rattle.velab_expr.specs.Answers.{◌>>=◌, value_or}
use Rattle.velab_process.specs.Statements.{Lowered, with_places_before, LoweredBranches, with_branches_before}

-- it holds of what there is, or there is a fault
abbrev pub Told : {A : Type 0} → (A → Type 0) → Result A ElabFault → Type 0
Told P (Ok x) = P x
Told P (Err fault) = Unit {0}

pub told_of : {A : Type 0} (P : A → Type 0) (answer : Result A ElabFault) (x : A) → answer ≡ Ok x → Told P answer → P x
told_of P answer x is told = subst (Told P) is told

-- the next step takes this value, or there is a fault
pub told_value : {A B : Type 0} (P : B → Type 0) (other : A) (answer : Result A ElabFault) (next : A → Result B ElabFault) →
    Told P (next (value_or other answer)) → Told P (answer >>= next)
told_value P other (Ok x) next told = told
told_value P other (Err fault) next told = tt

-- the same of what is made of the value first
pub told_made : {A B C : Type 0} (P : C → Type 0) (make : A → B) (other : A) (answer : Result A ElabFault) (next : B → Result C ElabFault) →
    Told P (next (make (value_or other answer))) → Told P ((answer >>= λ x. Ok (make x)) >>= next)
told_made P make other (Ok x) next told = told
told_made P make other (Err fault) next told = tt

-- the next step takes what there is, which this holds of
pub told_next : {A B : Type 0} (P : B → Type 0) (answer : Result A ElabFault) (next : A → Result B ElabFault) →
    ((x : A) → answer ≡ Ok x → Told P (next x)) → Told P (answer >>= next)
told_next P (Ok x) next told = told x refl
told_next P (Err fault) next told = tt

-- the same by what is known of it
pub told_then : {A B : Type 0} (P : A → Type 0) (Q : B → Type 0) (answer : Result A ElabFault) (next : A → Result B ElabFault) →
    Told P answer → ((x : A) → P x → Told Q (next x)) → Told Q (answer >>= next)
told_then P Q (Ok x) next told leads = leads x told
told_then P Q (Err fault) next told leads = tt

pub told_by : {A : Type 0} (P Q : A → Type 0) (answer : Result A ElabFault) → Told P answer → ((x : A) → answer ≡ Ok x → P x → Q x) → Told Q answer
told_by P Q (Ok x) told leads = leads x refl told
told_by P Q (Err fault) told leads = tt

pub told_places : (P : Lowered → Type 0) (places : List ℕ) (answer : Result Lowered ElabFault) →
    Told (λ l. P (record { table = l.table; places = places ++ l.places })) answer → Told P (with_places_before places answer)
told_places P places (Ok l) told = told
told_places P places (Err fault) told = tt

pub told_branches : (P : LoweredBranches → Type 0) (branches : List Branch) (places : List ℕ) (answer : Result LoweredBranches ElabFault) →
    Told (λ l. P (record { table = l.table; branches = branches ++ l.branches; otherwise = places ++ l.otherwise })) answer →
    Told P (with_branches_before branches places answer)
told_branches P branches places (Ok l) told = told
told_branches P branches places (Err fault) told = tt
