-- What is left of a log from a step on.
use Rattle.std.proofs.Common.{◌≡◌, ℕ, zero, suc, ◌+◌, ◌==◌, ◌<◌, ◌≤◌, Bool, false, if◌then◌else◌, List, [], ◌∷◌, length, take, drop, Some, slice_get, ap, ◌∙◌, arith}
use Rattle.std.proofs.lemmas.Bool.Decides.{nat_tests}
use Rattle.std.proofs.lemmas.Option.{same_Some}
use Rattle.sched_core.specs.Logs.{IsLogFrom}
use Rattle.sched_core.specs.Rules.{NamesBelow, choice_at}
use Rattle.sched_core.proofs.RunLemmas.{IsLeft}
use Rattle.cause.proofs.CheckpointLemmas.{left_from}

another : (m : ℕ × ℕ) (n k : ℕ) → m.0 < n → n ≤ k → (m.0 == k) ≡ false
another m n k lt le =
    let before : m.0 < k = omega (arith, lt, le) in
    grind (arith, nat_tests, before)

pub left_there : (p n : ℕ) (log : List (ℕ × ℕ)) → NamesBelow (take p log) n → IsLogFrom n (drop p log) → IsLeft log (drop p log) n
left_there zero n [] below lawful = left_from n [] lawful
left_there zero n (m ∷ log) below lawful = left_from n (m ∷ log) lawful
left_there (suc p) n [] below lawful = left_from n [] lawful
left_there (suc p) n (m ∷ log) below lawful =
    let inner : IsLeft log (drop p log) n = left_there p n log below.1 lawful in
    record {
      lawful = inner.lawful;
      same = λ k le. ap (λ (test : Bool). if test then m.1 else choice_at log k) (another m n k below.0 le) ∙ inner.same k le;
      names = λ k le named. (omega (arith, below.0, le), inner.names k le named);
      names_back = λ k named. inner.names_back k named.1;
    }

pub from_there : (low s p : ℕ) (log : List (ℕ × ℕ)) (m : ℕ × ℕ) → IsLogFrom low log → slice_get log p ≡ Some m → s ≤ m.0 → IsLogFrom s (drop p log)
from_there low s p [] m lawful e le = absurd cc
from_there low s zero (h ∷ log) m lawful e le =
    (omega (arith, le, ap (λ (member : ℕ × ℕ). member.0) (same_Some h m e)), lawful.1, lawful.2, lawful.3, lawful.4)
from_there low s (suc p) (h ∷ log) m lawful e le = from_there (h.0 + 1) s p log m lawful.4 e le

pub from_end : (s : ℕ) (log : List (ℕ × ℕ)) → IsLogFrom s (drop (length log) log)
from_end s [] = tt
from_end s (m ∷ log) = from_end s log

pub none_below : (s : ℕ) (log : List (ℕ × ℕ)) → NamesBelow (take zero log) s
none_below s [] = tt
none_below s (m ∷ log) = tt

pub one_below : (p s : ℕ) (log : List (ℕ × ℕ)) (m : ℕ × ℕ) → slice_get log p ≡ Some m → m.0 < s → NamesBelow (take p log) s → NamesBelow (take (suc p) log) s
one_below p s [] m e lt below = absurd cc
one_below zero s (h ∷ log) m e lt below = (omega (arith, lt, ap (λ (member : ℕ × ℕ). member.0) (same_Some h m e)), none_below s log)
one_below (suc p) s (h ∷ log) m e lt below = (below.0, one_below p s log m e lt below.1)

-- a log whose steps all lie below another names that one below it
pub member_below : (n p : ℕ) (log : List (ℕ × ℕ)) (m : ℕ × ℕ) → slice_get log p ≡ Some m → NamesBelow log n → m.0 < n
member_below n p [] m e below = absurd cc
member_below n zero (h ∷ log) m e below = omega (arith, below.0, ap (λ (member : ℕ × ℕ). member.0) (same_Some h m e))
member_below n (suc p) (h ∷ log) m e below = member_below n p log m e below.1

-- members come in the order of their steps
pub next_later : (low p : ℕ) (log : List (ℕ × ℕ)) (a b : ℕ × ℕ) → IsLogFrom low log → slice_get log p ≡ Some a → slice_get log (suc p) ≡ Some b → a.0 < b.0
next_later low p [] a b lawful e f = absurd cc
next_later low zero (h ∷ []) a b lawful e f = absurd cc
next_later low zero (h ∷ i ∷ log) a b lawful e f =
    let one : h.0 ≡ a.0 = ap (λ (member : ℕ × ℕ). member.0) (same_Some h a e) in
    let other : i.0 ≡ b.0 = ap (λ (member : ℕ × ℕ). member.0) (same_Some i b f) in
    omega (arith, one, other, lawful.4.0)
next_later low (suc p) (h ∷ log) a b lawful e f = next_later (h.0 + 1) p log a b lawful.4 e f
