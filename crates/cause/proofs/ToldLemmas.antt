-- What is told of the members of a log, one after another.
use Rattle.std.proofs.Common.{◌≡◌, ℕ, zero, suc, List, [], ◌∷◌, ◌++◌, length, take, Option, Some, None, IfSome, IfNone, slice_get, refl, sym, ap, subst}
use Rattle.std.proofs.lemmas.Option.{same_Some}
use Rattle.vmodel.specs.Run.{Setting}
use Rattle.cause.specs.Causes.{IsCause, HasNoCause, IsTold}
use Rattle.cause.specs.declared.cause.Cause.{Cause}

told_so : (setting : Setting) (log : List (ℕ × ℕ)) (steps : ℕ) (told : Option Cause) → IfSome told (IsCause setting log) → IfNone told (HasNoCause setting log steps) →
    IsTold setting log steps told
told_so setting log steps None some none = none
told_so setting log steps (Some cause) some none = some

pub one_more : (told : List (Option Cause)) (cause : Option Cause) → length (told ++ cause ∷ []) ≡ suc (length told)
one_more [] cause = refl
one_more (h ∷ told) cause = ap suc (one_more told cause)

last_too : (P : ℕ → Option Cause → Type 0) (list : List (Option Cause)) (last : Option Cause) → ((k : ℕ) (told : Option Cause) → slice_get list k ≡ Some told → P k told) →
    P (length list) last → (k : ℕ) (told : Option Cause) → slice_get (list ++ last ∷ []) k ≡ Some told → P k told
last_too P [] last before is zero told e = subst (P 0) (same_Some last told e) is
last_too P [] last before is (suc k) told e = absurd cc
last_too P (h ∷ list) last before is zero told e = before zero told e
last_too P (h ∷ list) last before is (suc k) told e = last_too (λ n. P (suc n)) list last (λ n. before (suc n)) is k told e

pub told_more : (setting : Setting) (members front : List (ℕ × ℕ)) (steps place : ℕ) (list : List (Option Cause)) (cause : Option Cause) → length list ≡ place →
    front ≡ take (suc place) members → IfSome cause (IsCause setting front) → IfNone cause (HasNoCause setting front steps) →
    ((k : ℕ) (told : Option Cause) → slice_get list k ≡ Some told → IsTold setting (take (suc k) members) steps told) →
    (k : ℕ) (told : Option Cause) → slice_get (list ++ cause ∷ []) k ≡ Some told → IsTold setting (take (suc k) members) steps told
told_more setting members front steps place list cause many is some none before =
    last_too (λ k told. IsTold setting (take (suc k) members) steps told) list cause before
    (subst (λ (n : ℕ). IsTold setting (take (suc n) members) steps cause) (sym many)
    (subst (λ (log : List (ℕ × ℕ)). IsTold setting log steps cause) is (told_so setting front steps cause some none)))
