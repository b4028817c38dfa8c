-- The processes that have something to do, collected from the last to the first.
use Rattle.std.proofs.Common.{◌≡◌, ◌≢◌, ◌<◌, ℕ, zero, suc, false, map, replicate, List, [], ◌∷◌, length, drop, get_or, drop-cons, refl, sym, ap, ◌∙◌, arith}
use Rattle.vbits.specs.declared.bit4.Bit4.TheVariants.{Zero, One}
use Rattle.vbits.specs.Letters.{not_letter}
use Rattle.vbits.specs.Vectors.{filled, complement}
use Rattle.vmodel.specs.Queue.{with_process}
use Rattle.vmodel.specs.Run.{busy_from}
use Rattle.vmodel.proofs.ProcessLemmas.{with_less}

with_front : (n j : ℕ) (rest : List (List ℕ)) → j < n → with_process j (busy_from n rest) ≡ j ∷ busy_from n rest
with_front n j [] lt = refl
with_front n j ([] ∷ rest) lt = with_front (suc n) j rest (omega arith)
with_front n j ((p ∷ ps) ∷ rest) lt = with_less j n (busy_from (suc n) rest) lt

busy_first : (j : ℕ) (places : List ℕ) (rest : List (List ℕ)) → length places ≢ 0 →
    busy_from j (places ∷ rest) ≡ j ∷ busy_from (suc j) rest
busy_first j [] rest some = absurd (some refl)
busy_first j (p ∷ ps) rest some = refl

-- one more from the front
pub busy_more : (begins : List (List ℕ)) (j : ℕ) (places set new : List ℕ) → j < length begins →
    places ≡ get_or begins j places → length places ≢ 0 →
    set ≡ busy_from (suc j) (drop (suc j) begins) → new ≡ with_process j set →
    new ≡ busy_from j (drop j begins)
busy_more begins j places set new within is some so_far put =
    let rest : List (List ℕ) = drop (suc j) begins in
    put
    ∙ ap (with_process j) so_far
    ∙ with_front (suc j) j rest (omega arith)
    ∙ sym (ap (busy_from j) (drop-cons begins j places within)
    ∙ ap (λ (p : List ℕ). busy_from j (p ∷ rest)) (sym is)
    ∙ busy_first j places rest some)

-- one that has nothing to do
pub busy_same : (begins : List (List ℕ)) (j : ℕ) (places set : List ℕ) → j < length begins →
    places ≡ get_or begins j places → length places ≡ 0 →
    set ≡ busy_from (suc j) (drop (suc j) begins) → set ≡ busy_from j (drop j begins)
busy_same begins j [] set within is none so_far =
    so_far
    ∙ sym (ap (busy_from j) (drop-cons begins j [] within)
    ∙ ap (λ (p : List ℕ). busy_from j (p ∷ drop (suc j) begins)) (sym is))
busy_same begins j (p ∷ ps) set within is none so_far = absurd (omega arith)

-- ---- the letters that a variable starts with

pub ones_filled : (count : ℕ) → complement (filled count Zero) ≡ filled count One
unfolding complement filled
ones_filled count = λ i. record { letters = all count i; signed = false }
  where
    all : (n : ℕ) → map not_letter (replicate n Zero) ≡ replicate n One
    all zero = refl
    all (suc n) = ap (λ letters. One ∷ letters) (all n)
