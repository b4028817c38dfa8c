-- The processes that have something to do, collected from the last to the first.
use Rattle.std.proofs.Common.{◌≡◌, ◌≢◌, ◌<◌, ℕ, suc, List, [], ◌∷◌, length, refl, sym, ap, ◌∙◌, arith}
use Rattle.vmodel.specs.Queue.{with_process}
use Rattle.vmodel.specs.Run.{busy_from}
use Rattle.vmodel.proofs.ProcessLemmas.{with_less}

put_before : (j n : ℕ) (rest : List (List ℕ)) → j < n → with_process j (busy_from n rest) ≡ j ∷ busy_from n rest
put_before j n [] lt = refl
put_before j n ([] ∷ rest) lt = put_before j (suc n) rest (omega arith)
put_before j n ((p ∷ ps) ∷ rest) lt = with_less j n (busy_from (suc n) rest) lt

-- one that has something to do, before those that stand behind it
pub busy_before : (j : ℕ) (places set : List ℕ) (left rest : List (List ℕ)) → left ≡ places ∷ rest → length places ≢ 0 →
    set ≡ busy_from (suc j) rest → with_process j set ≡ busy_from j left
busy_before j [] set left rest is some so_far = absurd (some refl)
busy_before j (p ∷ ps) set left rest is some so_far =
    ap (with_process j) so_far
    ∙ put_before j (suc j) rest (omega arith)
    ∙ sym (ap (busy_from j) is)
