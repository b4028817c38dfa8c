-- Runs of bytes that pass a test.
use Rattle.std.proofs.Common.{◌≡◌, ℕ, zero, suc, ◌+◌, ◌-◌, ◌<◌, ◌≤◌, Bool, true, false, cond, ◌&&◌, List, [], ◌∷◌, ◌++◌, length, take, drop, get_or, refl, sym, ◌∙◌, ap, arith}
use Rattle.std.proofs.lemmas.List.{take_all}
use Rattle.std.specs.List.{prefix_len, list_all}
use Rattle.std.proofs.lemmas.List.Sums.{prefix_len-le-length}
use Rattle.basis.proofs.Bools.{and_left, and_right}
use Rattle.vlex.specs.Inner.{IsLongest}

passes_step : (b r : Bool) (m n : ℕ) → suc n ≤ cond b (1 + m) 0 → (n ≤ m → r ≡ true) → (b && r) ≡ true
passes_step true r m n le later = later (omega arith)
passes_step false r m n le later = absurd (omega arith)

-- a front passes throughout if it is no longer than the run
pub run_passes : (p : ℕ → Bool) (xs : List ℕ) (n : ℕ) → n ≤ prefix_len p xs → list_all p (take n xs) ≡ true
run_passes p xs zero le = refl
run_passes p [] (suc n) le = absurd (omega arith)
run_passes p (x ∷ xs) (suc n) le = passes_step (p x) _ (prefix_len p xs) n le (run_passes p xs n)

stops_step : (b r : Bool) (m n : ℕ) → cond b (1 + m) 0 < suc n → (m < n → r ≡ false) → (b && r) ≡ false
stops_step true r m n lt later = later (omega arith)
stops_step false r m n lt later = refl

pub run_stops : (p : ℕ → Bool) (xs : List ℕ) (n : ℕ) → prefix_len p xs < n → n ≤ length xs → list_all p (take n xs) ≡ false
run_stops p xs zero lt le = absurd (omega arith)
run_stops p [] (suc n) lt le = absurd (omega arith)
run_stops p (x ∷ xs) (suc n) lt le = stops_step (p x) _ (prefix_len p xs) n lt (λ less. run_stops p xs n less (omega arith))

-- the run is the longest front that passes
pub run_longest : (p : ℕ → Bool) (xs : List ℕ) → IsLongest (list_all p) xs (prefix_len p xs)
run_longest p xs = record {
  within = prefix_len-le-length p xs;
  passes = run_passes p xs (prefix_len p xs) (omega arith);
  longest = run_stops p xs;
}

-- a front without the run at its head is a front of what stands behind the run
pub run_taken : (p : ℕ → Bool) (xs : List ℕ) (n : ℕ) → drop (prefix_len p (take n xs)) (take n xs) ≡ take (n - prefix_len p xs) (drop (prefix_len p xs) xs)
run_taken p xs zero = ap (λ k. take k (drop (prefix_len p xs) xs)) none
  where
    none : zero ≡ zero - prefix_len p xs
    none = omega arith
run_taken p [] (suc n) = sym (take_all (suc n - 0) [] (omega arith))
run_taken p (x ∷ xs) (suc n) = by (p x) (run_taken p xs n)
  where
    by : (b : Bool) → drop (prefix_len p (take n xs)) (take n xs) ≡ take (n - prefix_len p xs) (drop (prefix_len p xs) xs)
        → drop (cond b (1 + prefix_len p (take n xs)) 0) (x ∷ take n xs)
        ≡ take (suc n - cond b (1 + prefix_len p xs) 0) (drop (cond b (1 + prefix_len p xs) 0) (x ∷ xs))
    by true e =
        ap (λ j. drop j (x ∷ take n xs)) (next (prefix_len p (take n xs))) ∙ e ∙ ap (λ k. take k (drop (prefix_len p xs) xs)) fewer
        ∙ ap (λ j. take (suc n - (1 + prefix_len p xs)) (drop j (x ∷ xs))) (sym (next (prefix_len p xs)))
      where
        next : (k : ℕ) → 1 + k ≡ suc k
        next k = omega arith

        fewer : n - prefix_len p xs ≡ suc n - (1 + prefix_len p xs)
        fewer = omega arith
    by false e = ap (λ k. take k (x ∷ xs)) whole
      where
        whole : suc n ≡ suc n - 0
        whole = omega arith

-- the run of bytes that pass, where the next one doesn't
pub run_ends : (p : ℕ → Bool) (xs ys : List ℕ) → list_all p xs ≡ true → (0 < length ys → p (get_or ys 0 0) ≡ false) → prefix_len p (xs ++ ys) ≡ length xs
run_ends p [] [] all stops = refl
run_ends p [] (y ∷ ys) all stops = ap (λ b. cond b (1 + prefix_len p ys) 0) (stops (omega arith))
run_ends p (x ∷ xs) ys all stops =
    let here : p x ≡ true = and_left (p x) (list_all p xs) all in
    let more : prefix_len p (xs ++ ys) ≡ length xs = run_ends p xs ys (and_right (p x) (list_all p xs) all) stops in
    let sum : 1 + prefix_len p (xs ++ ys) ≡ suc (length xs) = omega (arith, more) in
    ap (λ b. cond b (1 + prefix_len p (xs ++ ys)) 0) here ∙ sum
