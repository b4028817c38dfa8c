-- Facts about runs under logs.
use Rattle.std.proofs.Common.{◌≡◌, ◌≢◌, ℕ, ◌+◌, ◌<◌, ◌≤◌, ◌==◌, false, List, [], ◌∷◌, inl, inr, arith, refl, sym, ◌∙◌, subst, below_more, length}
use Rattle.std.proofs.lemmas.Bool.{cases_lt}
use Rattle.std.proofs.lemmas.Bool.Decides.{nat_tests}
use Rattle.sched_core.specs.Logs.{IsLogFrom}
use Rattle.sched_core.specs.Rules.{Rules, stands, choice_at, IsRun, NamesBelow}
use Rattle.sched_core.specs.Replay.{IsNextChoice, EndsAfter, EndsTooEarly}

-- what is left of the log from step n on
pub record IsLeft (log rest : List (ℕ × ℕ)) (n : ℕ) : Type 0 where
  pub lawful : IsLogFrom n rest
  pub same : (k : ℕ) → n ≤ k → choice_at log k ≡ choice_at rest k
  pub names : (k : ℕ) → n ≤ k → NamesBelow rest k → NamesBelow log k
  pub names_back : (k : ℕ) → NamesBelow log k → NamesBelow rest k

pub left_whole : (log : List (ℕ × ℕ)) → IsLogFrom 0 log → IsLeft log log 0
left_whole log h = record { lawful = h; same = λ k l. refl; names = λ k l n. n; names_back = λ k n. n }

pub left_next : (log rest after : List (ℕ × ℕ)) (n c : ℕ) → IsLeft log rest n → IsNextChoice rest n c after → IsLogFrom (n + 1) after → IsLeft log after (n + 1)
left_next log rest after n c l x h = record {
  lawful = h;
  same = λ k le. l.same k (omega (arith, le)) ∙ x.later k (omega (arith, le));
  names = λ k le m. l.names k (omega (arith, le)) (x.names k (omega (arith, le)) m);
  names_back = λ k m. x.names_back k (l.names_back k m);
}

-- a choice is 0 below the first named step
pub choice_below : (low n : ℕ) (log : List (ℕ × ℕ)) → n < low → IsLogFrom low log → choice_at log n ≡ 0
choice_below low n [] lt h = refl
choice_below low n (m ∷ log) lt h =
    let other : (m.0 == n) ≡ false = grind (arith, nat_tests, h.0) in
    rw other (choice_below (m.0 + 1) n log (omega (arith, h.0, lt)) h.4)

-- no member is of a step below the first
pub next_default : (low n : ℕ) (log : List (ℕ × ℕ)) → n < low → IsLogFrom low log → IsNextChoice log n 0 log
next_default low n log lt h = record { taken = sym (choice_below low n log lt h); later = λ k l. refl; names = λ k l m. m; names_back = λ k m. m }

-- a log from a step whose first member is later is one from the next step
pub later_from : (n : ℕ) (m : ℕ × ℕ) (log : List (ℕ × ℕ)) → m.0 ≢ n → IsLogFrom n (m ∷ log) → IsLogFrom (n + 1) (m ∷ log)
later_from n m log ne h = (omega (arith, h.0, ne), h.1, h.2, h.3, h.4)

pub run_more : {S : Type 0} (r : Rules S) (log : List (ℕ × ℕ)) (n : ℕ) → IsRun r log n → choice_at log n < r.width (stands r log n) → IsRun r log (n + 1)
run_more r log n run now = below_more (λ k. choice_at log k < r.width (stands r log k)) n run now

pub default_at_none : (n : ℕ) (log : List (ℕ × ℕ)) → length log ≡ 0 → IsNextChoice log n 0 log
default_at_none n [] e = record { taken = refl; later = λ k l. refl; names = λ k l m. m; names_back = λ k m. m }
default_at_none n (m ∷ log) e = absurd (omega (arith, e))

pub default_at_later : (n : ℕ) (log : List (ℕ × ℕ)) (m : ℕ × ℕ) (rest : List (ℕ × ℕ)) → log ≡ m ∷ rest → m.0 ≢ n → IsLogFrom n log → IsNextChoice log n 0 log
default_at_later n log m rest e ne h =
    let P : List (ℕ × ℕ) → Type 0 = λ l. IsNextChoice l n 0 l in
    subst P (sym e) (next_default (n + 1) n (m ∷ rest) (omega arith) (later_from n m rest ne (subst (λ l. IsLogFrom n l) e h)))

none_below : (n : ℕ) (rest : List (ℕ × ℕ)) → IsLogFrom n rest → (length rest == 0) ≡ false → NamesBelow rest n → ⊥
none_below n [] h some b = cc
none_below n (m ∷ rest) h some b = absurd (omega (arith, h.0, b.0))

-- the run has ended, and something that the log names is left
pub ends_too_early : {S : Type 0} (r : Rules S) (log rest : List (ℕ × ℕ)) (n : ℕ) → IsLeft log rest n → IsRun r log n → r.width (stands r log n) ≡ 0 → (length rest == 0) ≡ false → EndsTooEarly r log n
ends_too_early r log rest n left run end some = record { run = run; end = end; named = λ b. none_below n rest left.lawful some (left.names_back n b) }

not_below : (n m : ℕ) → (n < m → ⊥) → m ≤ n
not_below n m h = elim (cases_lt n m) [ inl lt ↦ absurd (h lt) | inr ge ↦ ge ]

-- a run that ends after m steps has no choice there, so it takes no further one
no_step_at_end : {S : Type 0} (r : Rules S) (log : List (ℕ × ℕ)) (n m : ℕ) → r.width (stands r log m) ≡ 0 → m < n → IsRun r log n → ⊥
no_step_at_end r log n m end lt run = absurd (omega (arith, run m lt, end))

-- a run ends in one way
pub early_not_end : {S : Type 0} (r : Rules S) (log : List (ℕ × ℕ)) (n m : ℕ) → EndsTooEarly r log n → EndsAfter r log m → ⊥
early_not_end r log n m e f =
    let at_most : m ≤ n = not_below n m (λ lt. no_step_at_end r log m n e.end lt f.run) in
    let at_least : n ≤ m = not_below m n (λ lt. no_step_at_end r log n m f.end lt e.run) in
    let same : m ≡ n = omega arith in
    e.named (subst (NamesBelow log) same f.names)
