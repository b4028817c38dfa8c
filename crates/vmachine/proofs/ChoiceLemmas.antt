-- Where a run goes on, and which choices there are.
use Rattle.std.proofs.Common.{◌≡◌, ◌≢◌, ◌<◌, ◌≤◌, ℕ, zero, suc, Bool, true, false, length, Decides, inl, inr, refl, sym, ◌∙◌, arith}
use Rattle.std.proofs.lemmas.Bool.{cases_lt}
use Rattle.std.proofs.lemmas.Bool.Decides.{not_from_Decides}
use Rattle.vmodel.specs.Choices.{choices}
use Rattle.vmodel.specs.Run.{is_mark}
use Rattle.vmodel.specs.RulesLaws.{end_is_mark}
use Rattle.vmodel.specs.State.{State}

-- within a slot a run goes on
pub goes_on_within : (s : State) → is_mark s ≡ false → length (choices s) ≢ 0
goes_on_within s within none = let both : true ≡ false = sym (end_is_mark s none) ∙ within in absurd cc

-- where a run doesn't go on there is no choice
pub none_left : (n : ℕ) (b : Bool) → Decides b (n ≢ 0) → b ≡ false → n ≡ 0
none_left zero b decides fails = refl
none_left (suc n) b decides fails = absurd (not_from_Decides b decides fails (λ e. absurd (omega (arith, e))))

-- where a choice isn't there its number isn't below theirs
pub not_there : (choice n : ℕ) (b : Bool) → Decides b (choice < n) → b ≡ false → n ≤ choice
not_there choice n b decides fails = elim (cases_lt choice n) [ inl lt ↦ absurd (not_from_Decides b decides fails lt) | inr ge ↦ ge ]
