-- *internal*: States of a machine, as they are or flat, and the rules of a machine over them: flat where the code of its design is
-- whole, which `vcompile` tests, and else as they are.
use Rattle.std.specs.Prelude.{◌≡◌, ℕ, Bool, true, false, if◌then◌else◌, length, List}
use Rattle.std.specs.Hash as fed
use Rattle.std.specs.Cmp.{IsEquivalence, decided}
use Rattle.std.proofs.Common.{ap}
use Rattle.std.proofs.lemmas.Bool.Decides.{Decides-like}
use Rattle.sched_core.specs.Rules.{Rules}
use Rattle.sched_core.specs.Tests.{Tells}
use Rattle.vcode.specs.Code.{Code}
use Rattle.vdesign.specs.Design.{Design}
use Rattle.vmodel.specs.Effects.{Effect}
use Rattle.vmodel.specs.Choices.{choices}
use Rattle.vmodel.specs.Digest.{digest}
use Rattle.vmodel.specs.Kept.{IsKept}
use Rattle.vmodel.specs.Run.{Setting, opening_of, is_mark}
use Rattle.vmodel.specs.Same.{state_same}
use Rattle.vmodel.specs.SameLaws.{states_tell}
use Rattle.vmodel.specs.State.{State}
use Rattle.vmodel.specs.Step.{next}
use Rattle.vcompile.specs.CodeOf.{code_of}
use Rattle.vflat.specs.Flat.{Flat, flat_next, Matches, flat_opening}
use Rattle.vflat.specs.FlatSame.{flat_same, flats_tell, flat_fed}

-- a state as it is, or flat
pub data Representation : Type 0 where
  plain : State → Representation
  fast : Flat → Representation

-- all of a state but its processes
abbrev pub rest_in : Representation → State
rest_in (plain s) = s
rest_in (fast f) = f.rest

abbrev pub representation_same : Representation → Representation → Bool
representation_same (plain s) (plain t) = state_same s t
representation_same (fast f) (fast g) = flat_same f g
representation_same _ _ = false

-- after choice i, by a design and its code
abbrev pub representation_step : Design → Code → Representation → ℕ → Representation
representation_step design code (plain s) i = plain (next design s i).state
representation_step design code (fast f) i = fast (flat_next design code f i).flat

abbrev pub representation_after : Setting → Representation → ℕ → Representation
representation_after setting s i = representation_step setting.design (code_of setting.design) s i

-- the state after a step, what the step did, and the monitor events that ran
pub record RepresentedTransition : Type 0 where
  pub state : Representation
  pub effect : Effect
  pub monitors : List ℕ

abbrev pub representation_to : Representation → Effect → List ℕ → RepresentedTransition
representation_to s effect monitors = record { state = s; effect = effect; monitors = monitors }

-- the whole of that step
abbrev pub representation_next : Design → Code → Representation → ℕ → RepresentedTransition
representation_next design code (plain s) i =
    let x = next design s i in representation_to (plain x.state) x.effect x.monitors
representation_next design code (fast f) i =
    let x = flat_next design code f i in representation_to (fast x.flat) x.effect x.monitors

-- a state in which every process begins, flat where the code is whole
abbrev pub representation_of_opening : Code → State → Representation
representation_of_opening code t = if code.whole then fast (flat_opening code t) else plain t

abbrev pub representation_first : Setting → Representation
representation_first setting = representation_of_opening (code_of setting.design) (opening_of setting)

abbrev pub representation_rules : Setting → Rules Representation
representation_rules setting = record {
  same = representation_same;
  first = representation_first setting;
  width = λ s. length (choices (rest_in s));
  mark = λ s. is_mark (rest_in s);
  after = representation_after setting;
}

-- one stands for a state of a run: flat where the code is whole, else as it is
abbrev pub Represents : Setting → Representation → State → Type 0
Represents setting (plain s) t = ((code_of setting.design).whole ≡ false) × (s ≡ t)
Represents setting (fast f) t = ((code_of setting.design).whole ≡ true) × Matches setting.design f t × IsKept t

-- ---- equality (laws with their proofs)

pub representations_tell : Tells representation_same
representations_tell (plain s) (plain t) = Decides-like (state_same s t) (λ (h : s ≡ t). ap plain h) (λ h. cc) (states_tell s t)
representations_tell (fast f) (fast g) = Decides-like (flat_same f g) (λ (h : f ≡ g). ap fast h) (λ h. cc) (flats_tell f g)
representations_tell _ _ = (λ h. cc, λ h. cc)

pub representations_equivalent : IsEquivalence representation_same
representations_equivalent = decided representation_same representations_tell

abbrev pub representation_fed : Representation → fed.HashWrites
representation_fed (plain s) = fed.u64 (digest s)
representation_fed (fast f) = flat_fed f

pub representations_fed_alike : (s t : Representation) → representation_same s t ≡ true → representation_fed s ≡ representation_fed t
representations_fed_alike s t h = ap representation_fed ((representations_tell s t).0 h)
