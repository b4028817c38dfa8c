-- Where a process comes that passes repeats of which no turn is left, as counters change.
use Rattle.std.proofs.Common.{◌≡◌, ◌≢◌, ℕ, ◌+◌, ◌<◌, ◌≤◌, zero, suc, ◌==◌, Bool, true, false, if◌then◌else◌, List, [], ◌∷◌, length, slice_get, slice_set, unwrap_or, Option, None, Some, refl, sym, ap, ◌∙◌, arith}
use Rattle.std.proofs.lemmas.Bool.Decides.{nat_tests}
use Rattle.vcode.specs.declared.point.Point.{Point}
use Rattle.vcode.specs.declared.point.Point.TheVariants.{Ended, Executing, Repeating, Writing, Waiting}
use Rattle.vcode.specs.Points.{place_of_point}
use Rattle.vcode.specs.Code.{Code, link_at, counter_at, turns_by, turns_at, with_counter, with_turns, is_spent, past, past_place, pass_spent, settle, behind}
use Rattle.vcompile.proofs.LinkLemmas.{IsNext, LeadOn}

-- ---- counters

counter_set : (turns : List ℕ) (i n : ℕ) → i < length turns → unwrap_or (slice_get (slice_set turns i n) i) 0 ≡ n
counter_set [] i n lt = absurd (omega (arith, lt))
counter_set (t ∷ turns) zero n lt = refl
counter_set (t ∷ turns) (suc i) n lt = counter_set turns i n (omega (arith, lt))

counter_else : (turns : List ℕ) (i j n : ℕ) → i ≢ j → unwrap_or (slice_get (slice_set turns i n) j) 0 ≡ unwrap_or (slice_get turns j) 0
counter_else [] i j n other = refl
counter_else (t ∷ turns) zero zero n other = absurd (other refl)
counter_else (t ∷ turns) zero (suc j) n other = refl
counter_else (t ∷ turns) (suc i) zero n other = refl
counter_else (t ∷ turns) (suc i) (suc j) n other = counter_else turns i j n (λ e. other (ap suc e))

turns_set_by : (turns : List ℕ) (n : ℕ) (one : Option ℕ) (counter : ℕ) → one ≡ Some counter → counter < length turns → turns_by (with_counter one n turns) one ≡ n
turns_set_by turns n None counter is lt = absurd cc
turns_set_by turns n (Some one) counter is lt =
    let same : counter ≡ one = cc in
    let within : one < length turns = omega (arith, same, lt) in
    counter_set turns one n within

-- so many turns are left where they were set
pub turns_set : (code : Code) (turns : List ℕ) (place n counter : ℕ) → counter_at code place ≡ Some counter → counter < length turns →
    turns_at code (with_turns code place n turns) place ≡ n
turns_set code turns place n counter is lt = turns_set_by turns n (counter_at code place) counter is lt

turns_else_by : (turns : List ℕ) (n : ℕ) (one other : Option ℕ) → ((counter : ℕ) → one ≡ Some counter → other ≡ Some counter → ⊥) →
    turns_by (with_counter one n turns) other ≡ turns_by turns other
turns_else_by turns n None other differ = refl
turns_else_by turns n (Some one) None differ = refl
turns_else_by turns n (Some one) (Some other) differ = counter_else turns one other n (λ same. differ one refl (ap Some (sym same)))

some_left : (n : ℕ) → (suc n == 0) ≡ false
some_left n = grind (arith, nat_tests)

-- ---- points

-- so many may be passed as are needed from a place on
abbrev pub Enough : ℕ → ℕ → Option ℕ → Type 0
Enough count most None = Unit {0}
Enough count most (Some place) = (count ≤ most + place) × (place < count)

-- at such a place, if at any
abbrev pub On : (ℕ → Type 0) → Option ℕ → Type 0
On P None = Unit {0}
On P (Some place) = P place

module _ (code : Code) (leads : LeadOn code.links) where
  -- ---- as many are passed as are needed

  enough_past : (most : ℕ) (place : Option ℕ) → Enough (length code.links) (suc most) place → Enough (length code.links) most (place_of_point (past_place code place))
  enough_past most None h = tt
  enough_past most (Some place) h = by (place_of_point (link_at code.links place).next) (leads place h.1)
    where
      by : (other : Option ℕ) → IsNext code.links place other → Enough (length code.links) most other
      by None b = tt
      by (Some other) b =
          let few : length code.links ≤ suc most + place = h.0 in
          let above : place < other = b.0 in
          (omega (arith, few, above), b.1)

  none_needed : (turns : List ℕ) (point : Point) → Enough (length code.links) 0 (place_of_point point) → pass_spent code turns 1 point ≡ point
  none_needed turns Ended h = refl
  none_needed turns (Executing place) h = refl
  none_needed turns (Repeating place) h =
      let few : length code.links ≤ 0 + place = h.0 in
      let lt : place < length code.links = h.1 in
      absurd (omega (arith, few, lt))
  none_needed turns (Writing place) h = refl
  none_needed turns (Waiting place) h = refl

  one_more : (turns : List ℕ) (most : ℕ) (point : Point) → Enough (length code.links) most (place_of_point point) → pass_spent code turns (suc most) point ≡ pass_spent code turns most point
  one_more turns zero point h = none_needed turns point h
  one_more turns (suc most) point h =
      ap (λ p. if is_spent code turns point then p else point) (one_more turns most (past code point) (enough_past most (place_of_point point) h))

  enough_behind : (most low : ℕ) (place : Option ℕ) → length code.links ≡ suc most → IsNext code.links low place → Enough (length code.links) most place
  enough_behind most low None is h = tt
  enough_behind most low (Some place) is h =
      let above : low < place = h.0 in
      (omega (arith, is, above), h.1)

  -- a `repeat` of which no turn is left leads to what stands behind it
  pub spent_leads : (turns : List ℕ) (place : ℕ) → place < length code.links → turns_at code turns place ≡ 0 →
      settle code turns (Repeating place) ≡ behind code turns place
  spent_leads turns place within none = by (length code.links) refl
    where
      by : (count : ℕ) → length code.links ≡ count → pass_spent code turns count (Repeating place) ≡ pass_spent code turns count (link_at code.links place).next
      by zero is = absurd (omega (arith, is, within))
      by (suc most) is =
          let spent : (turns_at code turns place == 0) ≡ true = ap (λ n. n == 0) none in
          ap (λ b. if b then pass_spent code turns most (link_at code.links place).next else Repeating place) spent
          ∙ sym (one_more turns most (link_at code.links place).next (enough_behind most place (place_of_point (link_at code.links place).next) is (leads place within)))

  -- and one of which some are left stays
  pub turning_stays : (turns : List ℕ) (most place n : ℕ) → turns_at code turns place ≡ suc n → pass_spent code turns most (Repeating place) ≡ Repeating place
  turning_stays turns zero place n some = refl
  turning_stays turns (suc most) place n some =
      let spent : (turns_at code turns place == 0) ≡ false = ap (λ m. m == 0) some ∙ some_left n in
      ap (λ b. if b then pass_spent code turns most (link_at code.links place).next else Repeating place) spent

  pub executing_stays : (turns : List ℕ) (most place : ℕ) → pass_spent code turns most (Executing place) ≡ Executing place
  executing_stays turns zero place = refl
  executing_stays turns (suc most) place = refl

  -- ---- of places from which links lead to others of their kind alone

  module _ (P : ℕ → Type 0) (closed : (place : ℕ) → P place → On P (place_of_point (link_at code.links place).next)) where
    past_on : (place : Option ℕ) → On P place → On P (place_of_point (past_place code place))
    past_on None h = tt
    past_on (Some place) h = closed place h

    choose : (Q : Point → Type 0) (test : Bool) (one other : Point) → Q one → Q other → Q (if test then one else other)
    choose Q true one other p q = p
    choose Q false one other p q = q

    pub settled_on : (turns : List ℕ) (most : ℕ) (point : Point) → On P (place_of_point point) → On P (place_of_point (pass_spent code turns most point))
    settled_on turns zero point h = h
    settled_on turns (suc most) point h =
        choose (λ p. On P (place_of_point p)) (is_spent code turns point) (pass_spent code turns most (past code point)) point
        (settled_on turns most (past code point) (past_on (place_of_point point) h)) h

    -- where the turns of another place change, no turns of these do
    module _ (turns : List ℕ) (low n : ℕ) (apart : (place : ℕ) → P place → (counter : ℕ) → counter_at code low ≡ Some counter → counter_at code place ≡ Some counter → ⊥) where
      pub turns_else : (place : ℕ) → P place → turns_at code (with_turns code low n turns) place ≡ turns_at code turns place
      turns_else place h = turns_else_by turns n (counter_at code low) (counter_at code place) (apart place h)

      spent_else : (point : Point) → On P (place_of_point point) → is_spent code (with_turns code low n turns) point ≡ is_spent code turns point
      spent_else Ended h = refl
      spent_else (Executing place) h = refl
      spent_else (Repeating place) h = ap (λ m. m == 0) (turns_else place h)
      spent_else (Writing place) h = refl
      spent_else (Waiting place) h = refl

      settled_else : (most : ℕ) (point : Point) → On P (place_of_point point) → pass_spent code (with_turns code low n turns) most point ≡ pass_spent code turns most point
      settled_else zero point h = refl
      settled_else (suc most) point h =
          ap (λ b. if b then pass_spent code (with_turns code low n turns) most (past code point) else point) (spent_else point h)
          ∙ ap (λ p. if is_spent code turns point then p else point) (settled_else most (past code point) (past_on (place_of_point point) h))

      -- and the same stands behind what leads to them
      pub behind_else : (place : ℕ) → On P (place_of_point (link_at code.links place).next) → behind code (with_turns code low n turns) place ≡ behind code turns place
      behind_else place h = settled_else (length code.links) (link_at code.links place).next h
