-- Each state has one flat state, and the opening state has one.
use Rattle.std.proofs.Common.{◌≡◌, ◌≢◌, inl, inr, ℕ, zero, suc, ◌≤◌, nat_le, Bool, true, false, if◌then◌else◌, List, [], ◌∷◌, map, length, replicate, Option, None, Some, option_map, refl, sym, ap, subst, ◌∙◌, arith}
use Rattle.std.specs.Prelude.{slice_get, unwrap_or}
use Rattle.std.specs.List.{Contains}
use Rattle.vcode.specs.declared.point.Point.TheVariants as point
use Rattle.vcode.specs.Code.{Code, counter_at, turns_by}
use Rattle.vdesign.specs.Design.{Design}
use Rattle.vmodel.specs.declared.frame.Frame.{Frame}
use Rattle.vmodel.specs.declared.frame.Frame.TheVariants.{Repeating}
use Rattle.vmodel.specs.Kept.{waits_of}
use Rattle.vmodel.specs.Run.{opening_process}
use Rattle.vmodel.specs.State.{Process, State}
use Rattle.vmodel.specs.Step.{continuation_of}
use Rattle.vmodel.proofs.PlaceLemmas.{alike}
use Rattle.vcompile.specs.Links.{links_of}
use Rattle.vcompile.proofs.LinkLemmas.{begins_as_many}
use Rattle.vcompile.specs.CodeOf.{no_code, code_by, code_of}
use Rattle.vcompile.specs.Laws.{IsCounted, AreLed, IsLinked}
use Rattle.vflat.specs.Flat.{Flat, point_in, waits_in, left_in, stand_of, StandsAlong, StandsFor, counter_count, Matches, flat_opening}
use Rattle.vflat.proofs.WakeLemmas.{listed_cases}
use Rattle.vflat.proofs.AlongLemmas.{led_of}

-- ---- lists that read alike

get_past : {X : Type 0} (xs : List X) (i : ℕ) → length xs ≤ i → slice_get xs i ≡ None
get_past [] i le = refl
get_past (x ∷ xs) zero le = absurd (omega (arith, le))
get_past (x ∷ xs) (suc i) le = get_past xs i (omega (arith, le))

past_get : {X : Type 0} (xs : List X) (i : ℕ) → slice_get xs i ≡ None → length xs ≤ i
past_get [] i e = omega arith
past_get (x ∷ xs) zero e = absurd cc
past_get (x ∷ xs) (suc i) e = let h = past_get xs i e in omega (arith, h)

same_reads : {X : Type 0} (d : X) (xs ys : List X) → length xs ≡ length ys → ((i : ℕ) → unwrap_or (slice_get xs i) d ≡ unwrap_or (slice_get ys i) d) → xs ≡ ys
same_reads d [] [] many same = refl
same_reads d [] (y ∷ ys) many same = absurd (omega (arith, many))
same_reads d (x ∷ xs) [] many same = absurd (omega (arith, many))
same_reads d (x ∷ xs) (y ∷ ys) many same = λ i. same 0 i ∷ same_reads d xs ys (omega (arith, many)) (λ n. same (suc n)) i

-- ---- one for each state

led_counted : (code : Code) (p : ℕ) (turns : List ℕ) (left : List Frame) (x : Frame) → AreLed code p turns left → Contains left x → IsCounted code turns x
led_counted code p turns [] x led there = absurd (omega (arith, there.1))
led_counted code p turns (frame ∷ rest) x led there = elim (listed_cases frame rest x there) [
  | inl e ↦ subst (IsCounted code turns) (sym e) led.0.counted
  | inr later ↦ led_counted code p turns rest x led.1 later
]

module _ (design : Design) (whole : (code_of design).whole ≡ true) (linked : IsLinked) where
  led_along : (turns : List ℕ) (i : ℕ) (waits : Option ℕ) (left : List Frame) → StandsAlong design turns i waits left → AreLed (code_of design) i turns left
  led_along turns i None left h = h
  led_along turns i (Some place) left h = led_of design whole linked turns i place left h

  left_turns : (f : Flat) (t : State) → Matches design f t → (i place n counter : ℕ) → Contains (left_in t.processes i) (Repeating place n) →
      counter_at (code_of design) place ≡ Some counter → turns_by f.turns (Some counter) ≡ n
  left_turns f t h i place n counter there is =
      ap (turns_by f.turns) (sym is)
      ∙ (led_counted (code_of design) i f.turns (left_in t.processes i) (Repeating place n)
      (led_along f.turns i (waits_in t.processes i) (left_in t.processes i) (h.stands.along i)) there).1

  some_turns : (f g : Flat) (t : State) → Matches design f t → Matches design g t → (counter : ℕ) → turns_by f.turns (Some counter) ≢ 0 →
      turns_by f.turns (Some counter) ≡ turns_by g.turns (Some counter)
  some_turns f g t hf hg counter some =
      let c = hf.counted counter some in
      left_turns f t hf c.process c.place c.n counter c.there c.counter_is ∙ sym (left_turns g t hg c.process c.place c.n counter c.there c.counter_is)

  same_turns : (f g : Flat) (t : State) → Matches design f t → Matches design g t → (counter : ℕ) →
      turns_by f.turns (Some counter) ≡ turns_by g.turns (Some counter)
  same_turns f g t hf hg counter = elim (alike (turns_by f.turns (Some counter)) 0) [
    | inl none ↦ elim (alike (turns_by g.turns (Some counter)) 0) [
      | inl too ↦ none ∙ sym too
      | inr some ↦ sym (some_turns g f t hg hf counter some)
    ]
    | inr some ↦ some_turns f g t hf hg counter some
  ]

  pub one_flat : (f g : Flat) (t : State) → Matches design f t → Matches design g t → f ≡ g
  one_flat f g t hf hg =
      let points : f.points ≡ g.points = same_reads point.Ended f.points g.points (hf.stands.many ∙ sym hg.stands.many) (λ i. hf.stands.at i ∙ sym (hg.stands.at i)) in
      let turns : f.turns ≡ g.turns = same_reads 0 f.turns g.turns (hf.count ∙ sym hg.count) (same_turns f g t hf hg) in
      let held : f.held ≡ g.held = hf.held ∙ sym hg.held in
      let rest : f.rest ≡ g.rest = hf.rest ∙ sym hg.rest in
      λ i. record { points = points i; turns = turns i; held = held i; rest = rest i }

-- ---- the opening state

begins_by_test : (design : Design) (test : Bool) → (if test then code_by design (links_of design) else no_code).whole ≡ true →
    length (if test then code_by design (links_of design) else no_code).begins ≡ length design.processes
begins_by_test design true h = begins_as_many design.processes
begins_by_test design false h = absurd cc

begins_many : (design : Design) → (code_of design).whole ≡ true → length (code_of design).begins ≡ length design.processes
unfolding code_of
begins_many design h = begins_by_test design (nat_le (length design.actions) 4294967295) h

opens : (processes : List (List ℕ)) (i : ℕ) → slice_get (map opening_process processes) i ≡ option_map opening_process (slice_get processes i)
opens [] i = refl
opens (places ∷ more) zero = refl
opens (places ∷ more) (suc i) = opens more i

opens_many : (processes : List (List ℕ)) → length (map opening_process processes) ≡ length processes
opens_many [] = refl
opens_many (places ∷ more) = ap suc (opens_many more)

none_held : (n : ℕ) (processes : List (List ℕ)) → n ≡ length processes → replicate n None ≡ map (λ (process : Process). process.held) (map opening_process processes)
none_held zero [] e = refl
none_held (suc n) [] e = absurd (omega (arith, e))
none_held zero (places ∷ more) e = absurd (omega (arith, e))
none_held (suc n) (places ∷ more) e = ap (λ xs. None ∷ xs) (none_held n more (omega (arith, e)))

none_left : (n counter : ℕ) → turns_by (replicate n 0) (Some counter) ≡ 0
none_left zero counter = refl
none_left (suc n) zero = refl
none_left (suc n) (suc counter) = none_left n counter

replicated : (n : ℕ) → length {A = ℕ} (replicate n 0) ≡ n
replicated zero = refl
replicated (suc n) = ap suc (replicated n)

module _ (design : Design) (whole : (code_of design).whole ≡ true) (linked : IsLinked) (turns : List ℕ) where
  begins_at : (i : ℕ) (o : Option (List ℕ)) → slice_get design.processes i ≡ o →
      (point_in (code_of design).begins i ≡ stand_of (waits_of (option_map opening_process o)) (continuation_of (option_map opening_process o)))
      × StandsAlong design turns i (waits_of (option_map opening_process o)) (continuation_of (option_map opening_process o))
  begins_at i None e =
      (ap (λ o. unwrap_or o point.Ended) (get_past (code_of design).begins i (omega (arith, past_get design.processes i e, begins_many design whole))), tt)
  begins_at i (Some places) e = linked.begins design turns i places whole e

  opening_stands : StandsFor design turns (map opening_process design.processes) (code_of design).begins
  opening_stands = record {
    many = begins_many design whole ∙ sym (opens_many design.processes);
    at = λ i. (begins_at i (slice_get design.processes i) refl).0 ∙ ap (λ o. stand_of (waits_of o) (continuation_of o)) (sym (opens design.processes i));
    along = λ i. subst (λ o. StandsAlong design turns i (waits_of o) (continuation_of o)) (sym (opens design.processes i)) (begins_at i (slice_get design.processes i) refl).1;
  }

pub opening_matches : (design : Design) (t : State) → (code_of design).whole ≡ true → IsLinked → t.processes ≡ map opening_process design.processes →
    Matches design (flat_opening (code_of design) t) t
opening_matches design t whole linked processes = record {
  rest = refl;
  held = none_held (length (code_of design).begins) design.processes (begins_many design whole) ∙ ap (map (λ (process : Process). process.held)) (sym processes);
  stands = subst (λ ps. StandsFor design (replicate (counter_count (code_of design).counters) 0) ps (code_of design).begins) (sym processes)
      (opening_stands design whole linked (replicate (counter_count (code_of design).counters) 0));
  count = replicated (counter_count (code_of design).counters);
  counted = λ counter some. absurd (some (none_left (counter_count (code_of design).counters) counter));
}
