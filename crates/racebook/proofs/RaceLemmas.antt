-- The race of one variable, or of lines, in one slot, and the list of races up to a time and number.
use Rattle.std.proofs.Common.{◌≡◌, ◌≢◌, ℕ, ◌+◌, ◌<◌, ◌≤◌, ◌⊎◌, List, [], ◌∷◌, ◌++◌, length, slice_get, is_some, Option, Some, None, option_map, unwrap_or, refl, sym, ap, ◌∙◌, subst, inl, inr, arith}
use Rattle.std.specs.List.{Contains}
use Rattle.std.specs.Option.{IsSome}
use Rattle.std.proofs.lemmas.Bool.{cases_lt}
use Rattle.std.proofs.lemmas.List.{length-map}
use Rattle.std.proofs.lemmas.Option.{slice_get-map, slice_get_within, slice_get-get_or, same_Some}
use Rattle.basis.proofs.Lists.{at_contains, last_or_before, of_mapped, stands_in_front, stands_last}
use Rattle.vbits.specs.declared.bit4.Bit4.TheVariants.{X}
use Rattle.vbits.specs.Vectors.{Vector, filled}
use Rattle.racebook.specs.declared.slot_state.SlotState.{SlotState}
use Rattle.racebook.specs.Order.{IsEarlier, AreInTextOrder}
use Rattle.racebook.specs.Races.{Race}
use Rattle.racebook.specs.LineRaces.{AreSidesInOrder, LineRace, Texts}
use Rattle.racebook.specs.Inner.{AllSame, AreBest, AreLineRacesUpTo, AreRacesUpTo, AreShown, AreUpTo, AreWide, DifferIn, DifferInLines, Disagree, HasTwo, HasValue, HavePrinted, HaveValue, IsLineRaceAmong, IsRaceAmong, IsSeen, IsSlotOf, TellsLineRace, TellsRace, place_of, place_of_lines, printed_of, row_by, rows_by, rows_of, rows_of_lines, shown_or, value_of}
use Rattle.racebook.proofs.ListLemmas.{contains_at}

-- ---- what the states of a slot show

-- each shows something
abbrev pub HaveShown : {V : Type 0} → (SlotState → Option V) → List SlotState → Type 0
HaveShown shown slot = (g : SlotState) → Contains slot g → IsSome (shown g)

some_or : {V : Type 0} (none : V) (o : Option V) → IsSome o → o ≡ Some (unwrap_or o none)
some_or none None is = absurd (cc)
some_or none (Some v) is = refl

two_places : {V : Type 0} (values : List (V × List (ℕ × ℕ))) (v w : V) → HasValue values v → HasValue values w → v ≢ w → 2 ≤ length values
two_places {V} values v w a b differ =
    let i = slice_get_within values a.0 a.1 a.2 in
    let j = slice_get_within values b.0 b.1 b.2 in
    elim (cases_lt (length values) 2) [
      | inl short ↦
          let e : a.0 ≡ b.0 = omega arith in
          let at : slice_get values a.0 ≡ Some b.1 = ap (slice_get values) e ∙ b.2 in
          let same : a.1 ≡ b.1 = same_Some a.1 b.1 (sym a.2 ∙ at) in
          absurd (differ (sym a.3 ∙ ap (λ (x : V × List (ℕ × ℕ)). x.0) same ∙ b.3))
      | inr long ↦ long
    ]

module _ {V : Type 0} (none : V) (shown : SlotState → Option V) where
  abbrev rows : List SlotState → List (V × List (ℕ × ℕ))
  rows slot = rows_by (shown_or none shown) slot

  -- a row of the slot is seen
  row_seen : (slot_states slot : List SlotState) (time : ℕ) → IsSlotOf slot_states slot time → HaveShown shown slot → (r : V × List (ℕ × ℕ)) →
      Contains (rows slot) r → IsSeen shown slot_states time r.0 r.1
  row_seen slot_states slot time of have r has =
      let p = at_contains (rows slot) r has in
      let q = of_mapped (row_by (shown_or none shown)) slot p.0 r p.1 in
      let here : Contains slot q.0 = contains_at slot p.0 q.0 q.1 in
      record {
        slot_state = q.0;
        among = of.within q.0 here;
        time_is = of.time_is q.0 here;
        value_is = some_or none (shown q.0) (have q.0 here) ∙ ap (λ (x : V × List (ℕ × ℕ)). Some x.0) q.2;
        log_is = ap (λ (x : V × List (ℕ × ℕ)). x.1) q.2;
      }

  -- and what is seen is a row of the slot
  seen_row : (slot_states slot : List SlotState) (time : ℕ) → IsSlotOf slot_states slot time → (v : V) (log : List (ℕ × ℕ)) →
      IsSeen shown slot_states time v log → Contains (rows slot) (v, log)
  seen_row slot_states slot time of v log seen =
      let here : Contains slot seen.slot_state = of.whole seen.slot_state seen.among seen.time_is in
      let p = at_contains slot seen.slot_state here in
      let value : shown_or none shown seen.slot_state ≡ v = ap (λ o. unwrap_or o none) seen.value_is in
      let row : row_by (shown_or none shown) seen.slot_state ≡ (v, log) = λ i. (value i, seen.log_is i) in
      contains_at (rows slot) p.0 (v, log) (slice_get-map (row_by (shown_or none shown)) slot p.0 ∙ ap (option_map (row_by (shown_or none shown))) p.1 ∙ ap Some row)

  -- the best of rows that differ are all that is shown
  pub are_shown : (AreInOrder : List (V × List (ℕ × ℕ)) → Type 0) (slot_states slot : List SlotState) (time : ℕ) (values : List (V × List (ℕ × ℕ))) → IsSlotOf slot_states slot time →
      HaveShown shown slot → HasTwo (rows slot) → AreBest AreInOrder (rows slot) values → AreShown shown AreInOrder slot_states time values
  are_shown AreInOrder slot_states slot time values of have two best = record {
    two = two_places values two.one.0 two.other.0 (best.all two.one two.has_one) (best.all two.other two.has_other) two.differ;
    seen = λ i s at. row_seen slot_states slot time of have s (best.seen i s at);
    fewest = λ i s log at seen. best.fewest i s (s.0, log) at (seen_row slot_states slot time of s.0 log seen) refl;
    all = λ value log seen. best.all (value, log) (seen_row slot_states slot time of value log seen);
    order = best.order;
  }

  -- where the rows are the same no two states disagree
  pub disagree_not : (slot_states slot : List SlotState) (time : ℕ) → IsSlotOf slot_states slot time → AllSame (rows slot) → Disagree shown slot_states time → ⊥
  disagree_not slot_states slot time of same d =
      d.differ (same (d.one, d.log) (d.other, d.other_log)
      (seen_row slot_states slot time of d.one d.log d.sees_one)
      (seen_row slot_states slot time of d.other d.other_log d.sees_other))

-- ---- whether two differ

module _ {V : Type 0} (value : SlotState → V) where
  pub row_at : (slot : List SlotState) (i : ℕ) (g : SlotState) → slice_get slot i ≡ Some g → slice_get (rows_by value slot) i ≡ Some (row_by value g)
  row_at slot i g at = slice_get-map (row_by value) slot i ∙ ap (option_map (row_by value)) at

  pub two_differ : (slot : List SlotState) (i j : ℕ) (g h : SlotState) → slice_get slot i ≡ Some g → slice_get slot j ≡ Some h →
      value g ≢ value h → HasTwo (rows_by value slot)
  two_differ slot i j g h at at' differ = record {
    one = row_by value g;
    other = row_by value h;
    has_one = contains_at (rows_by value slot) i (row_by value g) (row_at slot i g at);
    has_other = contains_at (rows_by value slot) j (row_by value h) (row_at slot j h at');
    differ = differ;
  }

  pub all_same : (slot : List SlotState) (first : V) → ((k : ℕ) (g : SlotState) → slice_get slot k ≡ Some g → value g ≡ first) → AllSame (rows_by value slot)
  all_same slot first same = λ r s has has'.
      let p = at_contains (rows_by value slot) r has in
      let q = at_contains (rows_by value slot) s has' in
      let g = of_mapped (row_by value) slot p.0 r p.1 in
      let h = of_mapped (row_by value) slot q.0 s q.1 in
      let one : r.0 ≡ first = ap (λ (x : V × List (ℕ × ℕ)). x.0) (sym g.2) ∙ same p.0 g.0 g.1 in
      let other : s.0 ≡ first = ap (λ (x : V × List (ℕ × ℕ)). x.0) (sym h.2) ∙ same q.0 h.0 h.1 in
      one ∙ sym other

  pub length_rows : (slot : List SlotState) → length (rows_by value slot) ≡ length slot
  length_rows slot = length-map slot (row_by value)

-- ---- one race more

later : (t n time number : ℕ) → IsEarlier t n time number → IsEarlier t n time (number + 1)
later t n time number (inl lt) = inl lt
later t n time number (inr same) = inr (same.0, (let h = same.1 in omega arith))

-- before the next number: before this one, or at it
split : (t n time number : ℕ) → IsEarlier t n time (number + 1) → IsEarlier t n time number ⊎ ((t ≡ time) × (n ≡ number))
split t n time number (inl lt) = inl (inl lt)
split t n time number (inr same) =
    let h = same.1 in
    elim (cases_lt n number) [
      | inl before ↦ inl (inr (same.0, before))
      | inr not_before ↦ inr (same.0, omega arith)
    ]

module _ {R : Type 0} (place : R → ℕ × ℕ) (Is : R → Type 0) (Differ : ℕ → ℕ → Type 0) where
  pub more_none : (races : List R) (time number : ℕ) → AreUpTo place Is Differ races time number →
      (Differ time number → ⊥) → AreUpTo place Is Differ races time (number + 1)
  more_none races time number up agree = record {
    each = up.each;
    before = λ i race at. later (place race).0 (place race).1 time number (up.before i race at);
    all = λ t n before differ. elim (split t n time number before) [
      | inl earlier ↦ up.all t n earlier differ
      | inr here ↦ absurd (agree (subst (λ (x : ℕ). Differ time x) here.1 (subst (λ (x : ℕ). Differ x n) here.0 differ)))
    ];
    order = up.order;
  }

  -- at the race's own time and number
  pub more_race : (races : List R) (race : R) → AreUpTo place Is Differ races (place race).0 (place race).1 →
      Is race → AreUpTo place Is Differ (races ++ race ∷ []) (place race).0 ((place race).1 + 1)
  more_race races race up is = record {
    each = λ i a at. elim (last_or_before races race i a at) [
      | inl old ↦ up.each i a old
      | inr new ↦ subst Is new.1 is
    ];
    before = λ i a at. elim (last_or_before races race i a at) [
      | inl old ↦ later (place a).0 (place a).1 (place race).0 (place race).1 (up.before i a old)
      | inr new ↦ subst (λ (x : R). IsEarlier (place x).0 (place x).1 (place race).0 ((place race).1 + 1)) new.1 (inr (refl, omega arith))
    ];
    all = λ t n before differ. elim (split t n (place race).0 (place race).1 before) [
      | inl earlier ↦ (let l = up.all t n earlier differ in (l.0, l.1, stands_in_front races (race ∷ []) l.0 l.1 l.2, l.3, l.4))
      | inr here ↦ (length races, race, stands_last races race, sym here.0, sym here.1)
    ];
    order = λ i j a b lt at at'. elim (last_or_before races race j b at') [
      | inl old ↦ elim (last_or_before races race i a at) [
        | inl old' ↦ up.order i j a b lt old' old
        | inr new ↦ absurd (let n = new.0 in let m = slice_get_within races j b old in omega arith)
      ]
      | inr new ↦ elim (last_or_before races race i a at) [
        | inl old ↦ subst (λ (x : R). IsEarlier (place a).0 (place a).1 (place x).0 (place x).1) new.1 (up.before i a old)
        | inr new' ↦ absurd (let n = new.0 in let m = new'.0 in omega arith)
      ]
    ];
  }

-- ---- one variable more

pub have_value : (count variable : ℕ) (slot : List SlotState) → AreWide count slot → variable < count → HaveValue variable slot
have_value count variable slot wide lt = λ g has. (let e = wide g has in omega arith)

value_shown : (variable : ℕ) (slot : List SlotState) → HaveValue variable slot → HaveShown (value_of variable) slot
value_shown variable slot have g has = ap is_some (slice_get-get_or g.values.now variable (filled 1 X) (have g has))

up_by_none : (slot_states slot : List SlotState) (races : List Race) (time variable : ℕ) (o : Option Race) → IsSlotOf slot_states slot time →
    AreRacesUpTo slot_states races time variable → TellsRace (rows_of variable slot) time variable o → o ≡ None → AreRacesUpTo slot_states races time (variable + 1)
up_by_none slot_states slot races time variable None of up tells e =
    more_none place_of (IsRaceAmong slot_states) (DifferIn slot_states) races time variable up (disagree_not (filled 1 X) (value_of variable) slot_states slot time of tells)
up_by_none slot_states slot races time variable (Some race) of up tells e = absurd (cc)

pub slot_same : (slot_states slot : List SlotState) (races new : List Race) (time variable : ℕ) (o : Option Race) → new ≡ races → o ≡ None → IsSlotOf slot_states slot time →
    AreRacesUpTo slot_states races time variable → TellsRace (rows_of variable slot) time variable o → AreRacesUpTo slot_states new time (variable + 1)
slot_same slot_states slot races new time variable o is e of up tells =
    subst (λ (xs : List Race). AreRacesUpTo slot_states xs time (variable + 1)) (sym is) (up_by_none slot_states slot races time variable o of up tells e)

up_by_race : (slot_states slot : List SlotState) (races : List Race) (time variable : ℕ) (race : Race) → race.time ≡ time → race.variable ≡ variable → IsSlotOf slot_states slot time →
    HaveValue variable slot → HasTwo (rows_of variable slot) → AreBest AreInTextOrder (rows_of variable slot) race.values →
    AreRacesUpTo slot_states races time variable → AreRacesUpTo slot_states (races ++ race ∷ []) time (variable + 1)
up_by_race slot_states slot races time variable race e f of have two best up =
    let P : ℕ → ℕ → Type 0 = λ t v. IsSlotOf slot_states slot t → HaveValue v slot → HasTwo (rows_of v slot) → AreBest AreInTextOrder (rows_of v slot) race.values →
    AreRacesUpTo slot_states races t v → AreRacesUpTo slot_states (races ++ race ∷ []) t (v + 1) in
    let here : P race.time race.variable = λ of have two best up. more_race place_of (IsRaceAmong slot_states) (DifferIn slot_states) races race up
    (are_shown (filled 1 X) (value_of race.variable) AreInTextOrder slot_states slot race.time race.values of (value_shown race.variable slot have) two best) in
    let there : P time race.variable = subst (λ (t : ℕ). P t race.variable) e here in
    subst (λ (v : ℕ). P time v) f there of have two best up

some_tells : (rows : List (Vector × List (ℕ × ℕ))) (time variable : ℕ) (o : Option Race) (race : Race) → o ≡ Some race → TellsRace rows time variable o →
    TellsRace rows time variable (Some race)
some_tells rows time variable o race e tells = subst (λ (x : Option Race). TellsRace rows time variable x) e tells

pub slot_more : (slot_states slot : List SlotState) (races new : List Race) (time variable : ℕ) (o : Option Race) (race : Race) → new ≡ races ++ race ∷ [] → o ≡ Some race →
    IsSlotOf slot_states slot time → HaveValue variable slot → AreRacesUpTo slot_states races time variable → TellsRace (rows_of variable slot) time variable o →
    AreRacesUpTo slot_states new time (variable + 1)
slot_more slot_states slot races new time variable o race is e of have up tells =
    let t : TellsRace (rows_of variable slot) time variable (Some race) = some_tells (rows_of variable slot) time variable o race e tells in
    subst (λ (xs : List Race). AreRacesUpTo slot_states xs time (variable + 1)) (sym is)
    (up_by_race slot_states slot races time variable race t.0 t.1 of have t.2 t.3 up)

-- ---- the race of lines

still_some : {A B : Type 0} (f : A → B) (o : Option A) → IsSome o → IsSome (option_map f o)
still_some f None is = is
still_some f (Some a) is = refl

printed_shown : (slot : List SlotState) → HavePrinted slot → HaveShown printed_of slot
printed_shown slot have g has = still_some (λ bag. bag.now) g.printed (have g has)

lines_by_none : (slot_states slot : List SlotState) (races : List LineRace) (time : ℕ) (o : Option LineRace) → IsSlotOf slot_states slot time →
    AreLineRacesUpTo slot_states races time 0 → TellsLineRace (rows_of_lines slot) time o → o ≡ None → AreLineRacesUpTo slot_states races time 1
lines_by_none slot_states slot races time None of up tells e =
    more_none place_of_lines (IsLineRaceAmong slot_states) (DifferInLines slot_states) races time 0 up (λ differ. disagree_not [] printed_of slot_states slot time of tells differ.0)
lines_by_none slot_states slot races time (Some race) of up tells e = absurd (cc)

pub lines_same_in : (slot_states slot : List SlotState) (races new : List LineRace) (time : ℕ) (o : Option LineRace) → new ≡ races → o ≡ None → IsSlotOf slot_states slot time →
    AreLineRacesUpTo slot_states races time 0 → TellsLineRace (rows_of_lines slot) time o → AreLineRacesUpTo slot_states new time 1
lines_same_in slot_states slot races new time o is e of up tells =
    subst (λ (xs : List LineRace). AreLineRacesUpTo slot_states xs time 1) (sym is) (lines_by_none slot_states slot races time o of up tells e)

lines_by_race : (slot_states slot : List SlotState) (races : List LineRace) (time : ℕ) (race : LineRace) → race.time ≡ time → IsSlotOf slot_states slot time →
    HavePrinted slot → HasTwo (rows_of_lines slot) → AreBest AreSidesInOrder (rows_of_lines slot) race.sides →
    AreLineRacesUpTo slot_states races time 0 → AreLineRacesUpTo slot_states (races ++ race ∷ []) time 1
lines_by_race slot_states slot races time race e of have two best up =
    let P : ℕ → Type 0 = λ t. IsSlotOf slot_states slot t → AreLineRacesUpTo slot_states races t 0 → AreLineRacesUpTo slot_states (races ++ race ∷ []) t 1 in
    let here : P race.time = λ of up. more_race place_of_lines (IsLineRaceAmong slot_states) (DifferInLines slot_states) races race up
    (are_shown [] printed_of AreSidesInOrder slot_states slot race.time race.sides of (printed_shown slot have) two best) in
    subst P e here of up

lines_tell_race : (rows : List (Texts × List (ℕ × ℕ))) (time : ℕ) (o : Option LineRace) (race : LineRace) → o ≡ Some race → TellsLineRace rows time o →
    TellsLineRace rows time (Some race)
lines_tell_race rows time o race e tells = subst (λ (x : Option LineRace). TellsLineRace rows time x) e tells

pub lines_more : (slot_states slot : List SlotState) (races new : List LineRace) (time : ℕ) (o : Option LineRace) (race : LineRace) → new ≡ races ++ race ∷ [] → o ≡ Some race →
    IsSlotOf slot_states slot time → HavePrinted slot → AreLineRacesUpTo slot_states races time 0 → TellsLineRace (rows_of_lines slot) time o →
    AreLineRacesUpTo slot_states new time 1
lines_more slot_states slot races new time o race is e of have up tells =
    let t : TellsLineRace (rows_of_lines slot) time (Some race) = lines_tell_race (rows_of_lines slot) time o race e tells in
    subst (λ (xs : List LineRace). AreLineRacesUpTo slot_states xs time 1) (sym is)
    (lines_by_race slot_states slot races time race t.0 of have t.1 t.2 up)
