-- What the items of a dump show at the end of each slot.
use Rattle.std.proofs.Common.{◌≡◌, ℕ, zero, suc, ◌<◌, ◌≤◌, Bool, true, false, ◌==◌, if◌then◌else◌, List, [], ◌∷◌, ◌++◌, length, map, Option, Some, None, slice_get, refl, ap, sym, ◌∙◌, subst, inl, inr, arith, append_assoc, append-nil}
use Rattle.std.specs.Prelude.{option_and_then}
use Rattle.std.proofs.lemmas.Bool.{cases_lt}
use Rattle.std.proofs.lemmas.Option.{same_Some, slice_get_within}
use Rattle.vbits.specs.Vectors.{Vector}
use Rattle.vcd_read.specs.Words.{Text}
use Rattle.vcd_read.specs.Commands.{Item, at, value, off, on}
use Rattle.vcd_slots.specs.Slots.{DoNotFall, digits_behind, items_until, last_time, on_behind, value_after, vector_of}
use Rattle.vcd_slots.specs.Laws.{IsNext}
use Rattle.vcd_slots.specs.Taken.{IsNoTime}
use Rattle.vcd_slots.proofs.UntilLemmas.{items_by}
use Rattle.vcd_text.specs.DumpText.{DumpSlot, changes, code, is_nothing, on_after, on_by, piece_text, selected_values, unknown_of}
use Rattle.vdesign.specs.declared.dump.DumpCommand.{DumpCommand}
use Rattle.vdesign.specs.declared.dump.DumpCommand.TheVariants.{Vars, Off, On, All as AllValues}
use Rattle.vcd_law.specs.ReadBack.{HaveLetters, HaveValues, RiseTo, ShowSlot, ShowSlots, value_if}
use Rattle.vcd_law.proofs.DigitsBack.{vector_back}
use Rattle.vcd_law.proofs.PartsBack.{changed_items, command_items, commands_items, slot_nothing, told_items}
use Rattle.vcd_law.proofs.ValuesBack.{digits_both, digits_of, known, on_both, slot_known, slot_on, start_known, start_on}
use Rattle.vcd_law.proofs.BodyBack.{later_items, piece_of, slot_items, start_items}

-- ---- items that are no times

abbrev NoTimes : List Item → Type 0
NoTimes [] = Unit {0}
NoTimes (item ∷ items) = IsNoTime item × NoTimes items

timeless_both : (xs ys : List Item) → NoTimes xs → NoTimes ys → NoTimes (xs ++ ys)
timeless_both [] ys v w = w
timeless_both (x ∷ xs) ys v w = (v.0, timeless_both xs ys v.1 w)

told_timeless : (told : List (ℕ × Vector)) → NoTimes (told_items told)
told_timeless [] = tt
told_timeless (entry ∷ told) = (tt, told_timeless told)

module _ (marks : List Bool) (values : List Vector) where
  command_timeless : (is_on : Bool) (command : DumpCommand) → NoTimes (command_items marks values is_on command)
  command_timeless is_on (Vars place) = tt
  command_timeless true Off = (tt, told_timeless (selected_values 0 marks (map unknown_of values)))
  command_timeless false Off = tt
  command_timeless true On = tt
  command_timeless false On = (tt, told_timeless (selected_values 0 marks values))
  command_timeless true AllValues = told_timeless (selected_values 0 marks values)
  command_timeless false AllValues = tt

  commands_timeless : (is_on : Bool) (commands : List DumpCommand) → NoTimes (commands_items marks values is_on commands)
  commands_timeless is_on [] = tt
  commands_timeless is_on (command ∷ commands) =
      timeless_both (command_items marks values is_on command) (commands_items marks values (on_by is_on command) commands) (command_timeless is_on command)
      (commands_timeless (on_by is_on command) commands)

  changed_timeless : (is_on : Bool) (before : List Vector) → NoTimes (changed_items marks values is_on before)
  changed_timeless true before = told_timeless (changes 0 marks before values)
  changed_timeless false before = tt

timeless_order : (before : Option ℕ) (items : List Item) → NoTimes items → DoNotFall before items
timeless_order before [] none = tt
timeless_order before (at time ∷ items) none = absurd none.0
timeless_order before (value name digits ∷ items) none = timeless_order before items none.1
timeless_order before (off ∷ items) none = timeless_order before items none.1
timeless_order before (on ∷ items) none = timeless_order before items none.1

timeless_last : (before : Option ℕ) (items : List Item) → NoTimes items → last_time before items ≡ before
timeless_last before [] none = refl
timeless_last before (at time ∷ items) none = absurd none.0
timeless_last before (value name digits ∷ items) none = timeless_last before items none.1
timeless_last before (off ∷ items) none = timeless_last before items none.1
timeless_last before (on ∷ items) none = timeless_last before items none.1

-- ---- order

order_both : (before : Option ℕ) (xs ys : List Item) → DoNotFall before xs → DoNotFall (last_time before xs) ys → DoNotFall before (xs ++ ys)
order_both before [] ys v w = w
order_both before (at time ∷ xs) ys v w = (v.0, order_both (Some time) xs ys v.1 w)
order_both before (value name digits ∷ xs) ys v w = order_both before xs ys v w
order_both before (off ∷ xs) ys v w = order_both before xs ys v w
order_both before (on ∷ xs) ys v w = order_both before xs ys v w

last_both : (before : Option ℕ) (xs ys : List Item) → last_time before (xs ++ ys) ≡ last_time (last_time before xs) ys
last_both before [] ys = refl
last_both before (at time ∷ xs) ys = last_both (Some time) xs ys
last_both before (value name digits ∷ xs) ys = last_both before xs ys
last_both before (off ∷ xs) ys = last_both before xs ys
last_both before (on ∷ xs) ys = last_both before xs ys

-- ---- what stands behind a slot

module _ (marks : List Bool) (end : ℕ) where
  pub record So (items : List Item) (is_on : Bool) (slot : DumpSlot) (last : ℕ) : Type 0 where
    pub order : DoNotFall None items
    pub ends : last_time None items ≡ Some last
    pub low : last ≤ slot.time
    pub turned : on_behind true items ≡ is_on
    pub told : (n : ℕ) (v : Vector) → slice_get marks n ≡ Some true → slice_get slot.values n ≡ Some v → value_after items (code n) ≡ known is_on (digits_of v)

  letters_at : (vs : List Vector) (n : ℕ) (v : Vector) → HaveLetters vs → slice_get vs n ≡ Some v → 0 < length v.letters
  letters_at [] n v have at_v = absurd cc
  letters_at (w ∷ vs) zero v have at_v = subst (λ (u : Vector). 0 < length u.letters) (same_Some w v at_v) have.0
  letters_at (w ∷ vs) (suc n) v have at_v = letters_at vs n v have.1 at_v

  shown_known : (is_on : Bool) (v : Vector) → 0 < length v.letters → option_and_then (vector_of (length v.letters)) (known is_on (digits_of v)) ≡ value_if is_on v
  shown_known true v some = vector_back v some
  shown_known false v some = refl

  -- the items up to the end of the slot's time tell what is known
  show_by : (all items : List Item) (is_on : Bool) (slot : DumpSlot) (last : ℕ) → HaveLetters slot.values → So items is_on slot last →
      ((name : Text) → value_after (items_until slot.time all) name ≡ value_after items name) → ShowSlot marks all is_on slot
  show_by all items is_on slot last have so until n v at_m at_v =
      ap (option_and_then (vector_of (length v.letters))) (until (code n) ∙ so.told n v at_m at_v) ∙ shown_known is_on v (letters_at slot.values n v have at_v)

  show_next : (items rest : List Item) (is_on : Bool) (slot : DumpSlot) (last : ℕ) → HaveLetters slot.values → So items is_on slot last → IsNext slot.time rest →
      ShowSlot marks (items ++ rest) is_on slot
  show_next items rest is_on slot last have so next =
      show_by (items ++ rest) items is_on slot last have so
      (λ name. ap (λ (list : List Item). value_after list name) (items_by slot.time last rest so.low next items so.order so.ends))

  -- the time of the end, too
  show_end : (items : List Item) (is_on : Bool) (slot : DumpSlot) (last : ℕ) → HaveLetters slot.values → slot.time ≤ end → So items is_on slot last →
      ShowSlot marks (items ++ at end ∷ []) is_on slot
  show_end items is_on slot last have le so = elim (cases_lt slot.time end) [
    | inl lt ↦ show_next items (at end ∷ []) is_on slot last have so lt
    | inr ge ↦ show_by (items ++ at end ∷ []) items is_on slot last have so (λ name.
        ap (λ (list : List Item). value_after list name)
        (ap (items_until slot.time) (sym (append-nil (items ++ at end ∷ [])))
        ∙ items_by slot.time end [] (omega arith) tt (items ++ at end ∷ []) (order_both None items (at end ∷ []) so.order (end_order items last so.ends (omega (arith, so.low))))
        (last_both None items (at end ∷ [])))
        ∙ digits_both name true None items (at end ∷ []))
  ]
    where
      end_order : (items : List Item) (last : ℕ) → last_time None items ≡ Some last → last ≤ end → DoNotFall (last_time None items) (at end ∷ [])
      end_order items last is le = subst (λ (o : Option ℕ). DoNotFall o (at end ∷ [])) (sym is) (le, tt)

  -- ---- what comes behind a slot is later

  next_end : (now : ℕ) (b : Bool) → now < end → IsNext now (if b then [] else at end ∷ [])
  next_end now true lt = tt
  next_end now false lt = lt

  next_if : (now : ℕ) (b : Bool) (xs ys : List Item) → IsNext now xs → IsNext now ys → IsNext now (if b then xs else ys)
  next_if now true xs ys v w = v
  next_if now false xs ys v w = w

  next_later : (now : ℕ) (is_on : Bool) (before : DumpSlot) (slots : List DumpSlot) (last : ℕ) → now < before.time → RiseTo before.time slots end →
      IsNext now (later_items marks end is_on before slots last)
  next_later now is_on before [] last lt rise = next_end now (last == end) (omega arith)
  next_later now is_on before (slot ∷ slots) last lt rise =
      let first : before.time < slot.time = rise.0 in
      let turned : Bool = on_after is_on slot.commands in
      next_if now (is_nothing (piece_text (piece_of marks is_on before slot))) (later_items marks end turned slot slots last)
      (at slot.time ∷ (slot_items marks is_on before slot ++ later_items marks end turned slot slots slot.time))
      (next_later now turned slot slots last (omega arith) rise.1) (omega arith)

  next_slot : (is_on : Bool) (before slot : DumpSlot) (slots : List DumpSlot) (last : ℕ) → RiseTo before.time (slot ∷ slots) end →
      IsNext before.time (later_items marks end is_on before (slot ∷ slots) last)
  next_slot is_on before slot slots last rise =
      let turned : Bool = on_after is_on slot.commands in
      next_if before.time (is_nothing (piece_text (piece_of marks is_on before slot))) (later_items marks end turned slot slots last)
      (at slot.time ∷ (slot_items marks is_on before slot ++ later_items marks end turned slot slots slot.time))
      (next_later before.time turned slot slots last rise.0 rise.1) rise.0

  -- ---- from slot to slot

  one_at : (us : List Vector) (n : ℕ) → n < length us → (u : Vector) × (slice_get us n ≡ Some u)
  one_at [] n lt = absurd (omega arith)
  one_at (u ∷ us) zero lt = (u, refl)
  one_at (u ∷ us) (suc n) lt = one_at us n (omega arith)

  -- so many have one there
  other_at : (us vs : List Vector) (n : ℕ) (v : Vector) → length us ≡ length vs → slice_get vs n ≡ Some v → (u : Vector) × (slice_get us n ≡ Some u)
  other_at us vs n v long at_v = let lt : n < length vs = slice_get_within vs n v at_v in one_at us n (omega arith)

  slot_timeless : (is_on : Bool) (before slot : DumpSlot) → NoTimes (slot_items marks is_on before slot)
  slot_timeless is_on before slot =
      timeless_both (changed_items marks slot.values is_on before.values) (commands_items marks slot.values is_on slot.commands)
      (changed_timeless marks slot.values is_on before.values) (commands_timeless marks slot.values is_on slot.commands)

  module _ (items : List Item) (is_on : Bool) (before slot : DumpSlot) (last : ℕ) (so : So items is_on before last) (long : length before.values ≡ length slot.values)
      (lt : before.time < slot.time) where
    -- nothing is told at the slot
    so_nothing : is_nothing (piece_text (piece_of marks is_on before slot)) ≡ true → So items (on_after is_on slot.commands) slot last
    so_nothing nothing =
        let none : slot_items marks is_on before slot ≡ [] = slot_nothing marks slot.values is_on before.values slot.commands nothing in
        record {
          order = so.order;
          ends = so.ends;
          low = omega (arith, so.low);
          turned = so.turned ∙ ap (on_behind is_on) (sym none) ∙ slot_on marks slot.values before.values is_on slot.commands;
          told = λ n v at_m at_v.
              let other = other_at before.values slot.values n v long at_v in
              so.told n other.0 at_m other.1 ∙ ap (digits_behind (code n) is_on (known is_on (digits_of other.0))) (sym none)
              ∙ slot_known marks slot.values n v at_m at_v before.values other.0 other.1 is_on slot.commands;
        }

    so_next : So (items ++ at slot.time ∷ slot_items marks is_on before slot) (on_after is_on slot.commands) slot slot.time
    so_next =
        let these : List Item = slot_items marks is_on before slot in
        record {
          order = order_both None items (at slot.time ∷ these) so.order
              (subst (λ (o : Option ℕ). DoNotFall o (at slot.time ∷ these)) (sym so.ends) (omega (arith, so.low), timeless_order (Some slot.time) these (slot_timeless is_on before slot)));
          ends = last_both None items (at slot.time ∷ these) ∙ timeless_last (Some slot.time) these (slot_timeless is_on before slot);
          low = omega arith;
          turned = on_both true items (at slot.time ∷ these) ∙ ap (λ (b : Bool). on_behind b these) so.turned ∙ slot_on marks slot.values before.values is_on slot.commands;
          told = λ n v at_m at_v.
              let other = other_at before.values slot.values n v long at_v in
              digits_both (code n) true None items (at slot.time ∷ these) ∙ (λ i. digits_behind (code n) (so.turned i) (so.told n other.0 at_m other.1 i) these)
              ∙ slot_known marks slot.values n v at_m at_v before.values other.0 other.1 is_on slot.commands;
        }

  -- all slots from one on are shown
  abbrev pub AreShown : List Item → Bool → DumpSlot → List DumpSlot → Type 0
  AreShown all is_on slot slots = ShowSlot marks all is_on slot × ShowSlots marks all is_on slots × DoNotFall None all

  shown_if : (b : Bool) (items xs ys : List Item) (is_on : Bool) (slot : DumpSlot) (slots : List DumpSlot) → (b ≡ true → AreShown (items ++ xs) is_on slot slots) →
      AreShown (items ++ ys) is_on slot slots → AreShown (items ++ (if b then xs else ys)) is_on slot slots
  shown_if true items xs ys is_on slot slots v w = v refl
  shown_if false items xs ys is_on slot slots v w = w

  last_shown : (b : Bool) (items : List Item) (is_on : Bool) (slot : DumpSlot) (last : ℕ) → HaveLetters slot.values → slot.time ≤ end → So items is_on slot last →
      AreShown (items ++ (if b then [] else at end ∷ [])) is_on slot []
  last_shown true items is_on slot last have le so = (show_next items [] is_on slot last have so tt, tt, order_both None items [] so.order tt)
  last_shown false items is_on slot last have le so = (
    show_end items is_on slot last have le so,
    tt,
    order_both None items (at end ∷ []) so.order (subst (λ (o : Option ℕ). DoNotFall o (at end ∷ [])) (sym so.ends) (omega (arith, so.low), tt)),
  )

  later_shown : (count : ℕ) (items : List Item) (is_on : Bool) (before : DumpSlot) (slots : List DumpSlot) (last : ℕ) → So items is_on before last →
      HaveLetters before.values → length before.values ≡ count → RiseTo before.time slots end → HaveValues count slots →
      AreShown (items ++ later_items marks end is_on before slots last) is_on before slots
  later_shown count items is_on before [] last so letters long rise have = last_shown (last == end) items is_on before last letters rise so
  later_shown count items is_on before (slot ∷ slots) last so letters long rise have =
      let turned : Bool = on_after is_on slot.commands in
      let these : List Item = slot_items marks is_on before slot in
      let same : length before.values ≡ length slot.values = long ∙ sym have.0 in
      let more : List Item = later_items marks end turned slot slots slot.time in
      let behind : AreShown (items ++ at slot.time ∷ (these ++ more)) turned slot slots =
      subst (λ (all : List Item). AreShown all turned slot slots) (append_assoc items (at slot.time ∷ these) more)
      (later_shown count (items ++ at slot.time ∷ these) turned slot slots slot.time (so_next items is_on before slot last so same rise.0) have.1 have.0 rise.1 have.2) in
      let rest = shown_if (is_nothing (piece_text (piece_of marks is_on before slot))) items (later_items marks end turned slot slots last)
      (at slot.time ∷ (these ++ more)) turned slot slots
      (λ nothing. later_shown count items turned slot slots last (so_nothing items is_on before slot last so same rise.0 nothing) have.1 have.0 rise.1 have.2)
      behind in (
        show_next items (later_items marks end is_on before (slot ∷ slots) last) is_on before last letters so (next_slot is_on before slot slots last rise),
        (rest.0, rest.1),
        rest.2,
      )

  pub all_shown : (first : DumpSlot) (later : List DumpSlot) → RiseTo first.time later end → HaveValues (length first.values) (first ∷ later) →
      AreShown (at first.time ∷ (start_items marks first ++ later_items marks end (on_after true first.commands) first later first.time)) (on_after true first.commands) first later
  all_shown first later rise have =
      let none : NoTimes (start_items marks first) =
      timeless_both (told_items (selected_values 0 marks first.values)) (commands_items marks first.values true first.commands)
      (told_timeless (selected_values 0 marks first.values)) (commands_timeless marks first.values true first.commands) in
      later_shown (length first.values) (at first.time ∷ start_items marks first) (on_after true first.commands) first later first.time
      (record {
        order = (tt, timeless_order (Some first.time) (start_items marks first) none);
        ends = timeless_last (Some first.time) (start_items marks first) none;
        low = omega arith;
        turned = start_on marks first.values first.commands;
        told = λ n v at_m at_v. start_known marks first.values n v at_m at_v first.commands;
      }) have.1 refl rise have.2
