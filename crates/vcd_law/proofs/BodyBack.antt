-- What the body of a dump tells.
use Rattle.std.proofs.Common.{ℕ, ◌<◌, ◌≤◌, ◌^◌, Bool, true, false, ◌==◌, if◌then◌else◌, List, [], ◌∷◌, ◌++◌, length, subst, arith, append-nil}
use Rattle.vcd_read.specs.Words.{words_of}
use Rattle.vcd_read.specs.Commands.{Item, at, Tells, done}
use Rattle.vcd_text.specs.DumpText.{DumpSlot, Piece, body, is_nothing, later_parts, later_pieces, nonempty_pieces, on_after, piece_text, pieces, selected_values, start, time_line}
use Rattle.vcd_law.specs.ReadBack.{HaveValues, RiseTo}
use Rattle.vcd_law.proofs.WordsBack.{TellsText, text_then, time_told}
use Rattle.vcd_law.proofs.PartsBack.{changed_items, commands_items, slot_told, start_told, told_items}

pub rise_end : (time : ℕ) (slots : List DumpSlot) (end : ℕ) → RiseTo time slots end → time ≤ end
rise_end time [] end rise = rise
rise_end time (slot ∷ slots) end rise = let first : time < slot.time = rise.0 in let more : slot.time ≤ end = rise_end slot.time slots end rise.1 in omega arith

-- the time of the end, unless it stands there
abbrev pub end_items : ℕ → ℕ → List Item
end_items last end = if last == end then [] else at end ∷ []

-- what a later slot tells, of a dump that is on or off before it
abbrev pub slot_items : List Bool → Bool → DumpSlot → DumpSlot → List Item
slot_items marks is_on before slot = changed_items marks slot.values is_on before.values ++ commands_items marks slot.values is_on slot.commands

abbrev pub piece_of : List Bool → Bool → DumpSlot → DumpSlot → Piece
piece_of marks is_on before slot = record { time = slot.time; parts = later_parts marks is_on before.values slot }

-- what later slots tell, behind a last time
abbrev pub later_items : List Bool → ℕ → Bool → DumpSlot → List DumpSlot → ℕ → List Item
later_items marks end is_on before [] last = end_items last end
later_items marks end is_on before (slot ∷ slots) last =
    if is_nothing (piece_text (piece_of marks is_on before slot)) then later_items marks end (on_after is_on slot.commands) slot slots last
    else at slot.time ∷ (slot_items marks is_on before slot ++ later_items marks end (on_after is_on slot.commands) slot slots slot.time)

abbrev pub start_items : List Bool → DumpSlot → List Item
start_items marks slot = told_items (selected_values 0 marks slot.values) ++ commands_items marks slot.values true slot.commands

end_told : (b : Bool) (end : ℕ) → end < 2 ^ 64 → Tells false (words_of (if b then [] else time_line end)) (if b then [] else at end ∷ [])
end_told true end small = done
end_told false end small =
    subst (λ (text : List ℕ). Tells false (words_of text) (at end ∷ [])) (append-nil (time_line end)) (time_told end small [] [] done)

-- a piece is there or isn't
told_if : (b : Bool) (end : ℕ) (p : Piece) (ps qs : List Piece) (head xs ys : List Item) → Tells false (words_of (body (p ∷ ps) end)) (head ++ xs) →
    Tells false (words_of (body (p ∷ qs) end)) (head ++ ys) → Tells false (words_of (body (p ∷ (if b then ps else qs)) end)) (head ++ (if b then xs else ys))
told_if true end p ps qs head xs ys v w = v
told_if false end p ps qs head xs ys v w = w

module _ (marks : List Bool) (end : ℕ) (small : end < 2 ^ 64) where
  head_told : (p : Piece) (items : List Item) → p.time ≤ end → TellsText false false (piece_text p) items →
      TellsText false false (time_line p.time ++ piece_text p) (at p.time ∷ items)
  head_told p items le tells = text_then false false false (time_line p.time) (piece_text p) (at p.time ∷ []) items (time_told p.time (omega arith)) tells

  later_told : (count : ℕ) (p : Piece) (items : List Item) (is_on : Bool) (before : DumpSlot) (slots : List DumpSlot) → TellsText false false (piece_text p) items →
      p.time ≤ end → RiseTo before.time slots end → HaveValues count slots →
      Tells false (words_of (body (p ∷ nonempty_pieces (later_pieces marks is_on before slots)) end)) (at p.time ∷ (items ++ later_items marks end is_on before slots p.time))
  later_told count p items is_on before [] tells le rise have =
      head_told p items le tells (if p.time == end then [] else time_line end) (end_items p.time end) (end_told (p.time == end) end small)
  later_told count p items is_on before (slot ∷ slots) tells le rise have =
      let q : Piece = piece_of marks is_on before slot in
      let turned : Bool = on_after is_on slot.commands in
      let rest : List Piece = nonempty_pieces (later_pieces marks turned slot slots) in
      let these : List Item = slot_items marks is_on before slot in
      let q_told : TellsText false false (piece_text q) these = slot_told marks slot.values have.1 is_on before.values slot.commands in
      told_if (is_nothing (piece_text q)) end p rest (q ∷ rest) (at p.time ∷ items) (later_items marks end turned slot slots p.time)
      (at slot.time ∷ (these ++ later_items marks end turned slot slots slot.time))
      (later_told count p items turned slot slots tells le rise.1 have.2)
      (head_told p items le tells (body (q ∷ rest) end) (at slot.time ∷ (these ++ later_items marks end turned slot slots slot.time))
      (later_told count q these turned slot slots q_told (rise_end slot.time slots end rise.1) rise.1 have.2))

  pub body_told : (first : DumpSlot) (later : List DumpSlot) → RiseTo first.time later end → HaveValues (length first.values) (first ∷ later) →
      Tells false (words_of (body (nonempty_pieces (pieces marks (first ∷ later))) end))
      (at first.time ∷ (start_items marks first ++ later_items marks end (on_after true first.commands) first later first.time))
  body_told first later rise have =
      later_told (length first.values) (start marks first) (start_items marks first) (on_after true first.commands) first later
      (start_told marks first.values have.1 first.commands) (rise_end first.time later end rise) rise have.2
