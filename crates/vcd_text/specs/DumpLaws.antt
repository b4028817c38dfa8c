-- *internal*: What a sink writes item by item is the dump of the history.
use Rattle.std.proofs.Common.{◌≡◌, ℕ, Bool, true, false, if◌then◌else◌, List, [], ◌∷◌, ◌++◌, refl, sym, ap, subst, ◌∙◌, append_assoc}
use Rattle.vdesign.specs.declared.dump.DumpCommand.{DumpCommand}
use Rattle.vdesign.specs.Design.{Design}
use Rattle.vbits.specs.Vectors.{Vector}
use Rattle.vmodel.specs.History.{History}
use Rattle.vmodel.specs.declared.history.Item.{Item}
use Rattle.vmodel.specs.declared.history.Item.TheVariants.{SlotEnd, Dump, Line, Monitor}
use Rattle.vcd_text.specs.DumpText.{Piece, DumpSlot, body, dump_of, dump_slots, has_start, header, is_nothing, later_parts, later_pieces, on_after, piece_text, scope_marks, slots_after, nonempty_pieces, start, time_line, variable_marks, vcd}
use Rattle.vcd_text.specs.declared.progress.Progress.{Progress}
use Rattle.vcd_text.specs.declared.progress.Progress.TheVariants.{Waiting, Started}
use Rattle.vcd_text.specs.Sinks.{end_text, history_text, items_text, last_line, progress_over, start_text, text_at_time, text_of, Takes, Fails}
use Rattle.byte_sinks.specs.ByteSinks.{IsByteSink, Stopped}
use Rattle.byte_sinks.specs.ByteSinkLaws.{stopped_after, stopped_before}
use Rattle.vcd_text.specs.SinkLaws.{text_joins}
use Rattle.basis.specs.declared.memory.OrMemory.{OrMemory}
use Rattle.vcd_text.specs.declared.sink.DumpSink.{DumpSink}

start_parts : (a b c d e : List ℕ) → a ++ (b ++ c ++ (d ++ e)) ≡ a ++ b ++ c ++ d ++ e
start_parts a b c d e =
    ap (λ (xs : List ℕ). a ++ xs) (append_assoc b c (d ++ e))
    ∙ sym (append_assoc (a ++ b ++ c) d e ∙ append_assoc (a ++ b) c (d ++ e) ∙ append_assoc a b (c ++ (d ++ e)))

module _ (design : Design) (end : ℕ) where
  -- what comes from here on
  abbrev pub rest : Progress → List Item → List ℕ
  rest p items = items_text design p items ++ end_text (progress_over design p items) end

  -- what the definition says from a piece on, of a dump of marked variables that is on or off behind its slot
  abbrev pub from_piece : List Bool → Piece → Bool → DumpSlot → List DumpSlot → List ℕ
  from_piece marks p on slot slots = body (p ∷ nonempty_pieces (later_pieces marks on slot slots)) end

  later_by_text : (marks : List Bool) (p q : Piece) (on : Bool) (slot : DumpSlot) (slots : List DumpSlot) (items : List Item) (text : List ℕ) → piece_text q ≡ text →
      ((r : Piece) → from_piece marks r on slot slots ≡ time_line r.time ++ piece_text r ++ rest (Started r.time on marks slot.values []) items) →
      body (p ∷ nonempty_pieces (q ∷ later_pieces marks on slot slots)) end
      ≡ time_line p.time ++ piece_text p
      ++ (text_at_time q.time text ++ items_text design (Started (last_line p.time q.time text) on marks slot.values []) items
      ++ end_text (progress_over design (Started (last_line p.time q.time text) on marks slot.values []) items) end)
  later_by_text marks p q on slot slots items [] is next =
      let later : List Piece = nonempty_pieces (later_pieces marks on slot slots) in
      ap (λ (xs : List ℕ). body (p ∷ (if is_nothing xs then later else q ∷ later)) end) is ∙ next p
  later_by_text marks p q on slot slots items (c ∷ cs) is next =
      let later : List Piece = nonempty_pieces (later_pieces marks on slot slots) in
      let added : List ℕ = items_text design (Started q.time on marks slot.values []) items in
      let last : List ℕ = end_text (progress_over design (Started q.time on marks slot.values []) items) end in
      ap (λ (xs : List ℕ). body (p ∷ (if is_nothing xs then later else q ∷ later)) end) is
      ∙ ap (λ (more : List ℕ). time_line p.time ++ piece_text p ++ more)
      (next q ∙ ap (λ (xs : List ℕ). time_line q.time ++ xs ++ (added ++ last)) is ∙ sym (append_assoc (time_line q.time ++ (c ∷ cs)) added last))

  later_text : (marks : List Bool) (p : Piece) (on : Bool) (slot : DumpSlot) (commands : List DumpCommand) (items : List Item) →
      from_piece marks p on slot (slots_after commands items)
      ≡ time_line p.time ++ piece_text p ++ rest (Started p.time on marks slot.values commands) items
  later_text marks p on slot commands [] = refl
  later_text marks p on slot commands (Dump command ∷ items) = later_text marks p on slot (commands ++ command ∷ []) items
  later_text marks p on slot commands (Line text ∷ items) = later_text marks p on slot commands items
  later_text marks p on slot commands (Monitor place ∷ items) = later_text marks p on slot commands items
  later_text marks p on slot commands (SlotEnd t values ∷ items) =
      let next : DumpSlot = record { commands = commands; time = t; values = values } in
      let piece : Piece = record { time = t; parts = later_parts marks on slot.values next } in
      later_by_text marks p piece (on_after on commands) next (slots_after [] items) items (piece_text piece) refl
      (λ r. later_text marks r (on_after on commands) next [] items)

  -- the slot that ended starts the dump, or comes before it
  begin_text : (b : Bool) (commands : List DumpCommand) (t : ℕ) (values : List Vector) (items : List Item) → has_start commands ≡ b →
      rest (Waiting []) items ≡ dump_of design (dump_slots (slots_after [] items)) end →
      rest (Waiting commands) (SlotEnd t values ∷ items)
      ≡ dump_of design (dump_slots (record { commands = commands; time = t; values = values } ∷ slots_after [] items)) end
  begin_text true commands t values items is later =
      let slot : DumpSlot = record { commands = commands; time = t; values = values } in
      let slots : List DumpSlot = slots_after [] items in
      let on : Bool = on_after true commands in
      let marks : List Bool = variable_marks design commands in
      let head : List ℕ = header design (scope_marks design commands) in
      let added : List ℕ = items_text design (Started t on marks values []) items in
      let last : List ℕ = end_text (progress_over design (Started t on marks values []) items) end in
      ap (λ (b : Bool). (if b then start_text design commands t values else []) ++ items_text design (if b then Started t on marks values [] else Waiting []) items
      ++ end_text (progress_over design (if b then Started t on marks values [] else Waiting []) items) end) is
      ∙ sym (ap (λ (b : Bool). dump_of design (if b then slot ∷ slots else dump_slots slots) end) is
      ∙ ap (λ (more : List ℕ). head ++ more) (later_text marks (start marks slot) on slot [] items)
      ∙ start_parts head (time_line t) (piece_text (start marks slot)) added last)
  begin_text false commands t values items is later =
      let slot : DumpSlot = record { commands = commands; time = t; values = values } in
      let slots : List DumpSlot = slots_after [] items in
      let on : Bool = on_after true commands in
      let marks : List Bool = variable_marks design commands in
      ap (λ (b : Bool). (if b then start_text design commands t values else []) ++ items_text design (if b then Started t on marks values [] else Waiting []) items
      ++ end_text (progress_over design (if b then Started t on marks values [] else Waiting []) items) end) is
      ∙ later
      ∙ sym (ap (λ (b : Bool). dump_of design (if b then slot ∷ slots else dump_slots slots) end) is)

  waiting_text : (commands : List DumpCommand) (items : List Item) →
      rest (Waiting commands) items ≡ dump_of design (dump_slots (slots_after commands items)) end
  waiting_text commands [] = refl
  waiting_text commands (Dump command ∷ items) = waiting_text (commands ++ command ∷ []) items
  waiting_text commands (Line text ∷ items) = waiting_text commands items
  waiting_text commands (Monitor place ∷ items) = waiting_text commands items
  waiting_text commands (SlotEnd t values ∷ items) =
      begin_text (has_start commands) commands t values items refl (waiting_text [] items)

pub whole_text : (design : Design) (history : History) → history_text design history ≡ vcd design history
whole_text design history = waiting_text design history.end.time [] history.items

-- the text of what came first stands at the front of the dump
pub front_of_dump : (design : Design) (history : History) (first later : List Item) → history.items ≡ first ++ later →
    (rest : List ℕ) × (vcd design history ≡ items_text design (Waiting []) first ++ rest)
front_of_dump design history first later is =
    let end : List ℕ = end_text (progress_over design (Waiting []) history.items) history.end.time in
    let more : List ℕ = items_text design (progress_over design (Waiting []) first) later in (
      more ++ end,
      sym (whole_text design history)
          ∙ ap (λ (items : List Item). items_text design (Waiting []) items ++ end) is
          ∙ ap (λ (text : List ℕ). text ++ end) (text_joins design (Waiting []) first later)
          ∙ append_assoc (items_text design (Waiting []) first) more end,
    )

-- ---- of a sink with nothing come

-- what a history adds up to its end is its whole dump
whole_dump : {O : Type 0} (s : DumpSink O) (history : History) → s.progress ≡ Waiting [] →
    vcd s.design.now history ≡ text_of s history.items ++ end_text (progress_over s.design.now s.progress history.items) history.end.time
whole_dump s history fresh =
    sym (whole_text s.design.now history)
    ∙ ap (λ (from : Progress). items_text s.design.now from history.items ++ end_text (progress_over s.design.now from history.items) history.end.time) (sym fresh)

module _ {O F : Type 0} (takes : O → List ℕ → O → Type 0) (fails : O → List ℕ → F → O → Type 0) (laws : IsByteSink takes fails)
    (s : DumpSink O) (history : History) (fresh : s.progress ≡ Waiting []) where
  taken_dump : (t : DumpSink O) → Takes takes s history.items t →
      vcd s.design.now history ≡ text_of s history.items ++ end_text t.progress history.end.time
  taken_dump t p = whole_dump s history fresh ∙ ap (λ (after : Progress). text_of s history.items ++ end_text after history.end.time) (sym p.1)

  pub completes : (t : DumpSink O) (m : O) → Takes takes s history.items t → takes t.byte_sink.now (end_text t.progress history.end.time) m →
      takes s.byte_sink.now (vcd s.design.now history) m
  completes t m p q =
      subst (λ (text : List ℕ). takes s.byte_sink.now text m) (sym (taken_dump t p))
      (laws.joins s.byte_sink.now t.byte_sink.now m (text_of s history.items) (end_text t.progress history.end.time) p.2 q)

  pub stops_completing : (t : DumpSink O) (m : O) (fault : OrMemory F) → Takes takes s history.items t →
      Stopped takes fails t.byte_sink.now (end_text t.progress history.end.time) fault m → Stopped takes fails s.byte_sink.now (vcd s.design.now history) fault m
  stops_completing t m fault p q =
      subst (λ (text : List ℕ). Stopped takes fails s.byte_sink.now text fault m) (sym (taken_dump t p))
      (stopped_after takes fails laws s.byte_sink.now t.byte_sink.now m (text_of s history.items) (end_text t.progress history.end.time) fault p.2 q)

  pub stops_taking : (t : DumpSink O) (fault : OrMemory F) → Fails takes fails s history.items fault t →
      Stopped takes fails s.byte_sink.now (vcd s.design.now history) fault t.byte_sink.now
  stops_taking t fault p =
      subst (λ (text : List ℕ). Stopped takes fails s.byte_sink.now text fault t.byte_sink.now) (sym (whole_dump s history fresh))
      (stopped_before takes fails laws s.byte_sink.now t.byte_sink.now (text_of s history.items)
      (end_text (progress_over s.design.now s.progress history.items) history.end.time) fault p.1)
