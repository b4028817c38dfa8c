-- *internal*: A sink that writes the lines: what taking items makes of it.
use Rattle.std.specs.Prelude.{◌≡◌, ℕ, List, [], ◌∷◌}
use Rattle.basis.specs.declared.memory.OrMemory.{OrMemory}
use Rattle.vbits.specs.Vectors.{Vector}
use Rattle.vdesign.specs.Design.{Design}
use Rattle.byte_sinks.specs.ByteSinks.{Stopped}
use Rattle.vmodel.specs.declared.history.Item.{Item}
use Rattle.lines_text.specs.declared.in_force.InForce.{InForce}
use Rattle.lines_text.specs.declared.in_force.InForce.TheVariants.{Printed}
use Rattle.lines_text.specs.declared.sink.LinesSink.{LinesSink}
use Rattle.lines_text.specs.LinesText.{watched_values, line_at, in_force_after, lines_from}

-- which monitor is in force after these items
abbrev pub in_force_over : Design → InForce → List Item → InForce
in_force_over design in_force [] = in_force
in_force_over design in_force (item ∷ items) = in_force_over design (in_force_after design in_force item) items

-- what these items add to the lines
abbrev pub text_of : {O : Type 0} → LinesSink O → List Item → List ℕ
text_of sink items = lines_from sink.design.now sink.in_force items

-- it is the same borrowed byte sink and the same design
abbrev pub IsSameSink : {O : Type 0} → LinesSink O → LinesSink O → Type 0
IsSameSink old new = (new.byte_sink.ghost_name ≡ old.byte_sink.ghost_name) × (new.design.now ≡ old.design.now)

-- the byte sink took what the items add
abbrev pub Takes : {O : Type 0} → (O → List ℕ → O → Type 0) → LinesSink O → List Item → LinesSink O → Type 0
Takes takes old items new =
    IsSameSink old new
    × (new.in_force ≡ in_force_over old.design.now old.in_force items)
    × takes old.byte_sink.now (text_of old items) new.byte_sink.now

-- it stopped somewhere in that
abbrev pub Fails : {O F : Type 0} → (O → List ℕ → O → Type 0) → (O → List ℕ → F → O → Type 0) → LinesSink O → List Item → OrMemory F → LinesSink O → Type 0
Fails takes fails old items fault new = IsSameSink old new × Stopped takes fails old.byte_sink.now (text_of old items) fault new.byte_sink.now

-- the monitor of a place printed
abbrev pub Tells : {O : Type 0} → (O → List ℕ → O → Type 0) → LinesSink O → ℕ → ℕ → List Vector → LinesSink O → Type 0
Tells takes old place time values new =
    IsSameSink old new
    × (new.in_force ≡ Printed place (watched_values old.design.now place time values))
    × takes old.byte_sink.now (line_at old.design.now place time values) new.byte_sink.now
