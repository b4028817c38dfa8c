-- *internal*: How long dumps are; `dumps_are_short` proves it.
use Rattle.std.specs.Prelude.{ℕ, ◌<◌, ◌^◌, List, Option, length}
use Rattle.basis.specs.declared.timescale.Timescale.{Timescale}
use Rattle.vwords.specs.Words.{Text}
use Rattle.vast.specs.NumberedModules.{SourceTree}
use Rattle.vdesign.specs.Design.{Design}
use Rattle.vhierarchy.specs.Instances.{Elaborates}
use Rattle.vmodel.specs.Run.{Setting, history_after}
use Rattle.vcd_text.specs.DumpText.{vcd}
use Rattle.dump_law.specs.Small.{IsSmall}

-- a design that a text stands for is small: its sizes are right (E306), it has no more levels than it may (E308), and nothing in too great
-- a number (E309)
abbrev pub DesignsAreSmall : Type 0
DesignsAreSmall = (tree : SourceTree) (top : Option Text) (scale : Timescale) (design : Design) → Elaborates tree top scale design → IsSmall design

-- the dump of a run of such a design, of fewer than 2^32 steps and up to a time of 64 bits, has a length of 64 bits
abbrev pub DumpsAreShort : Type 0
DumpsAreShort = (setting : Setting) (log : List (ℕ × ℕ)) (steps : ℕ) → IsSmall setting.design → setting.until < 2 ^ 64 → steps < 2 ^ 32 →
    length (vcd setting.design (history_after setting log steps)) < 2 ^ 64
