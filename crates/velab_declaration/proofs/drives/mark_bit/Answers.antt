use Rattle.std.proofs.Common.{◌≡◌, ◌≤◌, Some, length, slice_get, refl, sym, ◌∙◌, arith}
use Rattle.std.proofs.lemmas.Bool.Decides.{nat_tests}
use Rattle.std.proofs.lemmas.Option.{slice_get_past, slice_get_read}
use Rattle.velab_declaration.specs.DriveMarks.{size_in}
use Rattle.velab_declaration.proofs.DriveLemmas.{no_bit, mark_here, bit_taken, bit_free}
use Rattle.velab_declaration.proofs.drives.mark_bit.Goals as goal

pub returns-in_default : goal.returns-in_default
returns-in_default c = λ driven variables within are.
    let no = c.in_default.ensures.lookup.0 in
    let past : length c.args.marks.now ≤ c.args.variable = grind (arith, nat_tests, no) in
    absurd (no_bit driven variables c.args.marks.now c.args.variable c.args.bit within are (slice_get_past c.args.marks.now c.args.variable past))

pub returns-in-None : goal.returns-in-None
returns-in-None c = λ driven variables within are.
    let there : slice_get c.args.marks.now c.args.variable ≡ Some c.in-Some.letters.now =
    slice_get_read c.args.marks.now (length c.args.marks.now) c.args.variable c.in-Some.letters.now refl c.in-Some.ensures.lookup.3.0 c.in-Some.ensures.lookup.1 in
    bit_taken driven variables c.args.marks.now c.args.variable c.args.bit within are
    (sym c.in-None.is ∙ c.with_mark.ensures driven c.args.variable (size_in variables c.args.variable) within
    (mark_here driven variables c.args.marks.now c.args.variable c.args.bit within are c.in-Some.letters.now there))

pub returns-in-Some-with_mark : goal.returns-in-Some-with_mark
returns-in-Some-with_mark c = λ driven variables within are.
    let there : slice_get c.args.marks.now c.args.variable ≡ Some c.in-Some.letters.now =
    slice_get_read c.args.marks.now (length c.args.marks.now) c.args.variable c.in-Some.letters.now refl c.in-Some.ensures.lookup.3.0 c.in-Some.ensures.lookup.1 in
    bit_free driven variables c.args.marks.now c.args.variable c.args.bit within are c.in-Some-with_mark.more _
    (sym c.in-Some-with_mark.is ∙ c.with_mark.ensures driven c.args.variable (size_in variables c.args.variable) within
    (mark_here driven variables c.args.marks.now c.args.variable c.args.bit within are c.in-Some.letters.now there)) refl
