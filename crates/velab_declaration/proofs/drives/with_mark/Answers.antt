use Rattle.std.proofs.Common.{◌≡◌, ◌≤◌, sym, ap, ◌∙◌, arith}
use Rattle.vbits.specs.declared.bit4.Bit4.TheVariants.{X, Z, Zero, One}
use Rattle.vbits.specs.Vectors.{Vector, put}
use Rattle.velab_declaration.proofs.DriveLemmas.{one_long, has_bit, free_bit, taken_bit}
use Rattle.velab_declaration.proofs.drives.with_mark.Goals as goal

pub returns-then-from-bit : goal.returns-then-from-bit
returns-then-from-bit c = λ driven n size within are.
    let few : c.len.result ≤ c.args.bit = omega (arith, c.from.ensures, c.if-from-bit.true) in
    absurd (has_bit driven n size c.args.bit c.args.letters within are c.len.result c.len.ensures.letters few)

pub put-requires-clause-fits : goal.put-requires-clause-fits
put-requires-clause-fits c = one_long c.all_x.result c.args.bit c.all_x.ensures

pub returns-in-Z : goal.returns-in-Z
returns-in-Z c = λ driven n size within are.
    free_bit driven n size c.args.bit c.args.letters within are c.bit.result c.put.result c.bit.ensures c.in-Z.is
    (c.put.ensures ∙ ap (λ (v : Vector). put c.args.letters c.args.bit c.args.bit v) c.all_x.ensures)

pub returns-in-X : goal.returns-in-X
returns-in-X c = λ driven n size within are.
    taken_bit driven n size c.args.bit c.args.letters within are c.bit.result c.bit.ensures (λ z. let no : X ≡ Z = sym c.in-X.is ∙ z in cc)

pub returns-in-Zero : goal.returns-in-Zero
returns-in-Zero c = λ driven n size within are.
    taken_bit driven n size c.args.bit c.args.letters within are c.bit.result c.bit.ensures (λ z. let no : Zero ≡ Z = sym c.in-Zero.is ∙ z in cc)

pub returns-in-One : goal.returns-in-One
returns-in-One c = λ driven n size within are.
    taken_bit driven n size c.args.bit c.args.letters within are c.bit.result c.bit.ensures (λ z. let no : One ≡ Z = sym c.in-One.is ∙ z in cc)
