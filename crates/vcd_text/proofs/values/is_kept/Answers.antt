use Rattle.std.proofs.Common.{ap, sym, ◌∙◌, arith}
use Rattle.vbits.specs.Vectors.{Vector}
use Rattle.vbits.specs.Numbers.{number}
use Rattle.vcd_text.proofs.ValueLemmas.{kept_by_number, always_known}
use Rattle.vcd_text.proofs.ListedLemmas.{same_kept}
use Rattle.vcd_text.proofs.values.is_kept.Goals as goal

pub returns-then-eq : goal.returns-then-eq
returns-then-eq c = sym (same_kept c.args.old c.args.new (sym c.eq.ensures ∙ c.if-eq.true))

pub returns-in-Some : goal.returns-in-Some
returns-in-Some c =
    kept_by_number c.args.old c.args.new c.in-Some.one (c.in-Some.ensures ∙ ap (λ (v : Vector). number v.letters) c.case_eq.ensures) (omega arith)

pub returns-in-None : goal.returns-in-None
returns-in-None c = absurd (always_known c.args.old c.args.new (c.in-None.ensures ∙ ap (λ (v : Vector). number v.letters) c.case_eq.ensures))
