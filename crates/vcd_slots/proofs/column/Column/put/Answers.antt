use Rattle.std.proofs.Common.{List, ℕ, ap, sym, ◌∙◌}
use Rattle.std.specs.Prelude.{nat_eq}
use Rattle.std.specs.Cmp.Lexicographic.{pointwise}
use Rattle.vcd_slots.proofs.PutLemmas.{puts_other, puts_same}
use Rattle.vcd_slots.proofs.column.Column.put.Goals as goal

pub returns-then-not-is_same : goal.returns-then-not-is_same
returns-then-not-is_same c =
    puts_other c.args.self.now c.args.is_on c.args.before c.args.code.now c.args.digits.now
    (sym (ap (λ (t : List ℕ). pointwise nat_eq c.args.code.now t) c.deref.ensures.value) ∙ sym c.is_same.ensures.value ∙ c.if-not-is_same.true)

pub returns-in-Some : goal.returns-in-Some
returns-in-Some c =
    puts_same c.args.self.now c.args.is_on c.args.before c.known_value.result c.in-Some.value c.args.code.now c.args.digits.now
    (sym (ap (λ (t : List ℕ). pointwise nat_eq c.args.code.now t) c.deref.ensures.value) ∙ sym c.is_same.ensures.value ∙ c.if-not-is_same.false)
    (sym c.in-Some.is ∙ c.vector_of.ensures) c.known_value.ensures
