use Rattle.std.proofs.Common.{ℕ, ◌+◌, List, [], ◌++◌, ap, sym, ◌∙◌, arith, append-nil}
use Rattle.std.proofs.lemmas.List.Elements.{All-nil}
use Rattle.vcd_text.specs.CodeLaws.{IsDigit}
use Rattle.vcd_text.proofs.CodeLemmas.{only_code}
use Rattle.vcd_text.proofs.listed.put_name.Goals as goal

pub loop-left-init : goal.loop-left-init
loop-left-init c = λ rest digits number.
    ap (λ (name : List ℕ). name ++ rest) c.clear.ensures.items
    ∙ only_code c.args.variable rest digits (number ∙ ap (λ (n : ℕ). n + 1) c.from-left.ensures)

pub returns : goal.returns
returns c = sym (append-nil c.loop-left.name.items) ∙ c.loop-left.invariant [] (All-nil IsDigit) (omega arith)
