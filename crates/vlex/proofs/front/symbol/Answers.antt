use Rattle.std.proofs.Common.{◌≡◌, refl, sym, ◌∙◌, ap, true, false, get_or}
use Rattle.vlex.specs.Forms.{is_double, is_triple}
use Rattle.vlex.proofs.Words.{symbol_by, triple_longest, double_longest, single_longest}
use Rattle.vlex.proofs.front.symbol.Goals as goal

pub returns-then-is_triple : goal.returns-then-is_triple
returns-then-is_triple c =
    let triple : is_triple c.args.first (get_or c.args.rest.now 0 0) (get_or c.args.rest.now 1 0) ≡ true =
    ap (λ b. is_triple c.args.first b (get_or c.args.rest.now 1 0)) (sym c.byte_at-second.ensures)
    ∙ ap (λ b. is_triple c.args.first c.byte_at-second.result b) (sym c.byte_at-third.ensures) ∙ sym c.is_triple.ensures ∙ c.if-is_triple.true in
    symbol_by c.args.first c.args.rest.now 2 3 c.requires refl (triple_longest c.args.first c.args.rest.now triple)

pub returns-then-is_double : goal.returns-then-is_double
returns-then-is_double c =
    let no_triple : is_triple c.args.first (get_or c.args.rest.now 0 0) (get_or c.args.rest.now 1 0) ≡ false =
    ap (λ b. is_triple c.args.first b (get_or c.args.rest.now 1 0)) (sym c.byte_at-second.ensures)
    ∙ ap (λ b. is_triple c.args.first c.byte_at-second.result b) (sym c.byte_at-third.ensures) ∙ sym c.is_triple.ensures ∙ c.if-is_triple.false in
    let double : is_double c.args.first (get_or c.args.rest.now 0 0) ≡ true =
    ap (is_double c.args.first) (sym c.byte_at-second.ensures) ∙ sym c.is_double.ensures ∙ c.if-is_double.true in
    symbol_by c.args.first c.args.rest.now 1 2 c.requires refl (double_longest c.args.first c.args.rest.now no_triple double)

pub returns-else-is_double : goal.returns-else-is_double
returns-else-is_double c =
    let no_triple : is_triple c.args.first (get_or c.args.rest.now 0 0) (get_or c.args.rest.now 1 0) ≡ false =
    ap (λ b. is_triple c.args.first b (get_or c.args.rest.now 1 0)) (sym c.byte_at-second.ensures)
    ∙ ap (λ b. is_triple c.args.first c.byte_at-second.result b) (sym c.byte_at-third.ensures) ∙ sym c.is_triple.ensures ∙ c.if-is_triple.false in
    let no_double : is_double c.args.first (get_or c.args.rest.now 0 0) ≡ false =
    ap (is_double c.args.first) (sym c.byte_at-second.ensures) ∙ sym c.is_double.ensures ∙ c.if-is_double.false in
    symbol_by c.args.first c.args.rest.now 0 1 c.requires refl (single_longest c.args.first c.args.rest.now no_triple no_double)
