use Rattle.std.proofs.Common.{◌≡◌, ◌+◌, sym, ◌∙◌, ap}
use Rattle.vlex.specs.declared.bytes.Lead.TheVariants as lead
use Rattle.vlex.proofs.Pieces.{not_open}
use Rattle.vlex.proofs.Words.{system_name, dollar_alone}
use Rattle.vlex.proofs.front.system.Goals as goal

pub returns-then-len-eq0 : goal.returns-then-len-eq0
returns-then-len-eq0 c = (
  dollar_alone c.args.first c.args.rest.now c.requires (sym c.run_len-len.ensures.value ∙ c.if-len-eq0.true),
  not_open c.args.first _ lead.Dollar c.requires (λ (e : lead.Quote ≡ lead.Dollar). cc) (λ (e : lead.Slash ≡ lead.Dollar). cc),
)

pub returns-else-len-eq0 : goal.returns-else-len-eq0
returns-else-len-eq0 c =
    system_name c.args.first c.args.rest.now (1 + c.run_len-len.result) c.requires (ap (λ n. 1 + n) c.run_len-len.ensures.value)
    (λ none. c.if-len-eq0.false (c.run_len-len.ensures.value ∙ none))
