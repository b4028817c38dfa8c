use Rattle.std.proofs.Common.{◌≡◌, sym, ◌∙◌}
use Rattle.vlex.specs.declared.bytes.Lead.TheVariants as lead
use Rattle.vlex.proofs.Pieces.{not_open}
use Rattle.vlex.proofs.Words.{unsized_number, barred_unsized, apostrophe_alone}
use Rattle.vlex.proofs.number.number_with_base.Goals as goal

pub returns-in_default : goal.returns-in_default
returns-in_default c = (
  apostrophe_alone c.args.first c.args.rest.now c.requires c.in_default.ensures,
  not_open c.args.first _ lead.Apostrophe c.requires (λ (e : lead.Quote ≡ lead.Apostrophe). cc) (λ (e : lead.Slash ≡ lead.Apostrophe). cc),
)

pub returns-then-not-is_ended : goal.returns-then-not-is_ended
returns-then-not-is_ended c = (
  barred_unsized c.args.first c.args.rest.now c.in-Some.len c.requires c.in-Some.ensures (sym c.is_ended.ensures ∙ c.if-not-is_ended.true),
  not_open c.args.first _ lead.Apostrophe c.requires (λ (e : lead.Quote ≡ lead.Apostrophe). cc) (λ (e : lead.Slash ≡ lead.Apostrophe). cc),
)

pub returns : goal.returns
returns c = unsized_number c.args.first c.args.rest.now c.in-Some.len c.requires c.in-Some.ensures (sym c.is_ended.ensures ∙ c.if-not-is_ended.false)
