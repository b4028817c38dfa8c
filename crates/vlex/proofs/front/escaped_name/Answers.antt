use Rattle.std.proofs.Common.{◌≡◌, sym, ◌∙◌}
use Rattle.vlex.specs.declared.bytes.Lead.TheVariants as lead
use Rattle.vlex.proofs.Pieces.{not_open}
use Rattle.vlex.proofs.Words.{backslash_alone, dotted_escape, escaped_name}
use Rattle.vlex.proofs.front.escaped_name.Goals as goal

pub returns-then-len-eq0 : goal.returns-then-len-eq0
returns-then-len-eq0 c = (
  backslash_alone c.args.first c.args.rest.now c.requires (sym c.run_len-len.ensures.value ∙ c.if-len-eq0.true),
  not_open c.args.first _ lead.Backslash c.requires (λ (e : lead.Quote ≡ lead.Backslash). cc) (λ (e : lead.Slash ≡ lead.Backslash). cc),
)

pub returns-then-byte_at-eq46 : goal.returns-then-byte_at-eq46
returns-then-byte_at-eq46 c = (
  dotted_escape c.args.first c.args.rest.now c.run_len-len.result c.requires c.run_len-len.ensures.value c.if-len-eq0.false
      (sym c.byte_at.ensures ∙ c.if-byte_at-eq46.true),
  not_open c.args.first _ lead.Backslash c.requires (λ (e : lead.Quote ≡ lead.Backslash). cc) (λ (e : lead.Slash ≡ lead.Backslash). cc),
)

pub returns : goal.returns
returns c =
    escaped_name c.args.first c.args.rest.now c.run_len-len.result c.requires c.run_len-len.ensures.value c.if-len-eq0.false
    (λ dot. c.if-byte_at-eq46.false (c.byte_at.ensures ∙ dot))
