use Rattle.std.proofs.Common.{◌≡◌, ◌+◌, sym, ap}
use Rattle.vlex.specs.declared.bytes.Lead.TheVariants as lead
use Rattle.vlex.proofs.Pieces.{not_open}
use Rattle.vlex.proofs.Words.{blanks, name, nothing}
use Rattle.vlex.proofs.front.front_by.Goals as goal

pub returns-in-Blank : goal.returns-in-Blank
returns-in-Blank c = blanks c.args.first c.args.rest.now (1 + c.run_len.result) (sym c.in-Blank.ensures.value) (ap (λ n. 1 + n) c.run_len.ensures.value)

pub returns-in-Letter : goal.returns-in-Letter
returns-in-Letter c = name c.args.first c.args.rest.now (1 + c.run_len-in-Letter.result) (sym c.in-Letter.ensures.value) (ap (λ n. 1 + n) c.run_len-in-Letter.ensures.value)

pub returns-in-Other : goal.returns-in-Other
returns-in-Other c = (
  nothing c.args.first c.args.rest.now (sym c.in-Other.ensures.value),
  not_open c.args.first _ lead.Other (sym c.in-Other.ensures.value) (λ (e : lead.Quote ≡ lead.Other). cc) (λ (e : lead.Slash ≡ lead.Other). cc),
)
