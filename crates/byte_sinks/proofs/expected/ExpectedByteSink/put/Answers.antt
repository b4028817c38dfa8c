use Rattle.std.proofs.Common.{◌∙◌, ap, sym, option_map}
use Rattle.std.proofs.lemmas.Bool.Decides.{Decides-eqb}
use Rattle.std.proofs.lemmas.Slice.Eq.{strip_prefix_is}
use Rattle.byte_sinks.specs.Comparing.{rest_behind}
use Rattle.byte_sinks.proofs.ExpectedLemmas.{is_stripped}
use Rattle.byte_sinks.proofs.expected.ExpectedByteSink.put.Goals as goal

pub returns-in-Some-clause-ok : goal.returns-in-Some-clause-ok
returns-in-Some-clause-ok c =
    let expected = c.in-Some.rest.now in
    let is_expected = sym (ap (option_map (λ rest. rest.now)) c.in-Some.is) ∙ c.self.view_is in
    is_stripped expected c.args.text.now c.strip_prefix-self-inside.result
    (strip_prefix_is Decides-eqb expected c.args.text.now c.strip_prefix-self-inside.result c.strip_prefix-self-inside.ensures.cases)
    ∙ ap (rest_behind c.args.text.now) is_expected
