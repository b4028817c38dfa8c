use Rattle.std.proofs.Common.{◌≡◌, length, sym, ◌∙◌}
use Rattle.std.proofs.lemmas.List.{length-map}
use Rattle.vlex.specs.Tokenized.{pieces_of}
use Rattle.vexpr_parse.specs.Texts.{words_of}
use Rattle.action_origins.proofs.PastLemmas.{name_passed}
use Rattle.action_origins.proofs.units.items_left.Goals as goal

pub returns : goal.returns
returns c =
    let words = words_of c.args.tokens.now in
    let all : c.len.result ≡ length words = c.len.ensures.value ∙ sym (length-map (pieces_of c.args.tokens.now) (λ piece. piece.text)) in
    name_passed (length words) c.len.result c.args.unit.now.name.number _ _ c.saturating_sub.result c.saturating_sub-behind_name.result c.past_heads.result c.past_ports.result
    c.saturating_sub-2.result all c.saturating_sub.ensures c.saturating_sub-behind_name.ensures (c.past_heads.ensures words) (c.past_ports.ensures words) c.saturating_sub-2.ensures
