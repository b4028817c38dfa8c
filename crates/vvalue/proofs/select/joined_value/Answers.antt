use Rattle.std.proofs.Common.{ℕ, ◌-◌, min, ap, ◌∙◌}
use Rattle.vvalue.proofs.SelectLemmas.{joined_full, joined_cut, joined_fits}
use Rattle.vvalue.proofs.select.joined_value.Goals as goal

pub returns-then-room-eq0 : goal.returns-then-room-eq0
returns-then-room-eq0 c =
    joined_full c.args.left c.args.right c.with_sign.result c.len-room.result c.len-room.ensures.letters c.len-room.ensures.few
    c.if-room-eq0.true c.with_sign.ensures

pub concat-requires : goal.concat-requires
concat-requires c =
    joined_fits c.args.left c.args.right c.resize.result c.len-room.result c.min.result c.len-room.ensures.letters c.len-room.ensures.few
    (c.min.ensures ∙ ap (λ (n : ℕ). min n (64 - c.len-room.result)) c.len.ensures.letters) c.resize.ensures

pub returns : goal.returns
returns c =
    joined_cut c.args.left c.args.right c.resize.result c.concat.result c.len-room.result c.min.result c.len-room.ensures.letters
    c.len-room.ensures.few (c.min.ensures ∙ ap (λ (n : ℕ). min n (64 - c.len-room.result)) c.len.ensures.letters) c.resize.ensures c.concat.ensures
