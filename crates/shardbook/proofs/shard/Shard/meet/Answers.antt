use Rattle.std.proofs.Common.{ap, ◌∙◌, subst, List}
use Rattle.shardbook.specs.Inserts.{HasNone}
use Rattle.shardbook.specs.StoredEntries.{StoredEntry, entries_of}
use Rattle.shardbook.proofs.ShardLemmas.{shard_grows}
use Rattle.shardbook.proofs.shard.Shard.meet.Goals as goal

pub invariant_of-self-2 : goal.invariant_of-self-2
invariant_of-self-2 g c =
    let P : List (StoredEntry g.row.S.Denot) → Type 0 = λ tokens. HasNone g.S.PartialEq.eq (entries_of tokens) c.args.entry in
    shard_grows g.S.PartialEq.eq g.S.Hash.hash_input c.self.inside.tokens.items c.make_room.new.tokens.items c.push_reserved.new.self.items
    c.self.inside.chains.codes c.make_room.new.chains.codes c.push_reserved-2.new.self.codes _ _ _ _ c.args.entry c.again-2.result c.args.code
    c.self.invariant (subst P c.deref.ensures.value c.in_default.ensures.none)
    (ap (λ (s : StoredEntry g.row.S.Denot). s.entry) c.again-2.ensures ∙ c.in_ok-seen.ensures.ok)
    c.requires.code c.push_reserved.ensures.items c.make_room.ensures.tokens c.push_reserved-2.ensures c.make_room.ensures.codes
    c.spend.ensures.parts c.spend.ensures.amount
