use Rattle.std.proofs.Common.{◌≡◌, ◌+◌, ◌^◌, vec_len}
use Rattle.shardbook.proofs.book.new_shards.Given as goal

abbrev pub invariant-loop : goal.invariant-loop
invariant-loop g l = (l.share.parts + l.counter ≡ 2 ^ 62 + l.count) × (l.share.amount ≡ l.fn.share.amount) × (vec_len l.shards ≡ l.counter)
