use Rattle.std.proofs.Common.{vec_len}
use Rattle.shardbook.proofs.audit.+lengths.Given as goal

abbrev pub decreases-lengths : goal.decreases-lengths
decreases-lengths g l = vec_len l.shards.now
