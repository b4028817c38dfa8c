use Rattle.std.proofs.Common.{◌≡◌, ◌++◌, map, drop}
use Rattle.vsrc.proofs.output.push_same.Given as goal

abbrev pub invariant-loop-byte : goal.invariant-loop-byte
invariant-loop-byte l = l.origins.items ++ map (λ byte. l.at) (drop l._byte-index l.bytes) ≡ l.fn.origins.items ++ map (λ byte. l.at) l.bytes
