use Rattle.std.proofs.Common.{◌≡◌, replicate}
use Rattle.vcode.specs.Code.{no_link}
use Rattle.vcompile.proofs.links.no_links.Given as goal

abbrev pub invariant-loop : goal.invariant-loop
invariant-loop l = l.links.items ≡ replicate l.counter no_link
