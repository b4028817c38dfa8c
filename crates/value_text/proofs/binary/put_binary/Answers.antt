use Rattle.std.proofs.Common.{map, reverse, arith}
use Rattle.value_text.specs.ValueText.{binary_digit}
use Rattle.value_text.proofs.BinaryLemmas.{binary_more}
use Rattle.value_text.proofs.binary.put_binary.Goals as goal

pub loop-i-preserved : goal.loop-i-preserved
loop-i-preserved c = (
  omega arith,
  binary_more c.args.value.letters c.loop-i.i c.bit.result c.digit.result c.args.text.now.items c.loop-i.text.items c.push.new.self.items
      (map binary_digit (reverse c.args.value.letters)) (omega arith) c.bit.ensures c.digit.ensures c.in_ok-push.ensures.items c.loop-i.invariant.1,
)
