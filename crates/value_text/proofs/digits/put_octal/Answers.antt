use Rattle.std.proofs.Common.{arith, ◌++◌}
use Rattle.value_text.specs.ValueText.{octal}
use Rattle.value_text.proofs.LetterLemmas.{digit_more}
use Rattle.value_text.proofs.digits.put_octal.Goals as goal

pub loop-n-preserved : goal.loop-n-preserved
loop-n-preserved c = (
  omega (arith, c.loop-n.invariant.0),
  digit_more c.args.value.letters 3 c.loop-n.n c.loop-n.text.items c.push.new.self.items (c.args.text.now.items ++ octal c.args.value)
      c.digit_of.result c.group.result.letters (omega arith) c.loop-n.invariant.1 c.group.ensures c.digit_of.ensures c.in_ok-push.ensures.items,
)
