use Rattle.std.proofs.Common.{arith, ap, ◌∙◌, ◌++◌}
use Rattle.value_text.specs.ValueText.{known_number, short_letters}
use Rattle.value_text.proofs.KnownLemmas.{letter_more}
use Rattle.value_text.proofs.letters.put_short_letters.Goals as goal

pub loop-n-preserved : goal.loop-n-preserved
loop-n-preserved c = (
  omega (arith, c.loop-n.invariant.0),
  letter_more c.args.value.letters c.loop-n.n c.loop-n.text.items c.put_letter.new.text.items (c.args.text.now.items ++ short_letters c.args.value)
      c.loop-n.is_behind c.has_shown-is_behind.result c.known_number-byte.result (omega arith) c.loop-n.invariant.1
      (c.known_number-byte.ensures ∙ ap known_number c.group.ensures) c.in_ok-put_letter.ensures c.has_shown-is_behind.ensures,
)
