use Rattle.std.proofs.Common.{length, ◌+◌, ◌*◌}
use Rattle.vvalue.proofs.value.+values.Given as goal

abbrev pub decreases-of_bit : goal.decreases-of_bit
decreases-of_bit l = 2 * length l.nodes.now + 1

abbrev pub decreases-of_bit_of : goal.decreases-of_bit_of
decreases-of_bit_of l = 2 * length l.nodes.now + 1

abbrev pub decreases-of_joined : goal.decreases-of_joined
decreases-of_joined l = 2 * length l.nodes.now + 1

abbrev pub decreases-of_repeated : goal.decreases-of_repeated
decreases-of_repeated l = 2 * length l.nodes.now + 1

abbrev pub decreases-of_unary : goal.decreases-of_unary
decreases-of_unary l = 2 * length l.nodes.now + 1

abbrev pub decreases-of_conversion : goal.decreases-of_conversion
decreases-of_conversion l = 2 * length l.nodes.now + 1

abbrev pub decreases-of_binary : goal.decreases-of_binary
decreases-of_binary l = 2 * length l.nodes.now + 1

abbrev pub decreases-of_conditional : goal.decreases-of_conditional
decreases-of_conditional l = 2 * length l.nodes.now + 1

abbrev pub decreases-value_of : goal.decreases-value_of
decreases-value_of l = 2 * length l.nodes.now
