use Rattle.std.proofs.Common.{length, ◌+◌, ◌*◌}
use Rattle.expression_code.proofs.compile.+compiles.Given as goal

abbrev pub decreases-compile_bit : goal.decreases-compile_bit
decreases-compile_bit l = 3 * length l.nodes.now + 2

abbrev pub decreases-compile_bit_of : goal.decreases-compile_bit_of
decreases-compile_bit_of l = 3 * length l.nodes.now + 2

abbrev pub decreases-compile_conversion : goal.decreases-compile_conversion
decreases-compile_conversion l = 3 * length l.nodes.now + 2

abbrev pub decreases-compile_unary : goal.decreases-compile_unary
decreases-compile_unary l = 3 * length l.nodes.now + 2

abbrev pub decreases-compile_right : goal.decreases-compile_right
decreases-compile_right l = 3 * length l.nodes.now + 1

abbrev pub decreases-compile_binary : goal.decreases-compile_binary
decreases-compile_binary l = 3 * length l.nodes.now + 2

abbrev pub decreases-compile_conditional : goal.decreases-compile_conditional
decreases-compile_conditional l = 3 * length l.nodes.now + 2

abbrev pub decreases-compile_joined : goal.decreases-compile_joined
decreases-compile_joined l = 3 * length l.nodes.now + 2

abbrev pub decreases-compile_repeated : goal.decreases-compile_repeated
decreases-compile_repeated l = 3 * length l.nodes.now + 2

abbrev pub decreases-compile_nodes : goal.decreases-compile_nodes
decreases-compile_nodes l = 3 * length l.nodes.now
