-- Reserved words of modules, which no tree keeps.
use Rattle.std.proofs.Common.{◌≡◌, false, codes, refl}
use Rattle.vwords.specs.Words.{is_leaf, reserved_words}

pub signed_plain : is_leaf (codes "signed") ≡ false
unfolding reserved_words
signed_plain = refl

pub integer_plain : is_leaf (codes "integer") ≡ false
unfolding reserved_words
integer_plain = refl

pub time_plain : is_leaf (codes "time") ≡ false
unfolding reserved_words
time_plain = refl

pub wire_plain : is_leaf (codes "wire") ≡ false
unfolding reserved_words
wire_plain = refl

pub reg_plain : is_leaf (codes "reg") ≡ false
unfolding reserved_words
reg_plain = refl

pub input_plain : is_leaf (codes "input") ≡ false
unfolding reserved_words
input_plain = refl

pub output_plain : is_leaf (codes "output") ≡ false
unfolding reserved_words
output_plain = refl

pub parameter_plain : is_leaf (codes "parameter") ≡ false
unfolding reserved_words
parameter_plain = refl

pub localparam_plain : is_leaf (codes "localparam") ≡ false
unfolding reserved_words
localparam_plain = refl

pub event_plain : is_leaf (codes "event") ≡ false
unfolding reserved_words
event_plain = refl

pub assign_plain : is_leaf (codes "assign") ≡ false
unfolding reserved_words
assign_plain = refl

pub initial_plain : is_leaf (codes "initial") ≡ false
unfolding reserved_words
initial_plain = refl

pub always_plain : is_leaf (codes "always") ≡ false
unfolding reserved_words
always_plain = refl

pub module_plain : is_leaf (codes "module") ≡ false
unfolding reserved_words
module_plain = refl

pub endmodule_plain : is_leaf (codes "endmodule") ≡ false
unfolding reserved_words
endmodule_plain = refl
