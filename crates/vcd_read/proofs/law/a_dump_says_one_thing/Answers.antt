use Rattle.std.proofs.Common.{[], None}
use Rattle.vcd_read.proofs.OneDeclaring.{declare_one}
use Rattle.vcd_read.proofs.OneTelling.{tell_one}
use Rattle.vcd_read.proofs.law.a_dump_says_one_thing.Goals as goal

pub returns-clause-declares : goal.returns-clause-declares
returns-clause-declares c these those x y u v a b = declare_one None [] [] these those x y u v a b

pub returns-clause-tells : goal.returns-clause-tells
returns-clause-tells c = tell_one
