-- *internal*: Words for the contracts of parts within.
use Rattle.std.specs.Prelude.{Bool, false, List, [], ◌∷◌, ◌++◌, Option, Some, None}
use Rattle.footprints.specs.Visits.{same_visit}
use Rattle.vdesign.specs.declared.expression.Node.{Node}
use Rattle.vdesign.specs.declared.expression.Node.TheVariants as node
use Rattle.footprints.specs.declared.thing.Thing.{Thing}
use Rattle.footprints.specs.declared.thing.Thing.TheVariants.{Variable}
use Rattle.footprints.specs.declared.visit.Visit.{Visit}

-- a visit of another run, if it is one, is the same
abbrev pub is_same_as : Visit → Option Visit → Bool
is_same_as v None = false
is_same_as v (Some w) = same_visit v w

-- what a node of an expression names by itself
abbrev pub named_by : Node → List Thing
named_by (node.Variable n) = Variable n ∷ []
named_by (node.Bit n) = Variable n ∷ []
named_by (node.Part n bounds) = Variable n ∷ []
named_by (node.Constant c) = []
named_by (node.BitOf value bounds) = []
named_by node.Time = []
named_by (node.Conversion signed) = []
named_by (node.Unary operator) = []
named_by (node.Binary operator) = []
named_by node.Conditional = []
named_by node.Joined = []
named_by (node.Repeated count) = []

abbrev pub named_by_all : List Node → List Thing
named_by_all [] = []
named_by_all (node ∷ nodes) = named_by node ++ named_by_all nodes
