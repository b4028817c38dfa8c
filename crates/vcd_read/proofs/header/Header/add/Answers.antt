use Rattle.std.proofs.Common.{List, ◌∷◌, ◌++◌, [], ap, ◌∙◌}
use Rattle.std.proofs.lemmas.List.{map-append}
use Rattle.vcd_read.specs.Declarations.{Variable}
use Rattle.vcd_read.specs.Declaring.{all_seen, view_of}
use Rattle.vcd_read.specs.declared.header.VcdVariable.{VcdVariable}
use Rattle.vcd_read.proofs.header.Header.add.Goals as goal

pub returns-clause-variables : goal.returns-clause-variables
returns-clause-variables c =
    ap (λ (list : List VcdVariable). all_seen list) c.in_ok-push.ensures.items
    ∙ map-append view_of c.args.self.now.variables.items (c.in_ok-variable.variable ∷ [])
    ∙ ap (λ (v : Variable). all_seen c.args.self.now.variables.items ++ v ∷ []) c.in_ok-variable.ensures
