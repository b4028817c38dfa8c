use Rattle.std.proofs.Common.{ap, not, ◌∙◌}
use Rattle.std.specs.Str.{bytes_eq}
use Rattle.vmodules.specs.Names.{is_declared}
use Rattle.vmodules.proofs.NameLemmas.{any-texts, no_double-inserted}
use Rattle.vmodules.proofs.names.Names.add.Goals as goal

pub returns-clause-new : goal.returns-clause-new
returns-clause-new c =
    c.in_ok-added.ensures.added
    ∙ ap not (any-texts (bytes_eq c.args.text.now) c.self.inside.set.keys
    ∙ ap (λ names. is_declared names c.args.text.now) c.self.view_is)

pub invariant_of-self-2 : goal.invariant_of-self-2
invariant_of-self-2 c =
    no_double-inserted c.self.inside.set.keys c.insert.new.self.keys c.args.text c.self.invariant c.in_ok-added.ensures.keys

pub returns-clause-unique : goal.returns-clause-unique
returns-clause-unique c =
    no_double-inserted c.self.inside.set.keys c.insert.new.self.keys c.args.text c.self.invariant c.in_ok-added.ensures.keys
