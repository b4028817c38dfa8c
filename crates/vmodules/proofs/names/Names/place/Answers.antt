use Rattle.std.proofs.Common.{◌∙◌, ap, position}
use Rattle.std.specs.Str.{bytes_eq}
use Rattle.vmodules.specs.Names.{is_declared}
use Rattle.vmodules.proofs.NameLemmas.{any-texts, position-texts}
use Rattle.vmodules.proofs.names.Names.place.Goals as goal

pub returns-clause-place : goal.returns-clause-place
returns-clause-place c =
    c.get_index_of.ensures.index
    ∙ position-texts (bytes_eq c.args.name.now) c.self.inside.set.keys
    ∙ ap (position (bytes_eq c.args.name.now)) c.self.view_is

pub returns-clause-found : goal.returns-clause-found
returns-clause-found c =
    c.get_index_of.ensures.found
    ∙ any-texts (bytes_eq c.args.name.now) c.self.inside.set.keys
    ∙ ap (λ names. is_declared names c.args.name.now) c.self.view_is
