use Rattle.std.proofs.Common.{◌≡◌, ◌<◌, ℕ, List, length, get_or, vec_len, ap, sym, ◌∙◌, arith, rules}
use Rattle.std.proofs.lemmas.Grind.{get_or_default_zero}
use Rattle.std.proofs.lemmas.List.{get_or-map}
use Rattle.vsrc.specs.Source.{Source, place_by, place_of}
use Rattle.vsrc.specs.declared.expanded.Place.{Place}
use Rattle.vsrc.proofs.expanded.Expanded.place.Goals as goal

pub returns-then-at-len : goal.returns-then-at-len
returns-then-at-len c =
    let origins : List ℕ = c.self.inside.origins.items in
    let place : ℕ → Place = place_by c.self.inside.lines.borders c.self.inside.lines.feeds in
    let len : vec_len c.self.inside.origins ≡ length origins = search rules in
    let within : c.args.at < length origins = omega arith in
    let read : c.index.result.now ≡ get_or origins c.args.at 0 = c.index.ensures ∙ get_or_default_zero origins c.args.at c.index.result.now within in
    c.place.ensures ∙ ap place read ∙ sym (get_or-map place origins c.args.at 0 (place c.self.inside.end) within)
    ∙ ap (λ (s : Source). place_of s c.args.at) c.self.view_is
