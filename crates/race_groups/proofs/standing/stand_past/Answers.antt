use Rattle.std.proofs.Common.{◌≡◌, ap, rules, ◌∙◌}
use Rattle.std.proofs.lemmas.Fn.{filter_same}
use Rattle.race_groups.specs.Standing.{standing_past}
use Rattle.race_groups.proofs.standing.stand_past.Goals as goal

pub returns-clause-ok : goal.returns-clause-ok
returns-clause-ok c =
    let kept : c.retain.new.self.items ≡ standing_past c.args.time c.append.new.self.items =
    filter_same _ _ _ (λ x b f' k. search rules) _ _ c.retain.ensures.filtered in
    kept ∙ ap (standing_past c.args.time) c.in_ok-append.ensures.items
