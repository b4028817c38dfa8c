use Rattle.std.proofs.Common.{ap, length, refl, ◌∙◌}
use Rattle.std.proofs.lemmas.Option.{slice_get_read}
use Rattle.race_groups.specs.Inner.{group_head}
use Rattle.race_groups.proofs.AddsLemmas.{told_alike}
use Rattle.race_groups.proofs.CountLemmas.{follow_counts, follow_still, followed_told}
use Rattle.race_groups.proofs.groups.follow.Goals as goal

pub returns-clause-told : goal.returns-clause-told
returns-clause-told c =
    let old = c.index_mut-group.result.now in
    told_alike c.args.groups.now.items c.args.place c.follow.new.self old
    (followed_told c.args.names c.args.name old c.follow.new.self c.follow.result c.follow.ensures.ok c.follow.ensures.err
    ∙ ap group_head c.index_mut-group.ensures.value)

pub returns-clause-still : goal.returns-clause-still
returns-clause-still c =
    let groups = c.args.groups.now.items in
    let old = c.index_mut-group.result.now in
    follow_still c.args.names c.args.name groups c.args.place old c.follow.new.self c.follow.result
    (slice_get_read groups (length groups) c.args.place old refl c.requires c.index_mut-group.ensures.value)
    c.follow.ensures.ok c.follow.ensures.err

pub returns-clause-counts : goal.returns-clause-counts
returns-clause-counts c =
    let groups = c.args.groups.now.items in
    let old = c.index_mut-group.result.now in
    follow_counts c.args.names c.args.name groups c.args.place old c.follow.new.self c.follow.result
    (slice_get_read groups (length groups) c.args.place old refl c.requires c.index_mut-group.ensures.value) c.follow.ensures.ok
