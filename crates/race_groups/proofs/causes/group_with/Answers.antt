use Rattle.std.proofs.Common.{ℕ, Option, ap, length, refl, subst, sym, ◌∙◌}
use Rattle.std.proofs.lemmas.Option.{slice_get_read}
use Rattle.race_groups.specs.Blame.{AreSameTwo, blamed_by}
use Rattle.race_groups.specs.declared.group.Group.{Group}
use Rattle.race_groups.proofs.causes.group_with.Goals as goal

pub returns-then-are_same_two : goal.returns-then-are_same_two
returns-then-are_same_two c =
    let groups = c.args.groups.now in
    record {
      group = c.index-groups-place.result;
      at = slice_get_read groups (length groups) c.loop-place.place c.index-groups-place.result refl c.loop-place-test.true
          c.index-groups-place.is;
      same = subst (λ (pair : Option (ℕ × ℕ)). AreSameTwo pair c.args.pair)
          (c.blamed_by.ensures ∙ ap (λ (g : Group). blamed_by g.cause) (sym c.index-groups-place.is))
          (c.are_same_two.ensures.0 c.if-are_same_two.true);
    }
