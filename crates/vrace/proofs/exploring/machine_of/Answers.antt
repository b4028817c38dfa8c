use Rattle.std.proofs.Common.{◌≤◌, ℕ, option_map, ap, subst, sym}
use Rattle.vsrc.specs.Source.{file_bytes}
use Rattle.vsrc.specs.Expansion.{expanded_timescale}
use Rattle.vdesign.specs.Named.{AreNamed}
use Rattle.vmodel.specs.Run.{Setting}
use Rattle.dump_law.specs.Small.{IsSmall}
use Rattle.vrace.specs.Replays.{texts_of}
use Rattle.vrace.proofs.ExploreLemmas.{short_dumps}
use Rattle.vrace.proofs.exploring.machine_of.Goals as goal

pub returns-clause-ok : goal.returns-clause-ok
returns-clause-ok c = record {
  searched = record { are_read = c.in_ok-design.ensures.read; design = c.in_ok-design.design; is_design = c.in_ok-design.ensures.ok };
  setting_is = c.in_ok-machine_in.ensures;
}

pub returns-clause-named : goal.returns-clause-named
returns-clause-named c =
    let known = c.in_ok-design.ensures.ok in
    let top = option_map (λ name. name.now) c.args.options.now.top in
    subst (λ (s : Setting). AreNamed s.design) (sym c.in_ok-machine_in.ensures)
    (c.elaboration_law.ensures.named (texts_of known.is_tree.pieces) known.is_tree.plain known.tree top
    (expanded_timescale (file_bytes c.args.files.now)) c.in_ok-design.design known.is_tree.derived known.is_tree.numbered known.elaborated)

pub returns-clause-short : goal.returns-clause-short
returns-clause-short c =
    let known = c.in_ok-design.ensures.ok in
    let top = option_map (λ name. name.now) c.args.options.now.top in
    let small = c.dumps_are_short.ensures.small known.tree top (expanded_timescale (file_bytes c.args.files.now)) c.in_ok-design.design known.elaborated in
    let until = subst (λ (n : ℕ). n ≤ 4611686018427387903) (sym (ap (λ (s : Setting). s.until) c.in_ok-machine_in.ensures)) c.args.options.now.until_limit in
    short_dumps c.dumps_are_short.ensures.short _ c.args.options.now.limits
    (subst (λ (s : Setting). IsSmall s.design) (sym c.in_ok-machine_in.ensures) small) until
