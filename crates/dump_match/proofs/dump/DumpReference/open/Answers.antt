use Rattle.std.proofs.Common.{Bool, false, List, length, replicate, Option, ap, sym, subst, ◌∙◌}
use Rattle.std.proofs.lemmas.List.{length-replicate}
use Rattle.basis.specs.declared.timescale.Span.{Span}
use Rattle.basis.specs.declared.timescale.Timescale.{Timescale}
use Rattle.vdesign.specs.Design.{Design}
use Rattle.vcd_slots.specs.Units.{units_of}
use Rattle.dump_match.specs.Opening.{told_unit}
use Rattle.dump_match.specs.Scopes.{is_wrapped}
use Rattle.dump_match.specs.Known.{AreMarked, has_value_in}
use Rattle.dump_match.specs.declared.comparison.Pair.{Pair}
use Rattle.dump_match.proofs.NamedLemmas.{named_at}
use Rattle.dump_match.proofs.ComparedLemmas.{all_at}
use Rattle.dump_match.proofs.dump.DumpReference.open.Goals as goal

pub returns-clause-opens : goal.returns-clause-opens
returns-clause-opens g c = record {
  dump = c.in_ok-dump.dump;
  words = c.in_ok-dump.ensures.declared.0;
  come = c.in_ok-dump.ensures.declared.1;
  declares = c.in_ok-dump.ensures.declared.2;
  outside = c.in_ok-dump.ensures.outside;
  begun = c.in_ok-slots.slots;
  read = c.in_ok-slots.ensures.reads;
  opens = c.in_ok-slots-2.ensures.goes;
  units = c.in_ok-slots.ensures.units
      ∙ ap (λ (u : Option Span). units_of u c.behind-machine.inside.scale.precision)
      (c.told_unit-unit.ensures ∙ ap (told_unit c.args.timed) c.unit.ensures)
      ∙ ap (λ (s : Timescale). units_of (told_unit c.args.timed c.in_ok-dump.dump.unit) s.precision)
      (ap (λ (d : Design). d.scale) (c.behind-machine.view_is ∙ c.design-2.ensures));
  named = named_at (is_wrapped c.design.result.now.top c.variables.result.now)
      (is_wrapped c.args.machine.now.design.top c.in_ok-dump.dump.variables.items) c.design.result.now.variables c.args.machine.now.design.variables
      c.variables.result.now c.in_ok-dump.dump.variables.items c.new.new.columns.watched.items c.in_ok-slots-2.slots.columns.watched.items
      c.in_ok-comparison.comparison.pairs.items (λ i. is_wrapped (c.design.ensures i).top (c.variables.ensures i))
      (ap (λ (d : Design). d.variables) c.design.ensures) c.variables.ensures
      (cc (c.in_ok-slots-2.ensures.watched, c.in_ok-slots.ensures.watched)) c.in_ok-comparison.ensures.named;
  all = all_at (is_wrapped c.design.result.now.top c.variables.result.now)
      (is_wrapped c.args.machine.now.design.top c.in_ok-dump.dump.variables.items) c.design.result.now.variables c.args.machine.now.design.variables
      c.variables.result.now c.in_ok-dump.dump.variables.items
      c.in_ok-comparison.comparison.pairs.items (λ i. is_wrapped (c.design.ensures i).top (c.variables.ensures i))
      (ap (λ (d : Design). d.variables) c.design.ensures) c.variables.ensures c.in_ok-comparison.ensures.all;
  len = c.mark_known.ensures.same ∙ ap length c.in_ok-known.ensures ∙ length-replicate (length c.deref.result.now) false ∙ ap length c.deref.ensures.value;
  marked = subst (λ (pairs : List Pair). AreMarked (replicate (length pairs) false) c.mark_known.new.known.items (has_value_in pairs c.in_ok-slots-2.slots))
      c.deref-2.ensures.value
      (subst (λ (before : List Bool). AreMarked before c.mark_known.new.known.items (has_value_in c.deref-2.result.now c.in_ok-slots-2.slots))
      (c.in_ok-known.ensures ∙ ap (λ (pairs : List Pair). replicate (length pairs) false) (c.deref.ensures.value ∙ sym c.deref-2.ensures.value))
      c.mark_known.ensures.marked);
}
