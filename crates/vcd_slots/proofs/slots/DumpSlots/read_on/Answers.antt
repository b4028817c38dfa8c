use Rattle.std.proofs.Common.{refl, ◌∙◌, arith}
use Rattle.vcd_read.specs.Readers.{bytes_left}
use Rattle.vcd_slots.proofs.SlotLemmas.{came_by, came_none, less_by, next_by}
use Rattle.vcd_slots.proofs.slots.DumpSlots.read_on.Goals as goal

pub items-init : goal.items-init
items-init g c = record {
  is_open = c.requires.is_open;
  sound = c.requires.sound;
  none = c.requires.none;
  time = refl;
  units = refl;
  watched = refl;
  budget = omega arith;
  came = came_none g.R.Read.remaining c.args.self.now.units c.args.self.now.time c.args.self.now.dump c.args.self.now.columns;
}

pub returns-in-Next-clause-takes : goal.returns-in-Next-clause-takes
returns-in-Next-clause-takes g c =
    next_by g.R.Read.remaining c.items.self.units c.args.self.now.dump c.items.self.dump c.next_in.new.dump c.args.self.now.columns c.args.self.now.time
    c.items.self.columns c.take-taken.new.columns c.in_ok-item.field-0 c.in-Some.item c.in-Next.time c.in-Some.is c.in_ok-item.ensures.item
    c.in-Next.ensures.taken.0 c.in-Next.ensures.taken.2 c.items.invariant.came

pub items-preserved : goal.items-preserved
items-preserved g c = record {
  is_open = c.next_in.ensures.is_open;
  sound = c.take-taken.ensures.sound;
  none = c.items.invariant.none;
  time = c.items.invariant.time;
  units = c.items.invariant.units;
  watched = c.take-taken.ensures.watched ∙ c.items.invariant.watched;
  budget = omega (
    arith,
    c.items.invariant.budget,
    less_by c.in_ok-item.field-0 c.in-Some.item (bytes_left c.next_in.new.dump) (bytes_left c.items.self.dump) c.in-Some.is c.in_ok-item.ensures.ends,
  );
  came = came_by g.R.Read.remaining c.items.self.units c.args.self.now.dump c.items.self.dump c.next_in.new.dump c.args.self.now.columns c.args.self.now.time
      c.items.self.time c.items.self.columns c.take-taken.new.columns c.in_ok-item.field-0 c.in-Some.item c.in-Some.is c.in_ok-item.ensures.item
      c.items.invariant.time c.items.invariant.came c.in-Told.ensures.taken;
}
