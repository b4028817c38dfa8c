use Rattle.std.proofs.Common.{length, refl, sym, ◌∙◌}
use Rattle.std.proofs.lemmas.Option.{slice_get_read}
use Rattle.vcd_read.proofs.codes.is_code_at.Goals as goal

pub returns : goal.returns
returns c true_is = record {
  place = c.args.place;
  variable = c.in-Some.variable.now;
  stands = slice_get_read c.args.variables.now (length c.args.variables.now) c.args.place c.in-Some.variable.now refl c.in-Some.ensures.lookup.3.0 c.in-Some.ensures.lookup.1;
  same = sym c.deref.ensures.value ∙ c.is_same.ensures.same true_is;
}
