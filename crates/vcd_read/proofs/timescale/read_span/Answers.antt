use Rattle.std.proofs.Common.{◌∷◌, [], ap, sym, ◌∙◌}
use Rattle.vcd_read.specs.Bytes.{left}
use Rattle.vcd_read.specs.Timescale.{count_of, span_of, span_of_parts, unit_of}
use Rattle.vcd_read.proofs.WordLemmas.{more_come}
use Rattle.vcd_read.proofs.timescale.read_span.Goals as goal

pub returns-then-has_unit-clause-span : goal.returns-then-has_unit-clause-span
returns-then-has_unit-clause-span g c = (
  c.in_ok-first.first.items ∷ [],
  c.in_ok-first.ensures.word,
  ((c.in_ok-first.ensures.inner, tt), sym (c.span_of.ensures ∙ ap span_of c.deref-then-has_unit.ensures.value)),
)

pub returns-clause-span : goal.returns-clause-span
returns-clause-span g c = (
  c.in_ok-first.first.items ∷ c.in_ok-second.second.items ∷ [],
  more_come (c.in_ok-first.first.items ∷ []) (c.in_ok-second.second.items ∷ []) (left g.R.Read.remaining c.args.words.now.bytes)
      (left g.R.Read.remaining c.take_inner.new.self.bytes) (left g.R.Read.remaining c.take_inner-2.new.self.bytes)
      c.in_ok-first.ensures.word c.in_ok-second.ensures.word,
  (
    (c.in_ok-first.ensures.inner, (c.in_ok-second.ensures.inner, tt)),
    sym (c.span_of_parts.ensures ∙ (λ i. span_of_parts (count_of (c.deref-2.ensures.value i)) (unit_of (c.deref-3.ensures.value i)))),
  ),
)
