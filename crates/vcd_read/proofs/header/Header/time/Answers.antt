use Rattle.std.proofs.Common.{◌∷◌, ◌++◌, [], Some, refl, sym, ◌∙◌}
use Rattle.vcd_read.specs.Bytes.{left}
use Rattle.vcd_read.specs.Declarations.{end_word}
use Rattle.vcd_read.specs.declared.header.Header.{Header}
use Rattle.vcd_read.proofs.WordLemmas.{more_come}
use Rattle.vcd_read.proofs.HeaderLemmas.{lead_unit, none_is}
use Rattle.vcd_read.proofs.header.Header.time.Goals as goal

pub returns-clause-lead : goal.returns-clause-lead
returns-clause-lead g c =
    let (list, come, both) = c.in_ok-unit.ensures.span in
    let old = c.args.self.now in
    let new : Header = record { prefix = old.prefix; outer = old.outer; unit = Some c.in-Some.unit; variables = old.variables } in (
      list ++ end_word ∷ [],
      more_come list (end_word ∷ []) (left g.R.Read.remaining c.args.words.now.bytes) (left g.R.Read.remaining c.read_span.new.words.bytes)
          (left g.R.Read.remaining c.expect.new.self.bytes) come c.in_ok-expect.ensures.word,
      lead_unit old new list c.in-Some.unit both.0 (both.1 ∙ c.in-Some.is) (none_is old.unit (sym c.is_some.ensures ∙ c.if-is_some.false)) refl refl refl refl,
    )
