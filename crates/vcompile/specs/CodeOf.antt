-- *internal*: The code of a design.
use Rattle.std.specs.Prelude.{nat_le, false, if◌then◌else◌, [], List, length}
use Rattle.vcode.specs.Code.{Code}
use Rattle.vcode.specs.declared.link.Link.{Link}
use Rattle.vdesign.specs.Design.{Design}
use Rattle.vcompile.specs.Links.{links_of, begins_by, counters_from}
use Rattle.vcompile.specs.Listening.{Lists, lists_of, events_in}
use Rattle.vcompile.specs.Operands.{operands_of}
use Rattle.vcompile.specs.Whole.{is_whole}

-- of a design that has too many places
abbrev pub no_code : Code
no_code = record { links = []; counters = []; operands = []; begins = []; by_variable = []; by_event = []; whole = false }

abbrev pub code_with : Design → List Link → Lists → Code
code_with design links lists = record {
  links = links;
  counters = counters_from 0 design.actions;
  operands = operands_of design.variables design.actions;
  begins = begins_by design.processes;
  by_variable = lists.by_variable;
  by_event = lists.by_event;
  whole = is_whole design links (events_in design.actions);
}

abbrev pub code_by : Design → List Link → Code
code_by design links = code_with design links (lists_of design links)

-- 4,294,967,295 places at most
unfoldable pub code_of : Design → Code
code_of design = if nat_le (length design.actions) 4294967295 then code_by design (links_of design) else no_code
