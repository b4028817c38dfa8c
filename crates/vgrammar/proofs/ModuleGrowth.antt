-- With three levels more: modules and whole texts.
use Rattle.std.proofs.Common.{ℕ, suc, not, codes}
use Rattle.basis.proofs.Numbers.{one_within}
use Rattle.vast.specs.Modules.{PortTree}
use Rattle.vexpr_parse.specs.Readers.{Reader, is_front}
use Rattle.vgrammar.specs.Starts.{is_meant}
use Rattle.vgrammar.specs.Statements.{statement}
use Rattle.vgrammar.specs.Modules.{free_value, range_of, range, type_of, type, integer_of, parameter_type_of, parameter_type, setting_of, setting, declared_of, declarator, value_in, connection_of, connection, connections_of, connections, instance_of, instance_behind, overrides, list_and_semicolon, net_of, output_behind, local_of, item_of, item_parts, item, first_parameter_of, head_parameter_of, first_parameter, head_parameter, head_parameters, direction_of, direction, is_direction, port_of, port, named_port_of, named_port, ports_behind, port_list, ports_of, ports, head_list_of, module_of, module_tree, is_some_word, source, net_assignment_of, net_assignment}
use Rattle.vgrammar.proofs.Growth.{up, Growth, past_growth, made_growth, paired_growth, worded_growth, either_growth, maybe_growth, many_growth}
use Rattle.vgrammar.proofs.PartGrowth.{value_growth, only_growth, comma_growth, named_word, target_growth}
use Rattle.vgrammar.proofs.StatementGrowth.{statement_growth}

ended_growth : {A : Type 0} {read more : Reader A} → Growth read more → Growth (list_and_semicolon read) (list_and_semicolon more)
ended_growth g = paired_growth (comma_growth g) (only_growth (codes ";"))

ports_behind_growth : {A : Type 0} {first more : Reader A} {read next : Reader PortTree} → Growth first more → Growth read next →
    Growth (ports_behind first read) (ports_behind more next)
ports_behind_growth f g =
    paired_growth (paired_growth f (many_growth (is_front (codes ",")) (λ list. past_growth (codes ",") g))) (only_growth (codes ")"))

module _ (below : ℕ) where
  abbrev levels : ℕ
  levels = suc below

  free_growth : Growth (free_value levels) (free_value (up levels))
  free_growth = value_growth levels (one_within below)

  body_growth : Growth (statement levels) (statement (up levels))
  body_growth = statement_growth levels

  -- Types, settings and connections

  range_growth : Growth (range levels) (range (up levels))
  range_growth =
      made_growth range_of (past_growth (codes "[") (paired_growth free_growth (past_growth (codes ":")
      (paired_growth free_growth (only_growth (codes "]"))))))

  type_growth : Growth (type levels) (type (up levels))
  type_growth =
      made_growth type_of (paired_growth (maybe_growth (is_front (codes "signed")) (only_growth (codes "signed")))
      (maybe_growth (is_front (codes "[")) range_growth))

  parameter_type_growth : Growth (parameter_type levels) (parameter_type (up levels))
  parameter_type_growth =
      made_growth parameter_type_of (either_growth (is_meant integer_of) (worded_growth integer_of) type_growth)

  setting_growth : Growth (setting levels) (setting (up levels))
  setting_growth = made_growth setting_of (paired_growth named_word (past_growth (codes "=") free_growth))

  net_assignment_growth : Growth (net_assignment levels) (net_assignment (up levels))
  net_assignment_growth = made_growth net_assignment_of (paired_growth (target_growth levels) (past_growth (codes "=") free_growth))

  declared_growth : Growth (declarator levels) (declarator (up levels))
  declared_growth =
      made_growth declared_of (paired_growth named_word
      (maybe_growth (is_front (codes "=")) (past_growth (codes "=") free_growth)))

  value_in_growth : Growth (value_in levels) (value_in (up levels))
  value_in_growth =
      either_growth (is_front (codes ")")) (only_growth (codes ")")) (paired_growth free_growth (only_growth (codes ")")))

  connection_growth : Growth (connection levels) (connection (up levels))
  connection_growth =
      made_growth connection_of (past_growth (codes ".") (paired_growth named_word (past_growth (codes "(") value_in_growth)))

  connections_growth : Growth (connections levels) (connections (up levels))
  connections_growth =
      made_growth connections_of (past_growth (codes "(") (either_growth (is_front (codes "."))
      (paired_growth (comma_growth connection_growth) (only_growth (codes ")")))
      (either_growth (is_front (codes ")")) (only_growth (codes ")"))
      (paired_growth (comma_growth free_growth) (only_growth (codes ")"))))))

  instance_growth : Growth (instance_behind levels) (instance_behind (up levels))
  instance_growth = made_growth instance_of (paired_growth named_word connections_growth)

  overrides_growth : Growth (overrides levels) (overrides (up levels))
  overrides_growth = maybe_growth (is_front (codes "#")) (past_growth (codes "#") connections_growth)

  -- Items

  output_growth : Growth (output_behind levels) (output_behind (up levels))
  output_growth =
      either_growth (is_meant integer_of) (worded_growth integer_of)
      (paired_growth (maybe_growth (is_meant net_of) (worded_growth net_of)) type_growth)

  direction_growth : Growth (direction levels) (direction (up levels))
  direction_growth =
      made_growth direction_of (either_growth (is_front (codes "input"))
      (past_growth (codes "input")
      (paired_growth (maybe_growth (is_front (codes "wire")) (only_growth (codes "wire"))) type_growth))
      (past_growth (codes "output") output_growth))

  item_parts_growth : Growth (item_parts levels) (item_parts (up levels))
  item_parts_growth =
      either_growth (is_meant local_of) (paired_growth (worded_growth local_of)
      (paired_growth parameter_type_growth (ended_growth setting_growth)))
      (either_growth (is_meant net_of) (paired_growth (worded_growth net_of)
      (paired_growth type_growth (ended_growth declared_growth)))
      (either_growth is_direction (paired_growth direction_growth (ended_growth declared_growth))
      (either_growth (is_front (codes "integer")) (past_growth (codes "integer") (ended_growth declared_growth))
      (either_growth (is_front (codes "time")) (past_growth (codes "time") (ended_growth declared_growth))
      (either_growth (is_front (codes "event")) (past_growth (codes "event") (ended_growth named_word))
      (either_growth (is_front (codes "assign")) (past_growth (codes "assign") (ended_growth net_assignment_growth))
      (either_growth (is_front (codes "initial")) (past_growth (codes "initial") body_growth)
      (either_growth (is_front (codes "always")) (past_growth (codes "always") body_growth)
      (paired_growth named_word (paired_growth overrides_growth (ended_growth instance_growth)))))))))))

  item_growth : Growth (item levels) (item (up levels))
  item_growth = made_growth item_of item_parts_growth

  -- Heads

  first_parameter_growth : Growth (first_parameter levels) (first_parameter (up levels))
  first_parameter_growth =
      made_growth first_parameter_of (past_growth (codes "parameter") (paired_growth parameter_type_growth setting_growth))

  head_parameter_growth : Growth (head_parameter levels) (head_parameter (up levels))
  head_parameter_growth =
      made_growth head_parameter_of (paired_growth (maybe_growth (is_front (codes "parameter"))
      (past_growth (codes "parameter") parameter_type_growth)) setting_growth)

  heads_growth : Growth (head_parameters levels) (head_parameters (up levels))
  heads_growth =
      past_growth (codes "(") (paired_growth (paired_growth first_parameter_growth
      (many_growth (is_front (codes ",")) (λ list. past_growth (codes ",") head_parameter_growth))) (only_growth (codes ")")))

  port_growth : Growth (port levels) (port (up levels))
  port_growth = made_growth port_of (paired_growth (maybe_growth is_direction direction_growth) declared_growth)

  named_port_growth : Growth named_port named_port
  named_port_growth = made_growth named_port_of named_word

  port_list_growth : Growth (port_list levels) (port_list (up levels))
  port_list_growth =
      either_growth is_direction
      (ports_behind_growth (paired_growth direction_growth declared_growth) port_growth) (ports_behind_growth named_word named_port_growth)

  ports_growth : Growth (ports levels) (ports (up levels))
  ports_growth =
      made_growth ports_of (past_growth (codes "(") (either_growth (is_front (codes ")")) (only_growth (codes ")")) port_list_growth))

  -- Modules and texts

  module_growth : Growth (module_tree levels) (module_tree (up levels))
  module_growth =
      made_growth module_of (past_growth (codes "module") (paired_growth named_word
      (paired_growth (maybe_growth (is_front (codes "#")) (past_growth (codes "#") (made_growth head_list_of heads_growth)))
      (paired_growth (maybe_growth (is_front (codes "(")) ports_growth)
      (past_growth (codes ";")
      (paired_growth (many_growth (λ next. not (is_front (codes "endmodule") next)) (λ list. item_growth))
      (only_growth (codes "endmodule"))))))))

  pub source_growth : Growth (source levels) (source (up levels))
  unfolding source
  source_growth = many_growth is_some_word (λ list. module_growth)
