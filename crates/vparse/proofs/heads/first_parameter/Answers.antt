use Rattle.vast.specs.Leaves.{parameter_type_leaves, setting_leaves}
use Rattle.vexpr_parse.specs.Answers.{leaves_ahead}
use Rattle.vparse.proofs.PlainWords.{parameter_plain}
use Rattle.vparse.proofs.KeptParts.{kept_two}
use Rattle.vparse.proofs.heads.first_parameter.Goals as goal

pub returns-clause-kept : goal.returns-clause-kept
returns-clause-kept c =
    let left = leaves_ahead c.args.tokens.now in
    kept_two (parameter_type_leaves c.in_ok-kind.kind) (setting_leaves c.in_ok-setting.setting) (left c.args.cursor.now)
    (left c.symbol.new.self) (left c.parameter_type.new.cursor) (left c.setting.new.cursor) (c.in_ok-symbol.ensures.kept parameter_plain)
    c.in_ok-kind.ensures.kept c.in_ok-setting.ensures.kept
