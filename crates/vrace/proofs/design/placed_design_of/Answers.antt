use Rattle.std.proofs.Common.{option_map}
use Rattle.vsrc.specs.Source.{file_bytes}
use Rattle.vrace.proofs.DesignLemmas.{err_of_text, placed_in_files, timed_in_files}
use Rattle.vrace.proofs.design.placed_design_of.Goals as goal

pub returns-clause-err : goal.returns-clause-err
returns-clause-err c =
    err_of_text c.design_of_text.result (file_bytes c.args.files.now) c.in_ok-text.text (option_map (λ name. name.now) c.args.top)
    c.in_ok-text.ensures.read c.in_ok-text.ensures.ok c.design_of_text.ensures.err

pub returns-clause-placed : goal.returns-clause-placed
returns-clause-placed c =
    placed_in_files c.design_of_text.result (file_bytes c.args.files.now) c.in_ok-text.text (option_map (λ name. name.now) c.args.top)
    c.in_ok-text.ensures.ok c.design_of_text.ensures.placed

pub returns-clause-timed : goal.returns-clause-timed
returns-clause-timed c =
    timed_in_files c.design_of_text.result (file_bytes c.args.files.now) c.in_ok-text.text c.in_ok-text.ensures.ok c.design_of_text.ensures.timed
