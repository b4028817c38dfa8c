use Rattle.vrace.proofs.machine.machine_of_files.Goals as goal

pub returns-clause-searched : goal.returns-clause-searched
returns-clause-searched c = record {
  searched = record { are_read = c.in_ok-placed.ensures.read; design = c.in_ok-placed.placed.design; is_design = c.in_ok-placed.ensures.ok };
  setting_is = c.in_ok-machine.ensures;
}

pub returns-clause-placed : goal.returns-clause-placed
returns-clause-placed c = c.in_ok-placed.ensures.placed

pub returns-clause-timed : goal.returns-clause-timed
returns-clause-timed c = c.in_ok-placed.ensures.timed
