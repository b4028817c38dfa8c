use Rattle.report_text.proofs.NameLemmas.{put_last, among_shown}
use Rattle.report_text.proofs.names.Names.add.Goals as goal

pub returns-clause-new : goal.returns-clause-new
returns-clause-new c = among_shown c.self.inside.set.keys c.args.self.now c.args.name.now c.in_ok-insert.field-0 c.self.view_is c.in_ok-insert.ensures.added

pub returns-clause-put : goal.returns-clause-put
returns-clause-put c = λ yes. put_last c.self.inside.set.keys c.insert.new.self.keys c.args.name c.args.self.now c.in_ok-insert.field-0 c.self.view_is c.in_ok-insert.ensures.added yes c.in_ok-insert.ensures.keys
