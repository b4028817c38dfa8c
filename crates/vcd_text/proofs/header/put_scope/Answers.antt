use Rattle.vcd_text.proofs.HeaderLemmas.{scope_put}
use Rattle.vcd_text.proofs.header.put_scope.Goals as goal

pub returns : goal.returns
returns c =
    scope_put c.args.text.now.items c.extend_from_slice.new.self.items c.extend_from_slice-2.new.self.items c.extend_from_slice-3.new.self.items c.push.new.self.items
    c.args.name.now
    c.in_ok-extend_from_slice.ensures.items c.in_ok-extend_from_slice-2.ensures.items c.in_ok-extend_from_slice-3.ensures.items c.in_ok-push.ensures.items
