use Rattle.std.proofs.Common.{rules, ◌≡◌, ℕ, List, Option, Some, Result, Ok, Err, sym, subst, ◌∙◌}
use Rattle.std.specs.Prelude.{IfOk, IfSome}
use Rattle.basis.specs.Reasons.{Because, IfFault}
use Rattle.basis.specs.declared.memory.OrMemory.{OrMemory}
use Rattle.byte_sinks.specs.declared.fault.TooMany.{TooMany}
use Rattle.vmodel.specs.Run.{Setting}
use Rattle.vreport.specs.Dumps.{IsHeldDump}
use Rattle.vreport.specs.Ends.{HasLongDump}
use Rattle.vreport.specs.Inner.{CountsDump}
use Rattle.vreport.specs.declared.dump.DumpFront.{DumpFront}
use Rattle.vreport.specs.declared.dump.HeldDump.{HeldDump}
use Rattle.vreport.specs.declared.dump.HeldDump.TheVariants.{Front}
use Rattle.vreport.proofs.ends.measure_dump.Goals as goal
use Rattle.vreport.proofs.ends.measure_dump.Goals.{in-Ok-Some-Front, in-Ok-None, in-Err}

module _ (setting : Setting) (log : List (ℕ × ℕ)) (steps : ℕ) where
  -- the front that is held is of this log
  log_of_front : (held : Option HeldDump) (one : HeldDump) (front : DumpFront) → held ≡ Some one → one ≡ Front front →
      IfSome held (IsHeldDump setting log steps) → front.run.log.now ≡ log
  log_of_front held one front some is h =
      (subst (λ (d : HeldDump). IsHeldDump setting log steps d) is (subst (λ (o : Option HeldDump). IfSome o (IsHeldDump setting log steps)) some h)).log_is

  counted_front : (told counted : Result ℕ (OrMemory TooMany)) (bytes : ℕ) (front : List (ℕ × ℕ)) → front ≡ log → told ≡ counted → told ≡ Ok bytes →
      IfOk counted (CountsDump setting front steps) → CountsDump setting log steps bytes
  counted_front told counted bytes front log_is is ok h =
      subst (λ (l : List (ℕ × ℕ)). CountsDump setting l steps bytes) log_is (subst (λ (r : Result ℕ (OrMemory TooMany)). IfOk r (CountsDump setting front steps)) (sym is ∙ ok) h)

  long_front : (told counted : Result ℕ (OrMemory TooMany)) (fault : OrMemory TooMany) (front : List (ℕ × ℕ)) → front ≡ log → told ≡ counted → told ≡ Err fault →
      IfFault counted (λ _. HasLongDump setting front steps) → Because (λ _. HasLongDump setting log steps) fault
  long_front told counted fault front log_is is err h =
      subst (λ (l : List (ℕ × ℕ)). Because (λ _. HasLongDump setting l steps) fault) log_is
      (subst (λ (r : Result ℕ (OrMemory TooMany)). IfFault r (λ _. HasLongDump setting front steps)) (sym is ∙ err) h)

pub returns-in-Ok-clause-ok : goal.returns-in-Ok-clause-ok
returns-in-Ok-clause-ok c = elim c.match-hold_dump.branch [
  | in-Ok-Some-Front w ↦
      counted_front c.args.machine.now c.args.log.now c.args.steps c.match-hold_dump.counted w.dump_len_on-counted.result c.in-Ok.bytes w.in-Ok-Some-Front.front.run.log.now
      (log_of_front c.args.machine.now c.args.log.now c.args.steps w.in-Ok-Some-Front.field-0 w.in-Ok-Some-Front.field-0-0 w.in-Ok-Some-Front.front w.in-Ok-Some-Front.field-0-is w.in-Ok-Some-Front.field-0-0-is w.in-Ok-Some-Front.ensures.held)
      w.counted-is c.in-Ok.is w.dump_len_on-counted.ensures.ok
  | in-Ok-None w ↦ search rules
  | in-Err w ↦ search rules
]

pub returns-in-Err-counted-clause-long : goal.returns-in-Err-counted-clause-long
returns-in-Err-counted-clause-long c = elim c.match-hold_dump.branch [
  | in-Ok-Some-Front w ↦
      long_front c.args.machine.now c.args.log.now c.args.steps c.match-hold_dump.counted w.dump_len_on-counted.result c.in-Err-counted.fault w.in-Ok-Some-Front.front.run.log.now
      (log_of_front c.args.machine.now c.args.log.now c.args.steps w.in-Ok-Some-Front.field-0 w.in-Ok-Some-Front.field-0-0 w.in-Ok-Some-Front.front w.in-Ok-Some-Front.field-0-is w.in-Ok-Some-Front.field-0-0-is w.in-Ok-Some-Front.ensures.held)
      w.counted-is c.in-Err-counted.is w.dump_len_on-counted.ensures.long
  | in-Ok-None w ↦ search rules
  | in-Err w ↦ search rules
]
