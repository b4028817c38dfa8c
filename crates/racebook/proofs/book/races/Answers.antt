use Rattle.std.proofs.lemmas.Result.{IfOk-weaker}
use Rattle.racebook.specs.Races.{ListsRaces, ListsAllRaces, ListsEveryMark, ListsShortest, GivesFewest, AreValuesInOrder}
use Rattle.racebook.specs.Inner.{AreAllRaces}
use Rattle.racebook.proofs.FoundLemmas.{ends_listed, races_at, races_found, races_fewest, races_order}
use Rattle.racebook.proofs.MarkedLemmas.{races_marked, races_shortest}
use Rattle.racebook.proofs.book.races.Goals as goal

pub returns-clause-found : goal.returns-clause-found
returns-clause-found c =
    let setting = c.args.machine.now in
    let findings = c.args.findings.now in
    let marks = findings.marks.entries in
    let gs = c.in_ok-slot_states.slot_states.items in
    let are = c.in_ok-slot_states.ensures.of in
    let law = c.machine_law.ensures in
    IfOk-weaker c.races_in.result (λ races. AreAllRaces gs races.items) (λ races. ListsRaces setting findings races.items)
    (λ races book. λ limits found. races_found setting limits marks gs races.items (law.same setting) (law.stands setting) (law.runs setting) found are book) c.races_in.ensures

pub returns-clause-all : goal.returns-clause-all
returns-clause-all c =
    let setting = c.args.machine.now in
    let findings = c.args.findings.now in
    let marks = findings.marks.entries in
    let gs = c.in_ok-slot_states.slot_states.items in
    let are = c.in_ok-slot_states.ensures.of in
    let law = c.machine_law.ensures in
    IfOk-weaker c.races_in.result (λ races. AreAllRaces gs races.items) (λ races. ListsAllRaces setting findings races.items)
    (λ races book. λ limits whole. λ time variable value differ shows. races_at setting limits.depart marks gs races.items (law.same setting) (law.stands setting) (c.run_law.ensures.values setting) time
    (ends_listed setting limits.depart marks (law.stands setting) (law.runs_back setting) (law.mark setting) (whole.1 whole.0) time) are book variable value differ shows) c.races_in.ensures

pub returns-clause-fewest : goal.returns-clause-fewest
returns-clause-fewest c =
    let setting = c.args.machine.now in
    let findings = c.args.findings.now in
    let marks = findings.marks.entries in
    let gs = c.in_ok-slot_states.slot_states.items in
    let are = c.in_ok-slot_states.ensures.of in
    let law = c.machine_law.ensures in
    IfOk-weaker c.races_in.result (λ races. AreAllRaces gs races.items) (λ races. GivesFewest setting findings races.items)
    (λ races book. λ limits found whole. races_fewest setting limits marks gs races.items (law.same setting) (law.stands setting) (law.runs setting) (c.run_law.ensures.values setting) found are book
    (λ i race at. ends_listed setting limits.depart marks (law.stands setting) (law.runs_back setting) (law.mark setting) (whole.1 whole.0) race.time)) c.races_in.ensures

pub returns-clause-marked : goal.returns-clause-marked
returns-clause-marked c =
    let setting = c.args.machine.now in
    let findings = c.args.findings.now in
    let gs = c.in_ok-slot_states.slot_states.items in
    IfOk-weaker c.races_in.result (λ races. AreAllRaces gs races.items) (λ races. ListsEveryMark setting findings races.items)
    (λ races book. races_marked setting findings gs c.in_ok-slot_states.ensures.of races.items book) c.races_in.ensures

pub returns-clause-shortest : goal.returns-clause-shortest
returns-clause-shortest c =
    let setting = c.args.machine.now in
    let findings = c.args.findings.now in
    let gs = c.in_ok-slot_states.slot_states.items in
    IfOk-weaker c.races_in.result (λ races. AreAllRaces gs races.items) (λ races. ListsShortest setting findings races.items)
    (λ races book. races_shortest setting findings gs c.in_ok-slot_states.ensures.of races.items book) c.races_in.ensures

pub returns-clause-values : goal.returns-clause-values
returns-clause-values c =
    let gs = c.in_ok-slot_states.slot_states.items in
    IfOk-weaker c.races_in.result (λ races. AreAllRaces gs races.items) (λ races. AreValuesInOrder races.items)
    (λ races book. races_order gs races.items book) c.races_in.ensures
