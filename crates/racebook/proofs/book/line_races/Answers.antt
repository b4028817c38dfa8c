use Rattle.std.proofs.Common.{List, sym, subst}
use Rattle.std.proofs.lemmas.Result.{IfOk-weaker}
use Rattle.racebook.specs.declared.slot_state.SlotState.{SlotState}
use Rattle.racebook.specs.LineRaces.{AreAllSidesInOrder, AreLineRacesInOrder, GivesFewestOfLines, ListsAllLineRaces, ListsEveryMarkOfLines, ListsLineRaces, ListsNoLineRace, ListsShortestOfLines}
use Rattle.racebook.specs.Inner.{AreAllLineRaces, AreSlotStatesOf}
use Rattle.racebook.proofs.FoundLemmas.{ends_listed, lines_at, lines_found, lines_fewest, lines_order, sides_order}
use Rattle.racebook.proofs.LookedLemmas.{no_line_races}
use Rattle.racebook.proofs.MarkedLemmas.{lines_marked, lines_shortest}
use Rattle.racebook.proofs.book.line_races.Goals as goal

pub returns-clause-found : goal.returns-clause-found
returns-clause-found c =
    let setting = c.args.machine.now in
    let findings = c.args.findings.now in
    let marks = findings.marks.entries in
    let gs = c.deref.result.now in
    let are : AreSlotStatesOf setting findings gs = subst (λ (xs : List SlotState). AreSlotStatesOf setting findings xs) (sym c.deref.ensures.value) c.in_ok-slot_states.ensures.of in
    let law = c.machine_law.ensures in
    IfOk-weaker c.line_races_in.result (λ races. AreAllLineRaces gs races.items) (λ races. ListsLineRaces setting findings races.items)
    (λ races book. λ limits found. lines_found setting limits marks gs races.items (law.same setting) (law.stands setting) (law.runs setting) found are book) c.line_races_in.ensures

pub returns-clause-all : goal.returns-clause-all
returns-clause-all c =
    let setting = c.args.machine.now in
    let findings = c.args.findings.now in
    let marks = findings.marks.entries in
    let gs = c.deref.result.now in
    let are : AreSlotStatesOf setting findings gs = subst (λ (xs : List SlotState). AreSlotStatesOf setting findings xs) (sym c.deref.ensures.value) c.in_ok-slot_states.ensures.of in
    let law = c.machine_law.ensures in
    IfOk-weaker c.line_races_in.result (λ races. AreAllLineRaces gs races.items) (λ races. ListsAllLineRaces setting findings races.items)
    (λ races book. λ limits whole. λ time lines differ prints. lines_at setting limits.depart marks gs races.items (law.same setting) (law.stands setting) (c.run_law.ensures.values setting) time
    (ends_listed setting limits.depart marks (law.stands setting) (law.runs_back setting) (law.mark setting) (whole.1 whole.0) time) are book lines differ prints) c.line_races_in.ensures

pub returns-clause-fewest : goal.returns-clause-fewest
returns-clause-fewest c =
    let setting = c.args.machine.now in
    let findings = c.args.findings.now in
    let marks = findings.marks.entries in
    let gs = c.deref.result.now in
    let are : AreSlotStatesOf setting findings gs = subst (λ (xs : List SlotState). AreSlotStatesOf setting findings xs) (sym c.deref.ensures.value) c.in_ok-slot_states.ensures.of in
    let law = c.machine_law.ensures in
    IfOk-weaker c.line_races_in.result (λ races. AreAllLineRaces gs races.items) (λ races. GivesFewestOfLines setting findings races.items)
    (λ races book. λ limits found whole. lines_fewest setting limits marks gs races.items (law.same setting) (law.stands setting) (law.runs setting) (c.run_law.ensures.values setting) found are book
    (λ i race at. ends_listed setting limits.depart marks (law.stands setting) (law.runs_back setting) (law.mark setting) (whole.1 whole.0) race.time)) c.line_races_in.ensures

pub returns-clause-marked : goal.returns-clause-marked
returns-clause-marked c =
    let setting = c.args.machine.now in
    let findings = c.args.findings.now in
    let gs = c.deref.result.now in
    let are : AreSlotStatesOf setting findings gs = subst (λ (xs : List SlotState). AreSlotStatesOf setting findings xs) (sym c.deref.ensures.value) c.in_ok-slot_states.ensures.of in
    IfOk-weaker c.line_races_in.result (λ races. AreAllLineRaces gs races.items) (λ races. ListsEveryMarkOfLines setting findings races.items)
    (λ races book. lines_marked setting findings gs are races.items book) c.line_races_in.ensures

pub returns-clause-shortest : goal.returns-clause-shortest
returns-clause-shortest c =
    let setting = c.args.machine.now in
    let findings = c.args.findings.now in
    let gs = c.deref.result.now in
    let are : AreSlotStatesOf setting findings gs = subst (λ (xs : List SlotState). AreSlotStatesOf setting findings xs) (sym c.deref.ensures.value) c.in_ok-slot_states.ensures.of in
    IfOk-weaker c.line_races_in.result (λ races. AreAllLineRaces gs races.items) (λ races. ListsShortestOfLines setting findings races.items)
    (λ races book. lines_shortest setting findings gs are races.items book) c.line_races_in.ensures

pub returns-clause-order : goal.returns-clause-order
returns-clause-order c =
    let gs = c.deref.result.now in
    IfOk-weaker c.line_races_in.result (λ races. AreAllLineRaces gs races.items) (λ races. AreLineRacesInOrder races.items)
    (λ races book. lines_order gs races.items book) c.line_races_in.ensures

pub returns-clause-sides : goal.returns-clause-sides
returns-clause-sides c =
    let gs = c.deref.result.now in
    IfOk-weaker c.line_races_in.result (λ races. AreAllLineRaces gs races.items) (λ races. AreAllSidesInOrder races.items)
    (λ races book. sides_order gs races.items book) c.line_races_in.ensures

pub returns-clause-none : goal.returns-clause-none
returns-clause-none c =
    let setting = c.args.machine.now in
    let findings = c.args.findings.now in
    let marks = findings.marks.entries in
    let gs = c.deref.result.now in
    let are : AreSlotStatesOf setting findings gs = subst (λ (xs : List SlotState). AreSlotStatesOf setting findings xs) (sym c.deref.ensures.value) c.in_ok-slot_states.ensures.of in
    let law = c.machine_law.ensures in
    IfOk-weaker c.line_races_in.result (λ races. AreAllLineRaces gs races.items) (λ races. ListsNoLineRace setting findings races.items)
    (λ races book. λ limits found looked. no_line_races setting limits races.items looked (c.run_law.ensures.printed setting)
    (lines_found setting limits marks gs races.items (law.same setting) (law.stands setting) (law.runs setting) found are book)) c.line_races_in.ensures
