-- What the marks show is listed, whatever the status.
use Rattle.std.proofs.Common.{◌≡◌, ℕ, List, slice_get, Some, sym, ap, ◌∙◌}
use Rattle.std.proofs.lemmas.Option.{slice_get_within, same_Some}
use Rattle.vbits.specs.Vectors.{Vector}
use Rattle.explore.specs.declared.findings.Findings.{Findings}
use Rattle.vmodel.specs.Run.{Setting}
use Rattle.vmachine.specs.declared.machine_state.MachineState.{MachineState}
use Rattle.vmachine.specs.Reads.{slot_in}
use Rattle.racebook.specs.declared.slot_state.SlotState.{SlotState}
use Rattle.racebook.specs.Races.{Race, IsMarked, ListsEveryMark, ListsShortest}
use Rattle.racebook.specs.LineRaces.{LineRace, Texts, IsMarkedLines, ListsEveryMarkOfLines, ListsShortestOfLines}
use Rattle.racebook.specs.Inner.{AreAllLineRaces, AreAllRaces, AreSlotStatesOf, Disagree, IsSeen, printed_of, value_of}
use Rattle.racebook.proofs.FoundLemmas.{ends_slot, lines_listed, listed}

module _ (setting : Setting) (findings : Findings MachineState) (gs : List SlotState) (are : AreSlotStatesOf setting findings gs) where
  marked_seen : (time variable : ℕ) (value : Vector) (log : List (ℕ × ℕ)) → IsMarked setting findings time variable value log → IsSeen (value_of variable) gs time value log
  marked_seen time variable value log mark =
      let slot : slot_in mark.state ≡ Some time = ends_slot mark.state time mark.state.values mark.slot in
      let within = slice_get_within findings.marks.entries mark.place mark.found mark.at in
      let h = are.whole mark.place mark.found mark.state time within mark.at mark.stands mark.wide slot in
      record {
        slot_state = h.slot_state;
        among = h.among;
        time_is = same_Some h.slot_state.time time (sym (h.of.slot mark.state mark.stands) ∙ slot);
        value_is = ap (λ (xs : List Vector). slice_get xs variable) (h.of.values_are mark.state mark.stands) ∙ mark.value_is;
        log_is = h.of.log_is ∙ mark.log_is;
      }

  pub races_marked : (races : List Race) → AreAllRaces gs races → ListsEveryMark setting findings races
  races_marked races book = λ time variable value log differ mark.
      let two : Disagree (value_of variable) gs time = record {
        one = differ.one;
        other = differ.other;
        log = differ.log;
        other_log = differ.other_log;
        sees_one = marked_seen time variable differ.one differ.log differ.marks_one;
        sees_other = marked_seen time variable differ.other differ.other_log differ.marks_other;
        differ = differ.differ;
      } in
      listed gs races book time variable value log two (marked_seen time variable value log mark)

  pub races_shortest : (races : List Race) → AreAllRaces gs races → ListsShortest setting findings races
  races_shortest races book = λ i race at j s log at' mark.
      (book.each i race at).fewest j s log at' (marked_seen race.time race.variable s.0 log mark)

  -- ---- lines

  lines_marked_seen : (time : ℕ) (lines : Texts) (log : List (ℕ × ℕ)) → IsMarkedLines setting findings time lines log → IsSeen printed_of gs time lines log
  lines_marked_seen time lines log mark =
      let slot : slot_in mark.state ≡ Some time = ends_slot mark.state time mark.state.values mark.slot in
      let within = slice_get_within findings.marks.entries mark.place mark.found mark.at in
      let h = are.whole mark.place mark.found mark.state time within mark.at mark.stands mark.wide slot in
      record {
        slot_state = h.slot_state;
        among = h.among;
        time_is = same_Some h.slot_state.time time (sym (h.of.slot mark.state mark.stands) ∙ slot);
        value_is = h.of.printed_are mark.state mark.stands ∙ mark.printed;
        log_is = h.of.log_is ∙ mark.log_is;
      }

  pub lines_marked : (races : List LineRace) → AreAllLineRaces gs races → ListsEveryMarkOfLines setting findings races
  lines_marked races book = λ time lines log differ mark.
      let two : Disagree printed_of gs time = record {
        one = differ.one;
        other = differ.other;
        log = differ.log;
        other_log = differ.other_log;
        sees_one = lines_marked_seen time differ.one differ.log differ.marks_one;
        sees_other = lines_marked_seen time differ.other differ.other_log differ.marks_other;
        differ = differ.differ;
      } in
      lines_listed gs races book time lines log two (lines_marked_seen time lines log mark)

  pub lines_shortest : (races : List LineRace) → AreAllLineRaces gs races → ListsShortestOfLines setting findings races
  lines_shortest races book = λ i race at j s log at' mark.
      (book.each i race at).fewest j s log at' (lines_marked_seen race.time s.0 log mark)
