-- Two explorations of the same files are of one setting, or of two that differ in their departures, or in what is looked at.
use Rattle.std.proofs.Common.{◌≡◌, ℕ, List, Option, sym, subst, ◌∙◌}
use Rattle.vsrc.specs.Expansion.{expanded_text, expanded_timescale}
use Rattle.vmodel.specs.Run.{Setting}
use Rattle.plain_steps.specs.RunLaws.{holding, of_values}
use Rattle.vreport.specs.Agreement.{ExhaustedAgree, HoldingListsAll, LinesRefine}
use Rattle.vreport.specs.Reports.{IsExploration}
use Rattle.vrace.specs.Request.{Request}
use Rattle.vrace.specs.Explores.{AskAlike, AskForLines, AskToHold, ExploredFilesAgree, HoldingFilesListAll, LinesOfFilesRefine, Searched, setting_for}
use Rattle.vrace.specs.Replays.{IsDesignOfFiles}
use Rattle.vrace.proofs.LawLemmas.{Laws, one_design_of}

one_setting : Laws → (files : List (List ℕ)) (asked again : Request) → AskAlike asked again → (s : Searched files asked) (t : Searched files again) → setting_for files asked s ≡ setting_for files again t
one_setting laws files asked again alike s t =
    let design = one_design_of laws (expanded_text files) (expanded_timescale files) again.top s.design t.design
    (subst (λ (top : Option (List ℕ)). IsDesignOfFiles files top s.design) alike.top_is s.is_design) t.is_design in
    (λ i. record { design = design i; until = alike.until_is i; grain = alike.grain_is i; departures = alike.departures_are i; looked = alike.looked_is i })

pub agree : Laws → ExhaustedAgree → ExploredFilesAgree
agree laws tell files asked again limits others one other alike departs a b one_whole other_whole =
    let setting = setting_for files again b.searched in
    let same = one_setting laws files asked again alike a.searched b.searched in
    let x : IsExploration setting limits one = subst (λ (s : Setting). IsExploration s limits one) same a.exploration in
    tell setting limits others one other x b.exploration (x.head.depart_is ∙ departs ∙ sym b.exploration.head.depart_is) one_whole other_whole

-- ---- departures that hold back, and lines

module _ (laws : Laws) (files : List (List ℕ)) (asked again : Request) (top_is : asked.top ≡ again.top) (s : Searched files asked) (t : Searched files again) where
  one_design : s.design ≡ t.design
  one_design = one_design_of laws (expanded_text files) (expanded_timescale files) again.top s.design t.design
      (subst (λ (top : Option (List ℕ)). IsDesignOfFiles files top s.design) top_is s.is_design) t.is_design

  to_hold : AskToHold asked again → setting_for files again t ≡ holding (setting_for files asked s)
  to_hold ask = λ i. record {
    design = (sym one_design) i;
    until = (sym ask.until_is) i;
    grain = (sym ask.grain_is) i;
    departures = ask.holds i;
    looked = (sym ask.looked_is) i;
  }

  of_lines : AskForLines asked again → setting_for files again t ≡ of_values (setting_for files asked s)
  of_lines ask = λ i. record {
    design = (sym one_design) i;
    until = (sym ask.until_is) i;
    grain = (sym ask.grain_is) i;
    departures = (sym ask.departures_are) i;
    looked = ask.values i;
  }

pub list_all : Laws → HoldingListsAll → HoldingFilesListAll
list_all laws tell files asked again limits others one other ask departs a b whole =
    let setting = setting_for files asked a.searched in
    let y : IsExploration (holding setting) others other =
    subst (λ (s : Setting). IsExploration s others other) (to_hold laws files asked again ask.top_is a.searched b.searched ask) b.exploration in
    tell setting limits others one other ask.takes a.exploration y (a.exploration.head.depart_is ∙ departs ∙ sym b.exploration.head.depart_is) whole

pub refine : Laws → LinesRefine → LinesOfFilesRefine
refine laws tell files asked again limits others one other ask departs a b one_whole other_whole =
    let setting = setting_for files asked a.searched in
    let y : IsExploration (of_values setting) others other =
    subst (λ (s : Setting). IsExploration s others other) (of_lines laws files asked again ask.top_is a.searched b.searched ask) b.exploration in
    tell setting limits others one other a.exploration y (a.exploration.head.depart_is ∙ departs ∙ sym b.exploration.head.depart_is) one_whole other_whole
