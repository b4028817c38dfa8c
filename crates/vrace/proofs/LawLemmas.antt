-- One text, one replay: from the laws of each layer.
use Rattle.std.proofs.Common.{◌≡◌, ℕ, List, Option, Ok, Err, inl, inr, sym, ap, subst, ◌∙◌, arith}
use Rattle.vsrc.specs.Source.{Source}
use Rattle.basis.specs.declared.timescale.Timescale.{Timescale}
use Rattle.vsrc.specs.Expansion.{expansion, text_of, expanded_text, expanded_timescale}
use Rattle.vsrc.specs.declared.fault.SrcFault.{SrcFault}
use Rattle.vlex.specs.Laws.{CutsOneWay}
use Rattle.vwords.specs.Words.{Text}
use Rattle.vast.specs.Modules.{DerivesText}
use Rattle.vast.specs.NumberedModules.{SourceTree}
use Rattle.vast.specs.NumberedTexts.{IsNumbered}
use Rattle.vast.proofs.NumberedTextLemmas.{numbered_once}
use Rattle.vdesign.specs.Design.{Design}
use Rattle.vgrammar.specs.SourcePlaces.{IsOnly}
use Rattle.vhierarchy.specs.Instances.{Elaborates}
use Rattle.vhierarchy.specs.Laws.{ElaboratesOneWay}
use Rattle.sched_core.specs.LogText.{OneLogForText}
use Rattle.sched_core.specs.Replay.{EndsAfter}
use Rattle.sched_core.specs.declared.setting.Looked.TheVariants.{Values}
use Rattle.vmodel.specs.Run.{Setting, rules_of, history_after}
use Rattle.vrace.specs.Request.{Request}
use Rattle.vrace.specs.Replays.{AreRead, texts_of, IsTreeOf, IsDesignOf, IsDesignOfFiles, grain_under, departures_under, Replayed, setting_of, text_of_run, IsShown}
use Rattle.vrace.specs.declared.replay.Show.{Show}
use Rattle.vrace.specs.Refusals.{IsDesignFault, IsFileReason, IsTextReason, IsRunReason, IsReason, IsOfMemory, IsOfWriting}
use Rattle.vrace.specs.declared.fault.Fault.{Fault}
use Rattle.vrace.specs.declared.fault.Fault.TheVariants.{NotEnded, BadToken, Directive, NoMacro, TooLarge, LeftOpen, Timescales, NoTree, Outside, TooDeep, NoDesign, BadLog, NoSuchChoice, TooManySteps, OutOfLimit, BadReport, FalseEnd, FalseRace, FalseHead, Memory, Write, Read, TooLong}
use Rattle.vreport.specs.RunLaws.{same_end, never_missing, never_more}

pub record Laws : Type 0 where
  pub one_list : CutsOneWay
  pub one_tree : IsOnly
  pub one_design : ElaboratesOneWay
  pub one_log : OneLogForText

-- where files are read and have a design, only want of memory is told of them
module _ (laws : Laws) (files : List (List ℕ)) (read : AreRead files) where
  expands : (fault : SrcFault) → expansion files ≡ Err fault → ⊥
  expands fault refused = let clash : Ok read.source ≡ Err fault = sym read.expanded ∙ refused in cc

  not_for_files : (fault : Fault) → IsFileReason files fault → IsOfMemory fault
  not_for_files (Directive at) (within, (place, told, refused)) = absurd (expands _ refused)
  not_for_files (NoMacro at) (within, (place, told, refused)) = absurd (expands _ refused)
  not_for_files (TooLarge at) (within, (place, told, refused)) = absurd (expands _ refused)
  not_for_files (LeftOpen at) (within, (place, told, refused)) = absurd (expands _ refused)
  not_for_files (Timescales at) (within, (place, told, refused)) = absurd (expands _ refused)
  not_for_files (Memory m) r = tt
  not_for_files TooLong r = absurd (omega (arith, r, read.within))
  not_for_files (NotEnded at) r = absurd r
  not_for_files (BadToken at) r = absurd r
  not_for_files (NoTree at) r = absurd r
  not_for_files (Outside at) r = absurd r
  not_for_files (TooDeep at) r = absurd r
  not_for_files (NoDesign rule at) r = absurd r
  not_for_files BadLog r = absurd r
  not_for_files NoSuchChoice r = absurd r
  not_for_files TooManySteps r = absurd r
  not_for_files OutOfLimit r = absurd r
  not_for_files BadReport r = absurd r
  not_for_files (FalseEnd i) r = absurd r
  not_for_files (FalseRace i) r = absurd r
  not_for_files FalseHead r = absurd r
  not_for_files Write r = absurd r
  not_for_files Read r = absurd r

  module _ (top : Option Text) (design : Design) (is_design : IsDesignOfFiles files top design) where
    -- so it is of the text that the files make
    module _ (source : Source) (same : expanded_text files ≡ source.text) where
      here : IsDesignOf source.text (expanded_timescale files) top design
      here = subst (λ text. IsDesignOf text (expanded_timescale files) top design) same is_design

      not_for_text : (fault : Fault) → IsTextReason source top fault → IsOfMemory fault
      not_for_text (NotEnded at) r = absurd (r.0 here.is_tree.pieces here.is_tree.lexed)
      not_for_text (BadToken at) r = absurd (r.0 here.is_tree.pieces here.is_tree.lexed)
      not_for_text (NoTree at) r = absurd (r.0 here.tree here.is_tree)
      not_for_text (Outside at) r = absurd (r.0 here.tree here.is_tree)
      not_for_text (TooDeep at) r = absurd (r.0 here.tree here.is_tree)
      not_for_text (NoDesign rule at) (none, broken) = absurd (none (expanded_timescale files) design here)
      not_for_text (Memory m) r = tt
      not_for_text (Directive at) r = absurd r
      not_for_text (NoMacro at) r = absurd r
      not_for_text (TooLarge at) r = absurd (r.0 here.tree here.is_tree)
      not_for_text (LeftOpen at) r = absurd r
      not_for_text (Timescales at) r = absurd r
      not_for_text BadLog r = absurd r
      not_for_text NoSuchChoice r = absurd r
      not_for_text TooManySteps r = absurd r
      not_for_text OutOfLimit r = absurd r
      not_for_text BadReport r = absurd r
      not_for_text (FalseEnd i) r = absurd r
      not_for_text (FalseRace i) r = absurd r
      not_for_text FalseHead r = absurd r
      not_for_text Write r = absurd r
      not_for_text Read r = absurd r
      not_for_text TooLong r = absurd r

    pub not_for_design : (fault : Fault) → IsDesignFault files top fault → IsOfMemory fault
    not_for_design fault (inl r) = not_for_files fault r
    not_for_design fault (inr (there, r)) = not_for_text there.source (ap text_of there.expanded) fault r

of_writing : (fault : Fault) → IsOfMemory fault → IsOfWriting fault
of_writing (Memory m) r = tt
of_writing (NotEnded at) r = absurd r
of_writing (BadToken at) r = absurd r
of_writing (Directive at) r = absurd r
of_writing (NoMacro at) r = absurd r
of_writing (TooLarge at) r = absurd r
of_writing (LeftOpen at) r = absurd r
of_writing (Timescales at) r = absurd r
of_writing (NoTree at) r = absurd r
of_writing (Outside at) r = absurd r
of_writing (TooDeep at) r = absurd r
of_writing (NoDesign rule at) r = absurd r
of_writing BadLog r = absurd r
of_writing NoSuchChoice r = absurd r
of_writing TooManySteps r = absurd r
of_writing OutOfLimit r = absurd r
of_writing BadReport r = absurd r
of_writing (FalseEnd i) r = absurd r
of_writing (FalseRace i) r = absurd r
of_writing FalseHead r = absurd r
of_writing Write r = absurd r
of_writing Read r = absurd r
of_writing TooLong r = absurd r

module _ (laws : Laws) where
  same_tree : (text : List ℕ) (t u : SourceTree) → IsTreeOf text t → IsTreeOf text u → t ≡ u
  same_tree text t u a b =
      let pieces = laws.one_list text a.pieces b.pieces a.lexed b.lexed in
      let here : DerivesText (texts_of b.pieces) a.plain × IsNumbered (texts_of b.pieces) a.plain t =
      subst (λ ps. DerivesText (texts_of ps) a.plain × IsNumbered (texts_of ps) a.plain t) pieces (a.derived, a.numbered) in
      numbered_once (texts_of b.pieces) b.plain t u
      (subst (λ plain. IsNumbered (texts_of b.pieces) plain t) (laws.one_tree 64 64 (texts_of b.pieces) a.plain b.plain here.0 b.derived) here.1) b.numbered

  pub one_design_of : (text : List ℕ) (scale : Timescale) (top : Option Text) (d e : Design) →
      IsDesignOf text scale top d → IsDesignOf text scale top e → d ≡ e
  one_design_of text scale top d e a b =
      let tree = same_tree text a.tree b.tree a.is_tree b.is_tree in
      laws.one_design b.tree top scale d e (subst (λ t. Elaborates t top scale d) tree a.elaborated) b.elaborated

  module _ (files : List (List ℕ)) (asked : Request) (log : List ℕ) where
    module _ (p q : Replayed files asked log) where
      designs : p.design ≡ q.design
      designs = one_design_of (expanded_text files) (expanded_timescale files) asked.top p.design q.design p.is_design q.is_design

      logs : (p.head ≡ q.head) × (p.members ≡ q.members)
      logs = laws.one_log p.head q.head p.members q.members p.is_log q.is_log (sym p.written ∙ q.written)

      settings : setting_of files asked log p ≡ setting_of files asked log q
      settings = λ i. record { design = designs i; until = asked.until; grain = grain_under (logs.0 i) asked.grain; departures = departures_under (logs.0 i) asked.departures; looked = Values }

      -- what ends under the one ends under the other
      moved : (n : ℕ) → EndsAfter (rules_of (setting_of files asked log p)) p.members n → EndsAfter (rules_of (setting_of files asked log q)) q.members n
      moved n = subst (λ (pair : Setting × List (ℕ × ℕ)). EndsAfter (rules_of pair.0) pair.1 n) (λ i. (settings i, logs.1 i))

    pub one_text : (show : Show) (text other : List ℕ) → IsShown show files asked log text → IsShown show files asked log other → text ≡ other
    one_text show text other d e =
        let p = d.replayed in
        let q = e.replayed in
        let ends = moved p q d.steps d.finishes.ends in
        let steps : d.steps ≡ e.steps = same_end (rules_of (setting_of files asked log q)) q.members d.steps e.steps ends.run ends.end e.finishes.ends in
        d.is_text ∙ (λ i. text_of_run show (designs p q i) (history_after (settings p q i) ((logs p q).1 i) (steps i))) ∙ sym e.is_text

    module _ (show : Show) (text : List ℕ) (d : IsShown show files asked log text) where
      not_for_run : (fault : Fault) → IsRunReason files asked log fault → IsOfWriting fault
      not_for_run BadLog (read, design, none) = absurd (none d.replayed.head d.replayed.members d.replayed.is_log d.replayed.written)
      not_for_run NoSuchChoice (replayed, missing) =
          absurd (never_missing (rules_of (setting_of files asked log replayed)) replayed.members asked.steps d.steps (moved d.replayed replayed d.steps d.finishes.ends) missing)
      not_for_run TooManySteps (replayed, more) =
          absurd (never_more (rules_of (setting_of files asked log replayed)) replayed.members asked.steps d.steps (moved d.replayed replayed d.steps d.finishes.ends) d.finishes.within more)
      not_for_run (Memory m) r = tt
      not_for_run Write r = tt
      not_for_run (NotEnded at) r = absurd r
      not_for_run (BadToken at) r = absurd r
      not_for_run (Directive at) r = absurd r
      not_for_run (NoMacro at) r = absurd r
      not_for_run (TooLarge at) r = absurd r
      not_for_run (LeftOpen at) r = absurd r
      not_for_run (Timescales at) r = absurd r
      not_for_run (NoTree at) r = absurd r
      not_for_run (Outside at) r = absurd r
      not_for_run (TooDeep at) r = absurd r
      not_for_run (NoDesign rule at) r = absurd r
      not_for_run OutOfLimit r = absurd r
      not_for_run BadReport r = absurd r
      not_for_run (FalseEnd i) r = absurd r
      not_for_run (FalseRace i) r = absurd r
      not_for_run FalseHead r = absurd r
      not_for_run Read r = absurd r
      not_for_run TooLong r = absurd r

      pub not_refused : (fault : Fault) → IsReason files asked log fault → IsOfWriting fault
      not_refused fault (inl r) = of_writing fault (not_for_design laws files d.replayed.are_read asked.top d.replayed.design d.replayed.is_design fault r)
      not_refused fault (inr r) = not_for_run fault r
