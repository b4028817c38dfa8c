-- The text of a report, piece by piece.
use Rattle.std.proofs.Common.{◌≡◌, ℕ, zero, suc, ◌+◌, ◌<◌, List, [], ◌∷◌, ◌++◌, length, codes, slice_get, get_or, drop, Some, refl, sym, ap, subst, ◌∙◌, arith}
use Rattle.std.proofs.lemmas.Option.{same_Some}
use Rattle.basis.proofs.Lists.{left_from}
use Rattle.basis.specs.declared.memory.OrMemory.{OrMemory}
use Rattle.vmodel.specs.Run.{Setting, rules_of, history_after}
use Rattle.vcd_text.specs.DumpText.{vcd}
use Rattle.byte_sinks.specs.ByteSinks.{IsByteSink, Stopped}
use Rattle.byte_sinks.specs.ByteSinkLaws.{stopped_before, stopped_after}
use Rattle.report_text.specs.Report.{End, LineRace}
use Rattle.sched_core.specs.declared.setting.Looked.{Looked}
use Rattle.sched_core.specs.declared.setting.Looked.TheVariants.{Values, Lines}
use Rattle.report_text.specs.ReportText.{end_text, ends_text, races_text}
use Rattle.report_text.specs.WellFormed.{Each}
use Rattle.vreport.specs.Dumps.{IsRunDump, StopsDump, TakesDump}
use Rattle.vreport.specs.Ends.{HasBytes}
use Rattle.vreport.specs.RunLaws.{same_end}
use Rattle.report_text.specs.Report.{Report}
use Rattle.report_text.specs.ReportText.{head_text, line_races_line, line_races_part, line_races_text, number_line, report_text}
use Rattle.report_text.specs.WellFormed.{IsReportText}
use Rattle.vreport.specs.Formed.{IsFormed}
use Rattle.vreport.specs.Written.{AreDumps, IsDumpOf, StopsEnd, StopsEnds, StopsReport, TakesEnd, TakesEnds, TakesReadable, TakesReport, TakesWhatWasRead}
use Rattle.vreport.proofs.LeadLemmas.{Leads, leads_first, leads_on, leads_stop, leads_end}

-- a run has one dump
pub same_dump : (setting : Setting) (log : List (ℕ × ℕ)) (limit : ℕ) (d e : List ℕ) → IsRunDump setting log limit d → IsRunDump setting log limit e → d ≡ e
same_dump setting log limit d e p q =
    let steps = same_end (rules_of setting) log p.steps q.steps p.finishes.ends.run p.finishes.ends.end q.finishes.ends in
    p.is_text ∙ ap (λ n. vcd setting.design (history_after setting log n)) steps ∙ sym q.is_text

-- so ends have one list of dumps
pub same_dumps : (setting : Setting) (steps : ℕ) (ends : List End) (ds es : List (List ℕ)) →
    AreDumps setting steps ends ds → AreDumps setting steps ends es → ds ≡ es
same_dumps setting steps [] [] [] p q = refl
same_dumps setting steps [] [] (e ∷ es) p q = absurd q
same_dumps setting steps [] (d ∷ ds) es p q = absurd p
same_dumps setting steps (end ∷ ends) [] es p q = absurd p
same_dumps setting steps (end ∷ ends) (d ∷ ds) [] p q = absurd q
same_dumps setting steps (end ∷ ends) (d ∷ ds) (e ∷ es) p q =
    ap (λ (x : List ℕ). x ∷ ds) (same_dump setting end.log steps d e p.0.is_dump q.0.is_dump)
    ∙ ap (λ (xs : List (List ℕ)). e ∷ xs) (same_dumps setting steps ends ds es p.1 q.1)

-- what was taken of a well-formed report can be read
pub as_readable : {O : Type 0} (takes : O → List ℕ → O → Type 0) (setting : Setting) (report : Report) (old new : O) → IsFormed setting report →
    TakesReport takes setting report old new → TakesReadable takes setting report old new
as_readable takes setting report old new formed t = record {
  text = report_text report t.dumps;
  dumps = t.dumps;
  are_dumps = t.are_dumps;
  is_read = (formed t.dumps t.are_dumps, refl);
  taken = t.taken;
}

-- what was taken of a report that was read is the text that was read
pub as_was_read : {O : Type 0} (takes : O → List ℕ → O → Type 0) (setting : Setting) (report : Report) (old new : O) →
    TakesReport takes setting report old new → TakesWhatWasRead takes setting report old new
as_was_read takes setting report old new t = λ text dumps is_read are.
    let same : report_text report t.dumps ≡ text =
    ap (report_text report) (same_dumps setting report.steps report.ends t.dumps dumps t.are_dumps are) ∙ sym is_read.1 in
    subst (λ (x : List ℕ). takes old x new) same t.taken

pub dump_of_bytes : (setting : Setting) (steps : ℕ) (end : End) (h : HasBytes setting steps end) → IsDumpOf setting steps end h.dump
dump_of_bytes setting steps end h = record { is_dump = h.is_dump; bytes_are = h.bytes_are }

-- each end has its dump
pub all_dumps : (setting : Setting) (steps : ℕ) (ends : List End) → Each (HasBytes setting steps) ends → (dumps : List (List ℕ)) × AreDumps setting steps ends dumps
all_dumps setting steps [] each = ([], tt)
all_dumps setting steps (end ∷ ends) each =
    let h = each 0 end refl in
    let (dumps, are) = all_dumps setting steps ends (λ i e at. each (suc i) e at) in
    (h.dump ∷ dumps, (dump_of_bytes setting steps end h, are))

record Splits (setting : Setting) (steps : ℕ) (ends : List End) (dumps : List (List ℕ)) (i : ℕ) (end : End) : Type 0 where
  dump : List ℕ
  of : IsDumpOf setting steps end dump
  ends_are : drop i ends ≡ end ∷ drop (suc i) ends
  dumps_are : drop i dumps ≡ dump ∷ drop (suc i) dumps

splits : (setting : Setting) (steps : ℕ) (ends : List End) (dumps : List (List ℕ)) (i : ℕ) (end : End) → AreDumps setting steps ends dumps → slice_get ends i ≡ Some end →
    Splits setting steps ends dumps i end
splits setting steps [] dumps i end are at = absurd (cc)
splits setting steps (e ∷ ends) [] i end are at = absurd are
splits setting steps (e ∷ ends) (d ∷ dumps) zero end are at =
    let same : e ≡ end = same_Some e end at in
    record { dump = d; of = subst (λ (x : End). IsDumpOf setting steps x d) same are.0; ends_are = ap (λ (x : End). x ∷ ends) same; dumps_are = refl }
splits setting steps (e ∷ ends) (d ∷ dumps) (suc i) end are at =
    let s = splits setting steps ends dumps i end are.1 at in
    record { dump = s.dump; of = s.of; ends_are = s.ends_are; dumps_are = s.dumps_are }

module _ {O F : Type 0} (takes : O → List ℕ → O → Type 0) (fails : O → List ℕ → F → O → Type 0) (laws : IsByteSink takes fails) where
  module _ (setting : Setting) (steps : ℕ) where
    -- ---- one end

    pub end_taken : (end : End) (lines : List ℕ) (log : List (ℕ × ℕ)) (old m new : O) → lines ≡ end_text end → log ≡ end.log → takes old lines m →
        TakesDump takes setting log steps m new → TakesEnd takes setting steps end old new
    end_taken end lines log old m new lines_are log_is first (d, known, taken) = λ dump of.
        let known' = subst (λ (l : List (ℕ × ℕ)). IsRunDump setting l steps d) log_is known in
        let same : d ≡ dump = same_dump setting end.log steps d dump known' of.is_dump in
        laws.joins old m new (end_text end) dump (subst (λ (text : List ℕ). takes old text m) lines_are first) (subst (λ (text : List ℕ). takes m text new) same taken)

    pub stops_at_lines : (end : End) (lines : List ℕ) (old m : O) (fault : OrMemory F) → lines ≡ end_text end → Stopped takes fails old lines fault m →
        StopsEnd takes fails setting steps end old fault m
    stops_at_lines end lines old m fault lines_are stopped = λ dump of.
        stopped_before takes fails laws old m (end_text end) dump fault (subst (λ (text : List ℕ). Stopped takes fails old text fault m) lines_are stopped)

    pub stops_in_dump : (end : End) (lines : List ℕ) (log : List (ℕ × ℕ)) (old m new : O) (fault : OrMemory F) → lines ≡ end_text end → log ≡ end.log →
        takes old lines m → StopsDump takes fails setting log steps m fault new → StopsEnd takes fails setting steps end old fault new
    stops_in_dump end lines log old m new fault lines_are log_is first (d, known, stopped) = λ dump of.
        let known' = subst (λ (l : List (ℕ × ℕ)). IsRunDump setting l steps d) log_is known in
        let same : d ≡ dump = same_dump setting end.log steps d dump known' of.is_dump in
        stopped_after takes fails laws old m new (end_text end) dump fault (subst (λ (text : List ℕ). takes old text m) lines_are first)
        (subst (λ (text : List ℕ). Stopped takes fails m text fault new) same stopped)

    -- ---- all ends

    abbrev pub EndsLead : List End → ℕ → O → O → Type 0
    EndsLead ends i old now = (dumps : List (List ℕ)) → AreDumps setting steps ends dumps → Leads takes fails laws old (ends_text ends dumps) now (ends_text (drop i ends) (drop i dumps))

    text_here : (ends : List End) (dumps : List (List ℕ)) (i : ℕ) (end : End) (s : Splits setting steps ends dumps i end) →
        ends_text (drop i ends) (drop i dumps) ≡ (end_text end ++ s.dump) ++ ends_text (drop (suc i) ends) (drop (suc i) dumps)
    text_here ends dumps i end s =
        ap (λ (es : List End). ends_text es (drop i dumps)) s.ends_are
        ∙ joined
      where
        joined : ends_text (end ∷ drop (suc i) ends) (drop i dumps) ≡ (end_text end ++ s.dump) ++ ends_text (drop (suc i) ends) (drop (suc i) dumps)
        joined = ap (λ (ds : List (List ℕ)). ends_text (end ∷ drop (suc i) ends) ds) s.dumps_are

    pub ends_on : (ends : List End) (i : ℕ) (end : End) (old now next : O) → slice_get ends i ≡ Some end → EndsLead ends i old now → TakesEnd takes setting steps end now next →
        EndsLead ends (i + 1) old next
    ends_on ends i end old now next at lead taken = λ dumps are.
        let s = splits setting steps ends dumps i end are at in
        let here = subst (λ (rest : List ℕ). Leads takes fails laws old (ends_text ends dumps) now rest) (text_here ends dumps i end s) (lead dumps are) in
        let more = leads_on takes fails laws old now next (ends_text ends dumps) (end_text end ++ s.dump) (ends_text (drop (suc i) ends) (drop (suc i) dumps)) here (taken s.dump s.of) in
        let next_is : suc i ≡ i + 1 = omega arith in
        subst (λ (n : ℕ). Leads takes fails laws old (ends_text ends dumps) next (ends_text (drop n ends) (drop n dumps))) next_is more

    pub ends_stop : (ends : List End) (i : ℕ) (end : End) (old now new : O) (fault : OrMemory F) → slice_get ends i ≡ Some end → EndsLead ends i old now →
        StopsEnd takes fails setting steps end now fault new → StopsEnds takes fails setting steps ends old fault new
    ends_stop ends i end old now new fault at lead stopped = λ dumps are.
        let s = splits setting steps ends dumps i end are at in
        let here = subst (λ (rest : List ℕ). Leads takes fails laws old (ends_text ends dumps) now rest) (text_here ends dumps i end s) (lead dumps are) in
        leads_stop takes fails laws old now new (ends_text ends dumps) (end_text end ++ s.dump) (ends_text (drop (suc i) ends) (drop (suc i) dumps)) fault here (stopped s.dump s.of)

    pub ends_first : (ends : List End) (old : O) → EndsLead ends 0 old old
    ends_first ends old = λ dumps are. leads_first takes fails laws old (ends_text ends dumps)

    pub ends_over : (ends : List End) (i : ℕ) (old now : O) → drop i ends ≡ [] → EndsLead ends i old now → TakesEnds takes setting steps ends old now
    ends_over ends i old now none lead = λ dumps are.
        leads_end takes fails laws old now (ends_text ends dumps)
        (subst (λ (es : List End). Leads takes fails laws old (ends_text ends dumps) now (ends_text es (drop i dumps))) none (lead dumps are))

  -- ---- a list of things, each told by a text

  module _ {A : Type 0} (one : A → List ℕ) (all : List A → List ℕ) (first : (x : A) (xs : List A) → all (x ∷ xs) ≡ one x ++ all xs) where
    abbrev pub ItemsLead : List A → ℕ → O → O → Type 0
    ItemsLead items i old now = Leads takes fails laws old (all items) now (all (drop i items))

    item_here : (items : List A) (i : ℕ) (item : A) → item ≡ get_or items i item → i < length items → all (drop i items) ≡ one item ++ all (drop (i + 1) items)
    item_here items i item is lt = sym (ap all (left_from items i item is lt)) ∙ first item (drop (i + 1) items)

    pub items_on : (items : List A) (i : ℕ) (item : A) (lines : List ℕ) (old now next : O) → item ≡ get_or items i item → i < length items → lines ≡ one item →
        ItemsLead items i old now → takes now lines next → ItemsLead items (i + 1) old next
    items_on items i item lines old now next is lt lines_are lead taken =
        let here = subst (λ (rest : List ℕ). Leads takes fails laws old (all items) now rest) (item_here items i item is lt) lead in
        leads_on takes fails laws old now next (all items) (one item) (all (drop (i + 1) items)) here (subst (λ (text : List ℕ). takes now text next) lines_are taken)

    pub items_stop : (items : List A) (i : ℕ) (item : A) (lines : List ℕ) (old now new : O) (fault : OrMemory F) → item ≡ get_or items i item → i < length items → lines ≡ one item →
        ItemsLead items i old now → Stopped takes fails now lines fault new → Stopped takes fails old (all items) fault new
    items_stop items i item lines old now new fault is lt lines_are lead stopped =
        let here = subst (λ (rest : List ℕ). Leads takes fails laws old (all items) now rest) (item_here items i item is lt) lead in
        leads_stop takes fails laws old now new (all items) (one item) (all (drop (i + 1) items)) fault here
        (subst (λ (text : List ℕ). Stopped takes fails now text fault new) lines_are stopped)

    pub items_first : (items : List A) (old : O) → ItemsLead items 0 old old
    items_first items old = leads_first takes fails laws old (all items)

    pub items_over : all [] ≡ [] → (items : List A) (i : ℕ) (old now : O) → drop i items ≡ [] → ItemsLead items i old now → takes old (all items) now
    items_over empty items i old now none lead =
        leads_end takes fails laws old now (all items)
        (subst (λ (rest : List ℕ). Leads takes fails laws old (all items) now rest) (ap all none ∙ empty) lead)

  -- ---- the part of the lines

  module _ (looked : Looked) (races : List LineRace) (not_values : looked ≡ Values → ⊥) where
    part_is : line_races_part looked races ≡ line_races_line looked races ++ line_races_text races
    part_is = by looked not_values
      where
        by : (which : Looked) → (which ≡ Values → ⊥) → line_races_part which races ≡ line_races_line which races ++ line_races_text races
        by Values other = absurd (other refl)
        by Lines other = refl

    pub lines_taken : (told : List LineRace) (old now new : O) → told ≡ races → takes old (line_races_line looked races) now → takes now (line_races_text told) new →
        takes old (line_races_part looked races) new
    lines_taken told old now new is first rest =
        subst (λ (text : List ℕ). takes old text new) (sym part_is)
        (laws.joins old now new (line_races_line looked races) (line_races_text races) first (subst (λ (rs : List LineRace). takes now (line_races_text rs) new) is rest))

    pub lines_stop : (told : List LineRace) (old now new : O) (fault : OrMemory F) → told ≡ races → takes old (line_races_line looked races) now →
        Stopped takes fails now (line_races_text told) fault new → Stopped takes fails old (line_races_part looked races) fault new
    lines_stop told old now new fault is first rest =
        subst (λ (text : List ℕ). Stopped takes fails old text fault new) (sym part_is)
        (stopped_after takes fails laws old now new (line_races_line looked races) (line_races_text races) fault first
        (subst (λ (rs : List LineRace). Stopped takes fails now (line_races_text rs) fault new) is rest))

    pub lines_stop_first : (old now : O) (fault : OrMemory F) → Stopped takes fails old (line_races_line looked races) fault now → Stopped takes fails old (line_races_part looked races) fault now
    lines_stop_first old now fault stopped =
        subst (λ (text : List ℕ). Stopped takes fails old text fault now) (sym part_is)
        (stopped_before takes fails laws old now (line_races_line looked races) (line_races_text races) fault stopped)

  -- ---- four texts, one after another

  module _ (one two three four : List ℕ) where
    pub taken_all : (a b c d e : O) → takes a one b → takes b two c → takes c three d → takes d four e → takes a (one ++ two ++ three ++ four) e
    taken_all a b c d e p q r s = laws.joins a d e (one ++ two ++ three) four (laws.joins a c d (one ++ two) three (laws.joins a b c one two p q) r) s

    pub stopped_first : (a b : O) (fault : OrMemory F) → Stopped takes fails a one fault b → Stopped takes fails a (one ++ two ++ three ++ four) fault b
    stopped_first a b fault p =
        stopped_before takes fails laws a b (one ++ two ++ three) four fault (stopped_before takes fails laws a b (one ++ two) three fault (stopped_before takes fails laws a b one two fault p))

    pub stopped_second : (a b c : O) (fault : OrMemory F) → takes a one b → Stopped takes fails b two fault c → Stopped takes fails a (one ++ two ++ three ++ four) fault c
    stopped_second a b c fault p q =
        stopped_before takes fails laws a c (one ++ two ++ three) four fault (stopped_before takes fails laws a c (one ++ two) three fault (stopped_after takes fails laws a b c one two fault p q))

    pub stopped_third : (a b c d : O) (fault : OrMemory F) → takes a one b → takes b two c → Stopped takes fails c three fault d → Stopped takes fails a (one ++ two ++ three ++ four) fault d
    stopped_third a b c d fault p q r =
        stopped_before takes fails laws a d (one ++ two ++ three) four fault (stopped_after takes fails laws a c d (one ++ two) three fault (laws.joins a b c one two p q) r)

    pub stopped_last : (a b c d e : O) (fault : OrMemory F) → takes a one b → takes b two c → takes c three d → Stopped takes fails d four fault e →
        Stopped takes fails a (one ++ two ++ three ++ four) fault e
    stopped_last a b c d e fault p q r s =
        stopped_after takes fails laws a d e (one ++ two ++ three) four fault (laws.joins a c d (one ++ two) three (laws.joins a b c one two p q) r) s

  -- ---- the whole report

  module _ (setting : Setting) (r : Report) (bytes : Each (HasBytes setting r.steps) r.ends) where
    its_dumps : List (List ℕ)
    its_dumps = (all_dumps setting r.steps r.ends bytes).0

    are_its : AreDumps setting r.steps r.ends its_dumps
    unfolding its_dumps
    are_its = (all_dumps setting r.steps r.ends bytes).1

    abbrev pub top : List ℕ
    top = head_text r ++ number_line (codes "ends") (length r.ends)

    abbrev pub turn : List ℕ
    turn = number_line (codes "races") (length r.races)

    abbrev pub last : List ℕ
    last = races_text r.variables r.races

    abbrev pub part : List ℕ
    part = line_races_part r.looked r.line_races

    -- all but the part of the lines
    abbrev before_part : List ℕ
    before_part = top ++ ends_text r.ends its_dumps ++ turn ++ last

    taken_before : (a b c d e : O) → takes a top b → TakesEnds takes setting r.steps r.ends b c → takes c turn d → takes d last e → takes a before_part e
    taken_before a b c d e p q s t = taken_all top (ends_text r.ends its_dumps) turn last a b c d e p (q its_dumps are_its) s t

    stopped_early : (a e : O) (fault : OrMemory F) → Stopped takes fails a before_part fault e → StopsReport takes fails setting r a fault e
    stopped_early a e fault p = record { dumps = its_dumps; are_dumps = are_its; stopped = stopped_before takes fails laws a e before_part part fault p }

    pub report_taken : (a b c d e f : O) → takes a top b → TakesEnds takes setting r.steps r.ends b c → takes c turn d → takes d last e → takes e part f → TakesReport takes setting r a f
    report_taken a b c d e f p q s t u = record {
      dumps = its_dumps;
      are_dumps = are_its;
      taken = laws.joins a e f before_part part (taken_before a b c d e p q s t) u;
    }

    pub report_stops_first : (a b : O) (fault : OrMemory F) → Stopped takes fails a top fault b → StopsReport takes fails setting r a fault b
    report_stops_first a b fault p = stopped_early a b fault (stopped_first top (ends_text r.ends its_dumps) turn last a b fault p)

    pub report_stops_second : (a b c : O) (fault : OrMemory F) → takes a top b → StopsEnds takes fails setting r.steps r.ends b fault c → StopsReport takes fails setting r a fault c
    report_stops_second a b c fault p q = stopped_early a c fault (stopped_second top (ends_text r.ends its_dumps) turn last a b c fault p (q its_dumps are_its))

    pub report_stops_third : (a b c d : O) (fault : OrMemory F) → takes a top b → TakesEnds takes setting r.steps r.ends b c → Stopped takes fails c turn fault d →
        StopsReport takes fails setting r a fault d
    report_stops_third a b c d fault p q s = stopped_early a d fault (stopped_third top (ends_text r.ends its_dumps) turn last a b c d fault p (q its_dumps are_its) s)

    pub report_stops_fourth : (a b c d e : O) (fault : OrMemory F) → takes a top b → TakesEnds takes setting r.steps r.ends b c → takes c turn d → Stopped takes fails d last fault e →
        StopsReport takes fails setting r a fault e
    report_stops_fourth a b c d e fault p q s t =
        stopped_early a e fault (stopped_last top (ends_text r.ends its_dumps) turn last a b c d e fault p (q its_dumps are_its) s t)

    pub report_stops_last : (a b c d e f : O) (fault : OrMemory F) → takes a top b → TakesEnds takes setting r.steps r.ends b c → takes c turn d → takes d last e →
        Stopped takes fails e part fault f → StopsReport takes fails setting r a fault f
    report_stops_last a b c d e f fault p q s t u =
        record { dumps = its_dumps; are_dumps = are_its; stopped = stopped_after takes fails laws a e f before_part part fault (taken_before a b c d e p q s t) u }
