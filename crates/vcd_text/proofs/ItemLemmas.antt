-- Items that are left to take.
use Rattle.std.proofs.Common.{◌≡◌, ◌<◌, ◌≤◌, ◌+◌, ℕ, suc, List, [], ◌∷◌, length, drop, get_or, drop-cons, sym, ap, subst, ◌∙◌, add-one, refl}
use Rattle.std.proofs.lemmas.List.{drop_all}
use Rattle.vdesign.specs.Design.{Design}
use Rattle.vmodel.specs.declared.history.Item.{Item}
use Rattle.vmodel.specs.declared.history.Item.TheVariants.{SlotEnd, Dump, Line, Monitor}
use Rattle.basis.specs.declared.memory.OrMemory.{OrMemory}
use Rattle.basis.specs.declared.memory.OrMemory.TheVariants.{Fault, Memory}
use Rattle.vcd_text.specs.declared.progress.Progress.{Progress}
use Rattle.vcd_text.specs.declared.progress.Progress.TheVariants.{Failed}
use Rattle.vcd_text.specs.declared.sink.DumpSink.{DumpSink}
use Rattle.byte_sinks.specs.ByteSinks.{IsByteSink}
use Rattle.vcd_text.specs.Sinks.{Takes, Fails, IsOver, items_text, progress_over, text_of}
use Rattle.vcd_text.specs.SinkLaws.{takes_none, takes_joins, fails_after, fails_before}

pub left_items : (items : List Item) (i : ℕ) (item : Item) → item ≡ get_or items i item → i < length items →
    item ∷ drop (i + 1) items ≡ drop i items
left_items items i item is within =
    sym (drop-cons items i item within ∙ ap (λ (x : Item). x ∷ drop (suc i) items) (sym is) ∙ ap (λ (n : ℕ). item ∷ drop n items) (sym (add-one i)))

failed_text : (design : Design) (items : List Item) → items_text design Failed items ≡ []
failed_text design [] = refl
failed_text design (SlotEnd t values ∷ items) = failed_text design items
failed_text design (Dump command ∷ items) = failed_text design items
failed_text design (Line text ∷ items) = failed_text design items
failed_text design (Monitor place ∷ items) = failed_text design items

failed_over : (design : Design) (items : List Item) → progress_over design Failed items ≡ Failed
failed_over design [] = refl
failed_over design (SlotEnd t values ∷ items) = failed_over design items
failed_over design (Dump command ∷ items) = failed_over design items
failed_over design (Line text ∷ items) = failed_over design items
failed_over design (Monitor place ∷ items) = failed_over design items

-- a dump that failed is over, whatever the fault
pub over : {F : Type 0} (fault : OrMemory F) → IsOver fault Failed
over (Fault fault) = refl
over (Memory m) = tt

module _ {O F : Type 0} (takes : O → List ℕ → O → Type 0) (fails : O → List ℕ → F → O → Type 0) (laws : IsByteSink takes fails) where
  -- one item is taken, and then the rest
  pub takes_on : (s t u : DumpSink O) (items : List Item) (i : ℕ) (item : Item) → item ≡ get_or items i item →
      i < length items → Takes takes s (item ∷ []) t → Takes takes t (drop (i + 1) items) u →
      Takes takes s (drop i items) u
  takes_on s t u items i item is within p q =
      subst (λ (xs : List Item). Takes takes s xs u) (left_items items i item is within)
      (takes_joins takes fails laws s t u (item ∷ []) (drop (i + 1) items) p q)

  pub fails_on : (s t u : DumpSink O) (items : List Item) (i : ℕ) (item : Item) (fault : OrMemory F) →
      item ≡ get_or items i item → i < length items → Takes takes s (item ∷ []) t → Fails takes fails t (drop (i + 1) items) fault u →
      Fails takes fails s (drop i items) fault u
  fails_on s t u items i item fault is within p q =
      subst (λ (xs : List Item). Fails takes fails s xs fault u) (left_items items i item is within)
      (fails_after takes fails laws s t u (item ∷ []) (drop (i + 1) items) fault p q)

  -- the fault comes in an item
  pub fails_here : (s u : DumpSink O) (items : List Item) (i : ℕ) (item : Item) (fault : OrMemory F) →
      item ≡ get_or items i item → i < length items → Fails takes fails s (item ∷ []) fault u → Fails takes fails s (drop i items) fault u
  fails_here s u items i item fault is within p =
      subst (λ (xs : List Item). Fails takes fails s xs fault u) (left_items items i item is within)
      (fails_before takes fails laws s u (item ∷ []) (drop (i + 1) items) fault p)

  -- a dump that failed passes items over
  pub takes_nothing : (s : DumpSink O) (items : List Item) → s.progress ≡ Failed → Takes takes s items s
  takes_nothing s items failed =
      let over : progress_over s.design.now s.progress items ≡ s.progress =
      ap (λ (p : Progress). progress_over s.design.now p items) failed ∙ failed_over s.design.now items ∙ sym failed in
      let text : text_of s items ≡ [] = ap (λ (p : Progress). items_text s.design.now p items) failed ∙ failed_text s.design.now items in
      ((refl, refl), sym over, subst (λ (xs : List ℕ). takes s.byte_sink.now xs s.byte_sink.now) (sym text) (laws.none s.byte_sink.now))

  -- nothing is left
  pub takes_all : (s : DumpSink O) (items : List Item) (i : ℕ) → length items ≤ i →
      Takes takes s (drop i items) s
  takes_all s items i le =
      subst (λ (xs : List Item). Takes takes s xs s) (sym (drop_all i items le)) (takes_none takes fails laws s)
