-- Items that are left to take.
use Rattle.std.proofs.Common.{◌≡◌, ◌<◌, ◌≤◌, ◌+◌, ℕ, List, [], ◌∷◌, length, drop, get_or, sym, subst}
use Rattle.std.proofs.lemmas.List.{drop_all}
use Rattle.basis.specs.declared.memory.OrMemory.{OrMemory}
use Rattle.byte_sinks.specs.ByteSinks.{IsByteSink}
use Rattle.vcd_text.proofs.ItemLemmas.{left_items}
use Rattle.vmodel.specs.declared.history.Item.{Item}
use Rattle.lines_text.specs.declared.sink.LinesSink.{LinesSink}
use Rattle.lines_text.specs.Sinks.{Takes, Fails}
use Rattle.lines_text.specs.SinkLaws.{takes_none, takes_joins, fails_after, fails_before}

module _ {O F : Type 0} (takes : O → List ℕ → O → Type 0) (fails : O → List ℕ → F → O → Type 0) (laws : IsByteSink takes fails) where
  -- one item is taken, and then the rest
  pub takes_on : (s t u : LinesSink O) (items : List Item) (i : ℕ) (item : Item) → item ≡ get_or items i item →
      i < length items → Takes takes s (item ∷ []) t → Takes takes t (drop (i + 1) items) u →
      Takes takes s (drop i items) u
  takes_on s t u items i item is within p q =
      subst (λ (xs : List Item). Takes takes s xs u) (left_items items i item is within)
      (takes_joins takes fails laws s t u (item ∷ []) (drop (i + 1) items) p q)

  pub fails_on : (s t u : LinesSink O) (items : List Item) (i : ℕ) (item : Item) (fault : OrMemory F) →
      item ≡ get_or items i item → i < length items → Takes takes s (item ∷ []) t → Fails takes fails t (drop (i + 1) items) fault u →
      Fails takes fails s (drop i items) fault u
  fails_on s t u items i item fault is within p q =
      subst (λ (xs : List Item). Fails takes fails s xs fault u) (left_items items i item is within)
      (fails_after takes fails laws s t u (item ∷ []) (drop (i + 1) items) fault p q)

  -- the fault comes in an item
  pub fails_here : (s u : LinesSink O) (items : List Item) (i : ℕ) (item : Item) (fault : OrMemory F) →
      item ≡ get_or items i item → i < length items → Fails takes fails s (item ∷ []) fault u → Fails takes fails s (drop i items) fault u
  fails_here s u items i item fault is within p =
      subst (λ (xs : List Item). Fails takes fails s xs fault u) (left_items items i item is within)
      (fails_before takes fails laws s u (item ∷ []) (drop (i + 1) items) fault p)

  -- nothing is left
  pub takes_all : (s : LinesSink O) (items : List Item) (i : ℕ) → length items ≤ i →
      Takes takes s (drop i items) s
  takes_all s items i le =
      subst (λ (xs : List Item). Takes takes s xs s) (sym (drop_all i items le)) (takes_none takes fails laws s)
