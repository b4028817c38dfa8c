use Rattle.std.proofs.Common.{List, ◌++◌, ◌∷◌, [], Option, true, false, refl, ap, sym, subst, ◌∙◌, arith}
use Rattle.std.specs.Vec.{with_items}
use Rattle.std.proofs.lemmas.List.{with_items_is}
use Rattle.vbits.specs.Vectors.{Vector}
use Rattle.vcd_read.specs.declared.item.VcdItem.{VcdItem}
use Rattle.vcd_read.specs.Telling.{item_of}
use Rattle.vcd_slots.specs.Following.{PutsEach, Show, told_at}
use Rattle.vcd_slots.specs.declared.columns.Columns.{Columns}
use Rattle.vcd_slots.proofs.PutLemmas.{puts_as}
use Rattle.vcd_slots.proofs.ShowLemmas.{show_off, show_on, show_time, show_value}
use Rattle.vcd_slots.proofs.columns.Columns.tell.Goals as goal

pub returns-in-Time-clause-show : goal.returns-in-Time-clause-show
returns-in-Time-clause-show c _ items show =
    subst (λ (item : VcdItem). Show c.args.self.now (items ++ item_of item ∷ [])) (sym c.in-Time.is) (show_time c.args.self.now items c.in-Time.field-0 show)

pub returns-in-Value-clause-show : goal.returns-in-Value-clause-show
returns-in-Value-clause-show c same items show =
    let old : Columns = c.args.self.now in
    let new : Columns = record { watched = old.watched; told = with_items old.told c.put_each.new.told; is_on = old.is_on } in
    subst (λ (item : VcdItem). Show new (items ++ item_of item ∷ [])) (sym c.in-Value.is)
    (show_value old new items c.in-Value.code.items c.in-Value.digits.items refl refl
    (subst (λ (list : List (Option Vector)). PutsEach old.watched.items old.is_on old.told.items list c.in-Value.code.items c.in-Value.digits.items)
    (sym (with_items_is old.told c.put_each.new.told (omega (arith, c.put_each.auto.told, c.deref_mut.ensures.len))))
    (puts_as c.deref.result.now old.watched.items old.is_on c.deref_mut.result.now old.told.items c.put_each.new.told c.deref-in-Value.result.now c.in-Value.code.items
    c.deref-in-Value-2.result.now c.in-Value.digits.items c.deref.ensures.value c.deref_mut.ensures.value c.deref-in-Value.ensures.value c.deref-in-Value-2.ensures.value
    (c.put_each.ensures same))) show)

pub returns-in-Off-clause-show : goal.returns-in-Off-clause-show
returns-in-Off-clause-show c _ items show =
    let old : Columns = c.args.self.now in
    let new : Columns = record { watched = old.watched; told = with_items old.told c.forget.new.told; is_on = false } in
    subst (λ (item : VcdItem). Show new (items ++ item_of item ∷ [])) (sym c.in-Off.is) (show_off old new items refl
    (λ place. ap (λ (list : List (Option Vector)). told_at list place) (with_items_is old.told c.forget.new.told (omega (arith, c.forget.auto.told, c.deref_mut-in-Off.ensures.len)))
    ∙ c.forget.ensures place) refl show)

pub returns-in-On-clause-show : goal.returns-in-On-clause-show
returns-in-On-clause-show c _ items show =
    let old : Columns = c.args.self.now in
    let new : Columns = record { watched = old.watched; told = old.told; is_on = true } in
    subst (λ (item : VcdItem). Show new (items ++ item_of item ∷ [])) (sym c.in-On.is) (show_on old new items refl refl refl show)
