-- Items come, in order of time.
use Rattle.std.proofs.Common.{◌≡◌, ℕ, List, [], ◌∷◌, ◌++◌, Option, Some, None, refl, ap, sym, ◌∙◌, subst, append_assoc, append-nil, arith}
use Rattle.vcd_read.specs.Commands.{Item, at, value, off, on}
use Rattle.vcd_slots.specs.Slots.{DoNotFall, last_time}
use Rattle.vcd_slots.specs.Following.{IsFresh, Show}
use Rattle.vcd_slots.specs.Standing.{Behind, IsLater, Leads}
use Rattle.vcd_slots.specs.Taken.{IsNoTime, IsTaken, TakenSo}
use Rattle.vcd_slots.specs.declared.columns.Columns.{Columns}
use Rattle.vcd_slots.specs.declared.slots.Taken.{Taken}
use Rattle.vcd_slots.specs.declared.slots.Taken.TheVariants.{Told, Next, Refused}
use Rattle.vcd_slots.proofs.ShowLemmas.{show_time}

order_more : (before : Option ℕ) (items : List Item) (item : Item) → DoNotFall before items → DoNotFall (last_time before items) (item ∷ []) →
    DoNotFall before (items ++ item ∷ [])
order_more before [] item these this = this
order_more before (at time ∷ items) item these this = (these.0, order_more (Some time) items item these.1 this)
order_more before (value code digits ∷ items) item these this = order_more before items item these this
order_more before (off ∷ items) item these this = order_more before items item these this
order_more before (on ∷ items) item these this = order_more before items item these this

last_more : (before : Option ℕ) (items : List Item) (item : Item) → last_time before (items ++ item ∷ []) ≡ last_time (last_time before items) (item ∷ [])
last_more before [] item = refl
last_more before (at time ∷ items) item = last_more (Some time) items item
last_more before (value code digits ∷ items) item = last_more before items item
last_more before (off ∷ items) item = last_more before items item
last_more before (on ∷ items) item = last_more before items item

behind_item : (old new : Columns) (shown then : Option ℕ) (item : Item) (before : List Item) → DoNotFall shown (item ∷ []) → last_time shown (item ∷ []) ≡ then →
    (Show old before → Show new (before ++ item ∷ [])) → Behind old shown before → Behind new then (before ++ item ∷ [])
behind_item old new shown then item before order last show b = record {
  order = order_more None before item b.order (subst (λ (time : Option ℕ). DoNotFall time (item ∷ [])) (sym b.last) order);
  last = last_more None before item ∙ ap (λ (time : Option ℕ). last_time time (item ∷ [])) b.last ∙ last;
  show = show b.show;
}

-- an item that is no time
pub lead_told : (old new : Columns) (shown : Option ℕ) (item : Item) → IsNoTime item →
    ((items : List Item) → Show old items → Show new (items ++ item ∷ [])) → Leads old new shown (item ∷ [])
lead_told old new shown (at time) none show = absurd none
lead_told old new shown (value code digits) none show = λ before. behind_item old new shown shown (value code digits) before tt refl (show before)
lead_told old new shown off none show = λ before. behind_item old new shown shown off before tt refl (show before)
lead_told old new shown on none show = λ before. behind_item old new shown shown on before tt refl (show before)

-- the time that is shown, once more
lead_again : (columns : Columns) (shown : Option ℕ) (time : ℕ) → shown ≡ Some time → Leads columns columns shown (at time ∷ [])
lead_again columns shown time same =
    subst (λ (o : Option ℕ). Leads columns columns o (at time ∷ [])) (sym same)
    (λ before. behind_item columns columns (Some time) (Some time) (at time) before (omega arith, tt) refl (show_time columns before time))

pub taken_time : (columns : Columns) (shown : Option ℕ) (item : Item) (time : ℕ) (taken : Taken) → item ≡ at time → IsTaken shown taken time →
    TakenSo columns columns shown item taken
taken_time columns shown item time Told is so =
    subst (λ (one : Item). Leads columns columns shown (one ∷ [])) (sym is) (lead_again columns shown time so)
taken_time columns shown item time (Next next) is so =
    (is ∙ ap at (sym so.0), subst (λ (t : ℕ). IsLater shown (Some t)) (sym so.0) so.1, refl)
taken_time columns shown item time (Refused flaw) is so = tt

later_order : (shown : Option ℕ) (time : ℕ) → IsLater shown (Some time) → DoNotFall shown (at time ∷ [])
later_order None time later = (tt, tt)
later_order (Some now) time later = (omega arith, tt)

-- a later time
pub behind_time : (columns : Columns) (shown : Option ℕ) (time : ℕ) (before : List Item) → IsLater shown (Some time) → Behind columns shown before →
    Behind columns (Some time) (before ++ at time ∷ [])
behind_time columns shown time before later =
    behind_item columns columns shown (Some time) (at time) before (later_order shown time later) refl (show_time columns before time)

-- at first nothing is shown
pub behind_none : (columns : Columns) → IsFresh columns → Behind columns None []
behind_none columns fresh = record {
  order = tt;
  last = refl;
  show = record { on = fresh.on; values = λ place column is. fresh.unknown place; fit = λ place column is. tt };
}

pub lead_nothing : (columns : Columns) (shown : Option ℕ) → Leads columns columns shown []
lead_nothing columns shown before b = subst (Behind columns shown) (sym (append-nil before)) b

pub lead_then : (a b c : Columns) (shown : Option ℕ) (items more : List Item) → Leads a b shown items → Leads b c shown more → Leads a c shown (items ++ more)
lead_then a b c shown items more p q before at_a =
    subst (Behind c shown) (append_assoc before items more) (q (before ++ items) (p before at_a))
