-- What is shown behind an item more.
use Rattle.std.proofs.Common.{◌≡◌, ℕ, Bool, true, false, ◌&&◌, if◌then◌else◌, List, [], ◌∷◌, ◌++◌, Option, Some, None, slice_get, refl, ap, sym, ◌∙◌, subst}
use Rattle.std.specs.Prelude.{nat_eq, option_and_then}
use Rattle.std.specs.Cmp.Lexicographic.{pointwise}
use Rattle.vbits.specs.Vectors.{Vector}
use Rattle.vcd_read.specs.Words.{Text}
use Rattle.vcd_read.specs.Commands.{Item, at, value, off, on}
use Rattle.vcd_slots.specs.Slots.{Fit, digits_behind, digits_by, on_behind, on_by, value_after, vector_of}
use Rattle.vcd_slots.specs.Following.{PutsEach, Show, put_by, told_at}
use Rattle.vcd_slots.specs.declared.column.Column.{Column}
use Rattle.vcd_slots.specs.declared.columns.Columns.{Columns}

on_more : (is_on : Bool) (items : List Item) (item : Item) → on_behind is_on (items ++ item ∷ []) ≡ on_by (on_behind is_on items) item
on_more is_on [] item = refl
on_more is_on (one ∷ items) item = on_more (on_by is_on one) items item

digits_more : (code : Text) (is_on : Bool) (told : Option Text) (items : List Item) (item : Item) →
    digits_behind code is_on told (items ++ item ∷ []) ≡ digits_by code (on_behind is_on items) (digits_behind code is_on told items) item
digits_more code is_on told [] item = refl
digits_more code is_on told (one ∷ items) item = digits_more code (on_by is_on one) (digits_by code is_on told one) items item

fit_more : (code : Text) (width : ℕ) (items : List Item) (item : Item) → Fit code width items → Fit code width (item ∷ []) → Fit code width (items ++ item ∷ [])
fit_more code width [] item before this = this
fit_more code width (at time ∷ items) item before this = fit_more code width items item before this
fit_more code width (value other digits ∷ items) item before this = (before.0, fit_more code width items item before.1 this)
fit_more code width (off ∷ items) item before this = fit_more code width items item before this
fit_more code width (on ∷ items) item before this = fit_more code width items item before this

-- what a column makes of an item
abbrev Makes : Columns → Columns → List Item → Item → ℕ → Column → Type 0
Makes old new items item place column =
    told_at new.told.items place ≡ option_and_then (vector_of column.width) (digits_by column.code.items old.is_on (value_after items column.code.items) item)

show_more : (old new : Columns) (items : List Item) (item : Item) → new.watched ≡ old.watched → new.is_on ≡ on_by old.is_on item →
    ((place : ℕ) (column : Column) → slice_get old.watched.items place ≡ Some column → Makes old new items item place column) →
    ((place : ℕ) (column : Column) → slice_get old.watched.items place ≡ Some column → Fit column.code.items column.width (item ∷ [])) →
    Show old items → Show new (items ++ item ∷ [])
show_more old new items item same turns makes fits show =
    let back = λ (place : ℕ) (column : Column) (is : slice_get new.watched.items place ≡ Some column).
    subst (λ w. slice_get w.items place ≡ Some column) same is in
    record {
      on = turns ∙ ap (λ (b : Bool). on_by b item) show.on ∙ sym (on_more true items item);
      values = λ place column is. makes place column (back place column is)
          ∙ ap (λ (b : Bool). option_and_then (vector_of column.width) (digits_by column.code.items b (value_after items column.code.items) item)) show.on
          ∙ sym (ap (option_and_then (vector_of column.width)) (digits_more column.code.items true None items item));
      fit = λ place column is. fit_more column.code.items column.width items item (show.fit place column (back place column is)) (fits place column (back place column is));
    }

pub show_time : (columns : Columns) (items : List Item) (time : ℕ) → Show columns items → Show columns (items ++ at time ∷ [])
show_time columns items time show = show_more columns columns items (at time) refl refl show.values (λ place column is. tt) show

pub show_on : (old new : Columns) (items : List Item) → new.watched ≡ old.watched → new.told ≡ old.told → new.is_on ≡ true → Show old items →
    Show new (items ++ on ∷ [])
show_on old new items same told is_on show =
    show_more old new items on same is_on (λ place column is. ap (λ t. told_at t.items place) told ∙ show.values place column is) (λ place column is. tt) show

pub show_off : (old new : Columns) (items : List Item) → new.watched ≡ old.watched → ((place : ℕ) → told_at new.told.items place ≡ None) → new.is_on ≡ false →
    Show old items → Show new (items ++ off ∷ [])
show_off old new items same told is_on show = show_more old new items off same is_on (λ place column is. told place) (λ place column is. tt) show

chosen : (width : ℕ) (b : Bool) (digits : Text) (told : Option Text) →
    option_and_then (vector_of width) (if b then Some digits else told) ≡ (if b then vector_of width digits else option_and_then (vector_of width) told)
chosen width true digits told = refl
chosen width false digits told = refl

pub show_value : (old new : Columns) (items : List Item) (code digits : Text) → new.watched ≡ old.watched → new.is_on ≡ old.is_on →
    PutsEach old.watched.items old.is_on old.told.items new.told.items code digits → Show old items → Show new (items ++ value code digits ∷ [])
show_value old new items code digits same is_on puts show =
    show_more old new items (value code digits) same is_on
    (λ place column is. (puts place column is).value ∙ ap (λ (before : Option Vector). put_by column old.is_on before code digits) (show.values place column is)
    ∙ sym (chosen column.width (old.is_on && pointwise nat_eq code column.code.items) digits (value_after items column.code.items)))
    (λ place column is. ((puts place column is).fits, tt)) show
