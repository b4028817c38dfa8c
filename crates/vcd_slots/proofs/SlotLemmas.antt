-- What was read of a slot.
use Rattle.std.proofs.Common.{◌≡◌, ℕ, ◌<◌, List, [], ◌∷◌, ◌++◌, Option, Some, None, Result, Ok, Err, IfSome, IfNone, IfOk, ap, sym, ◌∙◌, subst, append-nil, append_assoc}
use Rattle.std.specs.Prelude.{IsSome}
use Rattle.vcd_read.specs.Words.{Text}
use Rattle.vcd_read.specs.Bytes.{Come, AreAll}
use Rattle.vcd_read.specs.Commands.{Item, at, Tells}
use Rattle.vcd_read.specs.Telling.{Tell, item_of}
use Rattle.vcd_read.specs.declared.item.VcdItem.{VcdItem}
use Rattle.vcd_read.specs.Readers.{to_come}
use Rattle.vcd_read.specs.declared.reader.VcdReader.{VcdReader}
use Rattle.vcd_read.proofs.WordLemmas.{more_come, none_come}
use Rattle.vcd_read.proofs.TellLemmas.{tell_then}
use Rattle.vcd_slots.specs.Standing.{Advances, Behind, IsLater, IsReady, Leads, ReadsOn, Takes, TakesUpTo, pending}
use Rattle.vcd_slots.specs.Coming.{Comes}
use Rattle.vcd_slots.specs.Units.{AreInUnit, IsInUnit}
use Rattle.vcd_slots.specs.declared.units.Units.{Units}
use Rattle.vcd_slots.specs.declared.slots.DumpSlots.{DumpSlots}
use Rattle.vcd_slots.specs.declared.columns.Columns.{Columns}
use Rattle.vcd_slots.proofs.UnitLemmas.{units_then}
use Rattle.vcd_slots.proofs.OrderLemmas.{behind_time, lead_nothing, lead_then}

-- words were taken that tell these items
pub record Came {R : Type 0} (remaining : R → Option (List ℕ)) (units : Units) (shown : Option ℕ) (first : VcdReader R) (from : Columns) (dump : VcdReader R)
    (columns : Columns) : Type 0 where
  pub items : List Item
  pub words : List Text
  pub told : List Item
  pub come : Come words (to_come remaining first) (to_come remaining dump)
  pub tell : Tell words first.commands.inside dump.commands.inside told
  pub same : AreInUnit units told items
  pub lead : Leads from columns shown items

all_behind : (these those : List Text) (first old new : Option (List ℕ)) → Come these first old → AreAll those old new → AreAll (these ++ those) first new
all_behind these those None old new p q = tt
all_behind these those (Some text) None new p q = absurd p
all_behind these those (Some text) (Some xs) None p q = absurd q
all_behind these those (Some text) (Some xs) (Some ys) p q = p ∙ ap (λ (list : List Text). these ++ list) q

module _ {R : Type 0} (remaining : R → Option (List ℕ)) (units : Units) (shown : Option ℕ) (first : VcdReader R) (from : Columns) where
  pub came_none : Came remaining units shown first from first from
  came_none = record {
    items = [];
    words = [];
    told = [];
    come = none_come (to_come remaining first);
    tell = λ rest more d. d;
    same = tt;
    lead = lead_nothing from shown;
  }

  pub came_more : (old new : VcdReader R) (columns then : Columns) (item : Item) → Came remaining units shown first from old columns →
      Comes remaining units old new (item ∷ []) → Leads columns then shown (item ∷ []) → Came remaining units shown first from new then
  came_more old new columns then item came (words, told, come, tell, same) lead = record {
    items = came.items ++ item ∷ [];
    words = came.words ++ words;
    told = came.told ++ told;
    come = more_come came.words words (to_come remaining first) (to_come remaining old) (to_come remaining new) came.come come;
    tell = tell_then came.words words first.commands.inside old.commands.inside new.commands.inside came.told told came.tell tell;
    same = units_then units came.told came.items told (item ∷ []) came.same same;
    lead = lead_then from columns then shown came.items (item ∷ []) came.lead lead;
  }

  -- the next time comes
  pub comes_next : (old new : VcdReader R) (columns : Columns) (time : ℕ) (came : Came remaining units shown first from old columns) →
      Comes remaining units old new (at time ∷ []) → TakesUpTo remaining units first new (Some time) came.items
  comes_next old new columns time came (words, told, come, tell, same) = (
    came.words ++ words,
    came.told ++ told,
    more_come came.words words (to_come remaining first) (to_come remaining old) (to_come remaining new) came.come come,
    tell_then came.words words first.commands.inside old.commands.inside new.commands.inside came.told told came.tell tell,
    units_then units came.told came.items told (at time ∷ []) came.same same,
  )

  -- the end comes
  pub comes_end : (old new : VcdReader R) (columns : Columns) (words : List Text) (came : Came remaining units shown first from old columns) →
      AreAll words (to_come remaining old) (to_come remaining new) → Tells old.commands.inside words [] → TakesUpTo remaining units first new None came.items
  comes_end old new columns words came all tells = (
    came.words ++ words,
    came.told,
    all_behind came.words words (to_come remaining first) (to_come remaining old) (to_come remaining new) came.come all,
    subst (λ (items : List Item). Tells first.commands.inside (came.words ++ words) items) (append-nil came.told) (came.tell words [] tells),
    came.same,
  )

-- ---- in the words of the calls

pub less_by : {A : Type 0} (told : Option A) (one : A) (a b : ℕ) → told ≡ Some one → IfSome told (λ _. a < b) → a < b
less_by told one a b is less = subst (λ o. IfSome o (λ _. a < b)) is less

module _ {R : Type 0} (remaining : R → Option (List ℕ)) (units : Units) (first old new : VcdReader R) (from : Columns) where
  pub came_by : (shown now : Option ℕ) (columns then : Columns) (told : Option VcdItem) (item : VcdItem) → told ≡ Some item →
      IfSome told (λ one. Comes remaining units old new (item_of one ∷ [])) → now ≡ shown → Came remaining units shown first from old columns →
      Leads columns then now (item_of item ∷ []) → Came remaining units shown first from new then
  came_by shown now columns then told item is some same came lead =
      came_more remaining units shown first from old new columns then (item_of item) came
      (subst (λ o. IfSome o (λ one. Comes remaining units old new (item_of one ∷ []))) is some)
      (subst (λ (o : Option ℕ). Leads columns then o (item_of item ∷ [])) same lead)

  pub next_by : (shown : Option ℕ) (columns then : Columns) (told : Option VcdItem) (item : VcdItem) (time : ℕ) → told ≡ Some item →
      IfSome told (λ one. Comes remaining units old new (item_of one ∷ [])) → item_of item ≡ at time → then ≡ columns →
      Came remaining units shown first from old columns → (items : List Item) × TakesUpTo remaining units first new (Some time) items × Leads from then shown items
  next_by shown columns then told item time is some time_is same came = (
    came.items,
    comes_next remaining units shown first from old new columns time came
        (subst (λ (i : Item). Comes remaining units old new (i ∷ [])) time_is
        (subst (λ o. IfSome o (λ one. Comes remaining units old new (item_of one ∷ []))) is some)),
    subst (λ (c : Columns). Leads from c shown came.items) (sym same) came.lead,
  )

  pub end_by : (shown ahead : Option ℕ) (columns : Columns) (told : Option VcdItem) → told ≡ None →
      IfNone told ((words : List Text) × AreAll words (to_come remaining old) (to_come remaining new) × Tells old.commands.inside words []) → ahead ≡ None →
      Came remaining units shown first from old columns → (items : List Item) × TakesUpTo remaining units first new ahead items × Leads from columns shown items
  end_by shown ahead columns told is none no_more came =
      let all = subst (λ o. IfNone o ((words : List Text) × AreAll words (to_come remaining old) (to_come remaining new) × Tells old.commands.inside words [])) is none in (
        came.items,
        subst (λ (o : Option ℕ). TakesUpTo remaining units first new o came.items) (sym no_more)
            (comes_end remaining units shown first from old new columns all.0 came all.1 all.2),
        came.lead,
      )

-- an item of the dump, and what it is in the unit that is shown
pub comes_so : {R : Type 0} (remaining : R → Option (List ℕ)) (units : Units) (old new : VcdReader R) (told : Option VcdItem) (item : VcdItem)
    (shown : Option VcdItem) (now : VcdItem) → told ≡ Some item →
    IfSome told (λ one. (words : List Text) × Come words (to_come remaining old) (to_come remaining new)
    × Tell words old.commands.inside new.commands.inside (item_of one ∷ [])) →
    shown ≡ Some now → IfSome shown (λ one. IsInUnit units (item_of item) (item_of one)) → Comes remaining units old new (item_of now ∷ [])
comes_so remaining units old new told item shown now is some here same =
    let (words, come, tell) = subst (λ o. IfSome o (λ one. (words : List Text) × Come words (to_come remaining old) (to_come remaining new)
    × Tell words old.commands.inside new.commands.inside (item_of one ∷ []))) is some in
    (words, item_of item ∷ [], come, tell, (subst (λ o. IfSome o (λ one. IsInUnit units (item_of item) (item_of one))) here same, tt))

shown_by : (old new : Columns) (shown ahead now : Option ℕ) (items before : List Item) → now ≡ ahead → IsSome ahead → IsLater shown ahead →
    Leads old new ahead items → Behind old shown before → Behind new now (before ++ pending ahead ++ items)
shown_by old new shown None now items before same some later lead b = absurd cc
shown_by old new shown (Some time) now items before same some later lead b =
    subst (λ (o : Option ℕ). Behind new o (before ++ at time ∷ [] ++ items)) (sym same)
    (lead (before ++ at time ∷ []) (behind_time old shown time before later b))

pub advances_by : {R E : Type 0} (remaining : R → Option (List ℕ)) (old new : DumpSlots R) (result : Result (Unit {0}) E) → IsReady old → IsSome old.ahead →
    new.time ≡ old.ahead → new.columns.watched ≡ old.columns.watched → new.units ≡ old.units →
    IfOk result (λ _. (items : List Item) × Takes remaining old.dump new items × Leads old.columns new.columns old.ahead items) →
    IfOk result (λ _. (items : List Item) × Advances remaining old new items)
advances_by remaining old new (Err e) ready some same watched units takes = tt
advances_by remaining old new (Ok u) ready some same watched units takes = (
  takes.0,
  record {
    takes = takes.1;
    stands = λ before stands. shown_by old.columns new.columns old.time old.ahead new.time takes.0 before same some ready.later takes.2 stands;
    watched = watched;
    units = units;
  },
)

takes_then : {R : Type 0} (remaining : R → Option (List ℕ)) (units : Units) (dump old new : VcdReader R) (time : ℕ) (ahead : Option ℕ) (items more : List Item) →
    TakesUpTo remaining units dump old (Some time) items → TakesUpTo remaining units old new ahead more →
    TakesUpTo remaining units dump new ahead (items ++ at time ∷ [] ++ more)
takes_then remaining units dump old new time None items more (these, told, come, tell, same) (those, others, all, tells, alike) = (
  these ++ those,
  told ++ others,
  all_behind these those (to_come remaining dump) (to_come remaining old) (to_come remaining new) come all,
  tell those others tells,
  units_then units told (items ++ at time ∷ []) others more same alike,
)
takes_then remaining units dump old new time (Some next) items more (these, told, come, tell, same) (those, others, comes, tells, alike) = (
  these ++ those,
  told ++ others,
  more_come these those (to_come remaining dump) (to_come remaining old) (to_come remaining new) come comes,
  tell_then these those dump.commands.inside old.commands.inside new.commands.inside told others tell tells,
  subst (λ (list : List Item). AreInUnit units (told ++ others) list) (sym (append_assoc (items ++ at time ∷ []) more (at next ∷ [])))
      (units_then units told (items ++ at time ∷ []) others (more ++ at next ∷ []) same alike),
)

takes_on : {R : Type 0} (remaining : R → Option (List ℕ)) (units : Units) (dump : VcdReader R) (old new : VcdReader R) (ahead next : Option ℕ) (items more : List Item) →
    IsSome ahead → TakesUpTo remaining units dump old ahead items → TakesUpTo remaining units old new next more →
    TakesUpTo remaining units dump new next (items ++ pending ahead ++ more)
takes_on remaining units dump old new None next items more some one two = absurd cc
takes_on remaining units dump old new (Some time) next items more some one two = takes_then remaining units dump old new time next items more one two

reads_on : {R : Type 0} (remaining : R → Option (List ℕ)) (old new : DumpSlots R) (items : List Item) → IsSome old.ahead → Advances remaining old new items →
    ReadsOn remaining old new
reads_on remaining old new items some advances dump (before, takes, stands) = (
  before ++ pending old.ahead ++ items,
  takes_on remaining new.units dump old.dump new.dump old.ahead new.ahead before items some
      (subst (λ (units : Units). TakesUpTo remaining units dump old.dump old.ahead before) (sym advances.units) takes) advances.takes,
  advances.stands before stands,
)

pub reads_by : {R E : Type 0} (remaining : R → Option (List ℕ)) (old new : DumpSlots R) (result : Result (Unit {0}) E) → IsSome old.ahead →
    IfOk result (λ _. (items : List Item) × Advances remaining old new items) → IfOk result (λ _. ReadsOn remaining old new)
reads_by remaining old new (Err e) some advances = tt
reads_by remaining old new (Ok u) some advances = reads_on remaining old new advances.0 some advances.1
