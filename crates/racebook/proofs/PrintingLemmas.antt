-- Slot states in another order show the same; and those that have lines show the same lines as all.
use Rattle.std.proofs.Common.{◌≡◌, ℕ, zero, suc, cond, Bool, true, false, List, [], ◌∷◌, slice_get, is_some, Option, Some, None, option_map, refl, ap, ◌∙◌, arith}
use Rattle.std.specs.List.{Contains}
use Rattle.std.proofs.lemmas.List.Elements.{All-contains, All-contains_itself, All-filter, filter_passes}
use Rattle.std.specs.List.Sorted.{IsPermutation}
use Rattle.std.proofs.lemmas.List.Sorted.{Contains-permutation, IsPermutation-sym}
use Rattle.std.proofs.lemmas.Option.{same_Some}
use Rattle.basis.proofs.Lists.{at_contains}
use Rattle.racebook.specs.declared.slot_state.SlotState.{SlotState}
use Rattle.racebook.specs.Races.{Race}
use Rattle.racebook.specs.LineRaces.{LineRace}
use Rattle.racebook.specs.Inner.{AreAllLineRaces, AreAllRaces, AreShown, AreWide, Disagree, HavePrinted, IsSeen, printed_of, printing_among, value_of}

-- ---- all that print

cons_now : (b : Bool) (x y : SlotState) (rest : List SlotState) → b ≡ true → x ≡ y → Contains (cond b (x ∷ rest) rest) y
cons_now true x y rest is e = (0, omega arith, e)
cons_now false x y rest is e = absurd (cc)

cons_then : (b : Bool) (x y : SlotState) (rest : List SlotState) → Contains rest y → Contains (cond b (x ∷ rest) rest) y
cons_then true x y rest has = (suc has.0, omega (arith, has.1), has.2)
cons_then false x y rest has = has

kept : (gs : List SlotState) (i : ℕ) (g : SlotState) → slice_get gs i ≡ Some g → is_some g.printed ≡ true → Contains (printing_among gs) g
kept [] i g at is = absurd (cc)
kept (h ∷ gs) zero g at is =
    let e : h ≡ g = same_Some h g at in
    cons_now (is_some h.printed) h g (printing_among gs) (ap (λ (x : SlotState). is_some x.printed) e ∙ is) e
kept (h ∷ gs) (suc i) g at is = cons_then (is_some h.printed) h g (printing_among gs) (kept gs i g at is)

still : {A B : Type 0} (f : A → B) (o : Option A) (b : B) → option_map f o ≡ Some b → is_some o ≡ true
still f None b e = absurd (cc)
still f (Some a) b e = refl

pub have_printed : (gs hs : List SlotState) → IsPermutation (printing_among gs) hs → HavePrinted hs
have_printed gs hs moved g has =
    let there = Contains-permutation hs (printing_among gs) g (IsPermutation-sym (printing_among gs) hs moved) has in
    All-contains (λ (x : SlotState). is_some x.printed ≡ true) (printing_among gs) g (filter_passes (λ (x : SlotState). is_some x.printed) gs) there

pub wide_moved : (count : ℕ) (gs hs : List SlotState) → IsPermutation gs hs → AreWide count gs → AreWide count hs
wide_moved count gs hs moved wide g has = wide g (Contains-permutation hs gs g (IsPermutation-sym gs hs moved) has)

-- ---- what is seen

-- what is seen in the one is seen in the other
abbrev pub ShowsIn : {V : Type 0} → (SlotState → Option V) → List SlotState → List SlotState → Type 0
ShowsIn {V} shown gs hs = (time : ℕ) (v : V) (log : List (ℕ × ℕ)) → IsSeen shown gs time v log → IsSeen shown hs time v log

moved_in : {V : Type 0} (shown : SlotState → Option V) (gs hs : List SlotState) → IsPermutation gs hs → ShowsIn shown gs hs
moved_in shown gs hs moved time v log seen = record {
  slot_state = seen.slot_state;
  among = Contains-permutation gs hs seen.slot_state moved seen.among;
  time_is = seen.time_is;
  value_is = seen.value_is;
  log_is = seen.log_is;
}

disagree_in : {V : Type 0} (shown : SlotState → Option V) (gs hs : List SlotState) → ShowsIn shown gs hs → (time : ℕ) → Disagree shown gs time → Disagree shown hs time
disagree_in shown gs hs in_other time d = record {
  one = d.one;
  other = d.other;
  log = d.log;
  other_log = d.other_log;
  sees_one = in_other time d.one d.log d.sees_one;
  sees_other = in_other time d.other d.other_log d.sees_other;
  differ = d.differ;
}

shown_in : {V : Type 0} {AreInOrder : List (V × List (ℕ × ℕ)) → Type 0} (shown : SlotState → Option V) (gs hs : List SlotState) → ShowsIn shown gs hs → ShowsIn shown hs gs →
    (time : ℕ) (values : List (V × List (ℕ × ℕ))) → AreShown shown AreInOrder gs time values → AreShown shown AreInOrder hs time values
shown_in shown gs hs there back time values are = record {
  two = are.two;
  seen = λ i s at. there time s.0 s.1 (are.seen i s at);
  fewest = λ i s log at seen. are.fewest i s log at (back time s.0 log seen);
  all = λ value log seen. are.all value log (back time value log seen);
  order = are.order;
}

-- the races are the same in any order
pub races_moved : (gs hs : List SlotState) (races : List Race) → IsPermutation gs hs → AreAllRaces hs races → AreAllRaces gs races
races_moved gs hs races moved book =
    let back = IsPermutation-sym gs hs moved in
    record {
      each = λ i race at. shown_in (value_of race.variable) hs gs (moved_in (value_of race.variable) hs gs back) (moved_in (value_of race.variable) gs hs moved) race.time race.values (book.each i race at);
      all = λ t n differ. book.all t n (disagree_in (value_of n) gs hs (moved_in (value_of n) gs hs moved) t differ);
      order = book.order;
    }

-- ---- what is seen of lines

seen_in_all : (gs : List SlotState) → ShowsIn printed_of (printing_among gs) gs
seen_in_all gs time lines log seen = record {
  slot_state = seen.slot_state;
  among = All-contains (Contains gs) (printing_among gs) seen.slot_state (All-filter (λ (x : SlotState). is_some x.printed) (Contains gs) gs (All-contains_itself gs)) seen.among;
  time_is = seen.time_is;
  value_is = seen.value_is;
  log_is = seen.log_is;
}

all_in_seen : (gs : List SlotState) → ShowsIn printed_of gs (printing_among gs)
all_in_seen gs time lines log seen =
    let p = at_contains gs seen.slot_state seen.among in
    let prints = still (λ bag. bag.now) seen.slot_state.printed lines seen.value_is in
    record {
      slot_state = seen.slot_state;
      among = kept gs p.0 seen.slot_state p.1 prints;
      time_is = seen.time_is;
      value_is = seen.value_is;
      log_is = seen.log_is;
    }

-- the races among those that have lines, in any order, are the races among all
pub lines_in_all : (gs hs : List SlotState) (races : List LineRace) → IsPermutation (printing_among gs) hs → AreAllLineRaces hs races → AreAllLineRaces gs races
lines_in_all gs hs races moved book =
    let back = IsPermutation-sym (printing_among gs) hs moved in
    let there : ShowsIn printed_of hs gs = λ time v log seen. seen_in_all gs time v log (moved_in printed_of hs (printing_among gs) back time v log seen) in
    let again : ShowsIn printed_of gs hs = λ time v log seen. moved_in printed_of (printing_among gs) hs moved time v log (all_in_seen gs time v log seen) in
    record {
      each = λ i race at. shown_in printed_of hs gs there again race.time race.sides (book.each i race at);
      all = λ t n differ. book.all t n (disagree_in printed_of gs hs again t differ.0, differ.1);
      order = book.order;
    }
