-- How workers are seated and joined again: their ends stay in the ring, and the sum has what all have counted.
use Rattle.std.proofs.Common.{◌≡◌, ℕ, zero, suc, ◌+◌, ◌%◌, ◌^◌, ◌<◌, Bool, true, false, ◌||◌, List, [], ◌∷◌, ◌++◌, length, slice_index_or, arith, ap, refl, sym, ◌∙◌, subst, length-append, append_assoc, append-nil}
use native.Mathlib.Nat.{mod-add-mod}
use Rattle.atomic_table.specs.Seated.{TableId}
use Rattle.basis.proofs.Lists.{stands_in_front, stands_last}
use Rattle.sched_core.specs.Rules.{Rules}
use Rattle.statebook.specs.declared.limits.Limits.{Limits}
use Rattle.workpool.specs.Jobs.{DequeId}
use Rattle.workpool.specs.Rings.{AreIdle, IsRing, Links}
use Rattle.workpool.specs.Tallies.{Seated}
use Rattle.workpool.specs.Inner.Works.{IsSamePlace, StaysCounted, TellsPast}
use Rattle.workpool.specs.Inner.Joined.{AreReady, AreSamePlaces, IsReady, IsSummed, IsSumOf, all_opens, all_parts, seats_put, seats_taken, seats_onto}
use Rattle.workpool.specs.declared.ring.Seat.{Seat}
use Rattle.workpool.specs.declared.sum.Sum.{Sum}
use Rattle.workpool.specs.declared.work.Work.{Work}
use Rattle.workpool.proofs.SumLemmas.{total_snoc}
use Rattle.workpool.proofs.WorkLemmas.{same_itself, seated_same}

-- of each of the list
abbrev pub Each : {X : Type 0} → (X → Type 0) → List X → Type 0
Each P [] = Unit {0}
Each P (x ∷ xs) = P x × Each P xs

pub each_of : {X : Type 0} (P : X → Type 0) (xs : List X) → ((i : ℕ) (d : X) → i < length xs → P (slice_index_or xs i d)) → Each P xs
each_of P [] h = tt
each_of P (x ∷ xs) h = (h 0 x (omega arith), each_of P xs (λ i d lt. h (suc i) d (omega (arith, lt))))

pub each_at : {X : Type 0} (P : X → Type 0) (xs : List X) → Each P xs → (i : ℕ) (d : X) → i < length xs → P (slice_index_or xs i d)
each_at P [] e i d lt = absurd (omega (arith, lt))
each_at P (x ∷ xs) e zero d lt = e.0
each_at P (x ∷ xs) e (suc i) d lt = each_at P xs e.1 i d (omega (arith, lt))

pub each_snoc : {X : Type 0} (P : X → Type 0) (xs : List X) (x : X) → Each P xs → P x → Each P (xs ++ x ∷ [])
each_snoc P [] x e p = (p, tt)
each_snoc P (y ∷ xs) x e p = (e.0, each_snoc P xs x e.1 p)

pub each_front : {X : Type 0} (P : X → Type 0) (xs : List X) (x : X) → Each P (xs ++ x ∷ []) → Each P xs × P x
each_front P [] x e = (tt, e.0)
each_front P (y ∷ xs) x e = let rest = each_front P xs x e.1 in ((e.0, rest.0), rest.1)

-- what stays of each of two lists
abbrev pub Stay : {B : Type 0} → List (Work B) → List (Work B) → Type 0
Stay [] [] = Unit {0}
Stay [] (w ∷ ws) = ⊥
Stay (v ∷ vs) [] = ⊥
Stay (v ∷ vs) (w ∷ ws) = IsSamePlace v w × Stay vs ws

pub stay_of : {B : Type 0} (vs ws : List (Work B)) → length ws ≡ length vs → AreSamePlaces vs ws → Stay vs ws
stay_of [] [] len h = tt
stay_of [] (w ∷ ws) len h = absurd (omega (arith, len))
stay_of (v ∷ vs) [] len h = absurd (omega (arith, len))
stay_of (v ∷ vs) (w ∷ ws) len h = (h 0 v (omega arith), stay_of vs ws (omega (arith, len)) (λ i d lt. h (suc i) d (omega (arith, lt))))

pub stay_at : {B : Type 0} (vs ws : List (Work B)) → Stay vs ws → AreSamePlaces vs ws
stay_at [] ws s i d lt = absurd (omega (arith, lt))
stay_at (v ∷ vs) [] s i d lt = absurd s
stay_at (v ∷ vs) (w ∷ ws) s zero d lt = s.0
stay_at (v ∷ vs) (w ∷ ws) s (suc i) d lt = stay_at vs ws s.1 i d (omega (arith, lt))

pub stay_last : {B : Type 0} (ws : List (Work B)) (v w : Work B) → IsSamePlace v w → Stay (ws ++ v ∷ []) (ws ++ w ∷ [])
stay_last [] v w p = (p, tt)
stay_last (u ∷ ws) v w p = (same_itself u, stay_last ws v w p)

-- the parts stay
pub parts_stay : {B : Type 0} (vs ws : List (Work B)) → Stay vs ws → all_parts ws ≡ all_parts vs
parts_stay [] [] s = refl
parts_stay [] (w ∷ ws) s = absurd s
parts_stay (v ∷ vs) [] s = absurd s
parts_stay (v ∷ vs) (w ∷ ws) s = let rest = parts_stay vs ws s.1 in omega (arith, s.0.parts, rest)

-- two lists of ends are of the same deques
abbrev pub SameEnds : List Seat → List Seat → Type 0
SameEnds [] [] = Unit {0}
SameEnds [] (t ∷ ts) = ⊥
SameEnds (s ∷ ss) [] = ⊥
SameEnds (s ∷ ss) (t ∷ ts) = (t.owner.deque ≡ s.owner.deque) × (t.thief.deque ≡ s.thief.deque) × SameEnds ss ts

links_stay : (ss ts : List Seat) (d e : DequeId) → SameEnds ss ts → Links ss d e → Links ts d e
links_stay [] [] d e same links = links
links_stay [] (t ∷ ts) d e same links = absurd same
links_stay (s ∷ ss) [] d e same links = absurd same
links_stay (s ∷ ss) (t ∷ ts) d e same links =
    let P : DequeId → Type 0 = λ x. Links ts x e in
    (same.0 ∙ links.0, subst P (sym same.1) (links_stay ss ts s.thief.deque e same.2 links.1))

ends_onto : {B : Type 0} (vs ws : List (Work B)) (ss ts : List Seat) → Stay vs ws → SameEnds ss ts → SameEnds (seats_onto vs ss) (seats_onto ws ts)
ends_onto [] [] ss ts stay same = same
ends_onto [] (w ∷ ws) ss ts stay same = absurd stay
ends_onto (v ∷ vs) [] ss ts stay same = absurd stay
ends_onto (v ∷ vs) (w ∷ ws) ss ts stay same = ends_onto vs ws (v.seat ∷ ss) (w.seat ∷ ts) stay.1 (stay.0.owner, stay.0.thief, same)

-- so the ring stays one
pub ring_stays : {B : Type 0} (vs ws : List (Work B)) → Stay vs ws → IsRing (seats_onto vs []) → IsRing (seats_onto ws [])
ring_stays vs ws stay (d, links) = (d, links_stay (seats_onto vs []) (seats_onto ws []) d d (ends_onto vs ws [] [] stay tt) links)

pub onto_snoc : {B : Type 0} (ws : List (Work B)) (w : Work B) (ss : List Seat) → seats_onto (ws ++ w ∷ []) ss ≡ w.seat ∷ seats_onto ws ss
onto_snoc [] w ss = refl
onto_snoc (v ∷ ws) w ss = onto_snoc ws w (v.seat ∷ ss)

-- ends of which nothing was put or taken
abbrev pub IsIdle : Seat → Type 0
IsIdle s = (s.owner.put ≡ []) × (s.owner.taken ≡ []) × (s.thief.taken ≡ [])

idle_front : (ss : List Seat) (s : Seat) → AreIdle (ss ++ s ∷ []) → AreIdle ss × IsIdle s
idle_front ss s idle = (λ i t at. idle i t (stands_in_front ss (s ∷ []) i t at), idle (length ss) s (stands_last ss s))

-- who has just sat down is ready
pub fresh_ready : {S B : Type 0} (r : Rules S) (limits : Limits) (tally : TableId) (all : Seated) (w : Work B) → all.tally ≡ tally → w.tally ≡ record all { parts = 1; opens = 0; shuts = 0 } → IsIdle w.seat → w.pass.count ≡ 0 → w.given ≡ 0 → w.taken ≡ 0 → w.past ≡ false → IsReady r limits tally w
fresh_ready r limits tally all w here seat idle count given taken past =
    let opens : w.tally.opens ≡ 0 = ap (λ (s : Seated). s.opens) seat in
    let put : length w.seat.owner.put ≡ 0 = ap length idle.0 in
    let out : length w.seat.owner.taken + length w.seat.thief.taken ≡ 0 = (let a = ap length idle.1 in let b = ap length idle.2 in omega (arith, a, b)) in
    record {
      seated = record { here = ap (λ (s : Seated). s.tally) seat ∙ here; part = ap (λ (s : Seated). s.parts) seat };
      counted = record {
        opens = count ∙ sym opens;
        fewer = omega (arith, put);
        all = λ none. put ∙ sym opens;
        given = given ∙ ap (λ n. n % 2 ^ 64) (sym put);
        taken = taken ∙ ap (λ n. n % 2 ^ 64) (sym out);
        shut = (let shuts : w.tally.shuts ≡ 0 = ap (λ (s : Seated). s.shuts) seat in omega (arith, out, shuts));
      };
      told = λ t. absurd (let no : false ≡ true = sym past ∙ t in cc);
    }

-- How far the seating has come.
pub record Seating {S B : Type 0} (r : Rules S) (limits : Limits) (tally : TableId) (all left : List Seat) (works : List (Work B)) (total_parts parts : ℕ) : Type 0 where
  pub seats : left ++ seats_onto works [] ≡ all
  pub ready : Each (IsReady r limits tally) works
  pub idle : AreIdle left
  pub shared : parts + all_parts works ≡ total_parts
  pub unopened : all_opens works ≡ 0

pub seating_starts : {S B : Type 0} (r : Rules S) (limits : Limits) (tally : TableId) (all : List Seat) (works : List (Work B)) (parts : ℕ) → works ≡ [] → AreIdle all → Seating r limits tally all all works parts parts
seating_starts {S} {B} r limits tally all works parts none idle =
    let P : List (Work B) → Type 0 = λ ws. Seating r limits tally all all ws parts parts in
    subst P (sym none) (record { seats = append-nil all; ready = tt; idle = idle; shared = omega arith; unopened = refl })

pub next_idle : {S B : Type 0} (r : Rules S) (limits : Limits) (tally : TableId) (all old left : List Seat) (s : Seat) (works : List (Work B)) (parts now : ℕ) → Seating r limits tally all old works parts now → old ≡ left ++ s ∷ [] → AreIdle left × IsIdle s
next_idle r limits tally all old left s works parts now h is = let P : List Seat → Type 0 = λ l. AreIdle l in idle_front left s (subst P is h.idle)

pub seating_steps : {S B : Type 0} (r : Rules S) (limits : Limits) (tally : TableId) (all old left : List Seat) (works more : List (Work B)) (w : Work B) (parts before after : ℕ) → Seating r limits tally all old works parts before → old ≡ left ++ w.seat ∷ [] → more ≡ works ++ w ∷ [] → after + w.pass.parts ≡ before → IsReady r limits tally w → w.tally.opens ≡ 0 → Seating r limits tally all left more parts after
seating_steps {S} {B} r limits tally all old left works more w parts before after h is grown share ready fresh =
    let P : List (Work B) → Type 0 = λ ws. Seating r limits tally all left ws parts after in
    subst P (sym grown) (record {
      seats = ap (λ l. left ++ l) (onto_snoc works w []) ∙ sym (append_assoc left (w.seat ∷ []) (seats_onto works [])) ∙ ap (λ l. l ++ seats_onto works []) (sym is) ∙ h.seats;
      ready = each_snoc (IsReady r limits tally) works w h.ready ready;
      idle = (next_idle r limits tally all old left w.seat works parts before h is).0;
      shared = (let sum = total_snoc (λ (x : Work B). x.pass.parts) works w in omega (arith, sum, share, h.shared));
      unopened = (let sum = total_snoc (λ (x : Work B). x.tally.opens) works w in omega (arith, sum, fresh, h.unopened));
    })

-- sums modulo 2^64
pub mod_sum : (a b : ℕ) → (a % 2 ^ 64 + b % 2 ^ 64) % 2 ^ 64 ≡ (a + b) % 2 ^ 64
mod_sum a b =
    let m : ℕ = b % 2 ^ 64 in
    let swap : a + m ≡ m + a = omega arith in
    let back : b + a ≡ a + b = omega arith in
    mod-add-mod a (2 ^ 64) m ∙ ap (λ n. n % 2 ^ 64) swap ∙ mod-add-mod b (2 ^ 64) a ∙ ap (λ n. n % 2 ^ 64) back

counts_sum : (old one new : ℕ) (a b c : ℕ) → old ≡ a % 2 ^ 64 → one ≡ b % 2 ^ 64 → new ≡ (old + one) % 2 ^ 64 → c ≡ a + b → new ≡ c % 2 ^ 64
counts_sum old one new a b c o n is sum = is ∙ ap (λ k. (k + one) % 2 ^ 64) o ∙ ap (λ k. (a % 2 ^ 64 + k) % 2 ^ 64) n ∙ mod_sum a b ∙ ap (λ k. k % 2 ^ 64) (sym sum)

told_either : {S : Type 0} (r : Rules S) (limits : Limits) (a b : Bool) → TellsPast r limits a → TellsPast r limits b → TellsPast r limits (a || b)
told_either r limits true b f g = λ t. f refl
told_either r limits false b f g = g

-- one worker more in the sum
summed_steps : {S B : Type 0} (r : Rules S) (limits : Limits) (tally : TableId) (start : ℕ) (ss : List Seat) (old new : Sum B) (w : Work B) → IsSummed r limits tally start ss old → IsReady r limits tally w → IsSumOf old w new → IsSummed r limits tally start (ss ++ w.seat ∷ []) new
summed_steps {S} r limits tally start ss old new w h ready sum =
    let opens : new.tally.opens ≡ old.tally.opens + w.tally.opens = ap (λ (s : Seated). s.opens) sum.seat in
    let put : seats_put (ss ++ w.seat ∷ []) ≡ seats_put ss + length w.seat.owner.put = total_snoc (λ (s : Seat). length s.owner.put) ss w.seat in
    let out : seats_taken (ss ++ w.seat ∷ []) ≡ seats_taken ss + (length w.seat.owner.taken + length w.seat.thief.taken) = total_snoc (λ (s : Seat). length s.owner.taken + length s.thief.taken) ss w.seat in
    let P : Bool → Type 0 = λ b. TellsPast r limits b in
    record {
      here = ap (λ (s : Seated). s.tally) sum.seat ∙ h.here;
      opens = omega (arith, sum.count, opens, h.opens, ready.counted.opens);
      fewer = omega (arith, put, opens, h.fewer, ready.counted.fewer);
      all = λ none. (let each = sum.refused none in let a = h.all each.0 in let b = ready.counted.all each.1 in omega (arith, put, opens, a, b));
      given = counts_sum old.given w.given new.given (seats_put ss) (length w.seat.owner.put) (seats_put (ss ++ w.seat ∷ [])) h.given ready.counted.given sum.given put;
      taken = counts_sum old.taken w.taken new.taken (seats_taken ss) (length w.seat.owner.taken + length w.seat.thief.taken) (seats_taken (ss ++ w.seat ∷ [])) h.taken ready.counted.taken sum.taken out;
      shut = (let shuts : new.tally.shuts ≡ old.tally.shuts + w.tally.shuts = ap (λ (s : Seated). s.shuts) sum.seat in omega (arith, shuts, out, h.shut, ready.counted.shut));
      told = subst P (sym sum.past) (told_either r limits old.past w.past h.told ready.told);
    }

-- How far the joining has come.
pub record Joining {S B : Type 0} (r : Rules S) (limits : Limits) (tally : TableId) (start : Sum B) (all left : List (Work B)) (ss : List Seat) (sum : Sum B) : Type 0 where
  pub seats : ss ++ seats_onto left [] ≡ seats_onto all []
  pub ready : Each (IsReady r limits tally) left
  pub summed : IsSummed r limits tally start.pass.count ss sum
  pub seat : sum.tally.parts + length left ≡ start.tally.parts + length all
  pub parts : sum.pass.parts + all_parts left ≡ start.pass.parts + all_parts all
  pub opens : sum.tally.opens + all_opens left ≡ start.tally.opens + all_opens all

pub joining_starts : {S B : Type 0} (r : Rules S) (limits : Limits) (tally : TableId) (start : Sum B) (all : List (Work B)) (ss : List Seat) → ss ≡ [] → AreReady r limits tally (length all) all → IsSummed r limits tally start.pass.count [] start → Joining r limits tally start all all ss start
joining_starts {S} {B} r limits tally start all ss none ready summed =
    let P : List Seat → Type 0 = λ l. Joining r limits tally start all all l start in
    subst P (sym none) (record { seats = refl; ready = each_of (IsReady r limits tally) all ready; summed = summed; seat = refl; parts = refl; opens = refl })

pub last_ready : {S B : Type 0} (r : Rules S) (limits : Limits) (tally : TableId) (start : Sum B) (all old left : List (Work B)) (w : Work B) (ss : List Seat) (sum : Sum B) → Joining r limits tally start all old ss sum → old ≡ left ++ w ∷ [] → Each (IsReady r limits tally) left × IsReady r limits tally w
last_ready {S} {B} r limits tally start all old left w ss sum h is =
    let P : List (Work B) → Type 0 = λ l. Each (IsReady r limits tally) l in
    each_front (IsReady r limits tally) left w (subst P is h.ready)

pub joining_steps : {S B : Type 0} (r : Rules S) (limits : Limits) (tally : TableId) (start : Sum B) (all old left : List (Work B)) (w : Work B) (ss more : List Seat) (seat : Seat) (sum new : Sum B) → Joining r limits tally start all old ss sum → old ≡ left ++ w ∷ [] → seat ≡ w.seat → more ≡ ss ++ seat ∷ [] → IsSumOf sum w new → Joining r limits tally start all left more new
joining_steps {S} {B} r limits tally start all old left w ss more seat sum new h is own grown add =
    let P : List Seat → Type 0 = λ l. Joining r limits tally start all left l new in
    let ready = last_ready r limits tally start all old left w ss sum h is in
    let one : new.tally.parts ≡ sum.tally.parts + w.tally.parts = ap (λ (s : Seated). s.parts) add.seat in
    let count : length old ≡ length left + 1 = ap length is ∙ length-append left (w ∷ []) in
    let share : all_parts old ≡ all_parts left + w.pass.parts = ap all_parts is ∙ total_snoc (λ (x : Work B). x.pass.parts) left w in
    let back : more ≡ ss ++ w.seat ∷ [] = grown ∙ ap (λ s. ss ++ s ∷ []) own in
    subst P (sym back) (record {
      seats = append_assoc ss (w.seat ∷ []) (seats_onto left []) ∙ ap (λ l. ss ++ l) (sym (onto_snoc left w [])) ∙ ap (λ l. ss ++ seats_onto l []) (sym is) ∙ h.seats;
      ready = ready.0;
      summed = summed_steps r limits tally start.pass.count ss sum new w h.summed ready.1 add;
      seat = omega (arith, one, ready.1.seated.part, count, h.seat);
      parts = omega (arith, add.parts, share, h.parts);
      opens = (let more : new.tally.opens ≡ sum.tally.opens + w.tally.opens = ap (λ (s : Seated). s.opens) add.seat in
          let was : all_opens old ≡ all_opens left + w.tally.opens = ap all_opens is ∙ total_snoc (λ (x : Work B). x.tally.opens) left w in
          omega (arith, more, was, h.opens));
    })

pub joined : {S B : Type 0} (r : Rules S) (limits : Limits) (tally : TableId) (start : Sum B) (all left : List (Work B)) (ss : List Seat) (sum : Sum B) → Joining r limits tally start all left ss sum → left ≡ [] → (ss ≡ seats_onto all []) × (sum.tally.parts ≡ start.tally.parts + length all) × (sum.pass.parts ≡ start.pass.parts + all_parts all) × (sum.tally.opens ≡ start.tally.opens + all_opens all)
joined {S} {B} r limits tally start all left ss sum h none =
    let count : length left ≡ 0 = ap length none in
    let share : all_parts left ≡ 0 = ap all_parts none in
    let opened : all_opens left ≡ 0 = ap all_opens none in (
      sym (append-nil ss) ∙ ap (λ (l : List (Work B)). ss ++ seats_onto l []) (sym none) ∙ h.seats,
      omega (arith, count, h.seat),
      omega (arith, share, h.parts),
      omega (arith, opened, h.opens),
    )

-- worker 0 has met the root, and the others are as they were
pub root_started : {S B : Type 0} (r : Rules S) (limits : Limits) (tally : TableId) (old rest new : List (Work B)) (v w : Work B) → old ≡ rest ++ v ∷ [] → new ≡ rest ++ w ∷ [] → AreReady r limits tally (length old) old → StaysCounted v w → IsSamePlace v w → w.past ≡ v.past → AreReady r limits tally (length old) new
root_started {S} {B} r limits tally old rest new v w is now ready counted same past i d lt =
    let P : List (Work B) → Type 0 = λ l. Each (IsReady r limits tally) l in
    let apart = each_front (IsReady r limits tally) rest v (subst P is (each_of (IsReady r limits tally) old ready)) in
    let told : TellsPast r limits w.past = λ t. apart.1.told (sym past ∙ t) in
    let last : IsReady r limits tally w = record { seated = seated_same tally v w apart.1.seated same; counted = counted 0 apart.1.counted; told = told } in
    let was : length old ≡ length rest + 1 = ap length is ∙ length-append rest (v ∷ []) in
    let len : length new ≡ length rest + 1 = ap length now ∙ length-append rest (w ∷ []) in
    each_at (IsReady r limits tally) new (subst P (sym now) (each_snoc (IsReady r limits tally) rest w apart.0 last)) i d (omega (arith, lt, was, len))

-- where worker 0 has opened nothing more, nobody has
pub still_unopened : {B : Type 0} (old rest new : List (Work B)) (v w : Work B) → old ≡ rest ++ v ∷ [] → new ≡ rest ++ w ∷ [] → w.tally ≡ v.tally → all_opens new ≡ all_opens old
still_unopened {B} old rest new v w is now same =
    let was : all_opens old ≡ all_opens rest + v.tally.opens = ap all_opens is ∙ total_snoc (λ (x : Work B). x.tally.opens) rest v in
    let more : all_opens new ≡ all_opens rest + w.tally.opens = ap all_opens now ∙ total_snoc (λ (x : Work B). x.tally.opens) rest w in
    let opens = ap (λ (s : Seated). s.opens) same in
    omega (arith, was, more, opens)

-- there are as many ends as workers
onto_length : {B : Type 0} (ws : List (Work B)) (ss : List Seat) → length (seats_onto ws ss) ≡ length ws + length ss
onto_length [] ss = omega arith
onto_length (w ∷ ws) ss = let rest = onto_length ws (w.seat ∷ ss) in omega (arith, rest)

pub as_many : {B : Type 0} (ws : List (Work B)) (ss : List Seat) → seats_onto ws [] ≡ ss → length ws ≡ length ss
as_many ws ss is = (let n = onto_length ws [] in let m = ap length is in omega (arith, n, m))

-- the ring of workers who stay at their places
pub ring_back : {B : Type 0} (vs ws : List (Work B)) (all back : List Seat) → seats_onto vs [] ≡ all → IsRing all → length ws ≡ length vs → AreSamePlaces vs ws → back ≡ seats_onto ws [] → IsRing back
ring_back vs ws all back was ring len same is =
    let P : List Seat → Type 0 = λ l. IsRing l in
    subst P (sym is) (ring_stays vs ws (stay_of vs ws len same) (subst P (sym was) ring))
