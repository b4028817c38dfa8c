-- *internal*: Each test of equality, part by part, decides whether the two are equal (laws with their proofs).
use Rattle.std.specs.Prelude.{◌≡◌, ℕ, nat_eq, ◌&&◌}
use Rattle.std.proofs.Common.{ap}
use Rattle.std.specs.Cmp.{IsEquivalence, decided, booleans_Decides, unsigned_Decides}
use Rattle.std.specs.Cmp.Lexicographic.{pointwise}
use Rattle.std.proofs.lemmas.Bool.Decides.{Decides-and, Decides-like}
use Rattle.vbits.specs.Vectors.{vector_same}
use Rattle.vbits.specs.Equal.{vectors_tell}
use Rattle.vmodel.specs.declared.part.Part.TheVariants.{Whole, Bits}
use Rattle.vmodel.specs.declared.frame.Frame.TheVariants.{Executing, Repeating, Writing}
use Rattle.vmodel.specs.Queue.{Later, Queue}
use Rattle.vmodel.specs.State.{Process, State}
use Rattle.sched_core.specs.BagLaws.{lines_tell}
use Rattle.sched_core.specs.Bags.{lines_same}
use Rattle.sched_core.specs.Ends.{cause_same, causes_tell}
use Rattle.sched_core.specs.Settings.{grains_tell}
use Rattle.sched_core.specs.Tests.{Tells, list_tells, option_tells}
use Rattle.vmodel.specs.Same.{values_same, frame_same, process_same, part_same, parts_same, slot_same, stand_same, regions_same, queue_same, held_back_same, printed_same, state_same}

pub values_tell : Tells values_same
values_tell = list_tells vector_same vectors_tell

pub frames_tell : Tells frame_same
frames_tell (Executing p) (Executing q) = Decides-like (nat_eq p q) (λ (h : p ≡ q). ap Executing h) (λ h. cc) (unsigned_Decides p q)
frames_tell (Repeating p m) (Repeating q n) =
    Decides-like (nat_eq p q && nat_eq m n) (λ (h : (p ≡ q) × (m ≡ n)). λ i. Repeating (h.0 i) (h.1 i)) (λ h. (cc, cc))
    (Decides-and _ _ (unsigned_Decides p q) (unsigned_Decides m n))
frames_tell (Writing p) (Writing q) = Decides-like (nat_eq p q) (λ (h : p ≡ q). ap Writing h) (λ h. cc) (unsigned_Decides p q)
frames_tell _ _ = (λ h. cc, λ h. cc)

pub processes_tell : Tells process_same
processes_tell p q = Decides-like (process_same p q)
    (λ (h : ((p.continuation ≡ q.continuation) × (p.held ≡ q.held)) × (p.waits ≡ q.waits)). λ i. record { continuation = h.0.0 i; held = h.0.1 i; waits = h.1 i })
    (λ h. ((ap (λ (r : Process). r.continuation) h, ap (λ (r : Process). r.held) h), ap (λ (r : Process). r.waits) h))
    (Decides-and _ _ (Decides-and _ _
    (list_tells frame_same frames_tell p.continuation q.continuation)
    (option_tells vector_same vectors_tell p.held q.held))
    (option_tells nat_eq unsigned_Decides p.waits q.waits))

pub part_tells : Tells part_same
part_tells (Whole m v) (Whole n u) =
    Decides-like (nat_eq m n && vector_same v u) (λ (h : (m ≡ n) × (v ≡ u)). λ i. Whole (h.0 i) (h.1 i)) (λ h. (cc, cc))
    (Decides-and _ _ (unsigned_Decides m n) (vectors_tell v u))
part_tells (Bits m k v) (Bits n l u) =
    Decides-like ((nat_eq m n && nat_eq k l) && vector_same v u)
    (λ (h : ((m ≡ n) × (k ≡ l)) × (v ≡ u)). λ i. Bits (h.0.0 i) (h.0.1 i) (h.1 i)) (λ h. ((cc, cc), cc))
    (Decides-and _ _ (Decides-and _ _ (unsigned_Decides m n) (unsigned_Decides k l)) (vectors_tell v u))
part_tells _ _ = (λ h. cc, λ h. cc)

pub parts_tell : Tells parts_same
parts_tell = list_tells part_same part_tells

pub slots_tell : Tells slot_same
slots_tell e f = Decides-like (slot_same e f)
    (λ (h : ((e.0 ≡ f.0) × (e.1.processes ≡ f.1.processes)) × (e.1.updates ≡ f.1.updates)).
    λ i. (h.0.0 i, record { processes = h.0.1 i; updates = h.1 i }))
    (λ h. ((ap (λ (x : ℕ × Later). x.0) h, ap (λ (x : ℕ × Later). x.1.processes) h), ap (λ (x : ℕ × Later). x.1.updates) h))
    (Decides-and _ _ (Decides-and _ _ (unsigned_Decides e.0 f.0) (list_tells nat_eq unsigned_Decides e.1.processes f.1.processes))
    (list_tells parts_same parts_tell e.1.updates f.1.updates))

-- what makes a queue, part by part
abbrev StandParts : Queue → Queue → Type 0
StandParts q r = ((((q.grain ≡ r.grain) × (q.until ≡ r.until)) × (q.time ≡ r.time)) × (q.last ≡ r.last)) × (q.beyond ≡ r.beyond)

abbrev RegionParts : Queue → Queue → Type 0
RegionParts q r =
    (((((q.active ≡ r.active) × (q.inactive ≡ r.inactive)) × (q.activated ≡ r.activated)) × (q.posted ≡ r.posted)) × (q.strobes ≡ r.strobes))
    × (q.future ≡ r.future)

pub queues_tell : Tells queue_same
queues_tell q r = Decides-like (queue_same q r) whole parts
    (Decides-and (stand_same q r) (regions_same q r)
    (Decides-and _ _ (Decides-and _ _ (Decides-and _ _ (Decides-and _ _
    (grains_tell q.grain r.grain)
    (unsigned_Decides q.until r.until))
    (unsigned_Decides q.time r.time))
    (option_tells nat_eq unsigned_Decides q.last r.last))
    (booleans_Decides q.beyond r.beyond))
    (Decides-and _ _ (Decides-and _ _ (Decides-and _ _ (Decides-and _ _ (Decides-and _ _
    (list_tells nat_eq unsigned_Decides q.active r.active)
    (list_tells nat_eq unsigned_Decides q.inactive r.inactive))
    (list_tells parts_same parts_tell q.activated r.activated))
    (list_tells parts_same parts_tell q.posted r.posted))
    (list_tells nat_eq unsigned_Decides q.strobes r.strobes))
    (list_tells slot_same slots_tell q.future r.future)))
  where
    whole : StandParts q r × RegionParts q r → q ≡ r
    whole h = λ i. record {
      grain = h.0.0.0.0.0 i;
      until = h.0.0.0.0.1 i;
      time = h.0.0.0.1 i;
      last = h.0.0.1 i;
      active = h.1.0.0.0.0.0 i;
      inactive = h.1.0.0.0.0.1 i;
      activated = h.1.0.0.0.1 i;
      posted = h.1.0.0.1 i;
      strobes = h.1.0.1 i;
      future = h.1.1 i;
      beyond = h.0.1 i;
    }

    parts : q ≡ r → StandParts q r × RegionParts q r
    parts h = (
      (
        (((ap (λ (p : Queue). p.grain) h, ap (λ (p : Queue). p.until) h), ap (λ (p : Queue). p.time) h), ap (λ (p : Queue). p.last) h),
        ap (λ (p : Queue). p.beyond) h,
      ),
      (
        (
          (
            ((ap (λ (p : Queue). p.active) h, ap (λ (p : Queue). p.inactive) h), ap (λ (p : Queue). p.activated) h),
            ap (λ (p : Queue). p.posted) h,
          ),
          ap (λ (p : Queue). p.strobes) h,
        ),
        ap (λ (p : Queue). p.future) h,
      ),
    )

pub held_back_tell : Tells held_back_same
held_back_tell = option_tells (pointwise nat_eq) (list_tells nat_eq unsigned_Decides)

pub printed_tell : Tells printed_same
printed_tell = option_tells lines_same lines_tell

abbrev StateParts : State → State → Type 0
StateParts s t =
    (((((s.values ≡ t.values) × (s.queue ≡ t.queue)) × (s.held_back ≡ t.held_back)) × (s.printed ≡ t.printed)) × (s.processes ≡ t.processes))
    × (s.cause ≡ t.cause)

pub states_tell : Tells state_same
states_tell s t = Decides-like (state_same s t) whole parts
    (Decides-and _ _ (Decides-and _ _ (Decides-and _ _ (Decides-and _ _ (Decides-and _ _
    (values_tell s.values t.values)
    (queues_tell s.queue t.queue))
    (held_back_tell s.held_back t.held_back))
    (printed_tell s.printed t.printed))
    (list_tells process_same processes_tell s.processes t.processes))
    (option_tells cause_same causes_tell s.cause t.cause))
  where
    whole : StateParts s t → s ≡ t
    whole h = λ i. record {
      values = h.0.0.0.0.0 i;
      queue = h.0.0.0.0.1 i;
      held_back = h.0.0.0.1 i;
      printed = h.0.0.1 i;
      processes = h.0.1 i;
      cause = h.1 i;
    }

    parts : s ≡ t → StateParts s t
    parts h = (
      (
        (
          ((ap (λ (p : State). p.values) h, ap (λ (p : State). p.queue) h), ap (λ (p : State). p.held_back) h),
          ap (λ (p : State). p.printed) h,
        ),
        ap (λ (p : State). p.processes) h,
      ),
      ap (λ (p : State). p.cause) h,
    )

-- ---- so each is an equivalence

pub values_equivalent : IsEquivalence values_same
values_equivalent = decided values_same values_tell

pub frames_equivalent : IsEquivalence frame_same
frames_equivalent = decided frame_same frames_tell

pub processes_equivalent : IsEquivalence process_same
processes_equivalent = decided process_same processes_tell

pub part_equivalent : IsEquivalence part_same
part_equivalent = decided part_same part_tells

pub parts_equivalent : IsEquivalence parts_same
parts_equivalent = decided parts_same parts_tell

pub slots_equivalent : IsEquivalence slot_same
slots_equivalent = decided slot_same slots_tell

pub queues_equivalent : IsEquivalence queue_same
queues_equivalent = decided queue_same queues_tell

pub states_equivalent : IsEquivalence state_same
states_equivalent = decided state_same states_tell
