-- *internal*: When two flat states are equal, and what the hash of one is fed (laws with their proofs).
use Rattle.std.specs.Prelude.{◌≡◌, ℕ, Bool, nat_eq, ◌&&◌, ◌+◌, ◌^◌, true, List, [], ◌∷◌, ◌++◌}
use Rattle.std.specs.Hash as fed
use Rattle.std.specs.Option.{option_eq}
use Rattle.std.specs.Cmp.{IsEquivalence, decided, unsigned_Decides}
use Rattle.std.specs.Cmp.Lexicographic.{pointwise}
use Rattle.std.proofs.Common.{ap}
use Rattle.std.proofs.lemmas.Bool.Decides.{Decides-and, Decides-like}
use Rattle.vbits.specs.Vectors.{vector_same}
use Rattle.vbits.specs.Equal.{vectors_tell}
use Rattle.sched_core.specs.Tests.{Tells, list_tells, option_tells}
use Rattle.vcode.specs.declared.point.Point.{Point}
use Rattle.vcode.specs.declared.point.Point.TheVariants.{Ended, Executing, Repeating, Writing, Waiting}
use Rattle.vcode.specs.Points.{is_same_point}
use Rattle.vkernel.specs.KernelFed.{kernel_fed}
use Rattle.vkernel.specs.Sums.{share, sum_from}
use Rattle.vmodel.specs.Digest.{digest_with}
use Rattle.vmodel.specs.Same.{state_same}
use Rattle.vmodel.specs.SameLaws.{states_tell}
use Rattle.vflat.specs.Flat.{Flat}

abbrev pub flat_same : Flat → Flat → Bool
flat_same f g =
    ((pointwise is_same_point f.points g.points && pointwise nat_eq f.turns g.turns) && pointwise (option_eq vector_same) f.held g.held)
    && state_same f.rest g.rest

pub points_tell : Tells is_same_point
points_tell Ended Ended = (λ h. cc, λ h. cc)
points_tell (Executing p) (Executing q) = Decides-like (nat_eq p q) (λ (h : p ≡ q). ap Executing h) (λ h. cc) (unsigned_Decides p q)
points_tell (Repeating p) (Repeating q) = Decides-like (nat_eq p q) (λ (h : p ≡ q). ap Repeating h) (λ h. cc) (unsigned_Decides p q)
points_tell (Writing p) (Writing q) = Decides-like (nat_eq p q) (λ (h : p ≡ q). ap Writing h) (λ h. cc) (unsigned_Decides p q)
points_tell (Waiting p) (Waiting q) = Decides-like (nat_eq p q) (λ (h : p ≡ q). ap Waiting h) (λ h. cc) (unsigned_Decides p q)
points_tell _ _ = (λ h. cc, λ h. cc)

abbrev FlatParts : Flat → Flat → Type 0
FlatParts f g = (((f.points ≡ g.points) × (f.turns ≡ g.turns)) × (f.held ≡ g.held)) × (f.rest ≡ g.rest)

pub flats_tell : Tells flat_same
flats_tell f g = Decides-like (flat_same f g) whole parts
    (Decides-and _ _ (Decides-and _ _ (Decides-and _ _
    (list_tells is_same_point points_tell f.points g.points)
    (list_tells nat_eq unsigned_Decides f.turns g.turns))
    (list_tells (option_eq vector_same) (option_tells vector_same vectors_tell) f.held g.held))
    (states_tell f.rest g.rest))
  where
    whole : FlatParts f g → f ≡ g
    whole h = λ i. record { points = h.0.0.0 i; turns = h.0.0.1 i; held = h.0.1 i; rest = h.1 i }

    parts : f ≡ g → FlatParts f g
    parts h = (
      ((ap (λ (x : Flat). x.points) h, ap (λ (x : Flat). x.turns) h), ap (λ (x : Flat). x.held) h),
      ap (λ (x : Flat). x.rest) h,
    )

pub flats_equivalent : IsEquivalence flat_same
flats_equivalent = decided flat_same flats_tell

-- ---- what the hash is fed

-- where a process stands: 0 where it has ended
abbrev pub point_word : Point → ℕ
point_word Ended = 0
point_word (Executing place) = place + 1
point_word (Repeating place) = place + 1
point_word (Writing place) = place + 1
point_word (Waiting place) = place + 2 ^ 32

abbrev pub point_share : ℕ → Point → ℕ
point_share process point = share process (point_word point) 0

abbrev pub points_sum : List Point → ℕ
points_sum = sum_from point_share 0

abbrev pub turns_share : ℕ → ℕ → ℕ
turns_share counter left = share counter left 0

abbrev pub turns_sum : List ℕ → ℕ
turns_sum = sum_from turns_share 0

-- what is no process's, and then where the processes stand and how many turns are left
abbrev pub flat_fed : Flat → fed.HashWrites
flat_fed f = kernel_fed f.rest ++ fed.u64 (digest_with (digest_with 0 (points_sum f.points)) (turns_sum f.turns))

pub flats_fed_alike : (f g : Flat) → flat_same f g ≡ true → flat_fed f ≡ flat_fed g
flats_fed_alike f g h = ap flat_fed ((flats_tell f g).0 h)
