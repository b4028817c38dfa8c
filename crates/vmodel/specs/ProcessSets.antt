-- *internal*: How sets of processes are kept: two words of 128 bits, a bit for each process.
use Rattle.std.specs.Prelude.{ℕ, zero, suc, ◌+◌, ◌-◌, ◌^◌, ◌==◌, Bool, true, ◌&&◌, if◌then◌else◌, nat_le, nat_lt, List, [], ◌∷◌}
use Rattle.std.specs.Int.{bit_at}

-- whether the bit of this process is set
abbrev pub has : ℕ → ℕ → ℕ → Bool
has low high p = if nat_lt p 128 then bit_at low p == 1 else bit_at high (p - 128) == 1

-- the numbers from `from` on, `count` of them, that are in
unfoldable pub listed : (ℕ → Bool) → ℕ → ℕ → List ℕ
listed is_in zero from = []
listed is_in (suc count) from = if is_in from then from ∷ listed is_in count (suc from) else listed is_in count (suc from)

-- the processes whose bits are set, in the order of their numbers
unfoldable pub members : ℕ → ℕ → List ℕ
members low high = listed (has low high) 256 0

-- the numbers rise from low on, and are below 256
abbrev pub rises : ℕ → List ℕ → Bool
rises low [] = true
rises low (p ∷ ps) = nat_le low p && nat_lt p 256 && rises (suc p) ps

-- a set as one number, whose bit p is 1 where p is in
abbrev pub number_of : List ℕ → ℕ
number_of [] = 0
number_of (p ∷ ps) = 2 ^ p + number_of ps
