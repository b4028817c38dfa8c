-- *trusted*: Tables over the four letters (IEEE 1364-2005, 5.1.10: bitwise operators). A z among the operands counts as x.
use Rattle.std.specs.Prelude.{Bool, true, false}
use Rattle.vbits.specs.declared.bit4.Bit4.{Bit4}
use Rattle.vbits.specs.declared.bit4.Bit4.TheVariants.{Zero, One, X, Z}

abbrev pub is_unknown : Bit4 → Bool
is_unknown Zero = false
is_unknown One = false
is_unknown X = true
is_unknown Z = true

abbrev pub is_x : Bit4 → Bool
is_x Zero = false
is_x One = false
is_x X = true
is_x Z = false

abbrev pub is_z : Bit4 → Bool
is_z Zero = false
is_z One = false
is_z X = false
is_z Z = true

abbrev pub is_one : Bit4 → Bool
is_one Zero = false
is_one One = true
is_one X = false
is_one Z = false

abbrev pub is_same : Bit4 → Bit4 → Bool
is_same Zero Zero = true
is_same One One = true
is_same X X = true
is_same Z Z = true
is_same _ _ = false

-- one is 0 and the other 1
abbrev pub differ : Bit4 → Bit4 → Bool
differ Zero One = true
differ One Zero = true
differ _ _ = false

-- `~`
abbrev pub not_letter : Bit4 → Bit4
not_letter Zero = One
not_letter One = Zero
not_letter _ = X

-- `&`: 0 wins
abbrev pub and_letter : Bit4 → Bit4 → Bit4
and_letter Zero _ = Zero
and_letter _ Zero = Zero
and_letter One One = One
and_letter _ _ = X

-- `|`: 1 wins
abbrev pub or_letter : Bit4 → Bit4 → Bit4
or_letter One _ = One
or_letter _ One = One
or_letter Zero Zero = Zero
or_letter _ _ = X

-- `^`
abbrev pub xor_letter : Bit4 → Bit4 → Bit4
xor_letter Zero Zero = Zero
xor_letter One One = Zero
xor_letter Zero One = One
xor_letter One Zero = One
xor_letter _ _ = X

-- `~^`
abbrev pub xnor_letter : Bit4 → Bit4 → Bit4
xnor_letter x y = not_letter (xor_letter x y)

-- `?:` where the condition is unknown (5.1.13): equal known letters stay. z with z gives x here
abbrev pub join_letter : Bit4 → Bit4 → Bit4
join_letter Zero Zero = Zero
join_letter One One = One
join_letter _ _ = X
