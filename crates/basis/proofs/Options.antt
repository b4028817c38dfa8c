-- Facts about options: what is known of one, said in other words.
use Rattle.std.proofs.Common.{Option, None, Some, MatchOption, IfSome}

pub match_some : {X : Type 0} (P : Type 0) (Q : X → Type 0) (r : Option X) → MatchOption r P Q → IfSome r Q
match_some P Q None h = tt
match_some P Q (Some x) h = h
