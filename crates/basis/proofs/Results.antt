-- Facts about answers: what is known of an Ok or of an Err, said in other words.
use Rattle.std.proofs.Common.{Result, Ok, Err, OnOk, IfOk, IfErr}

pub on_ok : {T E P Q : Type 0} (r : Result T E) → (P → Q) → OnOk r P → OnOk r Q
on_ok (Ok t) f p = f p
on_ok (Err e) f p = tt

pub on_ok_value : {T E : Type 0} {P Q : T → Type 0} (r : Result T E) → ((t : T) → P t → Q t) → IfOk r P → IfOk r Q
on_ok_value (Ok t) f p = f t p
on_ok_value (Err e) f p = tt

pub on_err : {T E : Type 0} {P Q : E → Type 0} (r : Result T E) → ((e : E) → P e → Q e) → IfErr r P → IfErr r Q
on_err (Ok t) f p = tt
on_err (Err e) f p = f e p
