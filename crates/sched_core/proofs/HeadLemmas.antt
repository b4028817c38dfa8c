-- What a log names before a slash can be told from the log, and each name from the others.
use Rattle.std.proofs.Common.{◌≡◌, ◌≢◌, ℕ, ◌^◌, ◌<◌, true, List, [], ◌∷◌, ◌++◌, length, get_or, drop, arith, ap, refl, sym, subst, ◌∙◌, Option, None, Some, MatchOption, IfNone}
use Rattle.std.specs.Prelude.{codes}
use Rattle.std.specs.Str.{all_ascii_digits}
use Rattle.std.specs.Fmt.{decimal}
use Rattle.std.proofs.lemmas.Fmt.{decimal_nonempty}
use Rattle.std.proofs.lemmas.Str.Parse.{tells_all_ascii_digits}
use Rattle.sched_core.specs.declared.log.LogHead.{LogHead}
use Rattle.sched_core.specs.declared.log.LogHead.TheVariants.{Plain, Named}
use Rattle.sched_core.specs.declared.setting.Grain.TheVariants.{Process, Statement}
use Rattle.sched_core.specs.declared.setting.Departures.TheVariants.{Taking, Holding}
use Rattle.sched_core.specs.Logs.{IsLog}
use Rattle.sched_core.specs.LogText.{more_text, log_text, named_log_text}
use Rattle.sched_core.proofs.TextLemmas.{small_digits, member_whole}

digit_first : (ds r : List ℕ) → all_ascii_digits ds ≡ true → 0 < length ds → get_or (ds ++ r) 0 0 < 58
digit_first [] r h some = absurd (omega (arith, some))
digit_first (c ∷ cs) r h some = omega (arith, (tells_all_ascii_digits.parts c cs h).0)

-- the text of a log with members begins with a digit
digit_least : (ds r : List ℕ) → all_ascii_digits ds ≡ true → 0 < length ds → 47 < get_or (ds ++ r) 0 0
digit_least [] r h some = absurd (omega (arith, some))
digit_least (c ∷ cs) r h some = omega (arith, (tells_all_ascii_digits.parts c cs h).0)

pub member_first : (m : ℕ × ℕ) (ms : List (ℕ × ℕ)) → IsLog (m ∷ ms) → 47 < get_or (log_text (m ∷ ms)) 0 0
member_first m ms h =
    let small : m.0 < 2 ^ 32 = omega (arith, h.1) in
    let P : List ℕ → Type 0 = λ t. 47 < get_or t 0 0 in
    subst P (sym (member_whole m (more_text ms))) (digit_least (decimal m.0) _ (small_digits m.0 small) (decimal_nonempty m.0 (omega arith)))

-- the text of a log begins with '-' or a digit
log_first : (log : List (ℕ × ℕ)) → IsLog log → get_or (log_text log) 0 0 < 58
log_first [] h = omega arith
log_first (m ∷ ms) h =
    let small : m.0 < 2 ^ 32 = omega (arith, h.1) in
    let P : List ℕ → Type 0 = λ t. get_or t 0 0 < 58 in
    subst P (sym (member_whole m (more_text ms))) (digit_first (decimal m.0) _ (small_digits m.0 small) (decimal_nonempty m.0 (omega arith)))

pub named_process : (text rest : List ℕ) (head : LogHead) (log : List (ℕ × ℕ)) → IsLog log → text ≡ codes "process/" ++ rest → text ≡ named_log_text head log → ((Named Process Taking) ≡ head) × (rest ≡ log_text log)
named_process text rest Plain log h e f =
    let first : 112 ≡ get_or (log_text log) 0 0 = ap (λ t. get_or t 0 0) (sym e ∙ f) in
    absurd (omega (arith, log_first log h))
named_process text rest (Named Process Taking) log h e f = (refl, ap (drop 8) (sym e ∙ f))
named_process text rest (Named Statement Taking) log h e f =
    let first : get_or text 0 0 ≡ 112 = ap (λ t. get_or t 0 0) e in
    let other : get_or text 0 0 ≡ 115 = ap (λ t. get_or t 0 0) f in
    absurd (omega arith)
named_process text rest (Named Process Holding) log h e f =
    let this : get_or text 7 0 ≡ 47 = ap (λ t. get_or t 7 0) e in
    let other : get_or text 7 0 ≡ 45 = ap (λ t. get_or t 7 0) f in
    absurd (omega arith)
named_process text rest (Named Statement Holding) log h e f =
    let first : get_or text 0 0 ≡ 112 = ap (λ t. get_or t 0 0) e in
    let other : get_or text 0 0 ≡ 115 = ap (λ t. get_or t 0 0) f in
    absurd (omega arith)

pub named_statement : (text rest : List ℕ) (head : LogHead) (log : List (ℕ × ℕ)) → IsLog log → text ≡ codes "statement/" ++ rest → text ≡ named_log_text head log → ((Named Statement Taking) ≡ head) × (rest ≡ log_text log)
named_statement text rest Plain log h e f =
    let first : 115 ≡ get_or (log_text log) 0 0 = ap (λ t. get_or t 0 0) (sym e ∙ f) in
    absurd (omega (arith, log_first log h))
named_statement text rest (Named Process Taking) log h e f =
    let first : get_or text 0 0 ≡ 115 = ap (λ t. get_or t 0 0) e in
    let other : get_or text 0 0 ≡ 112 = ap (λ t. get_or t 0 0) f in
    absurd (omega arith)
named_statement text rest (Named Statement Taking) log h e f = (refl, ap (drop 10) (sym e ∙ f))
named_statement text rest (Named Process Holding) log h e f =
    let first : get_or text 0 0 ≡ 115 = ap (λ t. get_or t 0 0) e in
    let other : get_or text 0 0 ≡ 112 = ap (λ t. get_or t 0 0) f in
    absurd (omega arith)
named_statement text rest (Named Statement Holding) log h e f =
    let this : get_or text 9 0 ≡ 47 = ap (λ t. get_or t 9 0) e in
    let other : get_or text 9 0 ≡ 45 = ap (λ t. get_or t 9 0) f in
    absurd (omega arith)

pub named_process_holding : (text rest : List ℕ) (head : LogHead) (log : List (ℕ × ℕ)) → IsLog log → text ≡ codes "process-holding/" ++ rest → text ≡ named_log_text head log → ((Named Process Holding) ≡ head) × (rest ≡ log_text log)
named_process_holding text rest Plain log h e f =
    let first : 112 ≡ get_or (log_text log) 0 0 = ap (λ t. get_or t 0 0) (sym e ∙ f) in
    absurd (omega (arith, log_first log h))
named_process_holding text rest (Named Process Taking) log h e f =
    let this : get_or text 7 0 ≡ 45 = ap (λ t. get_or t 7 0) e in
    let other : get_or text 7 0 ≡ 47 = ap (λ t. get_or t 7 0) f in
    absurd (omega arith)
named_process_holding text rest (Named Statement Taking) log h e f =
    let first : get_or text 0 0 ≡ 112 = ap (λ t. get_or t 0 0) e in
    let other : get_or text 0 0 ≡ 115 = ap (λ t. get_or t 0 0) f in
    absurd (omega arith)
named_process_holding text rest (Named Process Holding) log h e f = (refl, ap (drop 16) (sym e ∙ f))
named_process_holding text rest (Named Statement Holding) log h e f =
    let first : get_or text 0 0 ≡ 112 = ap (λ t. get_or t 0 0) e in
    let other : get_or text 0 0 ≡ 115 = ap (λ t. get_or t 0 0) f in
    absurd (omega arith)

pub named_statement_holding : (text rest : List ℕ) (head : LogHead) (log : List (ℕ × ℕ)) → IsLog log → text ≡ codes "statement-holding/" ++ rest → text ≡ named_log_text head log → ((Named Statement Holding) ≡ head) × (rest ≡ log_text log)
named_statement_holding text rest Plain log h e f =
    let first : 115 ≡ get_or (log_text log) 0 0 = ap (λ t. get_or t 0 0) (sym e ∙ f) in
    absurd (omega (arith, log_first log h))
named_statement_holding text rest (Named Process Taking) log h e f =
    let first : get_or text 0 0 ≡ 115 = ap (λ t. get_or t 0 0) e in
    let other : get_or text 0 0 ≡ 112 = ap (λ t. get_or t 0 0) f in
    absurd (omega arith)
named_statement_holding text rest (Named Statement Taking) log h e f =
    let this : get_or text 9 0 ≡ 45 = ap (λ t. get_or t 9 0) e in
    let other : get_or text 9 0 ≡ 47 = ap (λ t. get_or t 9 0) f in
    absurd (omega arith)
named_statement_holding text rest (Named Process Holding) log h e f =
    let first : get_or text 0 0 ≡ 115 = ap (λ t. get_or t 0 0) e in
    let other : get_or text 0 0 ≡ 112 = ap (λ t. get_or t 0 0) f in
    absurd (omega arith)
named_statement_holding text rest (Named Statement Holding) log h e f = (refl, ap (drop 18) (sym e ∙ f))

-- where no name stands before it, the text is that of a log alone
pub named_plain : (text : List ℕ) (head : LogHead) (log : List (ℕ × ℕ)) → ((rest : List ℕ) → text ≢ codes "process/" ++ rest) → ((rest : List ℕ) → text ≢ codes "statement/" ++ rest) → ((rest : List ℕ) → text ≢ codes "process-holding/" ++ rest) → ((rest : List ℕ) → text ≢ codes "statement-holding/" ++ rest) → text ≡ named_log_text head log → (Plain ≡ head) × (text ≡ log_text log)
named_plain text Plain log p s ph sh f = (refl, f)
named_plain text (Named Process Taking) log p s ph sh f = absurd (p (log_text log) f)
named_plain text (Named Statement Taking) log p s ph sh f = absurd (s (log_text log) f)
named_plain text (Named Process Holding) log p s ph sh f = absurd (ph (log_text log) f)
named_plain text (Named Statement Holding) log p s ph sh f = absurd (sh (log_text log) f)

pub match_none : {X : Type 0} (P : Type 0) (Q : X → Type 0) (r : Option X) → MatchOption r P Q → IfNone r P
match_none P Q None h = h
match_none P Q (Some x) h = tt
