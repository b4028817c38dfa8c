-- A text is that of one log at most.
use Rattle.std.proofs.Common.{◌≡◌, ℕ, ◌+◌, List, [], ◌∷◌, get_or, drop, arith, ap, refl, sym}
use Rattle.sched_core.specs.declared.log.LogHead.{LogHead}
use Rattle.sched_core.specs.declared.log.LogHead.TheVariants.{Plain, Named}
use Rattle.sched_core.specs.declared.setting.Grain.TheVariants.{Process, Statement}
use Rattle.sched_core.specs.declared.setting.Departures.TheVariants.{Taking, Holding}
use Rattle.sched_core.specs.Logs.{IsLogFrom, IsLog}
use Rattle.sched_core.specs.LogText.{more_text, log_text, named_log_text}
use Rattle.sched_core.proofs.TextLemmas.{member_unique}
use Rattle.sched_core.proofs.ReadingLemmas.{starts_more}
use Rattle.sched_core.proofs.HeadLemmas.{member_first, named_process, named_statement, named_process_holding, named_statement_holding}

one_more_text : (low next : ℕ) (log others : List (ℕ × ℕ)) → IsLogFrom low log → IsLogFrom next others → more_text log ≡ more_text others → log ≡ others
one_more_text low next [] [] h k e = refl
one_more_text low next [] (n ∷ ns) h k e = absurd cc
one_more_text low next (m ∷ ms) [] h k e = absurd cc
one_more_text low next (m ∷ ms) (n ∷ ns) h k e =
    let (first, rest) = member_unique m n (more_text ms) (more_text ns) (omega (arith, h.1)) (omega (arith, h.3)) (omega (arith, k.1)) (omega (arith, k.3)) (starts_more ms) (starts_more ns) (ap (drop 1) e) in
    let more = one_more_text (m.0 + 1) (n.0 + 1) ms ns h.4 k.4 rest in
    λ i. first i ∷ more i

one_log_text : (log others : List (ℕ × ℕ)) → IsLog log → IsLog others → log_text log ≡ log_text others → log ≡ others
one_log_text [] [] h k e = refl
one_log_text [] (n ∷ ns) h k e = let first : 45 ≡ get_or (log_text (n ∷ ns)) 0 0 = ap (λ t. get_or t 0 0) e in absurd (omega (arith, member_first n ns k))
one_log_text (m ∷ ms) [] h k e = let first : get_or (log_text (m ∷ ms)) 0 0 ≡ 45 = ap (λ t. get_or t 0 0) e in absurd (omega (arith, member_first m ms h))
one_log_text (m ∷ ms) (n ∷ ns) h k e =
    let (first, rest) = member_unique m n (more_text ms) (more_text ns) (omega (arith, h.1)) (omega (arith, h.3)) (omega (arith, k.1)) (omega (arith, k.3)) (starts_more ms) (starts_more ns) e in
    let more = one_more_text (m.0 + 1) (n.0 + 1) ms ns h.4 k.4 rest in
    λ i. first i ∷ more i

pub one_named_text : (head other : LogHead) (log others : List (ℕ × ℕ)) → IsLog log → IsLog others → named_log_text head log ≡ named_log_text other others → (head ≡ other) × (log ≡ others)
one_named_text Plain Plain log others h k e = (refl, one_log_text log others h k e)
one_named_text Plain (Named Process Taking) log others h k e =
    let named = named_process (named_log_text Plain log) (log_text others) Plain log h e refl in
    (sym named.0, one_log_text log others h k (sym named.1))
one_named_text Plain (Named Statement Taking) log others h k e =
    let named = named_statement (named_log_text Plain log) (log_text others) Plain log h e refl in
    (sym named.0, one_log_text log others h k (sym named.1))
one_named_text Plain (Named Process Holding) log others h k e =
    let named = named_process_holding (named_log_text Plain log) (log_text others) Plain log h e refl in
    (sym named.0, one_log_text log others h k (sym named.1))
one_named_text Plain (Named Statement Holding) log others h k e =
    let named = named_statement_holding (named_log_text Plain log) (log_text others) Plain log h e refl in
    (sym named.0, one_log_text log others h k (sym named.1))
one_named_text (Named Process Taking) other log others h k e =
    let named = named_process (named_log_text (Named Process Taking) log) (log_text log) other others k refl e in
    (named.0, one_log_text log others h k named.1)
one_named_text (Named Statement Taking) other log others h k e =
    let named = named_statement (named_log_text (Named Statement Taking) log) (log_text log) other others k refl e in
    (named.0, one_log_text log others h k named.1)
one_named_text (Named Process Holding) other log others h k e =
    let named = named_process_holding (named_log_text (Named Process Holding) log) (log_text log) other others k refl e in
    (named.0, one_log_text log others h k named.1)
one_named_text (Named Statement Holding) other log others h k e =
    let named = named_statement_holding (named_log_text (Named Statement Holding) log) (log_text log) other others k refl e in
    (named.0, one_log_text log others h k named.1)
