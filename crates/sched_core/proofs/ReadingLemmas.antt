-- What reading the members of a log's text one after another keeps.
use Rattle.std.proofs.Common.{◌≡◌, ◌≢◌, ℕ, ◌+◌, ◌^◌, ◌<◌, List, [], ◌∷◌, ◌++◌, drop, arith, ap, refl, sym, ◌∙◌, subst, append_assoc, append-nil}
use Rattle.sched_core.specs.Logs.{IsLogFrom, IsLog}
use Rattle.sched_core.specs.LogText.{member_text, more_text, log_text, IsNoLogText}
use Rattle.sched_core.specs.Inner.Reading.{StartsNoNumber, IsMemberFront, HasNoMember}
use Rattle.sched_core.proofs.TextLemmas.{member_unique}
use Rattle.sched_core.proofs.LogLemmas.{IsLogFrom-front}

-- the whole goes on from the log by one member or more, whose text is the rest
pub record GoesOn (log : List (ℕ × ℕ)) (rest : List ℕ) (whole : List (ℕ × ℕ)) : Type 0 where
  pub m : ℕ × ℕ
  pub ms : List (ℕ × ℕ)
  pub whole_is : whole ≡ log ++ m ∷ ms
  pub rest_is : rest ≡ member_text m ++ more_text ms

-- the text is the log read so far and the rest, both ways
pub record HasRead (text : List ℕ) (log : List (ℕ × ℕ)) (rest : List ℕ) : Type 0 where
  pub sound : (m : ℕ × ℕ) (ms : List (ℕ × ℕ)) → rest ≡ member_text m ++ more_text ms → text ≡ log_text (log ++ m ∷ ms)
  pub complete : (whole : List (ℕ × ℕ)) → IsLog whole → text ≡ log_text whole → GoesOn log rest whole

start_complete : (text : List ℕ) → text ≢ 45 ∷ [] → (whole : List (ℕ × ℕ)) → IsLog whole → text ≡ log_text whole → GoesOn [] text whole
start_complete text some [] h e = absurd (some e)
start_complete text some (m ∷ ms) h e = record { m = m; ms = ms; whole_is = refl; rest_is = e }

pub start : (text : List ℕ) → text ≢ 45 ∷ [] → HasRead text [] text
start text some = record {
  sound = λ m ms e. e;
  complete = start_complete text some;
}

pub starts_more : (ms : List (ℕ × ℕ)) → StartsNoNumber (more_text ms)
starts_more [] = tt
starts_more (m ∷ ms) = refl

pub bounds : (low : ℕ) (log : List (ℕ × ℕ)) (m : ℕ × ℕ) (ms : List (ℕ × ℕ)) → IsLogFrom low (log ++ m ∷ ms) → (m.0 < 2 ^ 32) × (m.1 < 2 ^ 32)
bounds low [] m ms h = (omega (arith, h.1), omega (arith, h.3))
bounds low (x ∷ xs) m ms h = bounds (x.0 + 1) xs m ms h.4

-- the member that was read is the one that comes next
pub next_is : (log : List (ℕ × ℕ)) (rest : List ℕ) (whole : List (ℕ × ℕ)) (m : ℕ × ℕ) (after : List ℕ) → IsLog whole → IsMemberFront rest m after → (g : GoesOn log rest whole) → (m ≡ g.m) × (after ≡ more_text g.ms)
next_is log rest whole m after h f g =
    let b : (g.m.0 < 2 ^ 32) × (g.m.1 < 2 ^ 32) = bounds 0 log g.m g.ms (subst IsLog g.whole_is h) in
    member_unique m g.m after (more_text g.ms) f.step_small f.index_small b.0 b.1 f.stops (starts_more g.ms) (sym f.whole ∙ g.rest_is)

pub no_member : (text : List ℕ) (log : List (ℕ × ℕ)) (rest : List ℕ) → HasRead text log rest → HasNoMember rest → IsNoLogText text
no_member text log rest r none whole h e =
    let g : GoesOn log rest whole = r.complete whole h e in
    let b : (g.m.0 < 2 ^ 32) × (g.m.1 < 2 ^ 32) = bounds 0 log g.m g.ms (subst IsLog g.whole_is h) in
    none g.m (more_text g.ms) b.0 b.1 (starts_more g.ms) g.rest_is

-- the member that was read can't be put last
pub no_next : (text : List ℕ) (log : List (ℕ × ℕ)) (rest : List ℕ) (m : ℕ × ℕ) (after : List ℕ) → HasRead text log rest → IsMemberFront rest m after → ¬ IsLog (log ++ m ∷ []) → IsNoLogText text
no_next text log rest m after r f none whole h e =
    let g : GoesOn log rest whole = r.complete whole h e in
    let same = next_is log rest whole m after h f g in
    let parts : IsLog ((log ++ g.m ∷ []) ++ g.ms) = subst IsLog (g.whole_is ∙ sym (append_assoc log (g.m ∷ []) g.ms)) h in
    let P : ℕ × ℕ → Type 0 = λ k. IsLog (log ++ k ∷ []) in
    none (subst P (sym same.0) (IsLogFrom-front 0 (log ++ g.m ∷ []) g.ms parts))

after_all : (ms : List (ℕ × ℕ)) → [] ≡ more_text ms → ms ≡ []
after_all [] e = refl
after_all (n ∷ ms) e = absurd (cc)

-- where the last member was read, that log alone has this text
pub only_log : (text : List ℕ) (log : List (ℕ × ℕ)) (rest : List ℕ) (m : ℕ × ℕ) → HasRead text log rest → IsMemberFront rest m [] → (whole : List (ℕ × ℕ)) → IsLog whole → text ≡ log_text whole → log ++ m ∷ [] ≡ whole
only_log text log rest m r f whole h e =
    let g : GoesOn log rest whole = r.complete whole h e in
    let same = next_is log rest whole m [] h f g in
    let end = after_all g.ms same.1 in
    sym (g.whole_is ∙ (λ i. log ++ (sym same.0 i) ∷ (end i)))

after_more : (after : List ℕ) (ms : List (ℕ × ℕ)) → after ≢ [] → ((next : List ℕ) → after ≢ 44 ∷ next) → after ≡ more_text ms → ⊥
after_more after [] some none e = some e
after_more after (n ∷ ms) some none e = none (member_text n ++ more_text ms) e

-- what follows a member is a comma, or nothing
pub no_comma : (text : List ℕ) (log : List (ℕ × ℕ)) (rest : List ℕ) (m : ℕ × ℕ) (after : List ℕ) → HasRead text log rest → IsMemberFront rest m after → after ≢ [] → ((next : List ℕ) → after ≢ 44 ∷ next) → IsNoLogText text
no_comma text log rest m after r f some none whole h e =
    let g : GoesOn log rest whole = r.complete whole h e in
    let same = next_is log rest whole m after h f g in
    after_more after g.ms some none same.1

goes_on : (log : List (ℕ × ℕ)) (whole : List (ℕ × ℕ)) (m k : ℕ × ℕ) (next : List ℕ) (ms : List (ℕ × ℕ)) → whole ≡ log ++ k ∷ ms → m ≡ k → 44 ∷ next ≡ more_text ms → GoesOn (log ++ m ∷ []) next whole
goes_on log whole m k next [] w s e = absurd cc
goes_on log whole m k next (n ∷ ms) w s e = record {
  m = n;
  ms = ms;
  whole_is = w ∙ ap (λ j. log ++ j ∷ (n ∷ ms)) (sym s) ∙ sym (append_assoc log (m ∷ []) (n ∷ ms));
  rest_is = ap (drop 1) e;
}

-- one member and its comma were read
pub one_more : (text : List ℕ) (log : List (ℕ × ℕ)) (rest : List ℕ) (m : ℕ × ℕ) (after next : List ℕ) → HasRead text log rest → IsMemberFront rest m after → after ≡ 44 ∷ next → HasRead text (log ++ m ∷ []) next
one_more text log rest m after next r f comma = record {
  sound = λ n ms e. r.sound m (n ∷ ms) (f.whole ∙ ap (λ t. member_text m ++ t) (comma ∙ ap (λ t. 44 ∷ t) e)) ∙ ap log_text (sym (append_assoc log (m ∷ []) (n ∷ ms)));
  complete = λ whole h e.
      let g : GoesOn log rest whole = r.complete whole h e in
      let same = next_is log rest whole m after h f g in
      goes_on log whole m g.m next g.ms g.whole_is same.0 (sym comma ∙ same.1);
}

pub more_text-append : (ms : List (ℕ × ℕ)) (m : ℕ × ℕ) → more_text (ms ++ m ∷ []) ≡ more_text ms ++ 44 ∷ member_text m
more_text-append [] m = ap (λ t. 44 ∷ t) (append-nil (member_text m))
more_text-append (n ∷ ms) m =
    ap (λ t. 44 ∷ (member_text n ++ t)) (more_text-append ms m) ∙ ap (λ t. 44 ∷ t) (sym (append_assoc (member_text n) (more_text ms) (44 ∷ member_text m)))
