-- The lines of a run's steps, on their way to a writer.
use Rattle.std.proofs.Common.{◌≡◌, ℕ, zero, suc, ◌+◌, ◌-◌, ◌<◌, ◌≤◌, List, [], ◌++◌, Option, None, Some, IfSome, IfNone, length, inl, inr, refl, sym, ap, subst, ◌∙◌, le_refl, append_assoc, append-nil, add-one, arith}
use Rattle.std.proofs.lemmas.Bool.{cases_lt}
use Rattle.basis.specs.declared.memory.NoMemory.{NoMemory}
use Rattle.basis.specs.declared.memory.OrMemory.{OrMemory}
use Rattle.basis.specs.declared.memory.OrMemory.TheVariants.{Memory}
use Rattle.vsrc.specs.declared.expanded.Place.{Place}
use Rattle.byte_sinks.specs.Metered.{Grows, Stops}
use Rattle.byte_sinks.specs.MeteredLaws.{grows_none, grows_joins, stops_after, stops_before}
use Rattle.byte_sinks.specs.declared.metered.Metered.{Metered}
use Rattle.byte_sinks.specs.declared.fault.WriteFault.{WriteFault}
use Rattle.sched_core.specs.Logs.{IsLogFrom}
use Rattle.sched_core.specs.Rules.{choice_at, stands, IsRun}
use Rattle.sched_core.specs.Replay.{IsNextChoice}
use Rattle.sched_core.proofs.RunLemmas.{left_whole, left_next, run_more}
use Rattle.vmodel.specs.State.{State}
use Rattle.vmodel.specs.Choices.{choices}
use Rattle.vmodel.specs.Step.{next}
use Rattle.vmodel.specs.Run.{Setting, rules_of, opening_of, state_after, end_of}
use Rattle.vmodel.specs.RunProgress.{IsOnItsWay, opening_is, width_is, after_is}
use Rattle.vmachine.specs.Inner.{IsAt}
use Rattle.trace_text.specs.Traces.{IsTold, trace, steps_text, step_lines, slot_line, end_line}

-- a run on its way takes more steps, if any, as far as it is told
pub told_from : (setting : Setting) (log : List (ℕ × ℕ)) (more n steps : ℕ) → steps ≡ more + n → IsRun (rules_of setting) log n →
    (m k : ℕ) × IsTold setting log steps m × (m ≡ k + n)
told_from setting log zero n steps e run = (n, zero, record { within = omega (arith, e); run = run; last = inl (omega (arith, e)) }, omega arith)
told_from setting log (suc more) n steps e run =
    let i : ℕ = choice_at log n in
    let width : ℕ = length (choices (state_after setting log n)) in
    elim (cases_lt i width) [
      | inl lt ↦ (let there : i < (rules_of setting).width (stands (rules_of setting) log n) = omega (arith, width_is setting (state_after setting log n), lt) in
          let later : IsRun (rules_of setting) log (suc n) = subst (IsRun (rules_of setting) log) (add-one n) (run_more (rules_of setting) log n run there) in
          let (m, k, told, is) = told_from setting log more (suc n) steps (omega (arith, e)) later in
          (m, suc k, told, omega (arith, is)))
      | inr ge ↦ (n, zero, record { within = omega (arith, e); run = run; last = inr ge }, omega arith)
    ]

-- what a clause says of the value in a `Some`
pub of_some : {A : Type 0} (found : Option A) (x : A) (P : A → Type 0) → found ≡ Some x → IfSome found P → P x
of_some found x P e h = subst (λ (o : Option _). IfSome o P) e h

pub of_none : {A : Type 0} (found : Option A) (P : Type 0) → found ≡ None → IfNone found P → P
of_none found P e h = subst (λ (o : Option _). IfNone o P) e h

-- the lines of some steps begin those of more
pub text_front : (setting : Setting) (origins : List (Option Place)) (log : List (ℕ × ℕ)) (k n m : ℕ) → m ≡ k + n →
    (more : List ℕ) × (steps_text setting origins log m ≡ steps_text setting origins log n ++ more)
text_front setting origins log zero n m e =
    let same : m ≡ n = omega (arith, e) in
    ([], ap (steps_text setting origins log) same ∙ sym (append-nil (steps_text setting origins log n)))
text_front setting origins log (suc k) n m e =
    let (more, is) = text_front setting origins log k n (k + n) refl in
    let last : m ≡ suc (k + n) = omega (arith, e) in
    let lines : List ℕ = step_lines setting.design origins (k + n) (state_after setting log (k + n)) (choice_at log (k + n)) in (
      more ++ lines,
      ap (steps_text setting origins log) last ∙ ap (λ (text : List ℕ). text ++ lines) is ∙ append_assoc (steps_text setting origins log n) more lines,
    )

-- after n steps the run stands here, and their lines were written
pub record IsToldSo {W : Type 0} (contents : W → Option (List ℕ)) (setting : Setting) (origins : List (Option Place)) (log : List (ℕ × ℕ)) (steps : ℕ) (first : Metered W)
    (rest : List (ℕ × ℕ)) (n : ℕ) (state : State) (now : Metered W) : Type 0 where
  pub here : IsAt setting log rest steps n state
  pub written : Grows contents first now (steps_text setting origins log n)

module _ {W : Type 0} (contents : W → Option (List ℕ)) (setting : Setting) (origins : List (Option Place)) (log : List (ℕ × ℕ)) (steps : ℕ) where
  -- the lines of the steps up to where the run is told were written, and it stands there
  abbrev pub Ends : Metered W → State → Metered W → Type 0
  Ends first state now = (n : ℕ) × IsTold setting log steps n × (state ≡ state_after setting log n) × Grows contents first now (steps_text setting origins log n)

  -- the fault came in the lines of steps on the way
  abbrev pub Halts : Metered W → OrMemory WriteFault → Metered W → Type 0
  Halts first fault now = (n : ℕ) × IsOnItsWay setting log steps n × Stops contents first now (steps_text setting origins log n) fault

  -- the trace was written
  abbrev pub Traces : Metered W → Metered W → Type 0
  Traces first now = (n : ℕ) × IsTold setting log steps n × Grows contents first now (trace setting origins log n)

  -- the fault came in the trace
  abbrev pub Stopping : Metered W → OrMemory WriteFault → Metered W → Type 0
  Stopping first fault now = (n : ℕ) × IsTold setting log steps n × Stops contents first now (trace setting origins log n) fault

  -- memory was refused behind a text that was written
  refused_behind : (a b : Metered W) (xs ys : List ℕ) (m : NoMemory) → Grows contents a b xs → Stops contents a b (xs ++ ys) (Memory m)
  refused_behind a b xs ys m grown = stops_after contents a b b xs ys (Memory m) grown ((0, (grows_none contents b).0), refl)

  module _ (first : Metered W) where
    pub begun : (state : State) → IsLogFrom 0 log → state ≡ opening_of setting → IsToldSo contents setting origins log steps first log 0 state first
    begun state lawful is = record {
      here = record { within = omega arith; left = left_whole log lawful; run = λ k lt. absurd (omega arith); at = is ∙ sym (opening_is setting) };
      written = grows_none contents first;
    }

    module _ (rest : List (ℕ × ℕ)) (n : ℕ) (state : State) (now : Metered W) (so : IsToldSo contents setting origins log steps first rest n state now) where
      width_here : (rules_of setting).width (stands (rules_of setting) log n) ≡ length (choices state)
      width_here = width_is setting (state_after setting log n) ∙ sym (ap (λ (s : State). length (choices s)) so.here.at)

      pub halts : (m : NoMemory) → Halts first (Memory m) now
      halts m = (
        n,
        record { within = so.here.within; run = so.here.run },
        subst (λ (text : List ℕ). Stops contents first now text (Memory m)) (append-nil (steps_text setting origins log n))
            (refused_behind first now (steps_text setting origins log n) [] m so.written),
      )

      pub ends_at_last : steps ≤ n → Ends first state now
      ends_at_last le = let within : n ≤ steps = so.here.within in
          (n, record { within = within; run = so.here.run; last = inl (omega arith) }, so.here.at, so.written)

      module _ (choice : ℕ) (later : List (ℕ × ℕ)) (taken : IsNextChoice rest n choice later) where
        choice_is : choice ≡ choice_at log n
        choice_is = taken.taken ∙ sym (so.here.left.same n (le_refl n))

        pub ends_early : length (choices state) ≤ choice → Ends first state now
        ends_early none =
            let width : length (choices state) ≡ length (choices (state_after setting log n)) = ap (λ (s : State). length (choices s)) so.here.at in
            (n, record { within = so.here.within; run = so.here.run; last = inr (omega (arith, width, choice_is)) }, so.here.at, so.written)

        module _ (after : State) (text : List ℕ) (lt : n < steps) (lawful : IsLogFrom (n + 1) later) (some : choice < length (choices state))
            (is : after ≡ (next setting.design state choice).state) (told : text ≡ step_lines setting.design origins n state choice) where
          next_at : IsAt setting log later steps (n + 1) after
          next_at = record {
            within = omega (arith, lt);
            left = left_next log rest later n choice so.here.left taken lawful;
            run = run_more (rules_of setting) log n so.here.run (omega (arith, width_here, choice_is, some));
            at = is
                ∙ ap (λ (s : State). (next setting.design s choice).state) so.here.at
                ∙ ap (λ (i : ℕ). (next setting.design (state_after setting log n) i).state) choice_is
                ∙ sym (after_is setting (state_after setting log n) (choice_at log n))
                ∙ ap (stands (rules_of setting) log) (sym (add-one n));
          }

          -- the lines of n steps and of one more
          text_on : steps_text setting origins log n ++ text ≡ steps_text setting origins log (n + 1)
          text_on =
              ap (λ (lines : List ℕ). steps_text setting origins log n ++ lines)
              (told
              ∙ ap (λ (s : State). step_lines setting.design origins n s choice) so.here.at
              ∙ ap (step_lines setting.design origins n (state_after setting log n)) choice_is)
              ∙ ap (steps_text setting origins log) (sym (add-one n))

          pub told_on : (new : Metered W) → Grows contents now new text → IsToldSo contents setting origins log steps first later (n + 1) after new
          told_on new grown = record {
            here = next_at;
            written = subst (Grows contents first new) text_on (grows_joins contents first now new (steps_text setting origins log n) text so.written grown);
          }

          pub halts_in : (new : Metered W) (fault : OrMemory WriteFault) → Stops contents now new text fault → Halts first fault new
          halts_in new fault stops = (
            n + 1,
            record { within = next_at.within; run = next_at.run },
            subst (λ (lines : List ℕ). Stops contents first new lines fault) text_on
                (stops_after contents first now new (steps_text setting origins log n) text fault so.written stops),
          )

  -- ---- the whole trace

  told_whole : (m : ℕ) × IsTold setting log steps m
  told_whole = let (m, k, told, is) = told_from setting log steps 0 steps (omega arith) (λ k lt. absurd (omega arith)) in (m, told)

  pub refused_first : (first : Metered W) (m : NoMemory) → Stopping first (Memory m) first
  refused_first first m = (told_whole.0, told_whole.1, refused_behind first first [] (trace setting origins log told_whole.0) m (grows_none contents first))

  module _ (first now : Metered W) (opening : List ℕ) (is : opening ≡ slot_line (opening_of setting)) where
    -- the trace up to its last line
    abbrev front : ℕ → List ℕ
    front n = slot_line (opening_of setting) ++ steps_text setting origins log n

    abbrev last : ℕ → List ℕ
    last n = end_line (end_of (state_after setting log n))

    pub stops_at_opening : (fault : OrMemory WriteFault) → Stops contents first now opening fault → Stopping first fault now
    stops_at_opening fault stops =
        let (n, told) = told_whole in
        let there : Stops contents first now (slot_line (opening_of setting)) fault = subst (λ (text : List ℕ). Stops contents first now text fault) is stops in (
          n,
          told,
          stops_before contents first now (front n) (last n) fault
              (stops_before contents first now (slot_line (opening_of setting)) (steps_text setting origins log n) fault there),
        )

    module _ (grown : Grows contents first now opening) where
      opened : Grows contents first now (slot_line (opening_of setting))
      opened = subst (Grows contents first now) is grown

      pub stops_in_steps : (new : Metered W) (fault : OrMemory WriteFault) → Halts now fault new → Stopping first fault new
      stops_in_steps new fault (n, way, stops) =
          let within : n ≤ steps = way.within in
          let (m, k, told, e) = told_from setting log (steps - n) n steps (omega (arith, within)) way.run in
          let (more, whole) = text_front setting origins log k n m e in
          let stopped : Stops contents first new (front n ++ more) fault =
          stops_before contents first new (front n) more fault
          (stops_after contents first now new (slot_line (opening_of setting)) (steps_text setting origins log n) fault opened stops) in
          let joined : front n ++ more ≡ front m =
          append_assoc (slot_line (opening_of setting)) (steps_text setting origins log n) more
          ∙ ap (λ (text : List ℕ). slot_line (opening_of setting) ++ text) (sym whole) in
          (m, told, stops_before contents first new (front m) (last m) fault (subst (λ (text : List ℕ). Stops contents first new text fault) joined stopped))

      module _ (state : State) (there : Metered W) (ends : Ends now state there) where
        written_so : Grows contents first there (front ends.0)
        written_so = grows_joins contents first now there (slot_line (opening_of setting)) (steps_text setting origins log ends.0) opened ends.3

        pub refused_last : (m : NoMemory) → Stopping first (Memory m) there
        refused_last m = (ends.0, ends.1, refused_behind first there (front ends.0) (last ends.0) m written_so)

        module _ (text : List ℕ) (line : text ≡ end_line (end_of state)) where
          end_is : text ≡ last ends.0
          end_is = line ∙ ap (λ (s : State). end_line (end_of s)) ends.2

          pub stops_at_end : (new : Metered W) (fault : OrMemory WriteFault) → Stops contents there new text fault → Stopping first fault new
          stops_at_end new fault stops = (
            ends.0,
            ends.1,
            stops_after contents first there new (front ends.0) (last ends.0) fault written_so
                (subst (λ (words : List ℕ). Stops contents there new words fault) end_is stops),
          )

          pub traced : (new : Metered W) → Grows contents there new text → Traces first new
          traced new grown_last =
              (ends.0, ends.1, grows_joins contents first there new (front ends.0) (last ends.0) written_so (subst (Grows contents there new) end_is grown_last))
