-- The law of machines, over states as they are or flat.
use Rattle.std.proofs.Common.{◌≡◌, ℕ, zero, suc, ◌<◌, Bool, true, false, true≢false, if◌then◌else◌, List, length, refl, sym, ap, subst, ◌∙◌, arith}
use Rattle.sched_core.specs.Ranks.{IsRanked}
use Rattle.sched_core.specs.Rules.{IsLawful, IsRun, stands, choice_at}
use Rattle.vmodel.specs.State.{State, without_processes}
use Rattle.vmodel.specs.Choices.{choices}
use Rattle.vmodel.specs.InnerStep.{transition_to}
use Rattle.vmodel.specs.Step.{Transition, next, items_of, slot_end_of}
use Rattle.vmodel.specs.Run.{Setting, rules_of, opening_of, is_mark, state_after}
use Rattle.vmodel.specs.RulesLaws.{lawful}
use Rattle.vmodel.proofs.KeptLemmas.{next-kept, opening-kept}
use Rattle.vmodel.proofs.TimesLemmas.{time_never_falls}
use Rattle.vcompile.specs.CodeOf.{code_of}
use Rattle.vcompile.specs.Laws.{IsLinked, IsHeardByAll}
use Rattle.vflat.specs.Flat.{flat_opening}
use Rattle.vflat.specs.Representations.{Representation, RepresentedTransition, plain, fast, rest_in, representation_same, representation_after, representation_next, representation_first, representation_rules, Represents, representations_tell}
use Rattle.vflat.proofs.MatchLemmas.{items_bare, end_bare_by, next_stands}
use Rattle.vflat.proofs.OneLemmas.{one_flat, opening_matches}
use Rattle.vflat.proofs.OnlyLemmas.{only_state}

-- what is read of no process is read of the rest
width_bare : (t : State) → length (choices (without_processes t)) ≡ length (choices t)
width_bare t = refl

mark_bare : (t : State) → is_mark (without_processes t) ≡ is_mark t
mark_bare t = refl

-- what is read of one is read of the state that it stands for
pub read_so : (setting : Setting) (s : Representation) (t : State) → Represents setting s t → without_processes (rest_in s) ≡ without_processes t
read_so setting (plain s) t h = ap without_processes h.1
read_so setting (fast f) t h = ap without_processes h.1.rest

pub widths_stand : (setting : Setting) (s : Representation) (t : State) → Represents setting s t → (representation_rules setting).width s ≡ length (choices t)
widths_stand setting (plain s) t h = ap (λ (u : State). length (choices u)) h.1
widths_stand setting (fast f) t h = ap (λ (u : State). length (choices u)) h.1.rest ∙ width_bare t

pub marks_stand : (setting : Setting) (s : Representation) (t : State) → Represents setting s t → (representation_rules setting).mark s ≡ is_mark t
marks_stand setting (plain s) t h = ap is_mark h.1
marks_stand setting (fast f) t h = ap is_mark h.1.rest ∙ mark_bare t

pub times_stand : (setting : Setting) (s : Representation) (t : State) → Represents setting s t → (rest_in s).queue.time ≡ t.queue.time
times_stand setting (plain s) t h = ap (λ (u : State). u.queue.time) h.1
times_stand setting (fast f) t h = ap (λ (u : State). u.queue.time) h.1.rest

pub same_stands_so : (setting : Setting) (s r : Representation) (t : State) → Represents setting s t → representation_same r s ≡ true → Represents setting r t
same_stands_so setting s r t h e = subst (λ x. Represents setting x t) (sym ((representations_tell r s).0 e)) h

pub slot_ends_stand : (setting : Setting) (s : Representation) (t : State) → Represents setting s t → slot_end_of (rest_in s) ≡ slot_end_of t
slot_ends_stand setting (plain s) t h = ap slot_end_of h.1
slot_ends_stand setting (fast f) t h = ap slot_end_of h.1.rest ∙ end_bare_by t.cause t

-- a step that stands for another's gives the same items
pub record GivesAs (setting : Setting) (x : RepresentedTransition) (y : Transition) : Type 0 where
  pub represents : Represents setting x.state y.state
  pub items : items_of setting.design (transition_to (rest_in x.state) x.effect x.monitors) ≡ items_of setting.design y

module _ (linked : IsLinked) (heard : IsHeardByAll) where
  pub after_stands_so : (setting : Setting) (s : Representation) (t : State) (i : ℕ) → Represents setting s t →
      Represents setting (representation_after setting s i) (next setting.design t i).state
  after_stands_so setting (plain s) t i h = (h.0, ap (λ (u : State). (next setting.design u i).state) h.1)
  after_stands_so setting (fast f) t i h =
      (h.0, (next_stands setting.design h.0 linked heard f t i h.1 h.2).state, next-kept setting.design t i h.2)

  pub next_stands_so : (setting : Setting) (s : Representation) (t : State) (i : ℕ) → Represents setting s t →
      GivesAs setting (representation_next setting.design (code_of setting.design) s i) (next setting.design t i)
  next_stands_so setting (plain s) t i h = record {
    represents = (h.0, ap (λ (u : State). (next setting.design u i).state) h.1);
    items = ap (λ (u : State). items_of setting.design (next setting.design u i)) h.1;
  }
  next_stands_so setting (fast f) t i h =
      let m = next_stands setting.design h.0 linked heard f t i h.1 h.2 in
      record {
        represents = (h.0, m.state, next-kept setting.design t i h.2);
        items =
            ap (items_of setting.design) (λ j. record { state = m.state.rest j; effect = m.effect j; monitors = m.monitors j })
            ∙ items_bare setting.design (next setting.design t i);
      }

  pub one_stands_so : (setting : Setting) (s r : Representation) (t : State) → Represents setting s t → Represents setting r t → representation_same s r ≡ true
  one_stands_so setting (plain s) (plain r) t h k = (representations_tell (plain s) (plain r)).1 (ap plain (h.1 ∙ sym k.1))
  one_stands_so setting (plain s) (fast g) t h k = absurd (true≢false (sym k.0 ∙ h.0))
  one_stands_so setting (fast f) (plain r) t h k = absurd (true≢false (sym h.0 ∙ k.0))
  one_stands_so setting (fast f) (fast g) t h k =
      (representations_tell (fast f) (fast g)).1 (ap fast (one_flat setting.design h.0 linked f g t h.1 k.1))

  pub only_stands_so : (setting : Setting) (s : Representation) (t u : State) → Represents setting s t → Represents setting s u → t ≡ u
  only_stands_so setting (plain s) t u h k = sym h.1 ∙ k.1
  only_stands_so setting (fast f) t u h k = only_state setting.design f t u h.0 linked h.1 k.1

  first_by : (setting : Setting) (b : Bool) → (code_of setting.design).whole ≡ b →
      Represents setting (if b then fast (flat_opening (code_of setting.design) (opening_of setting)) else plain (opening_of setting)) (opening_of setting)
  first_by setting true e = (e, opening_matches setting.design (opening_of setting) e linked refl, opening-kept setting)
  first_by setting false e = (e, refl)

  pub first_stands_so : (setting : Setting) → Represents setting (representation_first setting) (opening_of setting)
  first_stands_so setting = first_by setting (code_of setting.design).whole refl

  -- ---- so the runs are the same

  pub all_stand_so : (setting : Setting) (log : List (ℕ × ℕ)) (n : ℕ) → Represents setting (stands (representation_rules setting) log n) (state_after setting log n)
  unfolding rules_of
  all_stand_so setting log zero = first_stands_so setting
  all_stand_so setting log (suc n) =
      after_stands_so setting (stands (representation_rules setting) log n) (state_after setting log n) (choice_at log n) (all_stand_so setting log n)

  width_there : (setting : Setting) (log : List (ℕ × ℕ)) (n : ℕ) →
      (representation_rules setting).width (stands (representation_rules setting) log n) ≡ (rules_of setting).width (state_after setting log n)
  unfolding rules_of
  width_there setting log n = widths_stand setting (stands (representation_rules setting) log n) (state_after setting log n) (all_stand_so setting log n)

  pub runs_there_so : (setting : Setting) (log : List (ℕ × ℕ)) (n : ℕ) → IsRun (representation_rules setting) log n → IsRun (rules_of setting) log n
  runs_there_so setting log n run k lt = subst (λ w. choice_at log k < w) (width_there setting log k) (run k lt)

  pub runs_here_so : (setting : Setting) (log : List (ℕ × ℕ)) (n : ℕ) → IsRun (rules_of setting) log n → IsRun (representation_rules setting) log n
  runs_here_so setting log n run k lt = subst (λ w. choice_at log k < w) (sym (width_there setting log k)) (run k lt)

  pub representations_ranked : (setting : Setting) → IsRanked (representation_rules setting) (λ s. (rest_in s).queue.time)
  representations_ranked setting = record {
    rank_same = λ s t h. ap (λ x. (rest_in x).queue.time) ((representations_tell s t).0 h);
    rises = λ log n run. omega (
      arith,
      time_never_falls setting log n (runs_there_so setting log (suc n) run),
      times_stand setting (stands (representation_rules setting) log n) (state_after setting log n) (all_stand_so setting log n),
      times_stand setting (stands (representation_rules setting) log (suc n)) (state_after setting log (suc n)) (all_stand_so setting log (suc n)),
    );
  }

-- ---- the rules are lawful

end_mark : (setting : Setting) (s : State) → length (choices s) ≡ 0 → is_mark s ≡ true
unfolding rules_of
end_mark setting s h = (lawful setting).end_is_mark s h

pub representations_lawful : (setting : Setting) → IsLawful (representation_rules setting)
representations_lawful setting = record {
  reflexive = λ s. (representations_tell s s).1 refl;
  symmetric = λ s t h. (representations_tell t s).1 (sym ((representations_tell s t).0 h));
  transitive = λ s t u h k. (representations_tell s u).1 ((representations_tell s t).0 h ∙ (representations_tell t u).0 k);
  width_same = λ s t h. ap (λ x. length (choices (rest_in x))) ((representations_tell s t).0 h);
  mark_same = λ s t h. ap (λ x. is_mark (rest_in x)) ((representations_tell s t).0 h);
  after_same = λ s t i h lt. (representations_tell (representation_after setting s i) (representation_after setting t i)).1 (ap (λ x. representation_after setting x i) ((representations_tell s t).0 h));
  end_is_mark = λ s h. end_mark setting (rest_in s) h;
}
