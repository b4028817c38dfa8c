-- *internal*: The laws of a sink that writes the lines.
use Rattle.std.proofs.Common.{◌≡◌, ℕ, List, [], ◌∷◌, ◌++◌, refl, sym, ap, subst, ◌∙◌, append_assoc}
use Rattle.basis.specs.declared.memory.OrMemory.{OrMemory}
use Rattle.vdesign.specs.Design.{Design}
use Rattle.byte_sinks.specs.ByteSinks.{IsByteSink, Stopped}
use Rattle.byte_sinks.specs.ByteSinkLaws.{stopped_after, stopped_before}
use Rattle.vmodel.specs.declared.history.Item.{Item}
use Rattle.lines_text.specs.declared.in_force.InForce.{InForce}
use Rattle.lines_text.specs.declared.sink.LinesSink.{LinesSink}
use Rattle.lines_text.specs.LinesText.{item_text, in_force_after, lines_from}
use Rattle.lines_text.specs.Sinks.{in_force_over, text_of, Takes, Fails}

pub text_joins : (design : Design) (m : InForce) (xs ys : List Item) →
    lines_from design m (xs ++ ys) ≡ lines_from design m xs ++ lines_from design (in_force_over design m xs) ys
text_joins design m [] ys = refl
text_joins design m (x ∷ xs) ys =
    ap (λ text. item_text design m x ++ text) (text_joins design (in_force_after design m x) xs ys)
    ∙ sym (append_assoc (item_text design m x) (lines_from design (in_force_after design m x) xs)
    (lines_from design (in_force_over design (in_force_after design m x) xs) ys))

in_force_joins : (design : Design) (m : InForce) (xs ys : List Item) →
    in_force_over design m (xs ++ ys) ≡ in_force_over design (in_force_over design m xs) ys
in_force_joins design m [] ys = refl
in_force_joins design m (x ∷ xs) ys = in_force_joins design (in_force_after design m x) xs ys

module _ {O F : Type 0} (takes : O → List ℕ → O → Type 0) (fails : O → List ℕ → F → O → Type 0) (laws : IsByteSink takes fails) where
  -- what two lists of items add, where the first one was taken
  both_texts : (s t : LinesSink O) (xs ys : List Item) → Takes takes s xs t → text_of s (xs ++ ys) ≡ text_of s xs ++ text_of t ys
  both_texts s t xs ys p =
      text_joins s.design.now s.in_force xs ys
      ∙ ap (λ (after : InForce). text_of s xs ++ lines_from s.design.now after ys) (sym p.1)
      ∙ ap (λ (design : Design). text_of s xs ++ lines_from design t.in_force ys) (sym p.0.1)

  pub takes_none : (s : LinesSink O) → Takes takes s [] s
  takes_none s = ((refl, refl), refl, laws.none s.byte_sink.now)

  pub takes_joins : (s t u : LinesSink O) (xs ys : List Item) → Takes takes s xs t → Takes takes t ys u → Takes takes s (xs ++ ys) u
  takes_joins s t u xs ys p q =
      let taken : takes s.byte_sink.now (text_of s (xs ++ ys)) u.byte_sink.now =
      subst (λ (text : List ℕ). takes s.byte_sink.now text u.byte_sink.now) (sym (both_texts s t xs ys p))
      (laws.joins s.byte_sink.now t.byte_sink.now u.byte_sink.now (text_of s xs) (text_of t ys) p.2 q.2) in (
        (q.0.0 ∙ p.0.0, q.0.1 ∙ p.0.1),
        q.1
            ∙ ap (λ (design : Design). in_force_over design t.in_force ys) p.0.1
            ∙ ap (λ (after : InForce). in_force_over s.design.now after ys) p.1
            ∙ sym (in_force_joins s.design.now s.in_force xs ys),
        taken,
      )

  pub fails_after : (s t u : LinesSink O) (xs ys : List Item) (fault : OrMemory F) → Takes takes s xs t → Fails takes fails t ys fault u →
      Fails takes fails s (xs ++ ys) fault u
  fails_after s t u xs ys fault p q =
      let stopped : Stopped takes fails s.byte_sink.now (text_of s (xs ++ ys)) fault u.byte_sink.now =
      subst (λ (text : List ℕ). Stopped takes fails s.byte_sink.now text fault u.byte_sink.now) (sym (both_texts s t xs ys p))
      (stopped_after takes fails laws s.byte_sink.now t.byte_sink.now u.byte_sink.now (text_of s xs) (text_of t ys) fault p.2 q.1) in
      ((q.0.0 ∙ p.0.0, q.0.1 ∙ p.0.1), stopped)

  -- the same where more items weren't come to
  pub fails_before : (s u : LinesSink O) (xs ys : List Item) (fault : OrMemory F) → Fails takes fails s xs fault u → Fails takes fails s (xs ++ ys) fault u
  fails_before s u xs ys fault p =
      let stopped : Stopped takes fails s.byte_sink.now (text_of s (xs ++ ys)) fault u.byte_sink.now =
      subst (λ (text : List ℕ). Stopped takes fails s.byte_sink.now text fault u.byte_sink.now) (sym (text_joins s.design.now s.in_force xs ys))
      (stopped_before takes fails laws s.byte_sink.now u.byte_sink.now (text_of s xs)
      (lines_from s.design.now (in_force_over s.design.now s.in_force xs) ys) fault p.1) in
      (p.0, stopped)
