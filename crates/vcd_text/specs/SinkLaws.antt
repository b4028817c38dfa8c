-- *internal*: The laws of a sink that writes the dump.
use Rattle.std.proofs.Common.{◌≡◌, ℕ, Bool, true, false, cond, List, [], ◌∷◌, ◌++◌, refl, sym, ap, subst, ◌∙◌, append_assoc}
use Rattle.vdesign.specs.Design.{Design}
use Rattle.vbits.specs.Vectors.{Vector}
use Rattle.vdesign.specs.declared.dump.DumpCommand.{DumpCommand}
use Rattle.vmodel.specs.Touched.{HasNoSlotEnd, IsKeptAs}
use Rattle.vmodel.specs.declared.history.Item.{Item}
use Rattle.vmodel.specs.declared.history.Item.TheVariants.{SlotEnd, Dump, Line, Monitor}
use Rattle.basis.specs.declared.memory.OrMemory.{OrMemory}
use Rattle.vcd_text.specs.declared.sink.DumpSink.{DumpSink}
use Rattle.byte_sinks.specs.ByteSinks.{IsByteSink, Stopped}
use Rattle.byte_sinks.specs.ByteSinkLaws.{stopped_after, stopped_before}
use Rattle.vcd_text.specs.declared.progress.Progress.{Progress}
use Rattle.vcd_text.specs.declared.progress.Progress.TheVariants.{Waiting, Started, Failed}
use Rattle.vcd_text.specs.DumpText.{has_start, on_after, variable_marks}
use Rattle.vcd_text.specs.Sinks.{item_text, items_text, kept_in, kept_of, progress_after, progress_at_command, progress_at_slot_end, progress_over, text_of, Takes, Fails}

pub text_joins : (design : Design) (p : Progress) (xs ys : List Item) →
    items_text design p (xs ++ ys) ≡ items_text design p xs ++ items_text design (progress_over design p xs) ys
text_joins design p [] ys = refl
text_joins design p (x ∷ xs) ys =
    let after : Progress = progress_after design p x in
    ap (λ text. item_text design p x ++ text) (text_joins design after xs ys)
    ∙ sym (append_assoc (item_text design p x) (items_text design after xs) (items_text design (progress_over design after xs) ys))

progress_joins : (design : Design) (p : Progress) (xs ys : List Item) →
    progress_over design p (xs ++ ys) ≡ progress_over design (progress_over design p xs) ys
progress_joins design p [] ys = refl
progress_joins design p (x ∷ xs) ys = progress_joins design (progress_after design p x) xs ys

-- what is kept after a slot's end are the values there
kept_at_end : (design : Design) (p : Progress) (t : ℕ) (values : List Vector) → IsKeptAs values (kept_of (progress_at_slot_end design p t values))
kept_at_end design (Waiting commands) t values = by (has_start commands)
  where
    by : (b : Bool) → IsKeptAs values (kept_of (cond b (Started t (on_after true commands) (variable_marks design commands) values []) (Waiting [])))
    by true = refl
    by false = tt
kept_at_end design (Started last on marks old commands) t values = refl
kept_at_end design Failed t values = tt

kept_at_command : (p : Progress) (command : DumpCommand) → kept_of (progress_at_command p command) ≡ kept_of p
kept_at_command (Waiting commands) command = refl
kept_at_command (Started last on marks old commands) command = refl
kept_at_command Failed command = refl

-- and it stays until the next one
kept_over : (design : Design) (p : Progress) (items : List Item) → HasNoSlotEnd items → kept_of (progress_over design p items) ≡ kept_of p
kept_over design p [] h = refl
kept_over design p (SlotEnd t values ∷ items) h = absurd (let no : true ≡ false = h.0 in cc)
kept_over design p (Dump command ∷ items) h = kept_over design (progress_at_command p command) items h.1 ∙ kept_at_command p command
kept_over design p (Line text ∷ items) h = kept_over design p items h.1
kept_over design p (Monitor place ∷ items) h = kept_over design p items h.1

module _ {O : Type 0} (takes : O → List ℕ → O → Type 0) where
  pub keeps_end : (s u : DumpSink O) (t : ℕ) (values : List Vector) → Takes takes s (SlotEnd t values ∷ []) u → IsKeptAs values (kept_in u)
  keeps_end s u t values p = subst (λ (q : Progress). IsKeptAs values (kept_of q)) (sym p.1) (kept_at_end s.design.now s.progress t values)

  pub keeps_between : (s u : DumpSink O) (items : List Item) → HasNoSlotEnd items → Takes takes s items u → kept_in u ≡ kept_in s
  keeps_between s u items h p = ap kept_of p.1 ∙ kept_over s.design.now s.progress items h

module _ {O F : Type 0} (takes : O → List ℕ → O → Type 0) (fails : O → List ℕ → F → O → Type 0) (laws : IsByteSink takes fails) where
  -- what two lists of items add, where the first one was taken
  both_texts : (s t : DumpSink O) (xs ys : List Item) → Takes takes s xs t → text_of s (xs ++ ys) ≡ text_of s xs ++ text_of t ys
  both_texts s t xs ys p =
      text_joins s.design.now s.progress xs ys
      ∙ ap (λ (after : Progress). text_of s xs ++ items_text s.design.now after ys) (sym p.1)
      ∙ ap (λ (design : Design). text_of s xs ++ items_text design t.progress ys) (sym p.0.1)

  pub takes_none : (s : DumpSink O) → Takes takes s [] s
  takes_none s = ((refl, refl), refl, laws.none s.byte_sink.now)

  pub takes_joins : (s t u : DumpSink O) (xs ys : List Item) → Takes takes s xs t → Takes takes t ys u → Takes takes s (xs ++ ys) u
  takes_joins s t u xs ys p q =
      let taken : takes s.byte_sink.now (text_of s (xs ++ ys)) u.byte_sink.now =
      subst (λ (text : List ℕ). takes s.byte_sink.now text u.byte_sink.now) (sym (both_texts s t xs ys p))
      (laws.joins s.byte_sink.now t.byte_sink.now u.byte_sink.now (text_of s xs) (text_of t ys) p.2 q.2) in
      let reached : u.progress ≡ progress_over s.design.now s.progress (xs ++ ys) =
      q.1
      ∙ ap (λ (design : Design). progress_over design t.progress ys) p.0.1
      ∙ ap (λ (after : Progress). progress_over s.design.now after ys) p.1
      ∙ sym (progress_joins s.design.now s.progress xs ys) in
      ((q.0.0 ∙ p.0.0, q.0.1 ∙ p.0.1), reached, taken)

  pub fails_after : (s t u : DumpSink O) (xs ys : List Item) (fault : OrMemory F) → Takes takes s xs t → Fails takes fails t ys fault u →
      Fails takes fails s (xs ++ ys) fault u
  fails_after s t u xs ys fault p q =
      let stopped : Stopped takes fails s.byte_sink.now (text_of s (xs ++ ys)) fault u.byte_sink.now =
      subst (λ (text : List ℕ). Stopped takes fails s.byte_sink.now text fault u.byte_sink.now) (sym (both_texts s t xs ys p))
      (stopped_after takes fails laws s.byte_sink.now t.byte_sink.now u.byte_sink.now (text_of s xs) (text_of t ys) fault p.2 q.1) in
      ((q.0.0 ∙ p.0.0, q.0.1 ∙ p.0.1), stopped, q.2)

  -- the same where more items weren't come to
  pub fails_before : (s u : DumpSink O) (xs ys : List Item) (fault : OrMemory F) → Fails takes fails s xs fault u → Fails takes fails s (xs ++ ys) fault u
  fails_before s u xs ys fault p =
      let stopped : Stopped takes fails s.byte_sink.now (text_of s (xs ++ ys)) fault u.byte_sink.now =
      subst (λ (text : List ℕ). Stopped takes fails s.byte_sink.now text fault u.byte_sink.now) (sym (text_joins s.design.now s.progress xs ys))
      (stopped_before takes fails laws s.byte_sink.now u.byte_sink.now (text_of s xs) (items_text s.design.now (progress_over s.design.now s.progress xs) ys) fault p.1) in
      (p.0, stopped, p.2)
