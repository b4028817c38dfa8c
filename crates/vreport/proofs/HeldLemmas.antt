-- Dumps that are held beside their ends.
use Rattle.std.proofs.Common.{◌≡◌, ℕ, zero, suc, List, [], ◌∷◌, ◌++◌, length, slice_get, Option, Some, None, refl, sym, ap, subst, ◌∙◌}
use Rattle.std.specs.Prelude.{IfSome}
use Rattle.std.proofs.lemmas.Option.{same_Some}
use Rattle.vmodel.specs.Run.{Setting}
use Rattle.byte_sinks.specs.Held.{Appended}
use Rattle.report_text.specs.Report.{End}
use Rattle.vreport.specs.Dumps.{IsRunDump, TakesDump}
use Rattle.vreport.specs.Inner.{IsCounted}
use Rattle.vreport.specs.Written.{AreHeld, IsHeld}

module _ (setting : Setting) (steps : ℕ) where
  -- a dump that was counted is that of the end that is told so
  pub its_held : (end : End) (log : List (ℕ × ℕ)) (held : Option (List ℕ)) → end.log ≡ log → IfSome held (IsCounted setting log steps end.bytes) → IsHeld setting steps end held
  its_held end log None log_is counted = tt
  its_held end log (Some dump) log_is counted =
      record { is_dump = subst (λ (l : List (ℕ × ℕ)). IsRunDump setting l steps dump) (sym log_is) counted.0; bytes_are = counted.1 }

  -- one end more
  held_more : (ends : List End) (held : List (Option (List ℕ))) (end : End) (one : Option (List ℕ)) → AreHeld setting steps ends held → IsHeld setting steps end one →
      AreHeld setting steps (ends ++ end ∷ []) (held ++ one ∷ [])
  held_more [] [] end one are is = (is, tt)
  held_more [] (x ∷ held) end one are is = absurd are
  held_more (e ∷ ends) [] end one are is = absurd are
  held_more (e ∷ ends) (x ∷ held) end one are is = (are.0, held_more ends held end one are.1 is)

  -- the same of lists that are told
  pub held_on : (ends new : List End) (held more : List (Option (List ℕ))) (end : End) (one : Option (List ℕ)) → new ≡ ends ++ end ∷ [] → more ≡ held ++ one ∷ [] → AreHeld setting steps ends held →
      IsHeld setting steps end one → AreHeld setting steps new more
  held_on ends new held more end one new_is more_is are is =
      subst (λ (es : List End). AreHeld setting steps es more) (sym new_is) (subst (AreHeld setting steps (ends ++ end ∷ [])) (sym more_is) (held_more ends held end one are is))

  -- as many as there are ends
  pub held_len : (ends : List End) (held : List (Option (List ℕ))) → AreHeld setting steps ends held → length held ≡ length ends
  held_len [] [] are = refl
  held_len [] (x ∷ held) are = absurd are
  held_len (e ∷ ends) [] are = absurd are
  held_len (e ∷ ends) (x ∷ held) are = ap suc (held_len ends held are.1)

  -- each is of the end at its place
  pub held_at : (ends : List End) (held : List (Option (List ℕ))) (i : ℕ) (end : End) (one : Option (List ℕ)) → AreHeld setting steps ends held → slice_get ends i ≡ Some end → slice_get held i ≡ Some one →
      IsHeld setting steps end one
  held_at [] held i end one are at at' = absurd (cc)
  held_at (e ∷ ends) [] i end one are at at' = absurd are
  held_at (e ∷ ends) (x ∷ held) zero end one are at at' =
      subst (λ (o : Option (List ℕ)). IsHeld setting steps end o) (same_Some x one at') (subst (λ (t : End). IsHeld setting steps t x) (same_Some e end at) are.0)
  held_at (e ∷ ends) (x ∷ held) (suc i) end one are at at' = held_at ends held i end one are.1 at at'

-- what was taken on top of nothing is the text itself
pub held_whole : (setting : Setting) (log : List (ℕ × ℕ)) (steps : ℕ) (old new : List ℕ) → old ≡ [] → TakesDump Appended setting log steps old new → IsRunDump setting log steps new
held_whole setting log steps old new none (dump, is, taken) =
    subst (IsRunDump setting log steps) (sym (taken ∙ ap (λ (kept : List ℕ). kept ++ dump) none)) is
