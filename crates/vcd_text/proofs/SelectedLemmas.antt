-- Marks of scopes, and the start of a dump of what is marked.
use Rattle.std.proofs.Common.{◌≡◌, ◌<◌, ◌+◌, ℕ, Bool, true, cond, List, [], ◌∷◌, ◌++◌, length, drop, get_or, append_assoc, sym, ap, ◌∙◌}
use Rattle.basis.proofs.Lists.{left_from}
use Rattle.vbits.specs.Vectors.{Vector}
use Rattle.vdesign.specs.Design.{Scope, Design}
use Rattle.vdesign.specs.declared.action.Action.{Action}
use Rattle.vdesign.specs.declared.dump.DumpCommand.{DumpCommand}
use Rattle.vcd_text.specs.DumpText.{has_start, header, is_selected, marks_in, scope_marks, variable_marks}
use Rattle.vcd_text.specs.Sinks.{begun_text, start_text, started_text}

-- one scope's mark more
pub marks_more : (actions : List Action) (commands : List DumpCommand) (list more whole : List Bool) (s : Scope) (scopes : List Scope) (i : ℕ) → s ≡ get_or scopes i s →
    i < length scopes → more ≡ list ++ is_selected actions commands s.path ∷ [] → list ++ marks_in actions commands (drop i scopes) ≡ whole →
    more ++ marks_in actions commands (drop (i + 1) scopes) ≡ whole
marks_more actions commands list more whole s scopes i is within pushed so_far =
    let later : List Bool = marks_in actions commands (drop (i + 1) scopes) in
    ap (λ (x : List Bool). x ++ later) pushed
    ∙ append_assoc list (is_selected actions commands s.path ∷ []) later
    ∙ ap (λ (ss : List Scope). list ++ marks_in actions commands ss) (left_from scopes i s is within)
    ∙ so_far

-- what is written below a header of the selected scopes, of their variables, is the start
pub begun_is : (design : Design) (commands : List DumpCommand) (head : List ℕ) (marks : List Bool) (t : ℕ) (values : List Vector) → has_start commands ≡ true →
    head ≡ header design (scope_marks design commands) → marks ≡ variable_marks design commands →
    started_text head marks commands t values ≡ begun_text design commands t values
begun_is design commands head marks t values starts head_is marks_are =
    ap (λ (h : List ℕ). started_text h marks commands t values) head_is
    ∙ ap (λ (m : List Bool). started_text (header design (scope_marks design commands)) m commands t values) marks_are
    ∙ sym (ap (λ (b : Bool). cond b (start_text design commands t values) []) starts)
