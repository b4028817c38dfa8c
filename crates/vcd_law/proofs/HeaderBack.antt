-- What a header declares.
use Rattle.std.proofs.Common.{◌≡◌, ℕ, Bool, List, [], ◌++◌, Option, Some, None, refl, subst, append-nil}
use Rattle.std.specs.Prelude.{codes}
use Rattle.basis.specs.declared.timescale.Span.{Span}
use Rattle.vdesign.specs.Design.{Design}
use Rattle.vcd_read.specs.Words.{Text, words_of}
use Rattle.vcd_read.specs.Declarations.{Declares, done, last_words}
use Rattle.vcd_read.specs.Declarations as declarations
use Rattle.vcd_text.specs.DumpText.{header, line, scope_lines, timescale_line}
use Rattle.vcd_law.specs.Headers.{AreNested, seen_in}
use Rattle.vcd_law.proofs.LinesBack.{LeadsBy, lead_by, lead_timescale, lead_version, words_then}
use Rattle.vcd_law.proofs.ScopesBack.{all_scopes_lead}

pub header_told : (design : Design) (marks : List Bool) → AreNested [] design.scopes design.variables →
    (words : List Text) × ((rest : List ℕ) → words_of (header design marks ++ rest) ≡ words ++ words_of rest)
    × Declares None [] [] words (Some design.scale.precision) (seen_in 0 marks design.scopes design.variables)
header_told design marks nested =
    let version : List ℕ = line (codes "$version vrace $end") in
    let scale : List ℕ = timescale_line design.scale.precision in
    let scopes : List ℕ = scope_lines 0 0 marks design.scopes design.variables in
    let seen : List declarations.Variable = seen_in 0 marks design.scopes design.variables in
    let unit : Option Span = Some design.scale.precision in
    let notes : LeadsBy None unit [] [] (version ++ scale) [] =
    lead_by None None unit [] [] [] version scale [] [] (lead_version None) (lead_timescale design.scale.precision) in
    let all : LeadsBy None unit [] [] (version ++ scale ++ scopes) seen =
    lead_by None unit unit [] [] [] (version ++ scale) scopes [] seen notes (all_scopes_lead marks design.scopes design.variables nested unit) in (
      all.words ++ last_words,
      words_then (version ++ scale ++ scopes) (line (codes "$enddefinitions $end")) all.words last_words all.are (λ rest. refl),
      subst (λ (list : List declarations.Variable). Declares None [] [] (all.words ++ last_words) unit list) (append-nil seen)
          (all.goes_on last_words unit [] (done unit [] [])),
    )
