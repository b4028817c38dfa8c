use Rattle.std.proofs.Common.{◌∙◌, ap, sym, subst, arith}
use Rattle.report_text.specs.Inner.Headings.{Told, IsToldIn, grain_before, told_before}
use Rattle.report_text.proofs.heading_lines.read_heading.Goals as goal

pub returns-clause-each : goal.returns-clause-each
returns-clause-each c = λ h rest ok is e.
    let v = c.version_line-version.ensures.each h.version _ ok e in
    let t = c.top_line-top.ensures.each h.top _ v.1.0 is.top v.1.1 in
    let u = c.number_line-until.ensures.each h.until _ t.1.0 (record { small = omega (arith, is.until); above = omega arith; below = is.until; whole = t.1.1 }) in
    let d = c.number_line-depart.ensures.each h.depart _ u.1.0 (record { small = omega (arith, is.depart); above = omega arith; below = is.depart; whole = u.1.1 }) in
    let s = c.number_line-steps.ensures.each h.steps _ d.1.0 (record { small = omega (arith, is.few_steps); above = is.some_steps; below = is.few_steps; whole = d.1.1 }) in
    let told : Told = (h.departures, h.looked, h.outcome) in
    let g = c.grain_line-grain.ensures.each h.grain (told_before h.version told rest) s.1.0 (λ one. is.grain (sym v.0 ∙ one))
    (s.1.1 ∙ ap (λ x. grain_before x h.grain (told_before h.version told rest)) (sym v.0)) in
    let w = c.told_lines-departures.ensures.each told rest g.1.0 (subst (λ x. IsToldIn x told) (sym v.0) is.views)
    (g.1.1 ∙ ap (λ x. told_before x told rest) (sym v.0)) in (
      λ i. record { version = v.0 i; top = t.0 i; until = u.0 i; depart = d.0 i; steps = s.0 i; grain = g.0 i; departures = (w.0 i).0; looked = (w.0 i).1; outcome = (w.0 i).2 },
      w.1,
    )
