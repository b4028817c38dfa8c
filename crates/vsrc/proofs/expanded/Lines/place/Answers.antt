use Rattle.std.proofs.Common.{◌≡◌, ℕ, List, arith, ◌∙◌, ap}
use Rattle.vsrc.specs.Source.{count_below, file_start}
use Rattle.vsrc.proofs.Counting.{count_below-rises, file_start-le}
use Rattle.vsrc.proofs.expanded.Lines.place.Goals as goal

-- the file begins no later than the place, and so no more line feeds stand before it
pub overflow_sub-line : goal.overflow_sub-line
overflow_sub-line c =
    let feeds : List ℕ = c.self.inside.feeds.items in
    let start : ℕ = file_start 0 c.self.inside.borders.items c.args.at in
    let begins : c.start_of-begins.result ≡ start = c.start_of-begins.ensures ∙ ap (λ l. file_start 0 l c.args.at) c.deref.ensures.value in
    let all : c.below.result ≡ count_below feeds c.args.at = c.below.ensures ∙ ap (λ l. count_below l c.args.at) c.deref-2.ensures.value in
    let first : c.below-2.result ≡ count_below feeds start =
    c.below-2.ensures ∙ ap (λ l. count_below l c.start_of-begins.result) c.deref-3.ensures.value ∙ ap (count_below feeds) begins in
    omega (arith, all, first, count_below-rises feeds start c.args.at (file_start-le 0 c.self.inside.borders.items c.args.at (omega arith)))

-- nor does the line
pub overflow_sub-result : goal.overflow_sub-result
overflow_sub-result c =
    let begins : c.start_of.result ≡ file_start 0 c.self.inside.feeds.items c.args.at = c.start_of.ensures ∙ ap (λ l. file_start 0 l c.args.at) c.deref-5.ensures.value in
    omega (arith, begins, file_start-le 0 c.self.inside.feeds.items c.args.at (omega arith))
