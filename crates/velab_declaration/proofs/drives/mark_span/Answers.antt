use Rattle.std.proofs.Common.{◌≡◌, ◌<◌, ◌+◌, ◌-◌, ◌++◌, ℕ, Bool, List, sym, subst}
use Rattle.velab_declaration.specs.Drives.{Place, places_from}
use Rattle.velab_declaration.specs.DriveMarks.{Marks, size_in}
use Rattle.velab_declaration.proofs.DriveLemmas.{Going, going_starts, going_ends, going_on, going_stops, row_starts, row_splits, row_ends}
use Rattle.velab_declaration.proofs.drives.mark_span.Goals as goal

pub loop-k-init : goal.loop-k-init
loop-k-init c = λ driven variables fits are.
    let all : List Place = places_from c.args.variable c.args.span.low c.args.span.count in
    subst (λ (l : List Place). Going driven all l variables c.args.marks.now) (row_starts c.args.variable c.args.span.low c.args.span.count)
    (going_starts driven all variables c.args.marks.now are)

pub loop-k-preserved : goal.loop-k-preserved
loop-k-preserved c = λ driven variables fits are.
    let n : ℕ = c.args.variable in
    let low : ℕ = c.args.span.low in
    let count : ℕ = c.args.span.count in
    let k : ℕ = c.loop-k.k in
    let so_far = c.loop-k.invariant driven variables fits are in
    let at : c.from.result + c.from-in-loop-k.result ≡ low + k = λ i. c.from.ensures i + c.from-in-loop-k.ensures i in
    let within : c.from.result + c.from-in-loop-k.result < size_in variables n = subst (λ (b : ℕ). b < size_in variables n) (sym at) (fits k c.loop-k-test.true) in
    going_on driven (places_from n low count) (places_from n (low + k) (count - k)) variables c.loop-k.marks so_far
    (places_from n (low + k) 1) (places_from n (low + (k + 1)) (count - (k + 1))) c.mark_bit.new.marks (row_splits n low count k c.loop-k-test.true)
    (subst (λ (b : Bool). Marks (driven ++ so_far.done) (places_from n (low + k) 1) variables b c.mark_bit.new.marks) c.if-not-mark_bit.false
    (subst (λ (t : ℕ). Marks (driven ++ so_far.done) (places_from n t 1) variables c.mark_bit.result c.mark_bit.new.marks) at
    (c.mark_bit.ensures (driven ++ so_far.done) variables within so_far.are)))

pub returns-then-not-mark_bit : goal.returns-then-not-mark_bit
returns-then-not-mark_bit c = λ driven variables fits are.
    let n : ℕ = c.args.variable in
    let low : ℕ = c.args.span.low in
    let count : ℕ = c.args.span.count in
    let k : ℕ = c.loop-k.k in
    let so_far = c.loop-k.invariant driven variables fits are in
    let at : c.from.result + c.from-in-loop-k.result ≡ low + k = λ i. c.from.ensures i + c.from-in-loop-k.ensures i in
    let within : c.from.result + c.from-in-loop-k.result < size_in variables n = subst (λ (b : ℕ). b < size_in variables n) (sym at) (fits k c.loop-k-test.true) in
    going_stops driven (places_from n low count) (places_from n (low + k) (count - k)) variables c.loop-k.marks so_far
    (places_from n (low + k) 1) (places_from n (low + (k + 1)) (count - (k + 1))) c.mark_bit.new.marks (row_splits n low count k c.loop-k-test.true)
    (subst (λ (b : Bool). Marks (driven ++ so_far.done) (places_from n (low + k) 1) variables b c.mark_bit.new.marks) c.if-not-mark_bit.true
    (subst (λ (t : ℕ). Marks (driven ++ so_far.done) (places_from n t 1) variables c.mark_bit.result c.mark_bit.new.marks) at
    (c.mark_bit.ensures (driven ++ so_far.done) variables within so_far.are)))

pub returns : goal.returns
returns c = λ driven variables fits are.
    let n : ℕ = c.args.variable in
    let low : ℕ = c.args.span.low in
    let count : ℕ = c.args.span.count in
    let k : ℕ = c.loop-k.k in
    going_ends driven (places_from n low count) (places_from n (low + k) (count - k)) variables c.loop-k.marks (c.loop-k.invariant driven variables fits are)
    (row_ends n low count k c.loop-k-test.false)
