use Rattle.std.proofs.Common.{◌≡◌, ℕ, suc, ◌+◌, ◌≤◌, List, ◌++◌, length, length-append, ap, sym, subst, ◌∙◌, arith}
use Rattle.std.specs.Io.KnownBytes.{Consumes}
use Rattle.byte_sinks.specs.Metered.{one_more}
use Rattle.vrace.specs.Replays.{limit}
use Rattle.vrace.specs.Reads.{ReadsLead}
use Rattle.vrace.proofs.ReadLemmas.{consumes_more}
use Rattle.vrace.proofs.read.read_text.Goals as goal

pub returns-then-len-gt-LIMIT-clause-reason : goal.returns-then-len-gt-LIMIT-clause-reason
returns-then-len-gt-LIMIT-clause-reason g c =
    let (bytes, taken, count, grown) = c.in_ok-count.ensures.ok in
    let whole = ap length grown ∙ length-append c.reads.text.items bytes in (
      (
        c.reads.text.items ++ bytes,
        consumes_more (g.R.Read.remaining c.args.reader.now.inner) (g.R.Read.remaining c.reads.reader.inner) (g.R.Read.remaining c.read_more.new.reader.inner)
            c.reads.text.items bytes c.reads.invariant.taken taken.taken,
        (
          omega (arith, length-append c.reads.text.items bytes, whole, c.if-len-gt-LIMIT.true, c.len.ensures, c.read_more.new.text.ok),
          omega (arith, length-append c.reads.text.items bytes, c.reads.invariant.short, count, c.in_ok-count.ensures.few),
        ),
      ),
      taken.kept ∙ c.reads.invariant.kept,
    )

-- one read more
more : (most first old new : ℕ) → ReadsLead most first old → new ≡ one_more old → ReadsLead (most + 1) first new
more most first old new (n, few, so) q = (suc n, omega (arith, few), q ∙ ap one_more so)

less : (least most old new : ℕ) → least ≤ most → ReadsLead least old new → ReadsLead most old new
less least most old new p (n, few, so) = (n, omega (arith, few, p), so)

pub returns-in_err-count-clause-reads : goal.returns-in_err-count-clause-reads
returns-in_err-count-clause-reads g c =
    less (length c.reads.text.items + 1) (limit + 1) c.args.reader.now.reads c.read_more.new.reader.reads (omega (arith, c.reads.invariant.short))
    (more (length c.reads.text.items) c.args.reader.now.reads c.reads.reader.reads c.read_more.new.reader.reads c.reads.invariant.reads c.read_more.ensures.reads)

pub returns-then-count-eq0-clause-reads : goal.returns-then-count-eq0-clause-reads
returns-then-count-eq0-clause-reads g c =
    less (length c.reads.text.items + 1) (limit + 1) c.args.reader.now.reads c.read_more.new.reader.reads (omega (arith, c.reads.invariant.short))
    (more (length c.reads.text.items) c.args.reader.now.reads c.reads.reader.reads c.read_more.new.reader.reads c.reads.invariant.reads c.read_more.ensures.reads)

pub returns-then-len-gt-LIMIT-clause-reads : goal.returns-then-len-gt-LIMIT-clause-reads
returns-then-len-gt-LIMIT-clause-reads g c =
    less (length c.reads.text.items + 1) (limit + 1) c.args.reader.now.reads c.read_more.new.reader.reads (omega (arith, c.reads.invariant.short))
    (more (length c.reads.text.items) c.args.reader.now.reads c.reads.reader.reads c.read_more.new.reader.reads c.reads.invariant.reads c.read_more.ensures.reads)

pub reads-preserved : goal.reads-preserved
reads-preserved g c =
    let (bytes, taken, count, grown) = c.in_ok-count.ensures.ok in
    let whole = ap length grown ∙ length-append c.reads.text.items bytes in record {
      piece = c.read_more.ensures.same ∙ c.reads.invariant.piece;
      short = omega (arith, c.if-len-gt-LIMIT.false, c.len.ensures);
      taken = subst (λ (text : List ℕ). Consumes (g.R.Read.remaining c.args.reader.now.inner) (g.R.Read.remaining c.read_more.new.reader.inner) text) (sym grown)
          (consumes_more (g.R.Read.remaining c.args.reader.now.inner) (g.R.Read.remaining c.reads.reader.inner) (g.R.Read.remaining c.read_more.new.reader.inner)
          c.reads.text.items bytes c.reads.invariant.taken taken.taken);
      reads = less (length c.reads.text.items + 1) (length c.read_more.new.text.items) c.args.reader.now.reads c.read_more.new.reader.reads
          (omega (arith, whole, count, c.if-count-eq0.false))
          (more (length c.reads.text.items) c.args.reader.now.reads c.reads.reader.reads c.read_more.new.reader.reads c.reads.invariant.reads c.read_more.ensures.reads);
      kept = taken.kept ∙ c.reads.invariant.kept;
    }
