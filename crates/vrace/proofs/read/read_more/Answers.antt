use Rattle.std.proofs.Common.{◌++◌, take, length-append, arith}
use Rattle.vrace.proofs.ReadLemmas.{consumes_more}
use Rattle.vrace.proofs.read.read_more.Goals as goal

pub returns-in-Err-clause-err : goal.returns-in-Err-clause-err
returns-in-Err-clause-err g c = λ first front before short.
    let bytes = take c.in-Ok.count c.read.new.buf in (
      (
        front ++ bytes,
        consumes_more first (g.R.Read.remaining c.args.reader.now.inner) (g.R.Read.remaining c.read.new.self.inner) front bytes before c.in-Ok.ensures.bytes.0,
        omega (arith, length-append front bytes, c.in-Ok.ensures.bound, c.requires.few, short),
      ),
      c.in-Ok.ensures.failures,
    )
