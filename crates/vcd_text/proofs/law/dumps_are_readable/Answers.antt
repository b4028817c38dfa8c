use Rattle.vcd_text.proofs.CodeLemmas.{code_digits, code_number, only_code}
use Rattle.vcd_text.proofs.ReaderLemmas.{slots_told}
use Rattle.vcd_text.proofs.ShortLemmas.{digits_back}
use Rattle.vcd_text.proofs.law.dumps_are_readable.Goals as goal

pub returns : goal.returns
returns c = record {
  digits = code_digits;
  number = code_number;
  only = λ n text is. only_code n text is.0 is.1;
  back = digits_back;
  values = slots_told;
}
