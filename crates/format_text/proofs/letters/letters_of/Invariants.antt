use Rattle.std.proofs.Common.{◌≡◌, ◌++◌, drop}
use Rattle.format_text.specs.declared.letters.Escape.TheVariants.{Plain}
use Rattle.format_text.specs.Formats.{letters_of}
use Rattle.format_text.proofs.letters.letters_of.Given as goal

abbrev pub invariant-loop-letter : goal.invariant-loop-letter
invariant-loop-letter l = l.text.items ++ letters_of l.escape (drop l.letter-index l.string) ≡ letters_of Plain l.string
