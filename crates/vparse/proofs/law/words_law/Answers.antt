use Rattle.vparse.proofs.WordLaws.{numbers_told, names_told}
use Rattle.vparse.proofs.law.words_law.Goals as goal

pub returns-clause-numbers : goal.returns-clause-numbers
returns-clause-numbers c = numbers_told

pub returns-clause-names : goal.returns-clause-names
returns-clause-names c = names_told
