use Rattle.statebook.proofs.CoreLemmas.{sound_nothing, sound_meets, sound_finish}
use Rattle.statebook.proofs.law.book_stays_sound.Goals as goal

pub returns : goal.returns
returns g c = record {
  none = λ k limit. sound_nothing _ k limit;
  met = λ k limit old new entry met sound is meets. sound_meets _ k limit _ old entry met new sound is meets;
  finished = λ k limit place old places sound all. sound_finish _ k limit old place places sound all;
}
