-- *internal*: Two grains are equal where they are the same one.
use Rattle.std.specs.Prelude.{Bool, true, false, refl}
use Rattle.std.specs.Cmp.{IsEquivalence, decided}
use Rattle.sched_core.specs.Tests.{Tells}
use Rattle.sched_core.specs.declared.setting.Grain.{Grain}
use Rattle.sched_core.specs.declared.setting.Grain.TheVariants.{Process as ByProcess, Statement}

abbrev pub grain_same : Grain → Grain → Bool
grain_same ByProcess ByProcess = true
grain_same Statement Statement = true
grain_same _ _ = false

pub grains_tell : Tells grain_same
grains_tell ByProcess ByProcess = (λ h. refl, λ h. refl)
grains_tell Statement Statement = (λ h. refl, λ h. refl)
grains_tell _ _ = (λ h. cc, λ h. cc)

pub grains_equivalent : IsEquivalence grain_same
grains_equivalent = decided grain_same grains_tell
