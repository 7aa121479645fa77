-- When goals aren't built.
use Rattle.std.specs.Prelude.{◌≡◌, ℕ, List, Option, Some}
use Rattle.vc_build.specs.declared.goal.Goal.{Goal}
use Rattle.vc_build.specs.declared.fault.Measure.{Measure}
use Rattle.vc_build.specs.declared.fault.BuildFault.{BuildFault}
use Rattle.vc_build.specs.declared.fault.BuildFault.TheVariants.{Large, Memory}
use Rattle.vc_build.specs.Large.{large}

-- a fault says what was found, or that memory is wanting
abbrev pub IsFaultBy : Option (Measure × ℕ) → BuildFault → Type 0
IsFaultBy found (Large what number) = found ≡ Some (what, number)
IsFaultBy found Memory = Unit {0}

-- which limit these goals exceed, and the number there, or that memory is wanting
abbrev pub IsFaultOf : List Goal → BuildFault → Type 0
IsFaultOf gs = IsFaultBy (large gs)
