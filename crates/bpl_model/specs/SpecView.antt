-- What a clause of a contract stands for.
use Rattle.bpl_model.specs.Module.{Spec, requires, ensures, modifies}
use Rattle.bpl_model.specs.declared.spec.SpecForm.{SpecForm}
use Rattle.bpl_model.specs.declared.spec.SpecForm.TheVariants.{Requires, Ensures, Modifies}

abbrev pub spec_of : SpecForm → Spec
spec_of (Requires free place E) = requires free place E
spec_of (Ensures free place E) = ensures free place E
spec_of (Modifies xs) = modifies xs.items
