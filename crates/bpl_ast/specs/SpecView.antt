-- What a clause of the code stands for.
use Rattle.bv_base.specs.declared.place.Place.{Place}
use Rattle.bpl_ast.specs.Statement.{Spec, requires, ensures, modifies}
use Rattle.bpl_ast.specs.declared.decl.SpecForm.{SpecForm}
use Rattle.bpl_ast.specs.declared.decl.SpecForm.TheVariants.{Requires, Ensures, Modifies}

abbrev pub spec_of : Place → SpecForm → Spec
spec_of p (Requires f x) = requires p f x
spec_of p (Ensures f x) = ensures p f x
spec_of p (Modifies ns) = modifies p ns.items
