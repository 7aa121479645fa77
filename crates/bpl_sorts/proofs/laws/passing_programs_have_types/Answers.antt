use Rattle.bpl_sorts.proofs.TypedModules.{passing_programs_have_types as law}
use Rattle.bpl_sorts.proofs.laws.passing_programs_have_types.Goals as goal

pub returns : goal.returns
returns c = law c.faultless_modules_are_typed.ensures
