use Rattle.bpl_resolve.proofs.TypedModules.{module_typed}
use Rattle.bpl_resolve.proofs.laws.faultless_modules_are_typed.Goals as goal

pub returns : goal.returns
returns c = module_typed
