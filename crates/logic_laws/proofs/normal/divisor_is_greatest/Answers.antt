use Rattle.logic_laws.proofs.Divided.{parts_gcd_is_greatest}
use Rattle.logic_laws.proofs.normal.divisor_is_greatest.Goals as goal

pub returns : goal.returns
returns c = parts_gcd_is_greatest
