use Rattle.linear_certs.proofs.CombinedFacts.{combined_values}
use Rattle.linear_certs.proofs.laws.combining_adds_values.Goals as goal

pub returns : goal.returns
returns c = λ vars defs frees bound b a d s p q m n assigned fit sa sd e va vd. combined_values vars defs frees assigned bound b a d s p q m n fit sa sd e va vd
