use Rattle.linear_certs.proofs.CombinedFacts.{combined_holds}
use Rattle.linear_certs.proofs.laws.combined_facts_hold.Goals as goal

pub returns : goal.returns
returns c = λ vars defs frees bound b f g a d s p q assigned fit sf sg ea ed m e hf hg. combined_holds vars defs frees assigned f g a d s p q bound b fit sf sg ea ed m e hf hg
