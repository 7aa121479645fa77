use Rattle.std.proofs.Common.{◌∙◌, subst}
use Rattle.numbered_terms.specs.Stored.{AreStored}
use Rattle.numbered_terms.proofs.Replacing.{same_number}
use Rattle.numbered_terms.proofs.terms.Terms.is_same.Goals as goal

pub returns : goal.returns
returns c = c.eq.ensures ∙ same_number c.args.self.now c.args.a c.args.b (subst AreStored c.self.view_is c.are_stored.ensures) c.requires.a c.requires.b
