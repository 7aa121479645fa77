use Rattle.std.proofs.Common.{subst, IfSome}
use Rattle.numbered_terms.specs.Stored.{Numbered}
use Rattle.numbered_facts.specs.Atoms.{AreAtomsIn}
use Rattle.numbered_facts.proofs.store.Store.kept_atoms.Goals as goal

pub atoms_at-requires : goal.atoms_at-requires
atoms_at-requires c = c.self.invariant.0.atoms

pub returns : goal.returns
returns c = subst (λ (n : Numbered). IfSome c.atoms_at.result (λ v. AreAtomsIn n.terms c.args.id v.now)) c.self.view_is c.atoms_at.ensures
