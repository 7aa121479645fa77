use Rattle.std.proofs.Common.{◌≡◌, ◌∙◌, sym, subst, true}
use Rattle.numbered_branches.specs.Branches.{NumberedFact}
use Rattle.numbered_instances.specs.Shared.{has_atom}
use Rattle.numbered_instances.proofs.near.is_found.Goals as goal

pub returns-in-Some : goal.returns-in-Some
returns-in-Some c = λ found.
    subst (λ (f : NumberedFact). has_atom c.args.store.now.terms c.args.left f.term ≡ true) c.fact.view_is (sym (c.in-Some.ensures.are c.args.left c.requires) ∙ sym c.is_among.ensures ∙ found)
