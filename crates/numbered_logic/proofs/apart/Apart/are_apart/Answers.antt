use Rattle.std.proofs.Common.{subst}
use Rattle.numbered_terms.specs.Stored.{AreStored}
use Rattle.numbered_logic.proofs.NoPair.{none_close}
use Rattle.numbered_logic.proofs.apart.Apart.are_apart.Goals as goal

pub returns-clause-none : goal.returns-clause-none
returns-clause-none c = let new = c.join_all.new.apart in
    λ h. none_close c.join_all.new.store.terms (subst AreStored c.terms.ensures c.are_stored.ensures) new.facts new.negations c.in_ok-joined.ensures.apart c.args.facts.now (c.in_ok-joined.ensures.joined h)
