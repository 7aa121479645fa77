use Rattle.std.proofs.Common.{◌≡◌, ◌∙◌, sym, ap, subst, ℕ, Option, Some, option_map}
use Rattle.term_bank.specs.Numbered.{at}
use Rattle.theory_rules.specs.Trichotomy.{is_known_way}
use Rattle.numbered_terms.specs.Stored.{AreStored}
use Rattle.numbered_branches.specs.Branches.{NumberedBranch, branch_at}
use Rattle.numbered_theory.proofs.KnownWays.{known_is}
use Rattle.numbered_theory.proofs.trichotomy.is_known_way.Goals as goal

pub returns-in_ok-tight-in-Some-clause-known : goal.returns-in_ok-tight-in-Some-clause-known
returns-in_ok-tight-in-Some-clause-known c =
    let n = c.args.store.now in let m = c.tightened.new.self in let code = c.args.branch.now in
    let stored = subst AreStored c.terms.ensures c.are_stored.ensures in
    let is = c.deref.ensures.value ∙ ap (λ (b : NumberedBranch). b.facts) c.branch.view_is in
    let known : c.is_there.result ≡ is_known_way (branch_at n.terms code) (Some (at n.terms c.in-Some.form)) =
    c.is_there.ensures ∙ known_is n m c.in_ok-tight-in-Some.ensures.grows code c.requires.branch stored c.deref.result.now c.in-Some.form c.in_ok-tight-in-Some.tight is c.in_ok-tight-in-Some.ensures.gives in
    known ∙ ap (λ (o : Option ℕ). is_known_way (branch_at n.terms code) (option_map (at n.terms) o)) (sym c.in-Some.is)
