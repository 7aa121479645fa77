use Rattle.std.proofs.Common.{ap, length, arith}
use Rattle.term_bank.proofs.Numbers.{begins_length}
use Rattle.numbered_branches.specs.Branches.{NumberedFact, IsFactBelow}
use Rattle.numbered_branches.proofs.Listing.{all_at}
use Rattle.clause_search.proofs.rare.any_has_choice.Goals as goal

pub has_choice-requires : goal.has_choice-requires
has_choice-requires c = let low = all_at (IsFactBelow (length c.args.store.now.terms)) c.args.facts.now c.loop-fact.fact-index c.fact-item.result c.requires c.loop-fact-test.true c.fact-item.is in
    omega (arith, low, ap (λ (f : NumberedFact). f.term) c.fact.view_is, begins_length c.args.store.now.terms c.loop-fact.store.terms c.loop-fact.invariant.grows.terms)
