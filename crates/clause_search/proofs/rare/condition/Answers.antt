use Rattle.std.proofs.Common.{◌∙◌, refl, ap}
use Rattle.theory_rules.specs.Condition.{condition}
use Rattle.numbered_branches.specs.Branches.{NumberedBranch}
use Rattle.clause_search.specs.Rare.{has_choice}
use Rattle.clause_search.proofs.ByShape.{facts_shown, none_shown, condition_passes, over_later, passes_later, tries_later}
use Rattle.clause_search.proofs.rare.condition.Goals as goal

pub any_has_choice-requires : goal.any_has_choice-requires
any_has_choice-requires c = let ts = c.args.store.now.terms in facts_shown ts ts refl c.args.branch.facts c.deref.result.now (c.deref.ensures.value ∙ ap (λ (x : NumberedBranch). x.facts) c.branch.view_is) c.requires.facts

pub through_trees-requires : goal.through_trees-requires
through_trees-requires c = over_later c.args.store.now c.any_has_choice.new.store c.in_ok-found.ensures.grows c.args.branch c.requires

pub returns-then-found-clause-tries : goal.returns-then-found-clause-tries
returns-then-found-clause-tries c = tries_later c.args.store.now c.any_has_choice.new.store c.in_ok-found.ensures.grows c.args.branch c.requires c.through_trees.new.store.terms condition c.through_trees.result c.through_trees.ensures.tries

pub returns-clause-tries : goal.returns-clause-tries
returns-clause-tries c = let ts = c.args.store.now.terms in (
  passes_later c.args.store.now c.any_has_choice.new.store c.in_ok-found.ensures.grows c.args.branch c.requires,
  condition_passes ts c.args.store.now.defs c.args.branch (none_shown ts ts refl c.args.branch.facts c.deref.result.now (c.deref.ensures.value ∙ ap (λ (x : NumberedBranch). x.facts) c.branch.view_is) has_choice c.in_ok-found.found c.in_ok-found.ensures.any c.if-found.false),
)
