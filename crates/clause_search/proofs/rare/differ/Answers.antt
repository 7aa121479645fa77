use Rattle.std.proofs.Common.{◌∙◌, refl, ap}
use Rattle.theory_rules.specs.Differ.{differ}
use Rattle.numbered_branches.specs.Branches.{NumberedBranch}
use Rattle.clause_search.specs.Rare.{are_unequal_maps}
use Rattle.clause_search.proofs.ByShape.{facts_shown, none_shown, differ_passes, over_later, passes_later, tries_later}
use Rattle.clause_search.proofs.rare.differ.Goals as goal

pub any_are_unequal_maps-requires : goal.any_are_unequal_maps-requires
any_are_unequal_maps-requires c = let ts = c.args.store.now.terms in facts_shown ts ts refl c.args.branch.facts c.deref.result.now (c.deref.ensures.value ∙ ap (λ (x : NumberedBranch). x.facts) c.branch.view_is) c.requires.branch.facts

pub through_trees-requires : goal.through_trees-requires
through_trees-requires c = over_later c.args.store.now c.any_are_unequal_maps.new.store c.in_ok-found.ensures.grows c.args.branch c.requires.branch

pub returns-then-found-clause-tries : goal.returns-then-found-clause-tries
returns-then-found-clause-tries c = tries_later c.args.store.now c.any_are_unequal_maps.new.store c.in_ok-found.ensures.grows c.args.branch c.requires.branch c.through_trees.new.store.terms differ c.through_trees.result c.through_trees.ensures.tries

pub returns-clause-tries : goal.returns-clause-tries
returns-clause-tries c = let n = c.args.store.now in (
  passes_later n c.any_are_unequal_maps.new.store c.in_ok-found.ensures.grows c.args.branch c.requires.branch,
  differ_passes n.terms n.defs c.args.branch n.vars c.requires.vars (none_shown n.terms n.terms refl c.args.branch.facts c.deref.result.now (c.deref.ensures.value ∙ ap (λ (x : NumberedBranch). x.facts) c.branch.view_is) (are_unequal_maps n.vars n.defs) c.in_ok-found.found c.in_ok-found.ensures.any c.if-found.false),
)
