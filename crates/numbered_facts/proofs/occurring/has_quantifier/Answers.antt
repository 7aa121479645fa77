use Rattle.std.proofs.Common.{◌∙◌, ◌+◌, ◌<◌, sym, ap, subst, length, arith}
use Rattle.std.specs.List.{AllByRecursion}
use Rattle.logic_core.specs.Subterm.{is_quantifier}
use Rattle.numbered_terms.proofs.Items.{all_lower}
use Rattle.numbered_facts.specs.Inside.{picks_one}
use Rattle.numbered_facts.proofs.occurring.has_quantifier.Goals as goal

pub any_quantifier-requires : goal.any_quantifier-requires
any_quantifier-requires c = let n = length c.args.terms.now in
    subst (AllByRecursion (λ j. j < n)) (sym c.deref.ensures.value) (all_lower (c.args.id + 1) n c.in_ok-found.found.items (omega (arith, c.requires)) c.in_ok-found.ensures.within)

pub returns : goal.returns
returns c = c.any_quantifier.ensures ∙ ap (picks_one is_quantifier c.args.terms.now) c.deref.ensures.value ∙ c.in_ok-found.ensures.picks is_quantifier
