use Rattle.std.proofs.Common.{◌∙◌, ◌+◌, ◌<◌, ◌&&◌, not, sym, ap, subst, nat_eq, length, arith}
use Rattle.std.specs.List.{list_any, AllByRecursion}
use Rattle.logic_core.specs.Subterm.{has_quantifier, is_quantifier}
use Rattle.term_bank.specs.Numbered.{at}
use Rattle.numbered_terms.proofs.Items.{all_lower}
use Rattle.numbered_facts.specs.Inside.{picks_one}
use Rattle.numbered_facts.proofs.AtomsIn.{occurs_among}
use Rattle.numbered_facts.proofs.occurring.is_apart.Goals as goal

pub any_quantifier-requires : goal.any_quantifier-requires
any_quantifier-requires c = let n = length c.args.terms.now in
    subst (AllByRecursion (λ j. j < n)) (sym c.deref-2.ensures.value) (all_lower (c.args.id + 1) n c.in_ok-found.found.items (omega (arith, c.requires.id)) c.in_ok-found.ensures.within)

pub returns-then-is_among : goal.returns-then-is_among
returns-then-is_among c = let ts = c.args.terms.now in let is = c.in_ok-found.found.items in let u = at ts c.args.id in
    let there = c.is_among.ensures ∙ ap (list_any (nat_eq c.args.part)) c.deref.ensures.value
    ∙ occurs_among ts c.are_stored.ensures c.args.id c.requires.id is c.in_ok-found.ensures.picks c.args.part c.requires.part (all_lower (c.args.id + 1) (length ts) is (omega (arith, c.requires.id)) c.in_ok-found.ensures.within) in
    sym (ap (λ b. not b && not (has_quantifier u)) (sym there ∙ c.if-is_among.true))

pub returns : goal.returns
returns c = let ts = c.args.terms.now in let is = c.in_ok-found.found.items in let u = at ts c.args.id in
    let there = c.is_among.ensures ∙ ap (list_any (nat_eq c.args.part)) c.deref.ensures.value
    ∙ occurs_among ts c.are_stored.ensures c.args.id c.requires.id is c.in_ok-found.ensures.picks c.args.part c.requires.part (all_lower (c.args.id + 1) (length ts) is (omega (arith, c.requires.id)) c.in_ok-found.ensures.within) in
    ap not (c.any_quantifier.ensures ∙ ap (picks_one is_quantifier ts) c.deref-2.ensures.value ∙ c.in_ok-found.ensures.picks is_quantifier)
    ∙ sym (ap (λ b. not b && not (has_quantifier u)) (sym there ∙ c.if-is_among.false))
