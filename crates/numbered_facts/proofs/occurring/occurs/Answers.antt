use Rattle.std.proofs.Common.{◌∙◌, ◌+◌, ap, nat_eq, length, arith}
use Rattle.std.specs.List.{list_any}
use Rattle.numbered_terms.proofs.Items.{all_lower}
use Rattle.numbered_facts.proofs.AtomsIn.{occurs_among}
use Rattle.numbered_facts.proofs.occurring.occurs.Goals as goal

pub returns : goal.returns
returns c = let ts = c.args.terms.now in let is = c.in_ok-found.found.items in
    c.is_among.ensures ∙ ap (list_any (nat_eq c.args.part)) c.deref.ensures.value
    ∙ occurs_among ts c.are_stored.ensures c.args.id c.requires.id is c.in_ok-found.ensures.picks c.args.part c.requires.part (all_lower (c.args.id + 1) (length ts) is (omega (arith, c.requires.id)) c.in_ok-found.ensures.within)
