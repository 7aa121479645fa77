use Rattle.std.proofs.Common.{◌∙◌, sym, ap}
use Rattle.term_bank.specs.Numbered.{at}
use Rattle.term_bank.specs.Node.{tree_over}
use Rattle.numbered_facts.specs.Tightening.{atoms_gcd, divisor_of}
use Rattle.numbered_facts.proofs.Quotients.{gcd_is}
use Rattle.numbered_facts.proofs.tightening.divisor_of.Goals as goal

pub returns-in-Sum : goal.returns-in-Sum
returns-in-Sum c = let ts = c.args.terms.now in
    c.atoms_gcd.ensures ∙ ap atoms_gcd c.deref.ensures.value ∙ gcd_is ts c.in-Sum.parts.items ∙ ap divisor_of (sym (ap (tree_over (at ts)) c.in-Sum.is) ∙ c.node.ensures.node)
