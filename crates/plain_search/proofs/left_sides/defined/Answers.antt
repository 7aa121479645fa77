use Rattle.std.proofs.Common.{◌∙◌, sym, ap}
use Rattle.tableau_branch.specs.Sides.{at_side}
use Rattle.plain_search.proofs.Sided.{is_defined}
use Rattle.plain_search.proofs.left_sides.defined.Goals as goal

pub returns-in-Some : goal.returns-in-Some
returns-in-Some c = c.at_side.ensures ∙ ap (at_side c.args.a.now c.args.b.now) (sym c.in-Some.is) ∙ is_defined c.args.a.now c.args.b.now c.args.side c.requires

pub returns-in-None : goal.returns-in-None
returns-in-None c = ap (at_side c.args.a.now c.args.b.now) (sym c.in-None.is) ∙ is_defined c.args.a.now c.args.b.now c.args.side c.requires
