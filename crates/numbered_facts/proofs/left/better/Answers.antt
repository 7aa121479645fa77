use Rattle.std.proofs.Common.{◌∙◌, sym, ap, Bool, Option, option_map, Some}
use Rattle.logic_core.specs.Tree.{Tree}
use Rattle.logic_core.specs.Wide.{when}
use Rattle.tableau_branch.specs.Oriented.{greater_number}
use Rattle.term_bank.specs.Numbered.{at}
use Rattle.numbered_facts.proofs.LeftSides.{stands_for}
use Rattle.numbered_facts.proofs.left.better.Goals as goal

pub returns-then-joins : goal.returns-then-joins
returns-then-joins c = let ts = c.args.terms.now in
    let first : Bool → Option Tree = λ b. greater_number (when b (Some (at ts c.args.part.now.1))) (option_map (at ts) c.args.best) in
    (c.greater_number.ensures.within, sym (c.greater_number.ensures.is ∙ ap first (sym c.if-joins.true ∙ c.in_ok-joins.ensures)))

pub returns : goal.returns
returns c = let ts = c.args.terms.now in
    let first : Bool → Option Tree = λ b. greater_number (when b (Some (at ts c.args.part.now.1))) (option_map (at ts) c.args.best) in
    stands_for ts c.args.best _ (ap first (sym c.if-joins.false ∙ c.in_ok-joins.ensures)) c.requires.best
