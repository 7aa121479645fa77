use Rattle.std.proofs.Common.{◌≡◌, ◌∙◌, subst, sym, Option, List, ◌∷◌}
use Rattle.std.specs.Prelude.{option_map}
use Rattle.logic_core.specs.Tree.{Tree}
use Rattle.proof_core.specs.Split.{cases}
use Rattle.tableau_branch.specs.Branch.{context_of}
use Rattle.tableau_branch.specs.Oriented.{left_side}
use Rattle.plain_search.proofs.Unoriented.{of_unoriented, of_oriented}
use Rattle.plain_search.proofs.splitting.cases_of.Goals as goal

pub returns-then-oriented : goal.returns-then-oriented
returns-then-oriented c =
    let d = c.args.defs.now in
    let b = c.args.branch.now in
    let t = c.args.fact.now.term in
    sym (of_oriented (left_side b.vars d t) (option_map (λ p. p.0 ∷ p.1) (cases d (context_of b) t)) c.in_ok-oriented.oriented c.in_ok-oriented.ensures c.if-oriented.true)

pub returns : goal.returns
returns c =
    let d = c.args.defs.now in
    let b = c.args.branch.now in
    let t = c.args.fact.now.term in
    let whole : Option (List Tree) = option_map (λ p. p.0 ∷ p.1) (cases d (context_of b) t) in
    let found = subst (λ u. c.in_ok-found.found ≡ option_map (λ p. p.0 ∷ p.1) (cases d (context_of b) u)) c.term-formula.ensures c.in_ok-found.ensures in
    found ∙ sym (of_unoriented (left_side b.vars d t) whole c.in_ok-oriented.oriented c.in_ok-oriented.ensures c.if-oriented.false)
