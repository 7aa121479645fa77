use Rattle.std.proofs.Common.{◌≡◌, ◌∙◌, sym, ap, subst, ℕ, Some, List, nat_eq, not, map, arith}
use Rattle.proof_core.specs.Says.{says}
use Rattle.term_bank.specs.Numbered.{at}
use Rattle.term_bank.proofs.Numbers.{begins_length}
use Rattle.numbered_facts.specs.Answers.{StandsFor}
use Rattle.numbered_facts.proofs.Growing.{then}
use Rattle.logic_core.specs.Subterm.{occurs}
use Rattle.numbered_branches.specs.Branches.{NumberedFact, NumberedMade}
use Rattle.numbered_branches.specs.Moves.{IsMoveOver, move_at}
use Rattle.numbered_instances.specs.Shared.{AreShared}
use Rattle.numbered_instances.proofs.NearFacts.{not_both}
use Rattle.numbered_instances.proofs.SharedAtoms.{shared_on}
use Rattle.numbered_instances.proofs.Instantiated.{move_err}
use Rattle.numbered_instances.proofs.ByFact.{says_not, start_over, start_vars, replacing_over, facts_leave, rest_leaves, moves}
use Rattle.numbered_instances.proofs.rewriting.rewrite_by.Goals as goal

pub returns-in_default-clause-gives : goal.returns-in_default-clause-gives
returns-in_default-clause-gives c wide =
    let n = c.args.store.now in let m = c.says.new.self in
    let said = rw c.in_default.is at (subst (λ (x : NumberedFact). StandsFor m.terms c.in_ok-right.field-0 (says (at n.terms x.term) (at n.terms c.args.left))) c.fact.view_is c.in_ok-right.ensures.gives) in
    says_not n c.args.branch c.requires.branch c.args.fact.now c.args.left c.requires.left said

pub change_near-requires-clause-made : goal.change_near-requires-clause-made
change_near-requires-clause-made c =
    let n = c.args.store.now in let m = c.says.new.self in
    let said = rw c.in-Some.is at (subst (λ (x : NumberedFact). StandsFor m.terms c.in_ok-right.field-0 (says (at n.terms x.term) (at n.terms c.args.left))) c.fact.view_is c.in_ok-right.ensures.gives) in
    start_over n c.args.branch c.requires.branch c.args.fact.now c.args.left c.requires.left m c.in_ok-right.ensures.grows c.in-Some.right said.1 c.begun-made.result c.begun-made.ensures c.fact.inside.number (ap (λ (x : NumberedFact). x.number) c.fact.view_is)

pub change_near-requires-clause-vars : goal.change_near-requires-clause-vars
change_near-requires-clause-vars c =
    let n = c.args.store.now in let m = c.says.new.self in
    let said = rw c.in-Some.is at (subst (λ (x : NumberedFact). StandsFor m.terms c.in_ok-right.field-0 (says (at n.terms x.term) (at n.terms c.args.left))) c.fact.view_is c.in_ok-right.ensures.gives) in
    start_vars n c.args.branch c.requires.branch c.args.fact.now c.args.left c.requires.left m c.in_ok-right.ensures.grows c.in-Some.right said.1 c.begun-made.result c.begun-made.ensures c.fact.inside.number (ap (λ (x : NumberedFact). x.number) c.fact.view_is) c.requires.vars

pub change_near-requires-clause-replacing : goal.change_near-requires-clause-replacing
change_near-requires-clause-replacing c =
    let n = c.args.store.now in let m = c.says.new.self in
    let said = rw c.in-Some.is at (subst (λ (x : NumberedFact). StandsFor m.terms c.in_ok-right.field-0 (says (at n.terms x.term) (at n.terms c.args.left))) c.fact.view_is c.in_ok-right.ensures.gives) in
    replacing_over n c.args.branch c.requires.branch c.args.fact.now c.args.left c.requires.left m c.in_ok-right.ensures.grows c.in-Some.right said.1 c.begun-made.result c.begun-made.ensures c.fact.inside.number (ap (λ (x : NumberedFact). x.number) c.fact.view_is) said.0

pub change_near-requires-clause-passed : goal.change_near-requires-clause-passed
change_near-requires-clause-passed c = λ f e. not_both (not (nat_eq c.fact.inside.number f.number)) (occurs (at c.says.new.self.terms c.args.left) f.term) e

pub change_near-requires-clause-shared : goal.change_near-requires-clause-shared
change_near-requires-clause-shared c =
    subst (λ (m : NumberedMade). AreShared c.says.new.self.terms (map (λ (f : NumberedFact). f.term) m.branch.facts) c.args.shared.now.counts.items) (sym c.begun-made.ensures)
    (shared_on c.args.store.now.terms c.says.new.self.terms c.in_ok-right.ensures.grows.terms (map (λ (f : NumberedFact). f.term) c.args.branch.facts) c.args.shared.now.counts.items c.requires.shared)

pub rewrite_rest-requires-clause-left : goal.rewrite_rest-requires-clause-left
rewrite_rest-requires-clause-left c =
    omega (arith, c.requires.left, begins_length c.args.store.now.terms c.says.new.self.terms c.in_ok-right.ensures.grows.terms, begins_length c.says.new.self.terms c.change_near.new.store.terms c.in_ok-change_near.ensures.grows.terms)

pub rewrite_rest-requires-clause-right : goal.rewrite_rest-requires-clause-right
rewrite_rest-requires-clause-right c =
    let said = rw c.in-Some.is at c.in_ok-right.ensures.gives in
    omega (arith, said.0, begins_length c.says.new.self.terms c.change_near.new.store.terms c.in_ok-change_near.ensures.grows.terms)

pub returns-in_err-change_near-clause-grows : goal.returns-in_err-change_near-clause-grows
returns-in_err-change_near-clause-grows c = then c.args.store.now c.says.new.self c.change_near.new.store c.in_ok-right.ensures.grows c.change_near.ensures.grows

pub returns-in_err-rewrite_rest-clause-grows : goal.returns-in_err-rewrite_rest-clause-grows
returns-in_err-rewrite_rest-clause-grows c =
    then c.args.store.now c.change_near.new.store c.rewrite_rest.new.store (then c.args.store.now c.says.new.self c.change_near.new.store c.in_ok-right.ensures.grows c.change_near.ensures.grows) c.rewrite_rest.ensures.grows

pub returns-clause-grows : goal.returns-clause-grows
returns-clause-grows c =
    then c.args.store.now c.change_near.new.store c.rewrite_rest.new.store (then c.args.store.now c.says.new.self c.change_near.new.store c.in_ok-right.ensures.grows c.change_near.ensures.grows) c.rewrite_rest.ensures.grows

pub returns-in_err-change_near-clause-gives : goal.returns-in_err-change_near-clause-gives
returns-in_err-change_near-clause-gives c =
    let n = c.args.store.now in let m = c.says.new.self in
    let said = rw c.in-Some.is at (subst (λ (x : NumberedFact). StandsFor m.terms c.in_ok-right.field-0 (says (at n.terms x.term) (at n.terms c.args.left))) c.fact.view_is c.in_ok-right.ensures.gives) in
    move_err c.change_near.new.store.terms c.from_residual-in_err-change_near.result c.in_err-change_near.field-0.0 _ c.from_residual-in_err-change_near.ensures.1
    (λ wide. facts_leave n c.args.branch c.requires.branch c.args.fact.now c.args.left c.requires.left m c.in_ok-right.ensures.grows c.in-Some.right said.1 c.begun-made.result c.begun-made.ensures c.fact.inside.number (ap (λ (x : NumberedFact). x.number) c.fact.view_is)
    (c.in_err-change_near.ensures.gives wide))

pub returns-in_err-rewrite_rest-clause-gives : goal.returns-in_err-rewrite_rest-clause-gives
returns-in_err-rewrite_rest-clause-gives c =
    let n = c.args.store.now in let m = c.says.new.self in let o = c.change_near.new.store in
    let said = rw c.in-Some.is at (subst (λ (x : NumberedFact). StandsFor m.terms c.in_ok-right.field-0 (says (at n.terms x.term) (at n.terms c.args.left))) c.fact.view_is c.in_ok-right.ensures.gives) in
    move_err c.rewrite_rest.new.store.terms c.from_residual-in_err-rewrite_rest.result c.in_err-rewrite_rest.field-0.0 _ c.from_residual-in_err-rewrite_rest.ensures.1
    (λ wide. rest_leaves n c.args.branch c.requires.branch c.args.fact.now c.args.left c.requires.left m c.in_ok-right.ensures.grows c.in-Some.right said.1 c.begun-made.result c.begun-made.ensures c.fact.inside.number (ap (λ (x : NumberedFact). x.number) c.fact.view_is)
    o c.in_ok-change_near.ensures.grows said.0 c.change_near.new.made c.in_ok-change_near.ensures.gives (c.in_err-rewrite_rest.ensures.gives wide))

pub returns-clause-gives : goal.returns-clause-gives
returns-clause-gives c =
    let n = c.args.store.now in let m = c.says.new.self in let o = c.change_near.new.store in let p = c.rewrite_rest.new.store in
    let said = rw c.in-Some.is at (subst (λ (x : NumberedFact). StandsFor m.terms c.in_ok-right.field-0 (says (at n.terms x.term) (at n.terms c.args.left))) c.fact.view_is c.in_ok-right.ensures.gives) in
    let moved = moves n c.args.branch c.requires.branch c.args.fact.now c.args.left c.requires.left m c.in_ok-right.ensures.grows c.in-Some.right said.1 c.begun-made.result c.begun-made.ensures c.fact.inside.number (ap (λ (x : NumberedFact). x.number) c.fact.view_is)
    o c.in_ok-change_near.ensures.grows said.0 c.change_near.new.made c.in_ok-change_near.ensures.gives p.terms c.rewrite_rest.new.made c.in_ok-rewrite_rest.ensures.gives in
    (subst (IsMoveOver p.terms) (sym c.in_ok-on_one.ensures) (record { ending = tt; made = (c.in_ok-rewrite_rest.ensures.made, tt) }), moved ∙ ap (λ v. Some (move_at p.terms v)) (sym c.in_ok-on_one.ensures))
