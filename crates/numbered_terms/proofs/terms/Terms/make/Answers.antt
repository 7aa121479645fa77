use Rattle.std.proofs.Common.{◌≡◌, ◌∙◌, ◌<◌, sym, subst, length, None, rules}
use Rattle.std.specs.List.{AllByRecursion}
use Rattle.term_bank.specs.Numbered.{at, number_of}
use Rattle.term_bank.specs.Node.{tree_over, numbers_in}
use Rattle.term_bank.proofs.Numbers.{number_is, begins_same}
use Rattle.numbered_terms.specs.At.{IsAt}
use Rattle.numbered_terms.proofs.terms.Terms.make.Goals as goal

pub returns-in-Some-clause-grows : goal.returns-in-Some-clause-grows
returns-in-Some-clause-grows c = begins_same c.args.self.now

pub returns-in-Some-clause-number : goal.returns-in-Some-clause-number
returns-in-Some-clause-number c = subst (λ ts. IsAt ts c.in-Some.found (tree_over (at ts) c.args.node)) c.self.view_is (number_is c.self.inside.nodes (tree_over (at c.self.inside.nodes) c.args.node) c.in-Some.found (sym c.find.ensures ∙ c.in-Some.is))

pub push-requires-clause-new : goal.push-requires-clause-new
push-requires-clause-new c =
    let n : number_of c.self.inside.nodes (tree_over (at c.self.inside.nodes) c.args.node) ≡ None = search rules in
    subst (λ ts. number_of ts (tree_over (at ts) c.args.node) ≡ None) c.self.view_is n

pub find-requires-clause-lower : goal.find-requires-clause-lower
find-requires-clause-lower c = subst (λ ts. AllByRecursion (λ j. j < length ts) (numbers_in c.args.node)) (sym c.self.view_is) c.requires

pub find-requires-clause-hash : goal.find-requires-clause-hash
find-requires-clause-hash c = c.hash-hash.ensures

pub push-requires-clause-lower : goal.push-requires-clause-lower
push-requires-clause-lower c = c.requires

pub push-requires-clause-hash : goal.push-requires-clause-hash
push-requires-clause-hash c = c.hash-hash.ensures

pub returns-clause-grows : goal.returns-clause-grows
returns-clause-grows c = c.push.ensures.grows

pub returns-clause-number : goal.returns-clause-number
returns-clause-number c = c.push.ensures.number

pub returns-clause-memory : goal.returns-clause-memory
returns-clause-memory c = c.push.ensures.memory
