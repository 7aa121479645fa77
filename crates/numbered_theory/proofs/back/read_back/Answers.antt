use Rattle.numbered_facts.proofs.Growing.{then}
use Rattle.std.proofs.Common.{◌≡◌, ◌∙◌, sym, ap, List, Some, None, ℤ, subst, FitsSigned, rules}
use Rattle.std.specs.Int.{w128}
use Rattle.std.proofs.lemmas.Int.{to_z-of_z}
use Rattle.numbered_terms.specs.At.{IsAt}
use Rattle.logic_core.specs.Tree.{Tree}
use Rattle.proof_core.specs.Maps.{as_number}
use Rattle.term_bank.specs.Numbered.{at}
use Rattle.theory_rules.specs.ReadsBack.{read_back}
use Rattle.numbered_theory.specs.Places.{over}
use Rattle.numbered_theory.specs.Reads.{access_at, ReadsAt}
use Rattle.numbered_theory.proofs.Loops.{from_err}
use Rattle.numbered_theory.proofs.BackAtDistance.{read_at_distance, access_below, distance_wide, distance_open, read_there}
use Rattle.numbered_theory.proofs.back.read_back.Goals as goal

pub distance-requires : goal.distance-requires
distance-requires c = c.requires

pub returns-in_err-distance-clause-grows : goal.returns-in_err-distance-clause-grows
returns-in_err-distance-clause-grows c = c.distance.ensures.grows

pub returns-in_err-said-in-Some-clause-grows : goal.returns-in_err-said-in-Some-clause-grows
returns-in_err-said-in-Some-clause-grows c = then c.args.store.now c.distance.new.store c.read_at.new.store c.in_ok-distance.ensures.grows c.read_at.ensures.grows

pub returns-in_ok-said-in-Some-clause-grows : goal.returns-in_ok-said-in-Some-clause-grows
returns-in_ok-said-in-Some-clause-grows c = then c.args.store.now c.distance.new.store c.read_at.new.store c.in_ok-distance.ensures.grows c.in_ok-said-in-Some.ensures.grows

pub returns-in-None-clause-grows : goal.returns-in-None-clause-grows
returns-in-None-clause-grows c = c.in_ok-distance.ensures.grows

pub read_at-requires : goal.read_at-requires
read_at-requires c = access_below c.args.store.now c.distance.new.store c.in_ok-distance.ensures.grows c.args.access.now c.requires

pub returns-in_err-distance-clause-reads : goal.returns-in_err-distance-clause-reads
returns-in_err-distance-clause-reads c = let n = c.args.store.now in let a = access_at n.terms c.args.access.now in from_err (λ r. ReadsAt c.distance.new.store.terms r (read_back n.defs (over n.vars) a)) c.from_residual.result c.in_err-distance.field-0.0 c.from_residual.ensures.1 (λ d same wide. distance_wide n.defs (over n.vars) a (c.in_err-distance.ensures.gives (sym same ∙ wide)))

pub returns-in_ok-said-in-Some-clause-reads : goal.returns-in_ok-said-in-Some-clause-reads
returns-in_ok-said-in-Some-clause-reads c = let n = c.args.store.now in let m = c.distance.new.store in let a = c.args.access.now in let d = c.in_ok-distance.distance in let known : as_number (at m.terms d) ≡ Some c.in-Some.n = ap (λ (ts : List Tree). as_number (at ts d)) (sym c.terms.ensures) ∙ sym c.number.ensures ∙ c.in-Some.is in let fits : FitsSigned w128 c.in-Some.n = search rules in let same = to_z-of_z w128 c.in-Some.n fits in read_there n m c.in_ok-distance.ensures.grows a c.requires c.read_at.new.store d c.in_ok-said-in-Some.said c.in-Some.n c.in_ok-distance.ensures.gives.1 known (subst (λ (k : ℤ). IsAt c.read_at.new.store.terms c.in_ok-said-in-Some.said (read_at_distance k (access_at m.terms a))) same c.in_ok-said-in-Some.ensures.is)

pub returns-in-None-clause-reads : goal.returns-in-None-clause-reads
returns-in-None-clause-reads c = let n = c.args.store.now in let m = c.distance.new.store in let a = c.args.access.now in let d = c.in_ok-distance.distance in let nothing : as_number (at m.terms d) ≡ None = ap (λ (ts : List Tree). as_number (at ts d)) (sym c.terms.ensures) ∙ sym c.number.ensures ∙ c.in-None.is in distance_open n.defs (over n.vars) (access_at n.terms a) (at m.terms d) c.in_ok-distance.ensures.gives.1 nothing
