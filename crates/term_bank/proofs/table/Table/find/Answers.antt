use Rattle.std.proofs.Common.{◌≡◌, ◌<◌, ◌∙◌, sym, ap, subst, ℕ, List, map, true, false, Some, None, rules, arith}
use Rattle.logic_core.specs.Same.{same_term}
use Rattle.term_bank.specs.Tabled.{Tabled}
use Rattle.term_bank.specs.Table.{tabled}
use Rattle.term_bank.specs.Numbered.{at}
use Rattle.term_bank.specs.Hash.{hash_of}
use Rattle.term_bank.specs.Candidate.{IsCandidate, followers}
use Rattle.term_bank.proofs.Candidates.{candidate_first, candidate_next, candidate_none, candidate_found, fewer_before, other_term}
use Rattle.term_bank.proofs.table.Table.find.Goals as goal

pub loop-latest-init : goal.loop-latest-init
loop-latest-init c =
    let v : tabled c.self.inside ≡ c.args.self.now = c.self.view_is in
    candidate_first c.args.self.now.terms c.args.term.now c.self.inside.index c.hash.result c.latest-latest.result
    (c.self.invariant.hashed ∙ ap (λ (d : Tabled). map hash_of d.terms) v) c.hash.ensures c.latest-latest.ensures

pub term-requires : goal.term-requires
term-requires c = (c.loop-latest.invariant.here c.in-Some.number c.in-Some.is).0

pub returns-then-equals : goal.returns-then-equals
returns-then-equals c =
    let s : same_term c.term.result.now c.args.term.now ≡ true = cc in
    sym (candidate_found c.args.self.now.terms c.args.term.now c.term.result.now c.in-Some.number c.term.ensures.one_number s)

pub loop-latest-smaller : goal.loop-latest-smaller
loop-latest-smaller c =
    let p : followers c.earlier-latest.result < followers (Some c.in-Some.number) = fewer_before c.self.inside.index c.in-Some.number c.earlier-latest.result c.earlier-latest.ensures in
    let q : followers c.earlier-latest.result < followers c.loop-latest.latest = subst (λ o. followers c.earlier-latest.result < followers o) (sym c.in-Some.is) p in q

pub loop-latest-preserved : goal.loop-latest-preserved
loop-latest-preserved c =
    let v : tabled c.self.inside ≡ c.args.self.now = c.self.view_is in
    let h : IsCandidate c.args.self.now.terms c.args.term.now (Some c.in-Some.number) = subst (IsCandidate c.args.self.now.terms c.args.term.now) c.in-Some.is c.loop-latest.invariant in
    let f : same_term c.term.result.now c.args.term.now ≡ false = cc in
    candidate_next c.args.self.now.terms c.args.term.now c.self.inside.index c.in-Some.number c.earlier-latest.result
    (c.self.invariant.hashed ∙ ap (λ (d : Tabled). map hash_of d.terms) v) h
    (λ e. other_term c.term.result.now c.args.term.now f (c.term.ensures.term ∙ e)) c.earlier-latest.ensures

pub returns : goal.returns
returns c =
    let e : c.loop-latest.latest ≡ None = search rules in
    sym (candidate_none c.args.self.now.terms c.args.term.now (subst (IsCandidate c.args.self.now.terms c.args.term.now) e c.loop-latest.invariant))
