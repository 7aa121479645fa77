use Rattle.std.proofs.Common.{◌≡◌, ◌<◌, sym, ap, subst, length, true, false, Some, None, rules, arith}
use Rattle.std.proofs.lemmas.List.{length-map}
use Rattle.logic_core.specs.Same.{same_term}
use Rattle.term_bank.specs.Hash.{hash_of}
use Rattle.term_bank.specs.Candidate.{IsCandidate, followers}
use Rattle.term_bank.proofs.Candidates.{candidate_first, candidate_next, fewer_before}
use Rattle.numbered_terms.specs.Stored.{shape}
use Rattle.numbered_terms.specs.Store.{shapes}
use Rattle.numbered_terms.proofs.Stores.{found_at, found_nowhere, other_shape}
use Rattle.numbered_terms.proofs.nodes.Nodes.find.Goals as goal

pub loop-latest-init : goal.loop-latest-init
loop-latest-init c = candidate_first (shapes c.self.inside.nodes.items) (shape c.args.node.now) c.self.inside.index c.args.hash c.latest-latest.result c.self.invariant.hashed c.requires.hash c.latest-latest.ensures

pub index-requires : goal.index-requires
index-requires c = let w : c.in-Some.number < length (shapes c.self.inside.nodes.items) = (c.loop-latest.invariant.here c.in-Some.number c.in-Some.is).0 in omega (arith, w, length-map c.self.inside.nodes.items shape)

pub returns-then-same : goal.returns-then-same
returns-then-same c =
    let w : c.in-Some.number < length (shapes c.self.inside.nodes.items) = (c.loop-latest.invariant.here c.in-Some.number c.in-Some.is).0 in
    let s : same_term (shape c.index.result.now) (shape c.args.node.now) ≡ true = cc in
    found_at c.args.self.now c.self.inside.nodes.items c.self.inside.index c.args.node.now c.self.view_is c.self.invariant c.requires.lower c.in-Some.number c.index.result.now
    (omega (arith, w, length-map c.self.inside.nodes.items shape)) c.index.ensures s

pub earlier-latest-requires : goal.earlier-latest-requires
earlier-latest-requires c = let w : c.in-Some.number < length (shapes c.self.inside.nodes.items) = (c.loop-latest.invariant.here c.in-Some.number c.in-Some.is).0 in
    omega (arith, w, ap length c.self.invariant.hashed, length-map (shapes c.self.inside.nodes.items) hash_of)

pub loop-latest-smaller : goal.loop-latest-smaller
loop-latest-smaller c =
    let p : followers c.earlier-latest.result < followers (Some c.in-Some.number) = fewer_before c.self.inside.index c.in-Some.number c.earlier-latest.result c.earlier-latest.ensures in
    let q : followers c.earlier-latest.result < followers c.loop-latest.latest = subst (λ o. followers c.earlier-latest.result < followers o) (sym c.in-Some.is) p in q

pub loop-latest-preserved : goal.loop-latest-preserved
loop-latest-preserved c =
    let w : c.in-Some.number < length (shapes c.self.inside.nodes.items) = (c.loop-latest.invariant.here c.in-Some.number c.in-Some.is).0 in
    let h : IsCandidate (shapes c.self.inside.nodes.items) (shape c.args.node.now) (Some c.in-Some.number) = subst (IsCandidate (shapes c.self.inside.nodes.items) (shape c.args.node.now)) c.in-Some.is c.loop-latest.invariant in
    let f : same_term (shape c.index.result.now) (shape c.args.node.now) ≡ false = cc in
    candidate_next (shapes c.self.inside.nodes.items) (shape c.args.node.now) c.self.inside.index c.in-Some.number c.earlier-latest.result c.self.invariant.hashed h
    (other_shape c.self.inside.nodes.items c.args.node.now c.index.result.now c.in-Some.number (omega (arith, w, length-map c.self.inside.nodes.items shape)) c.index.ensures f) c.earlier-latest.ensures

pub returns : goal.returns
returns c =
    let e : c.loop-latest.latest ≡ None = search rules in
    found_nowhere c.args.self.now c.self.inside.nodes.items c.self.inside.index c.args.node.now c.self.view_is c.self.invariant c.requires.lower (subst (IsCandidate (shapes c.self.inside.nodes.items) (shape c.args.node.now)) e c.loop-latest.invariant)
