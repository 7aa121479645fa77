use Rattle.std.proofs.Common.{◌≡◌, ◌+◌, ◌≤◌, ◌∙◌, refl, sym, ap, nat_eq, length, Some, None, false, arith}
use Rattle.std.proofs.lemmas.Bool.Decides.{nat_tests}
use Rattle.logic_core.specs.Tree.{read, nodes}
use Rattle.logic_core.specs.Wide.{when}
use Rattle.quantifier_triggers.specs.Match.{as_read, matched, root}
use Rattle.quantifier_triggers.proofs.Rooted.{root_nodes, reads_match, reads_differ}
use Rattle.quantifier_triggers.proofs.MatchedParts.{parts_end}
use Rattle.quantifier_triggers.proofs.pattern.+matched.Goals as goal

pub matched-matched-requires : goal.matched-matched-requires
matched-matched-requires t c =
    let whole : nodes c.args.pattern.now ≡ nodes c.in-Read.map.value + nodes c.in-Read.index.value + 1 = rw (← c.pattern.view_is, c.in-Read.is) refl in
    let part : nodes c.root.result.now ≤ nodes c.in-Read.map.value = rw (c.root.ensures, c.deref.ensures) (root_nodes c.in-Read.map.value) in
    (omega (arith, whole, part, c.decreases), tt)

pub matched-returns-in-Some-2 : goal.matched-returns-in-Some-2
matched-returns-in-Some-2 t c =
    let term : as_read c.args.term.now ≡ Some (c.in-Some.read.now, c.in-Some.at.now) = sym c.in-Some.ensures in
    let roots : matched c.args.vars.now c.args.defs.now c.args.kinds.now false (root c.in-Read.map.value) (root c.in-Some.read.now) c.args.found ≡ Some c.in-Some-2.found = rw (← c.deref.ensures, ← c.root.ensures, ← c.root-in-Read.ensures) (sym c.in_ok-found-in-Read.ensures ∙ c.in-Some-2.is) in
    let pattern : c.args.pattern.now ≡ read c.in-Read.map.value c.in-Read.index.value = rw (← c.pattern.view_is, c.in-Read.is) refl in
    let e = reads_match c.args.vars.now c.args.defs.now c.args.kinds.now c.in-Read.map.value c.in-Read.index.value c.args.term.now c.in-Some.read.now c.in-Some.at.now c.args.found c.in-Some-2.found term roots in
    rw (pattern, e, ← c.deref-in-Some-2.ensures) c.matched-in-Some-2.ensures

pub matched-returns-in-None : goal.matched-returns-in-None
matched-returns-in-None t c =
    let term : as_read c.args.term.now ≡ Some (c.in-Some.read.now, c.in-Some.at.now) = sym c.in-Some.ensures in
    let roots : matched c.args.vars.now c.args.defs.now c.args.kinds.now false (root c.in-Read.map.value) (root c.in-Some.read.now) c.args.found ≡ None = rw (← c.deref.ensures, ← c.root.ensures, ← c.root-in-Read.ensures) (sym c.in_ok-found-in-Read.ensures ∙ c.in-None.is) in
    let pattern : c.args.pattern.now ≡ read c.in-Read.map.value c.in-Read.index.value = rw (← c.pattern.view_is, c.in-Read.is) refl in
    let e = reads_differ c.args.vars.now c.args.defs.now c.args.kinds.now c.in-Read.map.value c.in-Read.index.value c.args.term.now c.in-Some.read.now c.in-Some.at.now c.args.found term roots in
    rw pattern (sym e)

pub matched_each-returns-else-patterns-terms : goal.matched_each-returns-else-patterns-terms
matched_each-returns-else-patterns-terms t c =
    let e = parts_end c.args.vars.now c.args.defs.now c.args.kinds.now c.args.patterns.now c.args.terms.now c.loop-i.i c.loop-i.found (omega arith) in
    let apart : nat_eq (length c.args.patterns.now) (length c.args.terms.now) ≡ false = grind (arith, nat_tests) in
    sym (e ∙ ap (λ q. when q (Some c.loop-i.found)) apart) ∙ c.loop-i.invariant.same
