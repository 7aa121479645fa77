use Rattle.std.proofs.Common.{◌≡◌, ◌∙◌, ◌<◌, sym, ap, subst, Some, None, false, length, arith}
use Rattle.std.specs.List.{AllByRecursion}
use Rattle.std.proofs.lemmas.Result.{IfOk-weaker}
use Rattle.logic_core.specs.Tree.{read}
use Rattle.logic_core.specs.Wide.{when}
use Rattle.term_bank.specs.Numbered.{at}
use Rattle.term_bank.specs.Node.{tree_over, numbers_in}
use Rattle.quantifier_triggers.specs.Match.{as_read, matched, root}
use Rattle.quantifier_triggers.proofs.Rooted.{reads_match, reads_differ}
use Rattle.numbered_terms.proofs.Items.{all_lower}
use Rattle.numbered_instances.specs.Finding.{found_at}
use Rattle.numbered_instances.proofs.Patterns.{numbers_end}
use Rattle.numbered_instances.proofs.pattern.+matched.Goals as goal

pub matched-as_call-requires : goal.matched-as_call-requires
matched-as_call-requires t c = all_lower c.args.term (length c.args.terms.now) _ (omega (arith, c.requires.term)) c.node-in-Call.ensures.lower

pub matched-matched_each-requires : goal.matched-matched_each-requires
matched-matched_each-requires t c = (
  omega (arith, c.decreases, c.pattern.view_is),
  (
    omega (arith, c.requires.pattern, c.pattern.view_is),
    (
      subst (λ n. AllByRecursion (λ j. j < n) c.deref.result.now) (sym c.pattern.view_is)
          (subst (AllByRecursion (λ j. j < c.args.pattern)) (sym c.deref.ensures.value) (subst (λ m. AllByRecursion (λ j. j < c.args.pattern) (numbers_in m)) c.in-Call.is c.node.ensures.lower)),
      (c.in-Some-as_call.ensures.within, c.requires.within),
    ),
  ),
)

pub matched-returns-then-meets-clause-gives : goal.matched-returns-then-meets-clause-gives
matched-returns-then-meets-clause-gives t c =
    let ts = c.args.terms.now in let b = found_at ts c.args.found.now.items in
    let vs = c.args.vars.now in let ds = c.args.defs.now in let ks = c.args.kinds.now in
    let p = at ts c.in-Read.map in let q = at ts c.in-Read.index in let u = at ts c.args.term in
    let d = found_at ts c.matched.new.found.items in
    let pattern : at ts c.args.pattern ≡ read p q = sym c.node.ensures.node ∙ ap (tree_over (at ts)) c.in-Read.is in
    let term = ap as_read (sym c.node-in-Read.ensures.node) ∙ sym c.in-Some.ensures.is in
    let roots = (λ k. matched vs ds ks false (sym c.root-map.ensures.is k) (sym c.root-read.ensures.is k) b) ∙ c.in_ok-meets-in-Read.ensures.gives ∙ ap (λ x. when x (Some d)) c.if-meets.true in
    IfOk-weaker c.matched-then-meets.result _ _ (λ r e. ap (λ x. matched vs ds ks false x u b) pattern ∙ reads_match vs ds ks p q u _ _ b d term roots ∙ e) c.matched-then-meets.ensures.gives

pub matched-returns-else-meets-clause-gives : goal.matched-returns-else-meets-clause-gives
matched-returns-else-meets-clause-gives t c =
    let ts = c.args.terms.now in let b = found_at ts c.args.found.now.items in
    let vs = c.args.vars.now in let ds = c.args.defs.now in let ks = c.args.kinds.now in
    let p = at ts c.in-Read.map in let q = at ts c.in-Read.index in let u = at ts c.args.term in
    let d = found_at ts c.matched.new.found.items in
    let pattern : at ts c.args.pattern ≡ read p q = sym c.node.ensures.node ∙ ap (tree_over (at ts)) c.in-Read.is in
    let term = ap as_read (sym c.node-in-Read.ensures.node) ∙ sym c.in-Some.ensures.is in
    let roots = (λ k. matched vs ds ks false (sym c.root-map.ensures.is k) (sym c.root-read.ensures.is k) b) ∙ c.in_ok-meets-in-Read.ensures.gives ∙ ap (λ x. when x (Some d)) c.if-meets.false in
    ap (λ x. matched vs ds ks false x u b) pattern ∙ reads_differ vs ds ks p q u _ _ b term roots

pub matched_each-returns-clause-gives : goal.matched_each-returns-clause-gives
matched_each-returns-clause-gives t c =
    sym c.loop-i.invariant.same ∙ numbers_end c.args.terms.now c.args.vars.now c.args.defs.now c.args.kinds.now c.args.patterns.now c.args.args.now c.loop-i.i (found_at c.args.terms.now c.loop-i.found.items) (omega arith)
