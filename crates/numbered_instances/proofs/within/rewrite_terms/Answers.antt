use Rattle.std.proofs.Common.{◌≡◌, ℕ, Vec, ◌∙◌, ◌<◌, ◌++◌, ◌∷◌, [], sym, ap, subst, Some, length, map, arith}
use Rattle.std.specs.List.{AllByRecursion}
use Rattle.std.specs.declared.alloc.Global.{Global}
use Rattle.std.proofs.lemmas.List.{map-append}
use Rattle.logic_core.proofs.Refused.{gives_err}
use Rattle.logic_core.proofs.EachOf.{every_append}
use Rattle.term_bank.specs.Numbered.{at}
use Rattle.term_bank.proofs.Numbers.{begins_at}
use Rattle.logic_rules.specs.Rewriting.{rewritten_within}
use Rattle.logic_rules.specs.View.{bare}
use Rattle.numbered_terms.specs.Lists.{terms_at}
use Rattle.numbered_terms.proofs.Items.{item_below}
use Rattle.numbered_forms.proofs.LongerStores.{terms_stay, numbers_stay}
use Rattle.numbered_facts.proofs.Growing.{then}
use Rattle.numbered_instances.proofs.WithinTerms.{within_same, each_next, each_stops, each_ends}
use Rattle.numbered_instances.proofs.within.rewrite_terms.Goals as goal

pub loop-term-preserved : goal.loop-term-preserved
loop-term-preserved c =
    let n = c.args.store.now in let m = c.loop-term.store in let o = c.rewrite_within.new.store in
    let g = c.loop-term.invariant.grows in let d = c.in_ok-made.ensures.grows in
    let l = at n.terms c.args.left in let r = at n.terms c.args.right in
    let F = rewritten_within n.defs (bare n.defs l r n.vars) l r in
    let xs = c.args.terms.now in let i = c.loop-term.term-index in let x = c.term-item.result in let y = c.in_ok-made.made in
    let old = c.loop-term.rewritten.items in let new = c.push.new.self.items in
    let w = item_below (length n.terms) xs i x c.requires.terms c.loop-term-test.true c.term-item.is in
    let gives = c.in_ok-made.ensures.gives in
    let made : F (at n.terms x) ≡ Some (at o.terms y) = ap F (sym (begins_at n.terms m.terms x g.terms w)) ∙ sym (within_same n m g c.args.left c.args.right c.requires.left c.requires.right (at m.terms x)) ∙ gives.1 in
    let more : terms_at o.terms new ≡ terms_at m.terms old ++ at o.terms y ∷ [] =
    ap (terms_at o.terms) c.in_ok-push.ensures.items ∙ map-append (at o.terms) old (y ∷ []) ∙ ap (λ zs. zs ++ at o.terms y ∷ []) (terms_stay m.terms o.terms d.terms old c.loop-term.invariant.within) in
    record {
      grows = then n m o g d;
      made = each_next F xs (at n.terms) i x (at o.terms y) (terms_at m.terms old) (terms_at o.terms new) _ c.loop-term-test.true c.term-item.is made more c.loop-term.invariant.made;
      within = subst (AllByRecursion (λ j. j < length o.terms)) (sym c.in_ok-push.ensures.items) (every_append (λ j. j < length o.terms) old (y ∷ []) (numbers_stay m.terms o.terms d.terms old c.loop-term.invariant.within) (gives.0, tt));
    }

pub returns-in_err-made-clause-gives : goal.returns-in_err-made-clause-gives
returns-in_err-made-clause-gives c =
    let n = c.args.store.now in let m = c.loop-term.store in let g = c.loop-term.invariant.grows in
    let l = at n.terms c.args.left in let r = at n.terms c.args.right in
    let F = rewritten_within n.defs (bare n.defs l r n.vars) l r in
    let xs = c.args.terms.now in let i = c.loop-term.term-index in let x = c.term-item.result in
    let w = item_below (length n.terms) xs i x c.requires.terms c.loop-term-test.true c.term-item.is in
    gives_err (λ (v : Vec ℕ Global). terms_at c.rewrite_within.new.store.terms v.items) c.from_residual.result c.in_err-made.field-0.0 _ c.from_residual.ensures.1
    (λ wide. each_stops F xs (at n.terms) i x (terms_at m.terms c.loop-term.rewritten.items) _ c.loop-term-test.true c.term-item.is
    (ap F (sym (begins_at n.terms m.terms x g.terms w)) ∙ sym (within_same n m g c.args.left c.args.right c.requires.left c.requires.right (at m.terms x)) ∙ c.in_err-made.ensures.gives wide) c.loop-term.invariant.made)

pub returns-clause-gives : goal.returns-clause-gives
returns-clause-gives c =
    let n = c.args.store.now in let m = c.loop-term.store in
    let l = at n.terms c.args.left in let r = at n.terms c.args.right in
    each_ends (rewritten_within n.defs (bare n.defs l r n.vars) l r) c.args.terms.now (at n.terms) c.loop-term.term-index (terms_at m.terms c.loop-term.rewritten.items) _ (omega arith) c.loop-term.invariant.made

pub returns-in_err-made-clause-grows : goal.returns-in_err-made-clause-grows
returns-in_err-made-clause-grows c = then c.args.store.now c.loop-term.store c.rewrite_within.new.store c.loop-term.invariant.grows c.rewrite_within.ensures.grows

pub returns-in_err-push-clause-grows : goal.returns-in_err-push-clause-grows
returns-in_err-push-clause-grows c = then c.args.store.now c.loop-term.store c.rewrite_within.new.store c.loop-term.invariant.grows c.rewrite_within.ensures.grows
