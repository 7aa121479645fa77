use Rattle.std.proofs.Common.{◌≡◌, Vec, ◌∙◌, ◌<◌, ◌++◌, ◌∷◌, [], sym, ap, subst, Some, length, map, arith}
use Rattle.std.specs.List.{AllByRecursion}
use Rattle.std.specs.declared.alloc.Global.{Global}
use Rattle.std.proofs.lemmas.List.{map-append}
use Rattle.logic_core.proofs.Refused.{gives_err}
use Rattle.logic_core.proofs.EachOf.{every_append}
use Rattle.term_bank.specs.Numbered.{at}
use Rattle.logic_rules.specs.Rewriting.{rewritten_mark}
use Rattle.logic_rules.specs.View.{bare}
use Rattle.numbered_facts.proofs.Growing.{then}
use Rattle.numbered_branches.specs.Branches.{NumberedMark, IsMarkOver, mark_at}
use Rattle.numbered_branches.proofs.Listing.{all_at}
use Rattle.numbered_branches.proofs.Standing.{mark_stays}
use Rattle.numbered_instances.proofs.NewTuples.{marks_more}
use Rattle.numbered_instances.proofs.WithinTerms.{mark_same, each_next, each_stops, each_ends}
use Rattle.numbered_instances.proofs.within.rewrite_marks.Goals as goal

pub loop-mark-preserved : goal.loop-mark-preserved
loop-mark-preserved c =
    let n = c.args.store.now in let m = c.loop-mark.store in let o = c.rewrite_mark.new.store in
    let g = c.loop-mark.invariant.grows in let d = c.in_ok-made.ensures.grows in
    let l = at n.terms c.args.left in let r = at n.terms c.args.right in
    let F = rewritten_mark n.defs (bare n.defs l r n.vars) l r in
    let xs = c.args.marks.now in let i = c.loop-mark.mark-index in let x = c.mark-item.result in let y = c.in_ok-made.made in
    let old = c.loop-mark.rewritten.items in let new = c.push.new.self.items in
    let w = all_at (IsMarkOver n.terms) xs i x c.requires.marks c.loop-mark-test.true c.mark-item.is in
    let made : F (mark_at n.terms x) ≡ Some (mark_at o.terms y) = ap F (sym (mark_stays n.terms m.terms g.terms x w).1) ∙ sym (mark_same n m g c.args.left c.args.right c.requires.left c.requires.right (mark_at m.terms x)) ∙ c.in_ok-made.ensures.gives in
    let longer = marks_more m.terms o.terms d.terms old c.loop-mark.invariant.over in
    let more : map (mark_at o.terms) new ≡ map (mark_at m.terms) old ++ mark_at o.terms y ∷ [] =
    ap (map (mark_at o.terms)) c.in_ok-push.ensures.items ∙ map-append (mark_at o.terms) old (y ∷ []) ∙ ap (λ zs. zs ++ mark_at o.terms y ∷ []) longer.1 in
    record {
      grows = then n m o g d;
      made = each_next F xs (mark_at n.terms) i x (mark_at o.terms y) (map (mark_at m.terms) old) (map (mark_at o.terms) new) _ c.loop-mark-test.true c.mark-item.is made more c.loop-mark.invariant.made;
      over = subst (AllByRecursion (IsMarkOver o.terms)) (sym c.in_ok-push.ensures.items) (every_append (IsMarkOver o.terms) old (y ∷ []) longer.0 (c.in_ok-made.ensures.over, tt));
    }

pub returns-in_err-made-clause-gives : goal.returns-in_err-made-clause-gives
returns-in_err-made-clause-gives c =
    let n = c.args.store.now in let m = c.loop-mark.store in let g = c.loop-mark.invariant.grows in
    let l = at n.terms c.args.left in let r = at n.terms c.args.right in
    let F = rewritten_mark n.defs (bare n.defs l r n.vars) l r in
    let xs = c.args.marks.now in let i = c.loop-mark.mark-index in let x = c.mark-item.result in
    let w = all_at (IsMarkOver n.terms) xs i x c.requires.marks c.loop-mark-test.true c.mark-item.is in
    gives_err (λ (v : Vec NumberedMark Global). map (mark_at c.rewrite_mark.new.store.terms) v.items) c.from_residual.result c.in_err-made.field-0.0 _ c.from_residual.ensures.1
    (λ wide. each_stops F xs (mark_at n.terms) i x (map (mark_at m.terms) c.loop-mark.rewritten.items) _ c.loop-mark-test.true c.mark-item.is
    (ap F (sym (mark_stays n.terms m.terms g.terms x w).1) ∙ sym (mark_same n m g c.args.left c.args.right c.requires.left c.requires.right (mark_at m.terms x)) ∙ c.in_err-made.ensures.gives wide) c.loop-mark.invariant.made)

pub returns-clause-gives : goal.returns-clause-gives
returns-clause-gives c =
    let n = c.args.store.now in let m = c.loop-mark.store in
    let l = at n.terms c.args.left in let r = at n.terms c.args.right in
    each_ends (rewritten_mark n.defs (bare n.defs l r n.vars) l r) c.args.marks.now (mark_at n.terms) c.loop-mark.mark-index (map (mark_at m.terms) c.loop-mark.rewritten.items) _ (omega arith) c.loop-mark.invariant.made

pub returns-in_err-made-clause-grows : goal.returns-in_err-made-clause-grows
returns-in_err-made-clause-grows c = then c.args.store.now c.loop-mark.store c.rewrite_mark.new.store c.loop-mark.invariant.grows c.rewrite_mark.ensures.grows

pub returns-in_err-push-clause-grows : goal.returns-in_err-push-clause-grows
returns-in_err-push-clause-grows c = then c.args.store.now c.loop-mark.store c.rewrite_mark.new.store c.loop-mark.invariant.grows c.rewrite_mark.ensures.grows
