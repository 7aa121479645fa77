use Rattle.std.proofs.Common.{◌++◌, ◌+◌, [], ◌∷◌, drop, ap, ◌∙◌, arith}
use Rattle.program_edits.specs.Edited.{numbered}
use Rattle.program_edits.specs.Seen.{decls_seen}
use Rattle.program_edits.proofs.Steps.{numbered_step, axioms_within}
use Rattle.program_edits.proofs.places.numbered.Goals as goal

pub loop-decl-preserved : goal.loop-decl-preserved
loop-decl-preserved c =
    let rest = decls_seen (drop (c.loop-decl.decl-index + 1) c.args.decls.now) in
    let step = numbered_step c.loop-decl.found.items c.loop-decl.axioms c.args.decls.now c.loop-decl.decl-index c.decl-item.result c.in_ok-renamed.field-0 _ c.loop-decl-test.true c.decl-item.is c.in_ok-renamed.ensures c.loop-decl.invariant.numbered in
    record {
      numbered = ap (λ xs. xs ++ numbered c.axioms_with-axioms.result rest) c.in_ok-push.ensures.items ∙ ap (λ k. (c.loop-decl.found.items ++ c.in_ok-renamed.field-0 ∷ []) ++ numbered k rest) c.axioms_with-axioms.ensures ∙ step;
      few = omega (arith, c.axioms_with-axioms.ensures, axioms_within c.loop-decl.axioms (c.decl-item.result.now).body, c.loop-decl.invariant.few);
    }
