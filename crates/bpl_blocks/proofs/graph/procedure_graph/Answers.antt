use Rattle.std.proofs.Common.{◌≡◌, ◌∙◌, ap, sym, subst}
use Rattle.flow_core.specs.Graph.{KeepsEntryValues}
use Rattle.bpl_model.specs.Numbering.{first_own, olds_of}
use Rattle.bpl_model.specs.Typed.{IsTypedModule}
use Rattle.bpl_blocks.specs.Blocks.{to_blocks}
use Rattle.bpl_blocks.specs.Kept.{KeepsFailures}
use Rattle.bpl_blocks.proofs.EntryValues.{replaced_keeps}
use Rattle.bpl_blocks.proofs.ReplacedKept.{replaced_failures}
use Rattle.bpl_blocks.proofs.graph.procedure_graph.Goals as goal

keeps : (c : goal.After-of-2) → KeepsEntryValues c.of.result c.of-2.result
keeps c =
    let m = c.args.links.now in
    let typed = subst IsTypedModule c.parts-parts.ensures.same c.parts-parts.ensures.typed in
    let blocks = c.of.ensures ∙ c.in_ok-blocks.ensures in
    let olds = c.of-2.ensures ∙ (c.in_ok-olds.ensures ∙ ap olds_of c.parts-parts.ensures.same) in
    subst (λ bs. KeepsEntryValues bs c.of-2.result) (sym blocks) (subst (KeepsEntryValues _) (sym olds) (replaced_keeps m c.args.p.now typed c.requires))

pub new-requires-clause-paired_once : goal.new-requires-clause-paired_once
new-requires-clause-paired_once c = (keeps c).paired_once

pub new-requires-clause-never_set : goal.new-requires-clause-never_set
new-requires-clause-never_set c = (keeps c).never_set

pub new-requires-clause-never_target : goal.new-requires-clause-never_target
new-requires-clause-never_target c = (keeps c).never_target

pub returns-clause-kept : goal.returns-clause-kept
returns-clause-kept c =
    let m = c.args.links.now in
    let p = c.args.p.now in
    let same = c.parts-parts.ensures.same in
    let graph : c.new.result ≡ to_blocks m p =
    c.new.ensures ∙ (λ i. record {
      blocks = (c.of.ensures ∙ c.in_ok-blocks.ensures) i;
      own = (c.in_ok-own.ensures ∙ ap (λ n. first_own n p) same) i;
      olds = (c.of-2.ensures ∙ (c.in_ok-olds.ensures ∙ ap olds_of same)) i;
    }) in
    subst (KeepsFailures m p) (sym graph) (replaced_failures m p (subst IsTypedModule same c.parts-parts.ensures.typed) c.requires)
