use Rattle.std.proofs.Common.{◌≡◌, ◌∙◌}
use Rattle.bpl_dependencies.specs.AppliedView.{texts_seen}
use Rattle.bpl_declaration_faults.specs.DeclFaults.{same_texts}
use Rattle.body_revision.proofs.values.same_applied.Goals as goal

pub returns : goal.returns
returns c = c.same_texts.ensures ∙ (λ i. same_texts (texts_seen (c.deref.ensures.value i)) (texts_seen (c.deref-2.ensures.value i))) ∙ (λ i. same_texts (c.in_ok-own.ensures i) (c.in_ok-others.ensures i))
