use Rattle.rebuild_laws.proofs.OneForm.{one_form_with_triggers}
use Rattle.rebuild_laws.proofs.laws.renamed_have_one_form_with_triggers.Goals as goal

pub returns : goal.returns
returns c = one_form_with_triggers
