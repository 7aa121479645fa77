use Rattle.rebuild_laws.proofs.OneForm.{one_form}
use Rattle.rebuild_laws.proofs.laws.renamed_have_one_form.Goals as goal

pub returns : goal.returns
returns c = one_form
