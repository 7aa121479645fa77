use Rattle.passive_form.proofs.laws.passify_keeps_failures.Goals as goal
use Rattle.passive_form.proofs.KeepsFailures.{passify_keeps_failures}

pub returns : goal.returns
returns c = passify_keeps_failures
