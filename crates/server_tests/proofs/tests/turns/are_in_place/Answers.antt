use Rattle.std.proofs.Common.{rules, None, refl, sym, ◌∙◌, append-nil}
use Rattle.server_tests.proofs.Pushing.{pushed}
use Rattle.server_tests.proofs.tests.turns.are_in_place.Goals as goal

pub leave-requires-clause-entry : goal.leave-requires-clause-entry
leave-requires-clause-entry g c = (None, λ log fit. pushed _ _ log _ None None refl (search rules ∙ sym (append-nil _)) fit.0)
