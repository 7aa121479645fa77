use Rattle.std.proofs.Common.{length}
use Rattle.edit_session.proofs.revising.+reopen_with.Given as goal

abbrev pub decreases-reopen_with : goal.decreases-reopen_with
decreases-reopen_with g l = length l.revisions.now.items
