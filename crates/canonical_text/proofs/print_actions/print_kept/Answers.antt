use Rattle.canonical_text.proofs.WrittenLines.{adds}
use Rattle.canonical_text.proofs.print_actions.print_kept.Goals as goal

pub returns : goal.returns
returns c = rw (← c.found.view_is) (adds c.print_free.ensures c.print_claim.ensures)
