-- Terms that join others.
use Rattle.std.proofs.lemmas.List.{append_assoc, map-append}

pub ruleset pushed = (append_assoc, map-append)
