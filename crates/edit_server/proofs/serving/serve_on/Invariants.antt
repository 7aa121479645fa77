use Rattle.turn_lock.specs.Lock.{above, splits}
use Rattle.edit_server.proofs.serving.serve_on.Given as goal

abbrev pub ghosts-run_in : goal.ghosts-run_in
ghosts-run_in g a = record { table = a.opener.table_id; known = above a.opener; parted = splits a.opener }
