use Rattle.server_tests.proofs.tests.reads.steps_are_counted_in_any_ledger.Given as goal

abbrev pub ghosts-two_steps : goal.ghosts-two_steps
ghosts-two_steps a = record { name = a.blank.name; parts = a.blank.parts }
