use Rattle.program_tests.proofs.tests.passes.passive_form_of.Goals as goal

pub to_blocks-requires : goal.to_blocks-requires
to_blocks-requires c = record { from = c.args.proc.now; there = c.requires.there; no_goto = c.requires.no_goto; same = c.in_ok-replaced.ensures.exact }
