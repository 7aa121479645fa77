use Rattle.std.proofs.Common.{sym, ◌∙◌}
use Rattle.body_revision.proofs.FoundPlaces.{procedure_there}
use Rattle.body_revision.proofs.module.part_of.Goals as goal

pub procedure_part-requires-clause-there : goal.procedure_part-requires-clause-there
procedure_part-requires-clause-there c =
    (procedure_there c.args.decls.now c.args.at c.args.decl.now c.in-Some.place (sym c.procedure_place.ensures ∙ c.in-Some.is) c.requires.there).0

pub procedure_part-requires-clause-procedure : goal.procedure_part-requires-clause-procedure
procedure_part-requires-clause-procedure c =
    (procedure_there c.args.decls.now c.args.at c.args.decl.now c.in-Some.place (sym c.procedure_place.ensures ∙ c.in-Some.is) c.requires.there).1
