use Rattle.std.proofs.Common.{ap, ◌∙◌, sym, [], ◌∷◌}
use Rattle.bpl_scopes.specs.CountsView.{counts_seen}
use Rattle.bpl_resolve.specs.Elaborate.{procs_in}
use Rattle.body_revision.specs.Procedures.{is_procedure}
use Rattle.body_revision.proofs.module.procedure_part.Goals as goal

pub procedure_of-requires-clause-body : goal.procedure_of-requires-clause-body
procedure_of-requires-clause-body c = ap is_procedure c.procedure_by-of.ensures ∙ c.requires.procedure

pub returns : goal.returns
returns c =
    let m = c.args.declared.now in
    record {
      place = c.args.place;
      found = c.requires.found;
      counted = c.count_procedures.ensures;
      made = sym (ap (procs_in (c.args.decl.now ∷ []) m.environment.now (counts_seen m.counts)) c.procedure_by-of.ensures) ∙ c.in_ok-proc.ensures;
    }
