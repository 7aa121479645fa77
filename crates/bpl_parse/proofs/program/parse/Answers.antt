use Rattle.bpl_parse.proofs.Exactly.{spelled, refused}
use Rattle.bpl_parse.proofs.program.parse.Goals as goal

pub returns-in_err-decls-clause-err : goal.returns-in_err-decls-clause-err
returns-in_err-decls-clause-err c = refused c.args.text.now c.from_residual.result c.in_err-decls.field-0.0 c.from_residual.ensures.1 c.in_err-decls.ensures

pub returns-clause-ok : goal.returns-clause-ok
returns-clause-ok c = spelled c.args.text.now c.in_ok-decls.decls.items c.in_ok-decls.ensures
