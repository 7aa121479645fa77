use Rattle.bpl_parse.proofs.Exactly.{spells, has_fault}
use Rattle.bpl_parse.proofs.program.parse_decls.Goals as goal

pub returns-clause-ok : goal.returns-clause-ok
returns-clause-ok c = spells c.args.text.now c.read_all.result c.read_all.ensures

pub returns-clause-err : goal.returns-clause-err
returns-clause-err c = has_fault c.args.text.now c.read_all.result c.read_all.ensures
