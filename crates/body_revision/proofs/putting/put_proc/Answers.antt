use Rattle.body_revision.proofs.PutBack.{procedure_back, procedure_there}
use Rattle.body_revision.proofs.putting.put_proc.Goals as goal

pub returns-clause-places : goal.returns-clause-places
returns-clause-places c =
    let put = c.put_procedure-before in
    procedure_there c.args.typed.now c.put_procedure-before.new.self c.args.at c.args.decl_at c.args.declared.text put.result.text put.ensures.text c.args.declared.proc put.result.proc put.ensures.put put.ensures.proc c.requires.procs c.requires.texts

pub returns-clause-back : goal.returns-clause-back
returns-clause-back c =
    let put = c.put_procedure-before in
    procedure_back c.args.typed.now c.put_procedure-before.new.self c.args.at c.args.decl_at c.args.declared.text put.result.text put.ensures.text c.args.declared.proc put.result.proc put.ensures.put put.ensures.proc
