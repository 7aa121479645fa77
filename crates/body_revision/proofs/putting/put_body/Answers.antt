use Rattle.body_revision.proofs.PutBack.{function_back, function_there}
use Rattle.body_revision.proofs.putting.put_body.Goals as goal

pub returns-clause-places : goal.returns-clause-places
returns-clause-places c =
    let put = c.put_function-before in
    function_there c.args.typed.now c.put_function-before.new.typed c.args.at c.args.decl_at c.args.declared.text put.result.text put.ensures.text put.result.body c.args.declared.body put.ensures.put put.ensures.body c.requires.functions c.requires.texts

pub returns-clause-back : goal.returns-clause-back
returns-clause-back c =
    let put = c.put_function-before in
    function_back c.args.typed.now c.put_function-before.new.typed c.args.at c.args.decl_at c.args.declared.text put.result.text put.ensures.text put.result.body c.args.declared.body put.ensures.put put.ensures.body
