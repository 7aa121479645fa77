use Rattle.program_edits.proofs.Steps.{put_next, put_stops, put_all}
use Rattle.program_edits.proofs.puts.put_decls.Goals as goal

pub loop-put-preserved : goal.loop-put-preserved
loop-put-preserved c =
    put_next c.loop-put.found.items c.args.puts.now c.loop-put.put-index _ c.loop-put.invariant c.put-item.result c.loop-put-test.true c.put-item.is c.push.new.self.items c.in_ok-put_decl.field-0
    c.in_ok-push.ensures.items c.in_ok-put_decl.ensures.ok

pub returns-in_err-put_decl-clause-err : goal.returns-in_err-put_decl-clause-err
returns-in_err-put_decl-clause-err c =
    put_stops c.loop-put.found.items c.args.puts.now c.loop-put.put-index _ c.loop-put.invariant c.put-item.result c.loop-put-test.true c.put-item.is c.from_residual.result
    c.in_err-put_decl.field-0.0 c.from_residual.ensures.1 c.in_err-put_decl.ensures.err

pub returns-clause-ok : goal.returns-clause-ok
returns-clause-ok c = put_all c.loop-put.found.items c.args.puts.now c.loop-put.put-index _ c.loop-put.invariant c.loop-put-test.false
