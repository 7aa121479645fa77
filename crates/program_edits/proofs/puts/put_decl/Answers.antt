use Rattle.std.proofs.Common.{ℕ, List, rules, subst}
use Rattle.std.proofs.lemmas.Result.{IfOk-weaker, IfErr-weaker}
use Rattle.bpl_parse.specs.Program.{IsFaultOf}
use Rattle.request_text.specs.RequestView.{put_view}
use Rattle.program_edits.proofs.Steps.{put_ok, put_err, put_faulty}
use Rattle.program_edits.proofs.puts.put_decl.Goals as goal

pub returns-in-Ok-clause-ok : goal.returns-in-Ok-clause-ok
returns-in-Ok-clause-ok c =
    IfOk-weaker c.one_of_name.result _ _ (λ d h. put_ok (put_view c.args.put.now) c.as_bytes.result.now c.as_str.result.now c.in-Ok.decls.items d c.as_bytes.ensures.value c.as_str.ensures.value c.in-Ok.ensures.ok h) c.one_of_name.ensures.ok

pub returns-in-Ok-clause-err : goal.returns-in-Ok-clause-err
returns-in-Ok-clause-err c =
    IfErr-weaker c.one_of_name.result _ _ (λ fault h. put_err (put_view c.args.put.now) c.as_bytes.result.now c.as_str.result.now c.in-Ok.decls.items fault c.as_bytes.ensures.value c.as_str.ensures.value c.in-Ok.ensures.ok h) c.one_of_name.ensures.err

pub returns-in-Err : goal.returns-in-Err
returns-in-Err c = record {
  ok = tt;
  err = put_faulty (put_view c.args.put.now) c.in-Err.fault c.faulty_put.result (search rules) (subst (λ (xs : List ℕ). IsFaultOf xs c.in-Err.fault) c.as_bytes.ensures.value c.in-Err.ensures.err) c.faulty_put.ensures;
}
