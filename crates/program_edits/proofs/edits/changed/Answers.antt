use Rattle.std.proofs.Common.{map, string_bytes, sym, subst}
use Rattle.std.proofs.lemmas.Result.{IfErr-weaker}
use Rattle.request_text.specs.RequestView.{put_view}
use Rattle.program_edits.specs.Refusals.{Tells, reading}
use Rattle.program_edits.proofs.Steps.{changed_none}
use Rattle.program_edits.proofs.edits.changed.Goals as goal

pub returns-clause-err : goal.returns-clause-err
returns-clause-err c =
    let same = changed_none reading c.args.old.now (map put_view c.args.puts.now) (map string_bytes c.args.drops.now) c.in_ok-present.present c.in-None.ensures c.in_ok-present.ensures in
    IfErr-weaker c.after_puts.result _ _ (λ fault h. subst (Tells fault) (sym same) h) c.after_puts.ensures.err
