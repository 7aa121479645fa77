use Rattle.std.proofs.Common.{map, string_bytes, ap, ◌∙◌}
use Rattle.std.proofs.lemmas.Result.{IfOk-weaker}
use Rattle.program_edits.specs.Edited.{numbered}
use Rattle.program_edits.proofs.Steps.{applied_is}
use Rattle.program_edits.proofs.places.applied.Goals as goal

pub returns : goal.returns
returns c =
    let same = applied_is c.deref.result.now c.in_ok-chosen.chosen.items c.add_new.new.found.items c.args.present.now c.in_ok-dropped.dropped (map string_bytes c.args.drops.now) c.args.old.now c.args.puts.now
    c.deref.ensures.value c.in_ok-add_new.ensures c.in_ok-chosen.ensures c.in_ok-dropped.ensures c.requires in
    IfOk-weaker c.numbered.result _ _ (λ v h. h ∙ ap (numbered 0) same) c.numbered.ensures
