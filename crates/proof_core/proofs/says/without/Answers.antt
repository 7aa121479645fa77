use Rattle.std.proofs.Common.{◌∙◌, sym, ap, cond, ◌++◌}
use Rattle.std.proofs.lemmas.List.{at_drop_all}
use Rattle.logic_core.specs.View.{parts_of}
use Rattle.proof_core.proofs.Without.{without_list, without_list_is, all_taken}
use Rattle.proof_core.proofs.says.without.Goals as goal

pub returns : goal.returns
returns c =
    let t = c.args.t.now in
    let taken = c.loop-part.others.items in
    let found = c.loop-part.found in
    let ended = at_drop_all (λ xs. taken ++ cond found xs (without_list t xs)) c.args.parts.now c.loop-part.part-index c.loop-part-test.false in
    ap parts_of (sym (all_taken t found taken) ∙ sym ended ∙ c.loop-part.invariant) ∙ without_list_is t c.args.parts.now
