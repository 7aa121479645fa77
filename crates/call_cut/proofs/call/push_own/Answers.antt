use Rattle.std.proofs.Common.{◌≡◌, ap, ◌∙◌, subst}
use Rattle.std.specs.Prelude.{OnOk}
use Rattle.bpl_model.specs.Module.{Proc}
use Rattle.call_cut.proofs.Pieces.{own_made}
use Rattle.call_cut.proofs.call.push_own.Goals as goal

pub returns : goal.returns
returns c =
    subst (λ e. OnOk c.push_results.result (c.push_results.new.own.items ≡ e))
    (own_made c.args.parts.now c.args.callee.now c.args.n c.requires.typed c.args.table.now c.args.changed.now c.requires.called c.requires.may
    c.args.own.now.items c.push_owned.new.own.items c.push_owned_globals.new.own.items c.deref.result.now c.deref-2.result.now
    (c.deref.ensures.value ∙ ap (λ (r : Proc). r.ins) c.callee.view_is) (c.deref-2.ensures.value ∙ ap (λ (r : Proc). r.outs) c.callee.view_is) c.in_ok-push_owned.ensures c.in_ok-push_owned_globals.ensures)
    c.push_results.ensures
