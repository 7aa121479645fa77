use Rattle.std.proofs.Common.{◌-◌, rules, refl, length, sym, ◌∙◌}
use Rattle.vc_build.specs.Rebuild.{BuiltProc}
use Rattle.board_core.proofs.Keys.{same_key}
use Rattle.board_core.proofs.Differing.{ends_more}
use Rattle.edit_session.proofs.changed.common_end.Goals as goal

pub loop-at-preserved : goal.loop-at-preserved
loop-at-preserved c =
    let same = same_key c.index-old-old.result.depends c.index-new-new.result.depends (sym c.has_text_of.ensures ∙ c.if-not-has_text_of.false) in
    ends_more (λ (b : BuiltProc). b.depends) c.args.old.now c.args.new.now c.loop-at.at (length c.args.old.now - 1 - c.loop-at.at) (length c.args.new.now - 1 - c.loop-at.at) c.index-old-old.result c.index-new-new.result (search rules) (search rules) refl refl (search rules) (search rules) same c.loop-at.invariant
