use Rattle.std.proofs.Common.{rules, sym, ◌∙◌}
use Rattle.vc_build.specs.Rebuild.{BuiltProc}
use Rattle.board_core.proofs.Keys.{same_key}
use Rattle.board_core.proofs.Differing.{starts_more}
use Rattle.edit_session.proofs.changed.common_start.Goals as goal

pub loop-at-preserved : goal.loop-at-preserved
loop-at-preserved c =
    let same = same_key c.index-old-at.result.depends c.index-new-at.result.depends (sym c.has_text_of.ensures ∙ c.if-not-has_text_of.false) in
    starts_more (λ (b : BuiltProc). b.depends) c.args.old.now c.args.new.now c.loop-at.at c.index-old-at.result c.index-new-at.result (search rules) (search rules) (search rules) (search rules) same c.loop-at.invariant
