use Rattle.std.proofs.Common.{refl, slice_range, length}
use Rattle.vc_build.specs.Rebuild.{BuiltProc}
use Rattle.board_core.proofs.Differing.{differ_between, last_part}
use Rattle.edit_session.proofs.changed.changed_between.Goals as goal

pub returns : goal.returns
returns c =
    let start = c.common_start-start in
    let same = c.common_end-same in
    differ_between (λ (b : BuiltProc). b.depends) c.args.old.now c.args.new.now (slice_range c.args.old.now start.result (length c.args.old.now)) (slice_range c.args.new.now start.result (length c.args.new.now)) start.result same.result _ _
    start.ensures.old start.ensures.new start.ensures.same (last_part c.args.old.now start.result) (last_part c.args.new.now start.result) same.ensures.old same.ensures.new same.ensures.same refl refl
