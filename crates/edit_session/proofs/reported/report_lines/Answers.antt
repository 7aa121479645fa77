use Rattle.std.proofs.Common.{◌∙◌, ◌++◌, sym, ap, length, map, string_bytes}
use Rattle.std.specs.Arc.{arc_value}
use Rattle.tableau.specs.Settled.{Settled}
use Rattle.edit_session.specs.Built.{told_lines}
use Rattle.edit_session.proofs.Parts.{as_many, answered_lines}
use Rattle.edit_session.proofs.reported.report_lines.Goals as goal

pub push_all-requires : goal.push_all-requires
push_all-requires c = as_many arc_value c.args.turns c.args.procs.now c.args.answers.items c.requires ∙ ap length (sym c.as_slice.ensures.value)

pub returns : goal.returns
returns c =
    let procs = c.args.procs.now in
    c.in_ok-push_all.ensures
    ∙ (λ i. map string_bytes (c.in_ok-lines.ensures.items i) ++ told_lines procs (map (λ a. (arc_value {X = Settled} a).verdict) (c.as_slice.ensures.value i)))
    ∙ answered_lines arc_value c.args.turns procs c.args.answers.items c.requires
