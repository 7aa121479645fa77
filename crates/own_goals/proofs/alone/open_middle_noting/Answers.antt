use Rattle.std.proofs.Common.{◌≡◌, ◌∙◌, ap, sym, subst, map, arith, refl}
use Rattle.std.specs.Arc.{arc_value}
use Rattle.obligation_text.specs.Asked.{key_of}
use Rattle.board_core.specs.Difference.{with_middle}
use Rattle.goal_board.specs.Calls.{Board}
use Rattle.own_goals.specs.Standing.{StillStand}
use Rattle.own_goals.proofs.Recalled.{asked_again}
use Rattle.own_goals.proofs.Standing.{stand_around}
use Rattle.own_goals.proofs.alone.open_middle_noting.Goals as goal

pub returns-clause-stand : goal.returns-clause-stand
returns-clause-stand c =
    let opened : c.open_middle.new.self.present ≡ with_middle c.args.first c.args.last (map (λ q. key_of (arc_value q)) c.args.middle.items) c.args.board.now.present = ap (λ (b : Board). b.present) c.in_ok-opened.ensures.step.0 in
    let first = c.min-told.ensures in
    let last = c.min-told-2.ensures in
    stand_around c.keys_tell_apart.ensures c.args.board.now.present c.open_middle.new.self.present (map arc_value c.args.told.now.answers.items) (map arc_value c.args.middle.items)
    c.args.told.now.first c.args.told.now.last c.args.first c.args.last _ _ c.requires.stand c.requires.within
    (opened ∙ ap (λ ks. with_middle c.args.first c.args.last ks c.args.board.now.present) (asked_again arc_value c.args.middle.items c.args.middle.items refl))
    (omega (arith, first)) (omega (arith, first)) (omega (arith, last)) (omega (arith, last))

pub returns-in_err-opened-clause-stand : goal.returns-in_err-opened-clause-stand
returns-in_err-opened-clause-stand c =
    subst (λ (b : Board). StillStand b.present (map arc_value c.args.told.now.answers.items) c.args.told.now.first c.args.told.now.last) (sym c.in_err-opened.ensures.memory) c.requires.stand
