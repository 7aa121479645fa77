use Rattle.std.proofs.Common.{◌≡◌, ◌∙◌, ap, sym, subst, map, arith, refl, length}
use Rattle.std.specs.Arc.{arc_value}
use Rattle.obligation_text.specs.Asked.{key_of}
use Rattle.board_core.specs.Difference.{IsDifference}
use Rattle.goal_board.specs.Calls.{Board}
use Rattle.own_goals.specs.Standing.{StillStand}
use Rattle.own_goals.proofs.Recalled.{asked_again}
use Rattle.own_goals.proofs.Standing.{stand_after, key_count}
use Rattle.own_goals.proofs.alone.open_noting.Goals as goal

pub open_between-requires-clause-differ : goal.open_between-requires-clause-differ
open_between-requires-clause-differ c =
    subst (λ ks. IsDifference ks (map (λ q. key_of (arc_value q)) c.args.questions.items) c.between-at.result.start c.between-at.result.old_end c.between-at.result.new_end) c.questions-before.ensures
    (subst (λ qs. IsDifference (map (λ q. key_of (arc_value q)) c.questions-before.result.now) (map (λ q. key_of (arc_value q)) qs) c.between-at.result.start c.between-at.result.old_end c.between-at.result.new_end) c.deref.ensures.value c.between-at.ensures)

pub returns-clause-stand : goal.returns-clause-stand
returns-clause-stand c =
    let opened : c.open_between.new.self.present ≡ map (λ q. key_of (arc_value q)) c.args.questions.items = ap (λ (b : Board). b.present) c.in_ok-opened.ensures.step.0 in
    let differ : IsDifference c.args.board.now.present c.open_between.new.self.present c.between-at.result.start c.between-at.result.old_end c.between-at.result.new_end =
    subst (λ ks. IsDifference c.args.board.now.present ks c.between-at.result.start c.between-at.result.old_end c.between-at.result.new_end) (sym opened)
    (subst (λ ks. IsDifference ks (map (λ q. key_of (arc_value q)) c.args.questions.items) c.between-at.result.start c.between-at.result.old_end c.between-at.result.new_end) c.questions-before.ensures
    (subst (λ qs. IsDifference (map (λ q. key_of (arc_value q)) c.questions-before.result.now) (map (λ q. key_of (arc_value q)) qs) c.between-at.result.start c.between-at.result.old_end c.between-at.result.new_end) c.deref.ensures.value c.between-at.ensures)) in
    let counted : length c.args.board.now.present ≡ length c.questions-before.result.now = ap length (sym c.questions-before.ensures) ∙ key_count arc_value c.questions-before.result.now in
    let first = c.min-told.ensures in
    let last = c.min-told-2.ensures in
    let left = c.saturating_sub.ensures in
    stand_after c.keys_tell_apart.ensures c.args.board.now.present c.open_between.new.self.present (map arc_value c.args.told.now.answers.items) (map arc_value c.args.questions.items)
    c.args.told.now.first c.args.told.now.last c.between-at.result.start c.between-at.result.old_end c.between-at.result.new_end _ _
    c.requires.stand differ (opened ∙ asked_again arc_value c.args.questions.items c.args.questions.items refl)
    (omega (arith, first)) (omega (arith, first)) (omega (arith, last)) (omega (arith, last, left, counted))

pub returns-in_err-opened-clause-stand : goal.returns-in_err-opened-clause-stand
returns-in_err-opened-clause-stand c =
    subst (λ (b : Board). StillStand b.present (map arc_value c.args.told.now.answers.items) c.args.told.now.first c.args.told.now.last) (sym c.in_err-opened.ensures.memory) c.requires.stand
