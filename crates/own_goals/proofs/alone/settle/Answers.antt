use Rattle.std.proofs.Common.{◌≡◌, ◌∙◌, ap, sym, subst, refl, map, length}
use Rattle.std.specs.Arc.{arc_value}
use Rattle.std.proofs.lemmas.List.{length-map}
use Rattle.obligation_text.specs.Asked.{key_of}
use Rattle.tableau.specs.Settled.{settled_by}
use Rattle.board_core.specs.Kept.{kept_at}
use Rattle.own_goals.specs.Standing.{StillStand}
use Rattle.goal_board.proofs.ByItself.{alone_settled, alone_answers, worked_alone, on_any_err}
use Rattle.own_goals.proofs.Rounds.{settled_work}
use Rattle.own_goals.proofs.Standing.{all_stand}
use Rattle.own_goals.proofs.alone.settle.Goals as goal

pub returns-in_err-settle_all-clause-memory : goal.returns-in_err-settle_all-clause-memory
returns-in_err-settle_all-clause-memory c = on_any_err c.from_residual.result (worked_alone c.args.board.now c.settle_all.new.board _ _ c.in_err-settle_all.ensures.memory)

pub returns-in_err-answers-clause-memory : goal.returns-in_err-answers-clause-memory
returns-in_err-answers-clause-memory c = on_any_err c.from_residual-in_err-answers.result (settled_work c.args.board.now c.settle_all.new.board c.in_ok-settle_all.ensures.settled)

pub returns-clause-settled : goal.returns-clause-settled
returns-clause-settled c =
    let t = c.settle_all.new.board in
    alone_settled c.args.board.now t (map (kept_at t.kept) t.present) (map arc_value c.in_ok-answers.answers.items) c.in_ok-settle_all.ensures.settled refl c.in_ok-answers.ensures

pub returns-clause-answers : goal.returns-clause-answers
returns-clause-answers c qs keys =
    let t = c.settle_all.new.board in
    alone_answers c.keys_tell_apart.ensures c.args.board.now t (map (kept_at t.kept) t.present) (map arc_value c.in_ok-answers.answers.items) qs c.is_sound.ensures c.in_ok-settle_all.ensures.settled refl c.in_ok-answers.ensures keys

pub returns-in_err-told-clause-memory : goal.returns-in_err-told-clause-memory
returns-in_err-told-clause-memory c = on_any_err c.from_residual-in_err-told.result (settled_work c.args.board.now c.settle_all.new.board c.in_ok-settle_all.ensures.settled)

pub kept_answers-requires-clause-stand : goal.kept_answers-requires-clause-stand
kept_answers-requires-clause-stand c =
    subst (λ ks. StillStand ks (map arc_value c.args.told.now.answers.items) c.args.told.now.first c.args.told.now.last) (sym c.in_ok-settle_all.ensures.settled.same.present) c.requires.stand

pub returns-in_err-settle_all-clause-stand : goal.returns-in_err-settle_all-clause-stand
returns-in_err-settle_all-clause-stand c =
    subst (λ ks. StillStand ks (map arc_value c.args.told.now.answers.items) c.args.told.now.first c.args.told.now.last) (sym c.in_err-settle_all.ensures.memory.same.present) c.requires.stand

pub returns-in_err-answers-clause-stand : goal.returns-in_err-answers-clause-stand
returns-in_err-answers-clause-stand c =
    subst (λ ks. StillStand ks (map arc_value c.args.told.now.answers.items) c.args.told.now.first c.args.told.now.last) (sym c.in_ok-settle_all.ensures.settled.same.present) c.requires.stand

pub returns-in_err-told-clause-stand : goal.returns-in_err-told-clause-stand
returns-in_err-told-clause-stand c =
    subst (λ ks. StillStand ks (map arc_value c.args.told.now.answers.items) c.args.told.now.first c.args.told.now.last) (sym c.in_ok-settle_all.ensures.settled.same.present) c.requires.stand

pub returns-clause-stand : goal.returns-clause-stand
returns-clause-stand c =
    let s = c.args.board.now in
    let t = c.settle_all.new.board in
    let qs = c.requires.stand.questions in
    let told = map arc_value c.in_ok-told.field-0.answers.items in
    let answered : map arc_value c.in_ok-answers.answers.items ≡ map settled_by qs =
    alone_answers c.keys_tell_apart.ensures s t (map (kept_at t.kept) t.present) (map arc_value c.in_ok-answers.answers.items) qs c.is_sound.ensures c.in_ok-settle_all.ensures.settled refl c.in_ok-answers.ensures c.requires.stand.asked in
    let shared : told ≡ map arc_value c.in_ok-answers.answers.items = c.in_ok-told.ensures.answers ∙ ap (map arc_value) c.deref-2.ensures.value in
    let many : length told ≡ length c.deref-2.result.now = ap length c.in_ok-told.ensures.answers ∙ length-map c.deref-2.result.now arc_value in
    rw (c.in_ok-told.ensures.first, c.in_ok-told.ensures.last)
    (all_stand t.present qs told (length c.deref-2.result.now) (c.in_ok-settle_all.ensures.settled.same.present ∙ c.requires.stand.asked) (shared ∙ answered) (sym many))
