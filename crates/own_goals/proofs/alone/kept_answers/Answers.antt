use Rattle.std.proofs.Common.{◌≡◌, ◌∙◌, sym, subst, map, refl}
use Rattle.std.specs.Arc.{arc_value}
use Rattle.std.proofs.lemmas.Result.{IfOk-weaker}
use Rattle.obligation_text.specs.Asked.{key_of}
use Rattle.own_goals.specs.Standing.{StillStand}
use Rattle.own_goals.proofs.Recalled.{shown_are, kept_are, asked_again}
use Rattle.own_goals.proofs.alone.kept_answers.Goals as goal

pub recalled-requires : goal.recalled-requires
recalled-requires c =
    let asked : c.args.board.now.present ≡ map key_of (map arc_value c.questions.result.now) = sym c.questions.ensures ∙ asked_again arc_value c.questions.result.now c.questions.result.now refl in
    subst (λ ks. StillStand ks (map arc_value c.args.told.now.answers.items) c.args.told.now.first c.args.told.now.last) asked c.requires.stand

pub returns-in-Some : goal.returns-in-Some
returns-in-Some c =
    let asked : c.args.board.now.present ≡ map key_of (map arc_value c.questions.result.now) = sym c.questions.ensures ∙ asked_again arc_value c.questions.result.now c.questions.result.now refl in
    (rw c.in-Some.is at c.in_ok-answers.ensures) ∙ sym (kept_are c.keys_tell_apart.ensures c.args.board.now (map arc_value c.questions.result.now) c.is_sound.ensures c.requires.kept asked)

pub returns-in_ok-shown-in-None : goal.returns-in_ok-shown-in-None
returns-in_ok-shown-in-None c =
    IfOk-weaker c.present_answers.result _ _ (λ v is. is ∙ shown_are c.args.board.now _ c.in_ok-shown-in-None.ensures.step.1) (rw c.deref.ensures.value at c.present_answers.ensures)
