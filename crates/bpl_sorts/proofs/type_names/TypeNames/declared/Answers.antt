use Rattle.std.proofs.Common.{◌≡◌, ◌∙◌, sym, suc}
use Rattle.std.proofs.lemmas.Result.{IfOk-weaker}
use Rattle.bpl_sorts.specs.TypeNames.{type_after}
use Rattle.bpl_sorts.specs.TypeShapes.{walk_type, step_type}
use Rattle.bpl_sorts.proofs.type_names.TypeNames.declared.Goals as goal

pub returns : goal.returns
returns c = λ m. IfOk-weaker c.walk_of.result (λ w. walk_type (type_after c.args.self.now m) w ≡ step_type (type_after c.args.self.now m) c.step-step.result)
    (λ w. walk_type (type_after c.args.self.now m) w ≡ type_after c.args.self.now (suc m) c.args.name.now)
    (λ w h. h ∙ sym (c.step-step.ensures m)) (c.walk_of.ensures (type_after c.args.self.now m))
