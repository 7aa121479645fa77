use Rattle.std.proofs.Common.{◌≡◌, ◌∙◌, ap, suc}
use Rattle.std.proofs.lemmas.Result.{IfOk-weaker}
use Rattle.bpl_sorts.specs.TypeNames.{type_after}
use Rattle.bpl_sorts.specs.TypeShapes.{nested, walk_type}
use Rattle.bpl_sorts.proofs.type_names.TypeNames.further.Goals as goal

pub returns : goal.returns
returns c = λ m. IfOk-weaker c.within.result (λ w. walk_type (type_after c.args.self.now m) w ≡ nested c.args.maps (walk_type (type_after c.args.self.now m) c.in_ok-found.found))
    (λ w. walk_type (type_after c.args.self.now m) w ≡ nested c.args.maps (type_after c.args.self.now (suc m) c.args.name.now))
    (λ w h. h ∙ ap (λ t. nested c.args.maps t) (c.in_ok-found.ensures m)) (c.within.ensures (type_after c.args.self.now m))
