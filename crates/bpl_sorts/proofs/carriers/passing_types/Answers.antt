use Rattle.std.proofs.lemmas.Result.{IfOk-weaker}
use Rattle.bpl_sorts.specs.DeclaredTypes.{declared_types}
use Rattle.bpl_sorts.specs.TypesView.{IsListed, AreItsTypes}
use Rattle.bpl_sorts.proofs.TypedModules.{passing_typed}
use Rattle.bpl_sorts.proofs.AnsweredTypes.{answered}
use Rattle.bpl_sorts.proofs.carriers.passing_types.Goals as goal

pub returns-clause-typed : goal.returns-clause-typed
returns-clause-typed c = IfOk-weaker c.declared_types.result (IsListed (declared_types c.args.program.now)) (AreItsTypes c.args.program.now)
    (λ a l. answered c.args.program.now a (passing_typed c.args.program.now c.requires.faultless c.requires.passing) l) c.declared_types.ensures
