use Rattle.std.proofs.Common.{◌≡◌, drop}
use Rattle.std.specs.List.{list_all}
use Rattle.bpl_model.specs.TypedTest.{is_spec}
use Rattle.bpl_typing.proofs.statements.Scope.are_specs.Given as goal

abbrev pub invariant-loop-spec : goal.invariant-loop-spec
invariant-loop-spec l = list_all (is_spec l.self.defs.now l.self.vars.now) (drop l.spec-index l.specs) ≡ list_all (is_spec l.self.defs.now l.self.vars.now) l.specs
