use Rattle.std.proofs.Common.{◌≡◌, drop}
use Rattle.std.specs.List.{list_all}
use Rattle.bpl_model.specs.VariablesView.{variables_of}
use Rattle.bpl_model.specs.TypedTest.{is_typed_proc}
use Rattle.bpl_typing.proofs.parts.are_procs.Given as goal

abbrev pub invariant-loop-proc : goal.invariant-loop-proc
invariant-loop-proc l = list_all (λ p. is_typed_proc l.defs l.parts.procs (variables_of l.parts p) p) (drop l.proc-index l.procs) ≡ list_all (λ p. is_typed_proc l.defs l.parts.procs (variables_of l.parts p) p) l.procs
