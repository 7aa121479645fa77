use Rattle.std.proofs.Common.{sym, subst}
use Rattle.bpl_model.specs.Typed.{IsTypedModule}
use Rattle.body_revision.proofs.PutBack.{empty_typed}
use Rattle.body_revision.proofs.putting.empty_module.Goals as goal

pub new-requires : goal.new-requires
new-requires c = subst IsTypedModule (sym (λ i. record {
  consts = c.new-consts.ensures.items i;
  axioms = c.new-axioms.ensures.items i;
  functions = c.new-functions.ensures.items i;
  globals = c.new-globals.ensures.items i;
  procs = c.new-procs.ensures.items i;
  texts = c.new-texts.ensures.items i;
})) empty_typed
