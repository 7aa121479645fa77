use Rattle.bpl_sorts.proofs.declared_types.types_over.Goals as goal

pub returns : goal.returns
returns c = record {
  consts = c.in_ok-consts.ensures;
  globals = c.in_ok-globals.ensures;
  functions = c.in_ok-funcs.ensures;
  procs = c.in_ok-procs.ensures;
}
