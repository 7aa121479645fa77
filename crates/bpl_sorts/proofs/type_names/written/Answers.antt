use Rattle.bpl_sorts.proofs.NestedTypes.{written_is}
use Rattle.bpl_sorts.proofs.type_names.written.Goals as goal

pub returns : goal.returns
returns c = λ f. written_is f c.args.of.now _ _ _ c.in_ok-maps.ensures c.innermost-inner.ensures c.end_of-end.ensures
