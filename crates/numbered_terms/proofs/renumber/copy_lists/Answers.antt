use Rattle.std.proofs.Common.{◌∙◌, ℕ, Vec}
use Rattle.std.specs.declared.alloc.Global.{Global}
use Rattle.numbered_terms.proofs.Mapping.{map_next_over}
use Rattle.numbered_terms.proofs.renumber.copy_lists.Goals as goal

pub loop-list-preserved : goal.loop-list-preserved
loop-list-preserved c = map_next_over (λ (w : Vec ℕ Global). w.items) (λ (w : Vec ℕ Global). w.items) c.args.lists.now _ _ c.loop-list.list-index c.list-item.result _ c.loop-list-test.true c.list-item.is c.in_ok-push.ensures.items c.loop-list.invariant
    (c.in_ok-copy_numbers.ensures ∙ c.deref.ensures.value)
