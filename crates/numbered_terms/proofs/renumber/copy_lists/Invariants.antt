use Rattle.std.proofs.Common.{◌≡◌, map, take, ℕ, Vec}
use Rattle.std.specs.declared.alloc.Global.{Global}
use Rattle.numbered_terms.proofs.renumber.copy_lists.Given as goal

abbrev pub invariant-loop-list : goal.invariant-loop-list
invariant-loop-list l = map (λ (w : Vec ℕ Global). w.items) l.all.items ≡ map (λ (w : Vec ℕ Global). w.items) (take l.list-index l.lists)
