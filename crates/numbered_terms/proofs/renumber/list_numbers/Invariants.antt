use Rattle.std.proofs.Common.{◌≡◌, ◌∷◌, ◌++◌, drop}
use Rattle.term_bank.specs.Node.{in_lists}
use Rattle.numbered_terms.proofs.renumber.list_numbers.Given as goal

-- the numbers so far, and then those of the lists that are left
abbrev pub invariant-loop-list : goal.invariant-loop-list
invariant-loop-list l = l.numbers.items ++ in_lists (drop l.list-index l.lists) ≡ l.fn.body ∷ in_lists l.fn.lists
