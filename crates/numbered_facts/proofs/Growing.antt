-- Stores that go on.
use Rattle.std.proofs.Common.{◌≡◌, refl, ◌∙◌, subst, List}
use Rattle.logic_core.specs.Tree.{Tree}
use Rattle.term_bank.specs.Numbered.{Begins}
use Rattle.term_bank.proofs.Numbers.{begins_same, begins_then}
use Rattle.numbered_terms.specs.Stored.{Numbered, Grows}

pub same : (n : Numbered) → Grows n n
same n = record { terms = begins_same n.terms; vars = refl; defs = refl }

pub then : (n m o : Numbered) → Grows n m → Grows m o → Grows n o
then n m o g h = record { terms = begins_then n.terms m.terms o.terms g.terms h.terms; vars = h.vars ∙ g.vars; defs = h.defs ∙ g.defs }

-- a store that was opened and stays, and one whose terms go on
pub stays : (n m : Numbered) → n ≡ m → Grows m n
stays n m e = subst (λ k. Grows k n) e (same n)

pub goes_on : (n m : Numbered) (us : List Tree) → n ≡ m → Begins n.terms us → Grows m (record { terms = us; vars = n.vars; defs = n.defs })
goes_on n m us e b = subst (λ k. Grows k (record { terms = us; vars = n.vars; defs = n.defs })) e (record { terms = b; vars = refl; defs = refl })
