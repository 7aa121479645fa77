-- What terms and what is reached don't depend on, and where reaching ends.
use Rattle.std.specs.Prelude.{◌≡◌, ℕ, ◌<◌, Bool, IsTrue, length}
use Rattle.bpl_ast.specs.Tree.{Expr}
use Rattle.bpl_scopes.specs.Scopes.{Scope}
use Rattle.bpl_terms.specs.Terms.{term_in}
use Rattle.canonical_text.specs.Same.{Same}
use Rattle.bpl_model.specs.Module.{Proc, Module}
use Rattle.bpl_model.specs.Reach.{among, leads_to, reached_by}

-- expressions that are the same but for places have one term, inside `old` or not
abbrev pub SameExpressionsHaveOneTerm : Type 0
SameExpressionsHaveOneTerm = (s : Scope) (in_old : Bool) (x y : Expr) → Same x y → term_in s in_old x ≡ term_in s in_old y

-- what a declaration that a procedure reaches leads to is reached
abbrev pub WhatIsReachedIsClosed : Type 0
WhatIsReachedIsClosed = (m : Module) (p : Proc) (d : ℕ) → d < length m.texts → IsTrue (leads_to m (reached_by m p) d) → IsTrue (among (reached_by m p) d)
