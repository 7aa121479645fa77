-- Labels stand before one statement alone.
use Rattle.std.specs.Prelude.{◌≡◌, refl, List, [], ◌∷◌, length}
use Rattle.bpl_model.specs.Module.{Name, Stmt}
use Rattle.bpl_model.specs.StmtView.{stmts_of}
use Rattle.bpl_model.specs.Cut.{with_labels}

pub before_none : (ls : List Name) (ss : List Stmt) → ¬ (length ss ≡ 1) → with_labels ls (stmts_of ss) ≡ stmts_of ss
before_none ls [] h = refl
before_none ls (s ∷ []) h = absurd (h refl)
before_none ls (s ∷ t ∷ ss) h = refl
