-- What the law of revisions says.
use Rattle.std.specs.Prelude.{◌≡◌, ℕ, List, None}
use Rattle.bpl_ast.specs.Statement.{Decl}
use Rattle.bpl_declaration_faults.specs.DeclFaults.{fault_of}
use Rattle.bpl_resolve.specs.Elaborate.{module_of}
use Rattle.body_revision.specs.Revision.{AreNew, all_put, all_revised}
use Rattle.body_revision.specs.declared.revised.Revision.{Revision}

-- Revisions, each without a fault of its own, leave a program without faults so, and its module has what is new of each.
abbrev pub RevisionsGoTogether : Type 0
RevisionsGoTogether = (ds : List Decl) (cs : List (ℕ × Decl)) (rs : List Revision) → fault_of ds ≡ None → AreNew ds cs rs
    → (fault_of (all_put ds cs) ≡ None) × (module_of (all_put ds cs) ≡ all_revised (module_of ds) rs)
