-- What a program declares, and the faults of a declaration by itself.
use Rattle.std.specs.Prelude.{◌≡◌, List, Option}
use Rattle.bpl_ast.specs.Statement.{DeclBody, Decl}
use Rattle.bpl_scopes.specs.declared.fault.Fault.{Fault}
use Rattle.bpl_scopes.specs.Fault.{first_fault}
use Rattle.bpl_scopes.specs.Functions.{in_number_order}
use Rattle.bpl_scopes.specs.Scopes.{Table, table_of, Counts, no_counts, counts_after}
use Rattle.bpl_declaration_faults.specs.DeclFaults.{decl_faults, nothing_before}
use Rattle.body_revision.specs.declared.declared_names.DeclaredNames.{DeclaredNames}

-- two programs declare the same
pub record DeclareAlike (ds es : List Decl) : Type 0 where
  pub table : table_of ds ≡ table_of es
  pub counts : counts_after no_counts ds ≡ counts_after no_counts es

-- made of declarations that declare what the program does
pub record AreNamesOf (ds : List Decl) (n : DeclaredNames) : Type 0 where
  pub alike : DeclareAlike n.declarations ds
  pub order : n.order ≡ in_number_order (table_of ds)

-- the first fault of a declaration before which nothing stands
abbrev pub own_fault : Table → Counts → DeclBody → Option Fault
own_fault t c d = first_fault (decl_faults t c nothing_before d)
