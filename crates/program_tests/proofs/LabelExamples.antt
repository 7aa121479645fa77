-- Bodies with 500 and with 501 labels that gotos name, computed.
use Rattle.std.specs.Prelude.{◌≡◌, refl, ℕ, List, [], ◌∷◌, ◌++◌, map, codes, decimal, Some, None}
use Rattle.std.specs.List.{range_with_len}
use Rattle.std.specs.Fmt.{digits}
use Rattle.bv_base.specs.declared.place.Place.{Place}
use Rattle.bpl_ast.specs.Place.{Name}
use Rattle.bpl_ast.specs.Tree.{no_groups}
use Rattle.bpl_ast.specs.Statement.{stmt, «return», goto, no_stmts, next, procedure, Decl}
use Rattle.bpl_scopes.specs.declared.fault.TypeKind.TheVariants.{Labels as many_labels}
use Rattle.bpl_scopes.specs.Fault.{first_of_two}
use Rattle.bpl_declaration_faults.specs.DeclFaults.{fault_of}
use Rattle.bpl_scopes.specs.Scopes.{entity_of}

abbrev place : ℕ → ℕ → Place
place l c = record { line = l; col = c }

-- each label stands at its own number
abbrev label : ℕ → ℕ → Name
label line k = record { text = codes "L" ++ decimal k; at = place line k }

abbrev labels : ℕ → ℕ → List Name
labels line n = map (label line) (range_with_len 1 n)

-- procedure P () { goto L1, .. ; L1: .. return; }, so many labels in the goto, and so many before the other statement
abbrev program : ℕ → ℕ → List Decl
program named there = record {
  name = codes "P";
  start = 0;
  finish = 0;
  source = [];
  body = procedure (record { text = codes "P"; at = place 1 11 }) None (record { ins = no_groups; outs = no_groups }) [] (Some (record {
    locals = [];
    stmts = next (stmt [] (place 2 1) (goto (labels 2 named))) (next (stmt (labels 3 there) (place 4 1) «return») no_stmts);
  }));
} ∷ []

named_500 : fault_of (program 500 501) ≡ None
unfolding digits entity_of first_of_two
named_500 = refl

named_501 : fault_of (program 501 501) ≡ Some (0, record { at = place 3 501; kind = many_labels })
unfolding digits entity_of first_of_two
named_501 = refl
