-- Procedures whose declarations are the same but for places.
use Rattle.std.specs.Prelude.{◌≡◌, List, map, Option, option_map}
use Rattle.bpl_ast.specs.Statement.{Spec, Signature}
use Rattle.bpl_scopes.specs.Scopes.{Text, Table, Counts}
use Rattle.canonical_text.specs.SameStatement.{bare_spec, bare_body, bare_signature}
use Rattle.bpl_resolve.specs.Elaborate.{Implemented, proc_of}
use Rattle.rebuild_laws.specs.Unplaced.{unplaced_proc}

-- a body with its parameters, without places
abbrev pub bare_implemented : Option Implemented → Option Implemented
bare_implemented b = option_map (λ (x : Implemented). (bare_signature x.0, bare_body x.1)) b

-- elaborated over one table they are the same but for places
abbrev pub SameProceduresDifferInPlaces : Type 0
SameProceduresDifferInPlaces =
    (t : Table) (c : Counts) (n : Text) (g h : Signature) (ss ts : List Spec) (a b : Option Implemented)
    → bare_signature g ≡ bare_signature h → map bare_spec ss ≡ map bare_spec ts → bare_implemented a ≡ bare_implemented b
    → unplaced_proc (proc_of t c n g ss a) ≡ unplaced_proc (proc_of t c n h ts b)
