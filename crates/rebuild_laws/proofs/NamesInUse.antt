-- The names that are used in the declarations that a procedure reaches.
use Rattle.std.specs.Prelude.{◌≡◌, ℕ, List, slice_get, Some}
use Rattle.bpl_ast.specs.Statement.{Decl}
use Rattle.bpl_model.specs.Module.{Proc}
use Rattle.bpl_scopes.specs.Scopes.{Text, Entry, table_of, entry_of}
use Rattle.bpl_texts.specs.Uses.{contract_uses, decl_uses}
use Rattle.bpl_resolve.proofs.Ways.{Member}
use Rattle.rebuild_laws.specs.Twins.{Own, Reached}

-- a name that stands in one of its own declarations, or outside the body of another one that is reached
pub data Used (ds : List Decl) (p : Proc) (n : Text) : Type 0 where
  in_own : (d : ℕ) (x : Decl) → Own ds p d → slice_get ds d ≡ Some x → Member n (decl_uses x.body) → Used ds p n
  in_reached : (d : ℕ) (x : Decl) → Reached ds p d → slice_get ds d ≡ Some x → Member n (contract_uses x.body) → Used ds p n

-- a name that is used, or that a declaration declares that is reached
pub data Met (ds : List Decl) (p : Proc) (n : Text) : Type 0 where
  used : Used ds p n → Met ds p n
  declared : (e : Entry) → entry_of (table_of ds) n ≡ Some e → Reached ds p e.decl → Met ds p n
