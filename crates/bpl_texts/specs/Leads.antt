-- The declarations of names, one after another.
use Rattle.std.specs.Prelude.{ℕ, ltb, cond, List, [], ◌∷◌, ◌++◌, Option, Some, None, option_map, slice_get}
use Rattle.bpl_scopes.specs.Scopes.{Text, Table, entry_of}
use Rattle.bpl_scopes.specs.declared.table.Entry.{Entry}

-- the declaration of the entry at a position, where there is one
abbrev pub looked_decl : List Entry → Option ℕ → Option ℕ
looked_decl es None = None
looked_decl es (Some i) = option_map (λ e. e.decl) (slice_get es i)

-- a declaration that there may be, where it is one of so many
abbrev pub decl_below : ℕ → Option ℕ → List ℕ
decl_below count None = []
decl_below count (Some d) = cond (ltb d count) (d ∷ []) []

-- the declaration of each name that has one among so many
abbrev pub decls_below : Table → ℕ → List Text → List ℕ
decls_below t count [] = []
decls_below t count (n ∷ ns) = decl_below count (option_map (λ e. e.decl) (entry_of t n)) ++ decls_below t count ns
