-- What the entries of the code's table stand for.
use Rattle.std.specs.Prelude.{◌≡◌, ℕ, List, map, Option, Some, None, option_map, slice_get}
use Rattle.bpl_scopes.specs.Scopes.{Text, Entity as declared, a_constant, a_global, a_function, a_synonym, a_procedure, contract_with, Entry as noted}
use Rattle.bpl_scopes.specs.declared.table.Entity.{Entity}
use Rattle.bpl_scopes.specs.declared.table.Entity.TheVariants.{Constant, Global, Function, Synonym, Procedure}
use Rattle.bpl_scopes.specs.declared.table.Entry.{Entry}

abbrev pub entity_seen : Entity → declared
entity_seen (Constant k t) = a_constant k t.now
entity_seen (Global k t) = a_global k t.now
entity_seen (Function ins t x) = a_function (record { ins = ins.now; result = t.now; value = x.now })
entity_seen (Synonym t) = a_synonym t.now
entity_seen (Procedure k s ss) = a_procedure k (contract_with s.now ss.now)

abbrev pub entry_seen : Entry → noted
entry_seen e = record { name = e.name.now; decl = e.decl; entity = entity_seen e.entity }

abbrev pub entries_seen : List Entry → List noted
entries_seen es = map entry_seen es

-- what the entry at a position is, where there is one
abbrev pub looked : List Entry → Option ℕ → Option declared
looked es None = None
looked es (Some i) = option_map (λ e. entity_seen e.entity) (slice_get es i)

-- the names are those of the entries, in order
abbrev pub AreNamed : List Text → List noted → Type 0
AreNamed ns es = ns ≡ map (λ e. e.name) es
