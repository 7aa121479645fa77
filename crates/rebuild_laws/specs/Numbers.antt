-- New numbers for the constants, globals and entry values that are reached; parameters and locals come behind.
use Rattle.std.specs.Prelude.{◌≡◌, ℕ, ◌+◌, ◌-◌, ◌<◌, ◌≤◌, nat_lt, Bool, true, cond, IsTrue, List, map, length, filter, slice_get, Some}
use Rattle.std.specs.List.{range_with_len}
use Rattle.bpl_model.specs.Module.{Global, Module}
use Rattle.bpl_model.specs.Numbering.{const_sorts, first_global, first_entry, first_in}
use Rattle.rebuild_laws.specs.Alike.{AlikeClause}

-- over two modules, which variables are reached in each, and the new number of each and the old one
module _ (m n : Module) (vars? vars_there? : ℕ → Bool) (new_low old_low : ℕ → ℕ) where
  abbrev pub new_all : ℕ → ℕ
  new_all v = cond (nat_lt v (first_in m)) (new_low v) (first_in n + (v - first_in m))

  abbrev pub old_all : ℕ → ℕ
  old_all w = cond (nat_lt w (first_in n)) (old_low w) (first_in m + (w - first_in n))

  abbrev pub reads? : ℕ → Bool
  reads? v = cond (nat_lt v (first_in m)) (vars? v) true

  abbrev pub reads_there? : ℕ → Bool
  reads_there? w = cond (nat_lt w (first_in n)) (vars_there? w) true

  abbrev pub Reads : ℕ → Type 0
  Reads v = IsTrue (reads? v)

  -- a constant, global or entry value that is reached
  abbrev pub Low : ℕ → Type 0
  Low v = (v < first_in m) × IsTrue (vars? v)

  -- the new numbers are in order, and of the same kinds of variables
  pub record LowNumbers : Type 0 where
    pub reached : List ℕ
    pub here : filter vars? (range_with_len 0 (first_in m)) ≡ reached
    pub there : filter vars_there? (range_with_len 0 (first_in n)) ≡ map new_low reached
    pub passes : (v : ℕ) → Low v → (new_low v < first_in n) × IsTrue (vars_there? (new_low v))
    pub back : (v : ℕ) → Low v → old_low (new_low v) ≡ v
    pub constant : (v : ℕ) → v < first_global m → IsTrue (vars? v) → (new_low v < first_global n) × (slice_get (const_sorts n) (new_low v) ≡ slice_get (const_sorts m) v)
    pub global : (v : ℕ) → first_global m ≤ v → v < first_entry m → IsTrue (vars? v) → (first_global n ≤ new_low v) × (new_low v < first_entry n)
    pub entry : (v : ℕ) → first_entry m ≤ v → v < first_in m → IsTrue (vars? v) → IsTrue (vars? (v - length m.globals)) × (new_low v ≡ new_low (v - length m.globals) + length n.globals)

  -- a global that is reached has its sort and its clause
  module _ (new_def : ℕ → ℕ) (D : ℕ → Type 0) where
    pub record AlikeGlobal (v : ℕ) : Type 0 where
      pub mine : Global
      pub theirs : Global
      pub here : slice_get m.globals (v - first_global m) ≡ Some mine
      pub there : slice_get n.globals (new_low v - first_global n) ≡ Some theirs
      pub sort : theirs.sort ≡ mine.sort
      pub clause : AlikeClause new_def new_low D Low mine.clause theirs.clause

    abbrev pub GlobalsAlike : Type 0
    GlobalsAlike = (v : ℕ) → first_global m ≤ v → v < first_entry m → IsTrue (vars? v) → AlikeGlobal v
