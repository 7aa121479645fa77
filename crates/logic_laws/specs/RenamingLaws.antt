-- A term and its renamed one have the same sort, and the same value where the new variables have the old values; obligations that rename one another are valid together.
use Rattle.std.specs.Prelude.{◌≡◌, ◌↔◌, ℕ, ◌<◌, Bool, Some, IsTrue, List, map, slice_get, All}
use Rattle.logic_core.specs.Tree.{Kind, Tree}
use Rattle.logic_core.specs.Def.{Def, Obligation}
use Rattle.logic_core.specs.Value.{Value, at}
use Rattle.logic_core.specs.Sorts.{sort_of}
use Rattle.logic_core.specs.Valid.{Valid}
use Rattle.logic_laws.specs.Assignment.{ValueIs}
use Rattle.logic_core.specs.Renamed.{both_renamed, def_renamed, EachHas}

-- over the new numbers of definitions and variables, and the tests of those that are renamed: which definitions, which variables
module _ (new_def new_var : ℕ → ℕ) (defs? vars? : ℕ → Bool) where
  -- every variable and every definition in the term is renamed
  abbrev pub Covers : Tree → Type 0
  Covers t = EachHas (λ v. IsTrue (vars? v)) (λ f. IsTrue (defs? f)) t

  -- definition f is there, at its new number it stands renamed, and in both lists it calls only definitions before it
  pub record IsRenamedDef (defs defs' : List Def) (f : ℕ) : Type 0 where
    pub definition : Def
    pub old : slice_get defs f ≡ Some definition
    pub new : slice_get defs' (new_def f) ≡ Some (def_renamed new_def new_var definition)
    pub calls_lower : EachHas (λ v. IsTrue (vars? v)) (λ g. IsTrue (defs? g) × (g < f) × (new_def g < new_def f)) definition.body

  abbrev pub AreRenamed : List Def → List Def → Type 0
  AreRenamed defs defs' = (f : ℕ) → IsTrue (defs? f) → IsRenamedDef defs defs' f

  -- the new variables have the sorts of the old ones
  abbrev pub KeepSorts : List Kind → List Kind → Type 0
  KeepSorts vars vars' = (v : ℕ) → IsTrue (vars? v) → slice_get vars' (new_var v) ≡ slice_get vars v

  -- the new variables have the values of the old ones
  abbrev pub KeepValues : List Value → List Value → Type 0
  KeepValues frees frees' = (v : ℕ) → IsTrue (vars? v) → at frees' (new_var v) ≡ at frees v

  pub record IsRenamedObligation (o o' : Obligation) : Type 0 where
    pub vars : KeepSorts o.vars o'.vars
    -- each variable that is renamed is there
    pub vars_there : (v : ℕ) → IsTrue (vars? v) → (k : Kind) × (slice_get o.vars v ≡ Some k)
    -- no two variables that are renamed have one new number
    pub one_to_one : (u v : ℕ) → IsTrue (vars? u) → IsTrue (vars? v) → new_var u ≡ new_var v → u ≡ v
    pub defs : AreRenamed o.defs o'.defs
    pub axioms_covered : All Covers o.axioms
    pub axioms : o'.axioms ≡ map (both_renamed new_def new_var) o.axioms
    pub goal_covered : Covers o.goal
    pub goal : o'.goal ≡ both_renamed new_def new_var o.goal

abbrev pub RenamingKeepsSorts : Type 0
RenamingKeepsSorts = (new_def new_var : ℕ → ℕ) (defs? vars? : ℕ → Bool) (vars vars' : List Kind) (defs defs' : List Def) (bound : List Kind) (t : Tree)
    → KeepSorts new_def new_var defs? vars? vars vars' → AreRenamed new_def new_var defs? vars? defs defs' → Covers new_def new_var defs? vars? t
    → sort_of vars' defs' bound (both_renamed new_def new_var t) ≡ sort_of vars defs bound t

abbrev pub RenamingKeepsValues : Type 0
RenamingKeepsValues = (new_def new_var : ℕ → ℕ) (defs? vars? : ℕ → Bool) (defs defs' : List Def) (frees frees' : List Value) (t : Tree) (b : List Value)
    → KeepValues new_def new_var defs? vars? frees frees' → AreRenamed new_def new_var defs? vars? defs defs' → Covers new_def new_var defs? vars? t
    → (w : Value) → ValueIs frees defs t b w ↔ ValueIs frees' defs' (both_renamed new_def new_var t) b w

abbrev pub RenamingKeepsValidity : Type 0
RenamingKeepsValidity = (new_def new_var : ℕ → ℕ) (defs? vars? : ℕ → Bool) (o o' : Obligation) → IsRenamedObligation new_def new_var defs? vars? o o' → Valid o ↔ Valid o'
