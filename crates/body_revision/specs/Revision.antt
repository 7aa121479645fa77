-- What of a program's module is new where declarations are revisions of others.
use Rattle.std.specs.Prelude.{◌≡◌, ⊤, ℕ, zero, suc, ◌<◌, Bool, not, ◌&&◌, List, [], ◌∷◌, length, take, count_by, slice_get, slice_set, Some, None, is_none}
use Rattle.std.specs.List.{AllByRecursion}
use Rattle.bpl_ast.specs.Statement.{DeclBody, function, Decl}
use Rattle.logic_core.specs.Tree.{Tree}
use Rattle.bpl_model.specs.Module.{Proc, Function as ModelFunction, DeclText, Module, with_procedure}
use Rattle.bpl_scopes.specs.Functions.{function_number}
use Rattle.bpl_scopes.specs.Scopes.{Table, table_of, Counts, no_counts, counts_after}
use Rattle.bpl_resolve.specs.Elaborate.{decl_text, procs_in, axioms_in, value_term}
use Rattle.body_revision.specs.Names.{own_fault}
use Rattle.body_revision.specs.Procedures.{is_procedure, is_axiom, declares_function, procedure_place, procedure_by}
use Rattle.body_revision.specs.Revised.{IsRevised}
use Rattle.body_revision.specs.declared.declared_names.DeclaredNames.{DeclaredNames}
use Rattle.body_revision.specs.declared.revised.ModulePart.{ModulePart}
use Rattle.body_revision.specs.declared.revised.ModulePart.TheVariants.{Procedure, Axiom, Function}
use Rattle.body_revision.specs.declared.revised.Revision.{Revision}

-- the procedure that a declaration declares or implements, and which of the module's procedures it is
pub record IsProcedureOf (t : Table) (c : Counts) (ds : List Decl) (at : ℕ) (e : Decl) (k : ℕ) (p : Proc) : Type 0 where
  pub place : ℕ
  pub found : procedure_place ds at e.body ≡ Some place
  pub counted : k ≡ count_by (λ (d : Decl). is_procedure d.body) (take place ds)
  pub made : procs_in (e ∷ []) t c (procedure_by ds place e) ≡ p ∷ []

-- the axiom that a declaration states, and which of the module's axioms it is
pub record IsAxiomOf (t : Table) (c : Counts) (ds : List Decl) (at : ℕ) (e : Decl) (k : ℕ) (f : Tree) : Type 0 where
  pub counted : k ≡ count_by (λ (d : Decl). is_axiom d.body) (take at ds)
  pub made : axioms_in t c e.body ≡ f ∷ []

-- the number of the function that a declaration declares, and the term of its value
abbrev pub values_in : Table → Counts → DeclBody → List (ℕ × Tree)
values_in t c (function n ps ins r x) = (function_number t n.text, value_term t c ins x) ∷ []
values_in t c d = []

abbrev pub IsPartOf : Table → Counts → List Decl → ℕ → Decl → ModulePart → Type 0
IsPartOf t c ds at e (Procedure k p) = IsProcedureOf t c ds at e k p
IsPartOf t c ds at e (Axiom k f) = IsAxiomOf t c ds at e k f
IsPartOf t c ds at e (Function k f) = values_in t c e.body ≡ (k, f) ∷ []

-- e takes the place `at` in ds, of a declaration of which it is a revision: it has no fault of its own, and its part of the module and its texts are these
pub record IsNew (ds : List Decl) (at : ℕ) (e : Decl) (r : Revision) : Type 0 where
  pub there : at < length ds
  pub revised : (d : Decl) → slice_get ds at ≡ Some d → IsRevised d.body e.body
  pub faultless : own_fault (table_of ds) (counts_after no_counts ds) e.body ≡ None
  pub placed : r.decl_at ≡ at
  pub part : IsPartOf (table_of ds) (counts_after no_counts ds) ds at e r.part
  pub text : r.text ≡ decl_text (table_of ds) (length ds) e

-- the same, over the names of a program of so many declarations, by its own declarations
pub record IsMade (n : DeclaredNames) (ds : List Decl) (at count : ℕ) (e : Decl) (r : Revision) : Type 0 where
  pub faultless : own_fault (table_of n.declarations) (counts_after no_counts n.declarations) e.body ≡ None
  pub placed : r.decl_at ≡ at
  pub part : IsPartOf (table_of n.declarations) (counts_after no_counts n.declarations) ds at e r.part
  pub text : r.text ≡ decl_text (table_of n.declarations) count e

-- nothing is found of it in the module: it states no axiom, declares no function, and its procedure is nowhere
abbrev pub is_nowhere : List Decl → ℕ → DeclBody → Bool
is_nowhere ds at e = not (is_axiom e) && (not (declares_function e) && is_none (procedure_place ds at e))

-- an axiom and the texts of its declaration in the place of those that stand there
abbrev pub with_axiom : ℕ → Tree → ℕ → DeclText → Module → Module
with_axiom k f d x m = record m { axioms = slice_set m.axioms k f; texts = slice_set m.texts d x }

-- a function with another value
abbrev pub with_value : Tree → ModelFunction → ModelFunction
with_value b f = record f { def = record f.def { body = b } }

abbrev pub value_at : ℕ → Tree → List ModelFunction → List ModelFunction
value_at k b [] = []
value_at zero b (f ∷ fs) = with_value b f ∷ fs
value_at (suc k) b (f ∷ fs) = f ∷ value_at k b fs

-- another value of a function and the texts of its declaration in the place of those that stand there
abbrev pub with_function : ℕ → Tree → ℕ → DeclText → Module → Module
with_function k b d x m = record m { functions = value_at k b m.functions; texts = slice_set m.texts d x }

abbrev pub with_part : ModulePart → ℕ → DeclText → Module → Module
with_part (Procedure k p) d x m = with_procedure k p d x m
with_part (Axiom k f) d x m = with_axiom k f d x m
with_part (Function k b) d x m = with_function k b d x m

-- the module with what is new
abbrev pub revised : Revision → Module → Module
revised r m = with_part r.part r.decl_at r.text m

abbrev pub IsThere : ModulePart → Module → Type 0
IsThere (Procedure k p) m = k < length m.procs
IsThere (Axiom k f) m = k < length m.axioms
IsThere (Function k b) m = k < length m.functions

-- the module has its places
abbrev pub HasPlaces : Module → Revision → Type 0
HasPlaces m r = IsThere r.part m × (r.decl_at < length m.texts)

-- each stands in the place of a declaration of which it is a revision
abbrev pub AreRevised : List Decl → List (ℕ × Decl) → Type 0
AreRevised ds cs = AllByRecursion (λ (c : ℕ × Decl). (c.0 < length ds) × ((d : Decl) → slice_get ds c.0 ≡ Some d → IsRevised d.body (c.1).body)) cs

-- none has a fault of its own
abbrev pub HaveNoFaults : List Decl → List (ℕ × Decl) → Type 0
HaveNoFaults ds cs = AllByRecursion (λ (c : ℕ × Decl). own_fault (table_of ds) (counts_after no_counts ds) (c.1).body ≡ None) cs

-- declarations at their places, and what each of them brings, the last first
abbrev pub all_put : List Decl → List (ℕ × Decl) → List Decl
all_put ds [] = ds
all_put ds (c ∷ cs) = slice_set (all_put ds cs) c.0 c.1

abbrev pub all_revised : Module → List Revision → Module
all_revised m [] = m
all_revised m (r ∷ rs) = revised r (all_revised m rs)

-- each is new where none is put
abbrev pub AreNew : List Decl → List (ℕ × Decl) → List Revision → Type 0
AreNew ds [] [] = ⊤
AreNew ds [] (r ∷ rs) = ⊥
AreNew ds (c ∷ cs) [] = ⊥
AreNew ds (c ∷ cs) (r ∷ rs) = IsNew ds c.0 c.1 r × AreNew ds cs rs
