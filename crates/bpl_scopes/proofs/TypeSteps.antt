-- The faults of a list begin with those of its first item; which sorts are the one type `int`; and the names of bound variables.
use Rattle.std.proofs.Common.{◌≡◌, refl, Bool, true, false, ◌||◌, List, [], ◌∷◌, length, Option, Some, None, bytes_eq}
use Rattle.logic_terms.specs.Tree.{Kind}
use Rattle.bpl_ast.specs.Place.{Ty}
use Rattle.bpl_ast.specs.TypeView.{tys_of}
use Rattle.bpl_ast.specs.ExprView.{groups_of, clause_of}
use Rattle.bpl_ast.specs.declared.expr.Group.{Group}
use Rattle.bpl_scopes.specs.declared.fault.Fault.{Fault}
use Rattle.bv_base.specs.Text.{is_among}
use Rattle.bpl_scopes.specs.Fault.{earlier, first_fault}
use Rattle.bpl_scopes.specs.Scopes.{Text, Table, BoundVar, bound_names}
use Rattle.bpl_scopes.specs.Sorts.{is_int_alone, sorts_by}
use Rattle.bpl_scopes.specs.TypeFaults.{type_faults, types_faults, group_type_faults, where_faults, group_where_faults}
use Rattle.bpl_scopes.proofs.FirstFault.{joins}

pub types_next : (found : Option Fault) (t : Table) (hidden : List Text) (s : Ty) (ss : List Ty) → earlier found (first_fault (types_faults t hidden (tys_of (s ∷ ss)))) ≡ earlier (earlier found (first_fault (type_faults t hidden s))) (first_fault (types_faults t hidden (tys_of ss)))
types_next found t hidden s ss = joins found (type_faults t hidden s) (types_faults t hidden (tys_of ss))

pub group_types_next : (found : Option Fault) (t : Table) (hidden : List Text) (g : Group) (gs : List Group) → earlier found (first_fault (group_type_faults t hidden (groups_of (g ∷ gs)))) ≡ earlier (earlier found (first_fault (type_faults t hidden g.of))) (first_fault (group_type_faults t hidden (groups_of gs)))
group_types_next found t hidden g gs = joins found (type_faults t hidden g.of) (group_type_faults t hidden (groups_of gs))

pub group_wheres_next : (found : Option Fault) (g : Group) (gs : List Group) → earlier found (first_fault (group_where_faults (groups_of (g ∷ gs)))) ≡ earlier (earlier found (first_fault (where_faults (clause_of g.condition)))) (first_fault (group_where_faults (groups_of gs)))
group_wheres_next found g gs = joins found (where_faults (clause_of g.condition)) (group_where_faults (groups_of gs))

pub not_alone : (f : Text → Option Kind) (ts : List Ty) → (length ts ≡ 1 → ⊥) → false ≡ is_int_alone (sorts_by f (tys_of ts))
not_alone f [] h = refl
not_alone f (t ∷ []) h = absurd (h refl)
not_alone f (t ∷ u ∷ us) h = refl

pub bound_next : (b : BoundVar) (bs : List BoundVar) (n : Text) → is_among (bound_names (b ∷ bs)) n ≡ (is_among (bound_names (b ∷ [])) n || is_among (bound_names bs) n)
bound_next b bs n = by b.name
  where
    alone : (x y : Bool) → (x || y) ≡ ((x || false) || y)
    alone true y = refl
    alone false y = refl

    by : (o : Option Text) → is_among (elim o [ None ↦ bound_names bs | Some m ↦ m ∷ bound_names bs ]) n ≡ (is_among (elim o [ None ↦ [] | Some m ↦ m ∷ [] ]) n || is_among (bound_names bs) n)
    by None = refl
    by (Some m) = alone (bytes_eq n m) (is_among (bound_names bs) n)
