-- Whether all names of groups have types with sorts.
use Rattle.std.proofs.Common.{◌≡◌, refl, sym, ap, ◌∙◌, Bool, true, false, true≢false, ◌&&◌, is_some, List, [], ◌∷◌, ◌++◌, slice_get, Option, Some, None}
use Rattle.logic_terms.specs.Tree.{Kind}
use Rattle.bpl_ast.specs.Place.{Name, Ty}
use Rattle.bpl_ast.specs.ExprView.{groups_of}
use Rattle.bpl_ast.specs.declared.expr.Group.{Group}
use Rattle.bpl_scopes.specs.declared.shape.Shape.{Shape}
use Rattle.bpl_scopes.specs.Scopes.{Text, Table, typed_names, names_of}
use Rattle.bpl_scopes.specs.Shape.{kind_seen}
use Rattle.bpl_scopes.specs.Sorts.{all_known, sorts_of_names, sort_of_type}

known_typed : (t : Table) (h : List Text) (ns : List Name) (s : Ty) (j : Kind) → sort_of_type t h s ≡ Some j → all_known (sorts_of_names t h (typed_names ns s)) ≡ true
known_typed t h [] s j e = refl
known_typed t h (n ∷ ns) s j e = ap (λ k. all_known (k ∷ sorts_of_names t h (typed_names ns s))) e ∙ known_typed t h ns s j e

pub known_none : (t : Table) (h : List Text) (ns : List Name) (s : Ty) → slice_get ns 0 ≡ None → all_known (sorts_of_names t h (typed_names ns s)) ≡ true
known_none t h [] s e = refl
known_none t h (n ∷ ns) s e = absurd (true≢false (ap is_some e))

pub known_first : (t : Table) (h : List Text) (ns : List Name) (s : Ty) (n : Name) (k : Option Shape) → slice_get ns 0 ≡ Some n → kind_seen k ≡ sort_of_type t h s → all_known (sorts_of_names t h (typed_names ns s)) ≡ is_some k
known_first t h [] s n k e f = absurd (true≢false (sym (ap is_some e)))
known_first t h (m ∷ ns) s n None e f = ap (λ o. all_known (o ∷ sorts_of_names t h (typed_names ns s))) (sym f)
known_first t h (m ∷ ns) s n (Some k) e f = known_typed t h (m ∷ ns) s _ (sym f)

known_append : (t : Table) (h : List Text) (ps qs : List (Name × Ty)) → all_known (sorts_of_names t h (ps ++ qs)) ≡ (all_known (sorts_of_names t h ps) && all_known (sorts_of_names t h qs))
known_append t h [] qs = refl
known_append t h (p ∷ ps) qs = by (sort_of_type t h p.1) (known_append t h ps qs)
  where
    by : (o : Option Kind) → all_known (sorts_of_names t h (ps ++ qs)) ≡ (all_known (sorts_of_names t h ps) && all_known (sorts_of_names t h qs))
        → all_known (o ∷ sorts_of_names t h (ps ++ qs)) ≡ (all_known (o ∷ sorts_of_names t h ps) && all_known (sorts_of_names t h qs))
    by None e = refl
    by (Some k) e = e

pub known_next : (t : Table) (h : List Text) (g : Group) (gs : List Group) → all_known (sorts_of_names t h (names_of (groups_of (g ∷ gs)))) ≡ (all_known (sorts_of_names t h (typed_names g.names.items g.of)) && all_known (sorts_of_names t h (names_of (groups_of gs))))
known_next t h g gs = known_append t h (typed_names g.names.items g.of) (names_of (groups_of gs))
