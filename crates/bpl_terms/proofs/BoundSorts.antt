-- The sorts of a group's names, and then those of the others.
use Rattle.std.proofs.Common.{◌≡◌, refl, sym, ap, ◌∙◌, List, [], ◌∷◌, ◌++◌, map, Option}
use Rattle.std.proofs.lemmas.List.{append_assoc}
use Rattle.logic_core.specs.Tree.{Kind}
use Rattle.bpl_ast.specs.Place.{Name, Ty}
use Rattle.bpl_ast.specs.ExprView.{groups_of}
use Rattle.bpl_ast.specs.declared.expr.Group.{Group}
use Rattle.bpl_scopes.specs.Scopes.{Text, Table, Scope, typed_names, names_of, hidden_in}
use Rattle.bpl_scopes.specs.Sorts.{sort_of_type, sorts_of_names}
use Rattle.bpl_terms.specs.Terms.{sort_or_int, bound_sorts}

names_next : (t : Table) (h : List Text) (ns : List Name) (s : Ty) (ps : List (Name × Ty)) → map sort_or_int (sorts_of_names t h (typed_names ns s ++ ps)) ≡ map (λ (n : Name). sort_or_int (sort_of_type t h s)) ns ++ map sort_or_int (sorts_of_names t h ps)
names_next t h [] s ps = refl
names_next t h (n ∷ ns) s ps = ap (λ l. sort_or_int (sort_of_type t h s) ∷ l) (names_next t h ns s ps)

pub bound_next : (s : Scope) (before after : List Kind) (k : Option Kind) (g : Group) (gs : List Group) → k ≡ sort_of_type s.table (hidden_in s) g.of → after ≡ before ++ map (λ (n : Name). sort_or_int k) g.names.items → after ++ bound_sorts s (groups_of gs) ≡ before ++ bound_sorts s (groups_of (g ∷ gs))
bound_next s before after k g gs e h =
    ap (λ l. l ++ bound_sorts s (groups_of gs)) (h ∙ ap (λ j. before ++ map (λ (n : Name). sort_or_int j) g.names.items) e)
    ∙ append_assoc before (map (λ (n : Name). sort_or_int (sort_of_type s.table (hidden_in s) g.of)) g.names.items) (bound_sorts s (groups_of gs))
    ∙ ap (λ l. before ++ l) (sym (names_next s.table (hidden_in s) g.names.items g.of (names_of (groups_of gs))))
