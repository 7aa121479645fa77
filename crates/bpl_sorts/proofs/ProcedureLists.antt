-- The bodies that are found are those of the implementations.
use Rattle.std.proofs.Common.{◌≡◌, refl, sym, ap, ◌∙◌, List, [], ◌∷◌, ◌++◌, map, flat_map, Option}
use Rattle.std.proofs.lemmas.List.{map-append}
use Rattle.bpl_ast.specs.Statement.{Decl}
use Rattle.bpl_scopes.specs.Scopes.{Text, Table}
use Rattle.bpl_resolve.specs.Elaborate.{Implemented, implementation_of}
use Rattle.bpl_resolve.specs.Implemented.{names_of_bodies, bodies_given, body_for}
use Rattle.bpl_resolve.proofs.BodiesFound.{found_is}
use Rattle.bpl_sorts.specs.Types.{Ty}
use Rattle.bpl_sorts.specs.BodiesFound.{bodies_seen, found_under}
use Rattle.bpl_sorts.specs.DeclaredTypes.{ProcTypes, proc_types_in}
use Rattle.bpl_sorts.specs.TypesView.{in_one_list}
use Rattle.bpl_sorts.specs.declared.procedure_types.Implementations.{Implementations}

map_flat : {A B C : Type 0} (f : B → C) (g : A → List B) (xs : List A) → flat_map (λ x. map f (g x)) xs ≡ map f (flat_map g xs)
map_flat f g [] = refl
map_flat f g (x ∷ xs) = ap (λ w. map f (g x) ++ w) (map_flat f g xs) ∙ sym (map-append f (g x) (flat_map g xs))

bodies_are : (ds : List Decl) (r : Implementations) → r.names ≡ names_of_bodies ds → bodies_seen r.bodies.items ≡ bodies_given ds → ◌≡◌ {A = Text → Option Implemented} (found_under r) (implementation_of ds)
bodies_are ds r e f = λ i n. ((λ j. body_for (e j) (f j) n) ∙ found_is ds n) i

pub procs_listed : (t : Table) (ds : List Decl) (r : Implementations) → r.names ≡ names_of_bodies ds → bodies_seen r.bodies.items ≡ bodies_given ds
    → flat_map (λ (d : Decl). map in_one_list (proc_types_in t (found_under r) d.body)) ds ≡ map in_one_list (flat_map (λ (d : Decl). proc_types_in t (implementation_of ds) d.body) ds)
procs_listed t ds r e f = (λ i. flat_map (λ (d : Decl). map in_one_list (proc_types_in t (bodies_are ds r e f i) d.body)) ds) ∙ map_flat in_one_list (λ (d : Decl). proc_types_in t (implementation_of ds) d.body) ds
