-- The body beside the first name of a procedure is that of its first implementation.
use Rattle.std.proofs.Common.{◌≡◌, refl, ap, ◌∙◌, ℕ, suc, Bool, true, false, List, [], ◌∷◌, ◌++◌, flat_map, Option, Some, None}
use Rattle.std.specs.Prelude.{bytes_eq, cond, option_map}
use Rattle.bv_base.proofs.EitherWay.{either_way}
use Rattle.bpl_ast.specs.Statement.{DeclBody, constant, function, axiom_of, variables, synonym, procedure, implementation, Decl}
use Rattle.bpl_scopes.specs.Positions.{first_at}
use Rattle.bpl_scopes.specs.Scopes.{Text, Table, Counts}
use Rattle.bpl_resolve.specs.Elaborate.{Implemented, or_else, own_body, implements, implementation_of, proc_of, procs_in}
use Rattle.bpl_resolve.specs.Implemented.{name_of_body, body_given, names_of_bodies, bodies_given, body_at, body_for, procs_with}

next_body : (b : Implemented) (bs : List Implemented) (o : Option ℕ) → body_at (b ∷ bs) (option_map suc o) ≡ body_at bs o
next_body b bs None = refl
next_body b bs (Some i) = refl

one_body : (r : Bool) (b : Implemented) (bs : List Implemented) (o : Option ℕ) (rest : Option Implemented) → body_at bs o ≡ rest
    → body_at (b ∷ bs) (cond r (Some 0) (option_map suc o)) ≡ or_else (elim r [ true ↦ Some b | false ↦ None ]) rest
one_body true b bs o rest e = refl
one_body false b bs o rest e = next_body b bs o ∙ e

pub found_is : (ds : List Decl) (n : Text) → body_for (names_of_bodies ds) (bodies_given ds) n ≡ implementation_of ds n
found_is [] n = refl
found_is (d ∷ ds) n = by d.body (found_is ds n)
  where
    by : (x : DeclBody) → body_for (names_of_bodies ds) (bodies_given ds) n ≡ implementation_of ds n
        → body_for (name_of_body x ++ names_of_bodies ds) (body_given x ++ bodies_given ds) n ≡ or_else (implements n x) (implementation_of ds n)
    by (implementation m ps g b) e = one_body (bytes_eq n m.text) (g, b) (bodies_given ds) (first_at n (names_of_bodies ds)) (implementation_of ds n) e
        ∙ ap (λ w. or_else (elim w [ true ↦ Some (g, b) | false ↦ None ]) (implementation_of ds n)) (either_way n m.text)
    by (constant u ns s) e = e
    by (function m ps ins r x) e = e
    by (axiom_of x) e = e
    by (variables gs) e = e
    by (synonym m s) e = e
    by (procedure m ps g ss b) e = e

procs_given : (ds : List Decl) (t : Table) (c : Counts) (x : DeclBody) → procs_with (names_of_bodies ds) (bodies_given ds) t c x ≡ procs_in ds t c x
procs_given ds t c (procedure n ps g ss b) = ap (λ w. proc_of t c n.text g ss (or_else (own_body g b) w) ∷ []) (found_is ds n.text)
procs_given ds t c (constant u ns s) = refl
procs_given ds t c (function m ps ins r x) = refl
procs_given ds t c (axiom_of x) = refl
procs_given ds t c (variables gs) = refl
procs_given ds t c (synonym m s) = refl
procs_given ds t c (implementation m ps g b) = refl

pub procs_are : (ds : List Decl) (t : Table) (c : Counts) (xs : List Decl) → flat_map (λ (d : Decl). procs_with (names_of_bodies ds) (bodies_given ds) t c d.body) xs ≡ flat_map (λ (d : Decl). procs_in ds t c d.body) xs
procs_are ds t c [] = refl
procs_are ds t c (x ∷ xs) = λ i. procs_given ds t c x.body i ++ procs_are ds t c xs i
