-- Erased declarations are such as tokens spell where the declarations are.
use Rattle.std.specs.Prelude.{◌≡◌, ℕ, suc, ◌+◌, ◌<◌, ◌≤◌, ◌^◌, nat_eq, Bool, true, false, cond, List, [], ◌∷◌, ◌++◌, map, length, Option, Some, None}
use Rattle.std.proofs.Common.{refl, ap, sym, ◌∙◌, subst, arith, length-append}
use Rattle.bv_base.specs.declared.place.Place.{Place}
use Rattle.bpl_ast.specs.Place.{Name}
use Rattle.bpl_ast.specs.Statement.{DeclBody, constant, function, axiom_of, variables, synonym, procedure, implementation, Decl, name_of, axioms_with}
use Rattle.bpl_scopes.specs.Scopes.{Table, table_of}
use Rattle.canonical_text.specs.WrittenExpression.{IsName, AreNames, SomeNames}
use Rattle.canonical_text.specs.WrittenStatement.{IsWrittenDecl}
use Rattle.canonical_text.specs.RoundTrip.{AreWrittenDecls}
use Rattle.user_types.specs.UserTypes.{user_of}
use Rattle.user_types.specs.Erased.{users_with, replaced_body, replaced_from, replaced, Unique, uniques_of, uniques_in, uniques, one_more, axioms_from, axioms_after, carrier_axioms, as_integers, erased}

-- a declaration keeps its name, and whether it is an axiom
body_written : (t : Table) (j : ℕ) (d : DeclBody) → IsWrittenDecl d → IsWrittenDecl (replaced_body as_integers t j d)
body_written t j (constant u ns s) w = w
body_written t j (function n ps ins r x) w = w
body_written t j (axiom_of x) w = w
body_written t j (variables gs) w = w
body_written t j (synonym n None) w = (w.0, tt)
body_written t j (synonym n (Some s)) w = w
body_written t j (procedure n ps s ss b) w = w
body_written t j (implementation n ps s b) w = w

name_stays : (t : Table) (j k : ℕ) (d : DeclBody) → name_of k (replaced_body as_integers t j d) ≡ name_of k d
name_stays t j k (constant u ns s) = refl
name_stays t j k (function n ps ins r x) = refl
name_stays t j k (axiom_of x) = refl
name_stays t j k (variables gs) = refl
name_stays t j k (synonym n None) = refl
name_stays t j k (synonym n (Some s)) = refl
name_stays t j k (procedure n ps s ss b) = refl
name_stays t j k (implementation n ps s b) = refl

axioms_stay : (t : Table) (j k : ℕ) (d : DeclBody) → axioms_with k (replaced_body as_integers t j d) ≡ axioms_with k d
axioms_stay t j k (constant u ns s) = refl
axioms_stay t j k (function n ps ins r x) = refl
axioms_stay t j k (axiom_of x) = refl
axioms_stay t j k (variables gs) = refl
axioms_stay t j k (synonym n None) = refl
axioms_stay t j k (synonym n (Some s)) = refl
axioms_stay t j k (procedure n ps s ss b) = refl
axioms_stay t j k (implementation n ps s b) = refl

from_written : (t : Table) (j k : ℕ) (ds : List Decl) → AreWrittenDecls k ds → AreWrittenDecls k (replaced_from as_integers t j ds)
from_written t j k [] w = tt
from_written t j k (d ∷ ds) w =
    let u = users_with j d.body in
    (w.0 ∙ sym (name_stays t u k d.body), body_written t u d.body w.1, subst (λ m. AreWrittenDecls m (replaced_from as_integers t u ds)) (sym (axioms_stay t u k d.body)) (from_written t u (axioms_with k d.body) ds w.2))

counted : (t : Table) (j k : ℕ) (ds : List Decl) → axioms_after k (replaced_from as_integers t j ds) ≡ axioms_after k ds
counted t j k [] = refl
counted t j k (d ∷ ds) =
    let u = users_with j d.body in
    ap (λ m. axioms_after m (replaced_from as_integers t u ds)) (axioms_stay t u k d.body) ∙ counted t u (axioms_with k d.body) ds

joined : (k : ℕ) (xs ys : List Decl) → AreWrittenDecls k xs → AreWrittenDecls (axioms_after k xs) ys → AreWrittenDecls k (xs ++ ys)
joined k [] ys a b = b
joined k (x ∷ xs) ys a b = (a.0, a.1, joined (axioms_with k x.body) xs ys a.2 b)

-- the names of unique constants
abbrev AreNamed : List Unique → Type 0
AreNamed [] = Unit {0}
AreNamed (u ∷ us) = IsName u.1 × AreNamed us

both_named : (xs ys : List Unique) → AreNamed xs → AreNamed ys → AreNamed (xs ++ ys)
both_named [] ys a b = b
both_named (x ∷ xs) ys a b = (a.0, both_named xs ys a.1 b)

each_named : (i : ℕ) (ns : List Name) → AreNames ns → AreNamed (map {B = Unique} (λ (n : Name). (i, n)) ns)
each_named i [] w = tt
each_named i (n ∷ ns) w = (w.0, each_named i ns w.1)

of_constants : (u : Option Place) (o : Option ℕ) (ns : List Name) → SomeNames ns → AreNamed (uniques_of u o ns)
of_constants None o ns w = tt
of_constants (Some p) None ns w = tt
of_constants (Some p) (Some i) [] w = absurd w
of_constants (Some p) (Some i) (n ∷ ns) w = each_named i (n ∷ ns) w

of_decl : (t : Table) (d : DeclBody) → IsWrittenDecl d → AreNamed (uniques_in t d)
of_decl t (constant u ns s) w = of_constants u (user_of t s) ns w.0
of_decl t (function n ps ins r x) w = tt
of_decl t (axiom_of x) w = tt
of_decl t (variables gs) w = tt
of_decl t (synonym n s) w = tt
of_decl t (procedure n ps s ss b) w = tt
of_decl t (implementation n ps s b) w = tt

all_named : (t : Table) (k : ℕ) (ds : List Decl) → AreWrittenDecls k ds → AreNamed (uniques t ds)
all_named t k [] w = tt
all_named t k (d ∷ ds) w = both_named (uniques_in t d.body) (uniques t ds) (of_decl t d.body w.1) (all_named t (axioms_with k d.body) ds w.2)

-- the axioms on carriers, which are no more than the axioms
one_higher : (count : ℕ → ℕ) (i j done : ℕ) → count j ≤ done → one_more count i j ≤ suc done
one_higher count i j done h = by (nat_eq j i)
  where
    by : (b : Bool) → cond b (suc (count j)) (count j) ≤ suc done
    by true = omega (arith, h)
    by false = omega (arith, h)

axioms_written : (count : ℕ → ℕ) (k done : ℕ) (us : List Unique) → ((i : ℕ) → count i ≤ done) → done + length us < 2 ^ 64 → AreNamed us → AreWrittenDecls k (axioms_from count k us)
axioms_written count k done [] h l w = tt
axioms_written count k done (u ∷ us) h l w =
    let b = h u.0 in
    (refl, (w.0, omega (arith, b, l)), axioms_written (one_more count u.0) (suc k) (suc done) us (λ j. one_higher count u.0 j done (h j)) (omega (arith, l)) w.1)

as_many : (count : ℕ → ℕ) (k : ℕ) (us : List Unique) → length (axioms_from count k us) ≡ length us
as_many count k [] = refl
as_many count k (u ∷ us) = ap suc (as_many (one_more count u.0) (suc k) us)

pub erased_written : (ds : List Decl) → AreWrittenDecls 0 ds → length (erased ds) < 2 ^ 64 → AreWrittenDecls 0 (erased ds)
erased_written ds w few =
    let t = table_of ds in
    let us = uniques t ds in
    let a = length-append (replaced as_integers ds) (carrier_axioms ds) in
    let b = as_many (λ i. 0) (axioms_after 0 ds) us in
    joined 0 (replaced as_integers ds) (carrier_axioms ds) (from_written t 0 0 ds w)
    (subst (λ m. AreWrittenDecls m (carrier_axioms ds)) (sym (counted t 0 0 ds)) (axioms_written (λ i. 0) (axioms_after 0 ds) 0 us (λ i. omega arith) (omega (arith, a, b, few)) (all_named t 0 ds w)))
