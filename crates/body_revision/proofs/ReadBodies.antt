-- Readings of a program with revisions.
use Rattle.std.proofs.Common.{◌≡◌, refl, sym, ap, ◌∙◌, subst, arith, inl, inr, Bool, true, false, ◌||◌, option_map, ℕ, zero, suc, ◌<◌, List, [], ◌∷◌, ◌++◌, length, take, get_or, slice_get, slice_set, flat_map, count_by, cond, ◌+◌, Some, None, length-append}
use Rattle.std.proofs.lemmas.List.Sums.{sum_by-cons}
use Rattle.std.proofs.lemmas.Option.{slice_get-get_or}
use Rattle.std.proofs.lemmas.Bool.{false≢true}
use Rattle.bv_base.specs.declared.place.Place.{Place}
use Rattle.logic_terms.proofs.Booleans.{neither}
use Rattle.bpl_ast.specs.Place.{Ty}
use Rattle.bpl_ast.specs.Tree.{eq, Expr, expr, number, variable, related}
use Rattle.bpl_ast.specs.Statement.{DeclBody, constant, function, axiom_of, variables, synonym, procedure, implementation, Decl, axioms_with}
use Rattle.bpl_scopes.specs.Scopes.{Text, Table, table_of}
use Rattle.user_types.specs.Erased.{users_with, kept_unique, uniques_of, replaced_body, replaced_from, replaced, uniques_in, Unique, uniques, one_more, axioms_from, axioms_after, carrier_axioms, as_integers, erased, maps_over, told_apart}
use Rattle.body_revision.specs.Revised.{IsRevised}
use Rattle.body_revision.specs.Procedures.{is_procedure, is_axiom, lacks_body, gives_body, any_decl, only_place, if_at, procedure_place, procedure_by}
use Rattle.body_revision.specs.Revision.{all_put, AreRevised}
use Rattle.body_revision.proofs.SameTable.{tables_alike}
use Rattle.body_revision.proofs.TablesAlike.{LikeTables, user_like}
use Rattle.body_revision.proofs.SetParts.{same_parts}
use Rattle.body_revision.proofs.KeptBodies.{of_revised}
use Rattle.body_revision.proofs.StayFaultless.{all_there, all_still}
use Rattle.body_revision.specs.ReadingLaws.{ReadingsKeepBodies}

-- ---- lists

get_front : {A : Type 0} (xs ys : List A) (i : ℕ) → i < length xs → slice_get (xs ++ ys) i ≡ slice_get xs i
get_front [] ys i h = absurd (omega (arith, h))
get_front (x ∷ xs) ys zero h = refl
get_front (x ∷ xs) ys (suc i) h = get_front xs ys i (omega (arith, h))

set_front : {A : Type 0} (xs ys : List A) (i : ℕ) (y : A) → i < length xs → slice_set xs i y ++ ys ≡ slice_set (xs ++ ys) i y
set_front [] ys i y h = absurd (omega (arith, h))
set_front (x ∷ xs) ys zero y h = refl
set_front (x ∷ xs) ys (suc i) y h = ap (λ zs. x ∷ zs) (set_front xs ys i y (omega (arith, h)))

take_front : {A : Type 0} (xs ys : List A) (i : ℕ) → i < length xs → take i (xs ++ ys) ≡ take i xs
take_front [] ys i h = absurd (omega (arith, h))
take_front (x ∷ xs) ys zero h = refl
take_front (x ∷ xs) ys (suc i) h = ap (λ zs. x ∷ zs) (take_front xs ys i (omega (arith, h)))

abbrev one : (DeclBody → Bool) → Decl → ℕ
one p d = cond (p d.body) 1 0

-- ---- one revision

-- what a declaration is in a place
abbrev RevisedAt : List Decl → ℕ → Decl → Type 0
RevisedAt ds at e = (d : Decl) → slice_get ds at ≡ Some d → IsRevised d.body e.body

module _ (f : ℕ → Place → Ty) (t : Table) where
  -- it stays
  old_stays : (k : ℕ) (d e : DeclBody) → IsRevised d e → replaced_body f t k d ≡ d
  old_stays k d e (inl r) = ap (replaced_body f t k) r.old ∙ sym r.old
  old_stays k d e (inr (inl r)) = ap (replaced_body f t k) r.old ∙ sym r.old
  old_stays k d e (inr (inr (inl r))) = ap (replaced_body f t k) r.old ∙ sym r.old
  old_stays k d e (inr (inr (inr r))) = ap (replaced_body f t k) r.old ∙ sym r.old

  new_stays : (k : ℕ) (d e : DeclBody) → IsRevised d e → replaced_body f t k e ≡ e
  new_stays k d e (inl r) = ap (replaced_body f t k) r.new ∙ sym r.new
  new_stays k d e (inr (inl r)) = ap (replaced_body f t k) r.new ∙ sym r.new
  new_stays k d e (inr (inr (inl r))) = ap (replaced_body f t k) r.new ∙ sym r.new
  new_stays k d e (inr (inr (inr r))) = ap (replaced_body f t k) r.new ∙ sym r.new

  pub as_long : (k : ℕ) (ds : List Decl) → length (replaced_from f t k ds) ≡ length ds
  as_long k [] = refl
  as_long k (d ∷ ds) = ap suc (as_long (users_with k d.body) ds)

  same_users : (k : ℕ) (d e : DeclBody) → IsRevised d e → users_with k e ≡ users_with k d
  same_users k = of_revised (users_with k) (λ n ps g ss zs a b q h. refl) (λ n ps g a b. refl) (λ x y. refl) (λ n ps ins v x y h. refl)

  from_set : (k : ℕ) (ds : List Decl) (at : ℕ) (e : Decl) → RevisedAt ds at e → replaced_from f t k (slice_set ds at e) ≡ slice_set (replaced_from f t k ds) at e
  from_set k [] at e r = refl
  from_set k (x ∷ xs) zero e r =
      let s = r x refl in
      λ i. record e { body = new_stays (users_with k e.body) x.body e.body s i } ∷ replaced_from f t (same_users k x.body e.body s i) xs
  from_set k (x ∷ xs) (suc at) e r = ap (λ es. record x { body = replaced_body f t (users_with k x.body) x.body } ∷ es) (from_set (users_with k x.body) xs at e r)

  from_revised : (k : ℕ) (ds : List Decl) (at : ℕ) (e : Decl) → RevisedAt ds at e → RevisedAt (replaced_from f t k ds) at e
  from_revised k [] at e r d g = r d g
  from_revised k (x ∷ xs) zero e r d g =
      let s = r x refl in
      let same : replaced_body f t (users_with k x.body) x.body ≡ x.body = old_stays (users_with k x.body) x.body e.body s in
      let here : x ≡ d = (λ i. record x { body = sym same i }) ∙ some_is (record x { body = replaced_body f t (users_with k x.body) x.body }) d g in
      subst (λ (y : Decl). IsRevised y.body e.body) here s
    where
      some_is : (y z : Decl) → Some y ≡ Some z → y ≡ z
      some_is y z q = cc
  from_revised k (x ∷ xs) (suc at) e r d g = from_revised (users_with k x.body) xs at e r d g

  kind_stays : (k : ℕ) (b : DeclBody) → is_procedure (replaced_body f t k b) ≡ is_procedure b
  kind_stays k (constant u ns s) = refl
  kind_stays k (synonym n None) = refl
  kind_stays k (synonym n (Some s)) = refl
  kind_stays k (function n ps ins r x) = refl
  kind_stays k (axiom_of x) = refl
  kind_stays k (variables gs) = refl
  kind_stays k (procedure n ps s ss b) = refl
  kind_stays k (implementation n ps s b) = refl

  axiom_stays : (k : ℕ) (b : DeclBody) → is_axiom (replaced_body f t k b) ≡ is_axiom b
  axiom_stays k (constant u ns s) = refl
  axiom_stays k (synonym n None) = refl
  axiom_stays k (synonym n (Some s)) = refl
  axiom_stays k (function n ps ins r x) = refl
  axiom_stays k (axiom_of x) = refl
  axiom_stays k (variables gs) = refl
  axiom_stays k (procedure n ps s ss b) = refl
  axiom_stays k (implementation n ps s b) = refl

  -- as many that are so stand before
  as_many : (p : DeclBody → Bool) → ((k : ℕ) (b : DeclBody) → p (replaced_body f t k b) ≡ p b) → (k : ℕ) (ds : List Decl) (at : ℕ) → count_by (λ (d : Decl). p d.body) (take at (replaced_from f t k ds)) ≡ count_by (λ (d : Decl). p d.body) (take at ds)
  as_many p stays k [] at = refl
  as_many p stays k (x ∷ xs) zero = refl
  as_many p stays k (x ∷ xs) (suc at) =
      let u = users_with k x.body in
      sum_by-cons (one p) (record x { body = replaced_body f t u x.body }) (take at (replaced_from f t u xs))
      ∙ (λ i. cond (stays u x.body i) 1 0 + as_many p stays u xs at i) ∙ sym (sum_by-cons (one p) x (take at xs))

-- over tables that differ in the values of functions alone

module _ (t u : Table) (like : LikeTables t u) where
  body_like : (f : ℕ → Place → Ty) (k : ℕ) (b : DeclBody) → replaced_body f t k b ≡ replaced_body f u k b
  body_like f k (constant w ns s) = λ i. constant (kept_unique (user_like t u like s i) w) ns s
  body_like f k (synonym n None) = refl
  body_like f k (synonym n (Some s)) = refl
  body_like f k (function n ps ins r x) = refl
  body_like f k (axiom_of x) = refl
  body_like f k (variables gs) = refl
  body_like f k (procedure n ps s ss b) = refl
  body_like f k (implementation n ps s b) = refl

  from_like : (f : ℕ → Place → Ty) (k : ℕ) (ds : List Decl) → replaced_from f t k ds ≡ replaced_from f u k ds
  from_like f k [] = refl
  from_like f k (d ∷ ds) = λ i. record d { body = body_like f (users_with k d.body) d.body i } ∷ from_like f (users_with k d.body) ds i

  unique_like : (b : DeclBody) → uniques_in t b ≡ uniques_in u b
  unique_like (constant w ns s) = λ i. uniques_of w (user_like t u like s i) ns
  unique_like (synonym n s) = refl
  unique_like (function n ps ins r x) = refl
  unique_like (axiom_of x) = refl
  unique_like (variables gs) = refl
  unique_like (procedure n ps s ss b) = refl
  unique_like (implementation n ps s b) = refl

  uniques_like : (ds : List Decl) → uniques t ds ≡ uniques u ds
  uniques_like ds = λ i. flat_map (λ (d : Decl). unique_like d.body i) ds

-- ---- carriers

axioms_stay : (k : ℕ) (ds : List Decl) (at : ℕ) (e : Decl) → RevisedAt ds at e → axioms_after k (slice_set ds at e) ≡ axioms_after k ds
axioms_stay k [] at e r = refl
axioms_stay k (x ∷ xs) zero e r = ap (λ n. axioms_after n xs) (of_revised (axioms_with k) (λ n ps g ss zs a b q h. refl) (λ n ps g a b. refl) (λ y z. refl) (λ n ps ins v y z h. refl) x.body e.body (r x refl))
axioms_stay k (x ∷ xs) (suc at) e r = axioms_stay (axioms_with k x.body) xs at e r

module _ (ds : List Decl) (at : ℕ) (e : Decl) (there : at < length ds) (r : RevisedAt ds at e) where
  stood : slice_get ds at ≡ Some (get_or ds at e)
  stood = slice_get-get_or ds at e there

  tables : LikeTables (table_of (slice_set ds at e)) (table_of ds)
  tables = tables_alike ds at (get_or ds at e) e stood (r (get_or ds at e) stood)

  uniques_set : (t : Table) → uniques t (slice_set ds at e) ≡ uniques t ds
  uniques_set t = same_parts (λ (d : Decl). uniques_in t d.body) ds at (get_or ds at e) e stood
      (of_revised (uniques_in t) (λ n ps g ss zs a b q h. refl) (λ n ps g a b. refl) (λ x y. refl) (λ n ps ins v x y h. refl) (get_or ds at e).body e.body (r (get_or ds at e) stood))

  read_set : (f : ℕ → Place → Ty) → replaced f (slice_set ds at e) ≡ slice_set (replaced f ds) at e
  read_set f = from_like (table_of (slice_set ds at e)) (table_of ds) tables f 0 (slice_set ds at e) ∙ from_set f (table_of ds) 0 ds at e r

  axioms_set : carrier_axioms (slice_set ds at e) ≡ carrier_axioms ds
  axioms_set =
      (λ i. axioms_from (λ j. 0) (axioms_stay 0 ds at e r i) (uniques_like (table_of (slice_set ds at e)) (table_of ds) tables (slice_set ds at e) i))
      ∙ ap (axioms_from (λ j. 0) (axioms_after 0 ds)) (uniques_set (table_of ds))

  within : at < length (replaced as_integers ds)
  within = omega (arith, there, as_long as_integers (table_of ds) 0 ds)

  erased_set : erased (slice_set ds at e) ≡ slice_set (erased ds) at e
  erased_set = (λ i. read_set as_integers i ++ axioms_set i) ∙ set_front (replaced as_integers ds) (carrier_axioms ds) at e within

  apart_set : told_apart (slice_set ds at e) ≡ slice_set (told_apart ds) at e
  apart_set = read_set maps_over

  -- of what stands there in the reading it is a revision too
  pub erased_revised : RevisedAt (erased ds) at e
  erased_revised d g = from_revised as_integers (table_of ds) 0 ds at e r d (sym (get_front (replaced as_integers ds) (carrier_axioms ds) at within) ∙ g)

  pub erased_there : at < length (erased ds)
  erased_there = omega (arith, within, length-append (replaced as_integers ds) (carrier_axioms ds))

  pub apart_revised : RevisedAt (told_apart ds) at e
  apart_revised = from_revised maps_over (table_of ds) 0 ds at e r

  pub apart_there : at < length (told_apart ds)
  apart_there = omega (arith, there, as_long maps_over (table_of ds) 0 ds)

-- ---- what is found in the program is found in the reading

module _ (p : DeclBody → Bool) (stays : (f : ℕ → Place → Ty) (t : Table) (k : ℕ) (b : DeclBody) → p (replaced_body f t k b) ≡ p b) (no_axiom : (x : Expr) → p (axiom_of x) ≡ false) where
  any_read : (f : ℕ → Place → Ty) (t : Table) (k : ℕ) (ds : List Decl) → any_decl p (replaced_from f t k ds) ≡ any_decl p ds
  any_read f t k [] = refl
  any_read f t k (d ∷ ds) = λ i. stays f t (users_with k d.body) d.body i || any_read f t (users_with k d.body) ds i

  only_read : (f : ℕ → Place → Ty) (t : Table) (k : ℕ) (ds : List Decl) → only_place p (replaced_from f t k ds) ≡ only_place p ds
  only_read f t k [] = refl
  only_read f t k (d ∷ ds) = λ i. cond (stays f t (users_with k d.body) d.body i) (cond (any_read f t (users_with k d.body) ds i) None (Some 0)) (option_map suc (only_read f t (users_with k d.body) ds i))

  no_axioms : (count : ℕ → ℕ) (k : ℕ) (us : List Unique) → any_decl p (axioms_from count k us) ≡ false
  no_axioms count k [] = refl
  no_axioms count k (u ∷ us) = (λ i. no_axiom (expr u.1.at (related eq (expr u.1.at (variable u.1)) (expr u.1.at (number (count u.0))))) i || any_decl p (axioms_from (one_more count u.0) (suc k) us)) ∙ no_axioms (one_more count u.0) (suc k) us

  no_only : (xs : List Decl) → any_decl p xs ≡ false → only_place p xs ≡ None
  no_only [] h = refl
  no_only (x ∷ xs) h = let q = neither (p x.body) (any_decl p xs) h in λ i. cond (q.0 i) (cond (any_decl p xs) None (Some 0)) (option_map suc (no_only xs q.1 i))

  any_front : (xs ys : List Decl) → any_decl p ys ≡ false → any_decl p (xs ++ ys) ≡ any_decl p xs
  any_front [] ys h = h
  any_front (x ∷ xs) ys h = ap (λ b. p x.body || b) (any_front xs ys h)

  only_front : (xs ys : List Decl) → any_decl p ys ≡ false → only_place p (xs ++ ys) ≡ only_place p xs
  only_front [] ys h = no_only ys h
  only_front (x ∷ xs) ys h = λ i. cond (p x.body) (cond (any_front xs ys h i) None (Some 0)) (option_map suc (only_front xs ys h i))

  any_erased : (ds : List Decl) → any_decl p (erased ds) ≡ any_decl p ds
  any_erased ds = any_front (replaced as_integers ds) (carrier_axioms ds) (no_axioms (λ i. 0) (axioms_after 0 ds) (uniques (table_of ds) ds)) ∙ any_read as_integers (table_of ds) 0 ds

  only_erased : (ds : List Decl) → only_place p (erased ds) ≡ only_place p ds
  only_erased ds = only_front (replaced as_integers ds) (carrier_axioms ds) (no_axioms (λ i. 0) (axioms_after 0 ds) (uniques (table_of ds) ds)) ∙ only_read as_integers (table_of ds) 0 ds

lacks_read : (m : Text) (f : ℕ → Place → Ty) (t : Table) (k : ℕ) (b : DeclBody) → lacks_body m (replaced_body f t k b) ≡ lacks_body m b
lacks_read m f t k (constant u ns s) = refl
lacks_read m f t k (synonym n None) = refl
lacks_read m f t k (synonym n (Some s)) = refl
lacks_read m f t k (function n ps ins r x) = refl
lacks_read m f t k (axiom_of x) = refl
lacks_read m f t k (variables gs) = refl
lacks_read m f t k (procedure n ps s ss b) = refl
lacks_read m f t k (implementation n ps s b) = refl

gives_read : (m : Text) (f : ℕ → Place → Ty) (t : Table) (k : ℕ) (b : DeclBody) → gives_body m (replaced_body f t k b) ≡ gives_body m b
gives_read m f t k (constant u ns s) = refl
gives_read m f t k (synonym n None) = refl
gives_read m f t k (synonym n (Some s)) = refl
gives_read m f t k (function n ps ins r x) = refl
gives_read m f t k (axiom_of x) = refl
gives_read m f t k (variables gs) = refl
gives_read m f t k (procedure n ps s ss b) = refl
gives_read m f t k (implementation n ps s b) = refl

pub place_read : (ds : List Decl) (at : ℕ) (b : DeclBody) → procedure_place (erased ds) at b ≡ procedure_place ds at b
place_read ds at (procedure n ps s ss (Some b)) = refl
place_read ds at (procedure n ps s ss None) = λ i. cond (any_erased (gives_body n.text) (gives_read n.text) (λ x. refl) ds i) None (Some at)
place_read ds at (implementation n ps s b) =
    λ i. if_at at (only_erased (gives_body n.text) (gives_read n.text) (λ x. refl) ds i) (only_erased (lacks_body n.text) (lacks_read n.text) (λ x. refl) ds i)
place_read ds at (constant u ns s) = refl
place_read ds at (function n ps ins r x) = refl
place_read ds at (axiom_of x) = refl
place_read ds at (variables gs) = refl
place_read ds at (synonym n s) = refl

-- as many procedures stand before, and as many axioms
counted_read : (p : DeclBody → Bool) → ((t : Table) (k : ℕ) (b : DeclBody) → p (replaced_body as_integers t k b) ≡ p b) → (ds : List Decl) (k : ℕ) → k < length ds → count_by (λ (d : Decl). p d.body) (take k (erased ds)) ≡ count_by (λ (d : Decl). p d.body) (take k ds)
counted_read p stays ds k there =
    ap (count_by (λ (d : Decl). p d.body)) (take_front (replaced as_integers ds) (carrier_axioms ds) k (omega (arith, there, as_long as_integers (table_of ds) 0 ds))) ∙ as_many as_integers (table_of ds) p (stays (table_of ds)) 0 ds k

pub procedures_read : (ds : List Decl) (k : ℕ) → k < length ds → count_by (λ (d : Decl). is_procedure d.body) (take k (erased ds)) ≡ count_by (λ (d : Decl). is_procedure d.body) (take k ds)
procedures_read = counted_read is_procedure (kind_stays as_integers)

pub axioms_read : (ds : List Decl) (k : ℕ) → k < length ds → count_by (λ (d : Decl). is_axiom d.body) (take k (erased ds)) ≡ count_by (λ (d : Decl). is_axiom d.body) (take k ds)
axioms_read = counted_read is_axiom (axiom_stays as_integers)

-- a procedure is itself
procedure_stays : (f : ℕ → Place → Ty) (t : Table) (k : ℕ) (b : DeclBody) → is_procedure b ≡ true → replaced_body f t k b ≡ b
procedure_stays f t k (procedure n ps s ss b) h = refl
procedure_stays f t k (constant u ns s) h = absurd (false≢true h)
procedure_stays f t k (function n ps ins r x) h = absurd (false≢true h)
procedure_stays f t k (axiom_of x) h = absurd (false≢true h)
procedure_stays f t k (variables gs) h = absurd (false≢true h)
procedure_stays f t k (synonym n s) h = absurd (false≢true h)
procedure_stays f t k (implementation n ps s b) h = absurd (false≢true h)

procedure_from : (f : ℕ → Place → Ty) (t : Table) (j : ℕ) (ds : List Decl) (k : ℕ) (e : Decl) → is_procedure (get_or ds k e).body ≡ true → (get_or (replaced_from f t j ds) k e).body ≡ (get_or ds k e).body
procedure_from f t j [] k e h = refl
procedure_from f t j (d ∷ ds) zero e h = procedure_stays f t (users_with j d.body) d.body h
procedure_from f t j (d ∷ ds) (suc k) e h = procedure_from f t (users_with j d.body) ds k e h

get_or_front : (xs ys : List Decl) (k : ℕ) (e : Decl) → k < length xs → get_or (xs ++ ys) k e ≡ get_or xs k e
get_or_front [] ys k e h = absurd (omega (arith, h))
get_or_front (x ∷ xs) ys zero e h = refl
get_or_front (x ∷ xs) ys (suc k) e h = get_or_front xs ys k e (omega (arith, h))

pub procedure_read : (ds : List Decl) (k : ℕ) (e : Decl) → k < length ds → is_procedure (procedure_by ds k e) ≡ true → procedure_by (erased ds) k e ≡ procedure_by ds k e
procedure_read ds k e there h = by (is_procedure e.body) refl
  where
    by : (b : Bool) → is_procedure e.body ≡ b → cond (is_procedure e.body) e.body (get_or (erased ds) k e).body ≡ cond (is_procedure e.body) e.body (get_or ds k e).body
    by true is = (λ i. cond (is i) e.body (get_or (erased ds) k e).body) ∙ sym (λ i. cond (is i) e.body (get_or ds k e).body)
    by false is =
        let stands : is_procedure (get_or ds k e).body ≡ true = sym (λ i. is_procedure (cond (is i) e.body (get_or ds k e).body)) ∙ h in
        ap (cond (is_procedure e.body) e.body) (
        ap (λ (d : Decl). d.body) (get_or_front (replaced as_integers ds) (carrier_axioms ds) k e (omega (arith, there, as_long as_integers (table_of ds) 0 ds)))
        ∙ procedure_from as_integers (table_of ds) 0 ds k e stands)

-- ---- several

pub all_apart : (ds : List Decl) (cs : List (ℕ × Decl)) → AreRevised ds cs → AreRevised (told_apart ds) cs
all_apart ds [] h = tt
all_apart ds (c ∷ cs) h = ((apart_there ds c.0 c.1 h.0.0 h.0.1, apart_revised ds c.0 c.1 h.0.0 h.0.1), all_apart ds cs h.1)

pub readings_keep : ReadingsKeepBodies
readings_keep ds [] h = (refl, refl)
readings_keep ds (c ∷ cs) h =
    let rest = readings_keep ds cs h.1 in
    let there = all_there ds cs c.0 h.0.0 in
    let still = all_still ds cs h.1 c.0 c.1 h.0.1 in
    (erased_set (all_put ds cs) c.0 c.1 there still ∙ ap (λ (es : List Decl). slice_set es c.0 c.1) rest.0, apart_set (all_put ds cs) c.0 c.1 there still ∙ ap (λ (es : List Decl). slice_set es c.0 c.1) rest.1)
