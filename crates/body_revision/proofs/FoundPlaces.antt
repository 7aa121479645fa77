-- The places of declarations that alone are so: where they are, and that revisions of others leave them.
use Rattle.std.proofs.Common.{◌≡◌, ◌≢◌, refl, sym, ap, ◌∙◌, subst, arith, inl, inr, ℕ, zero, suc, ◌+◌, ◌<◌, nat_eq, Bool, true, false, ◌||◌, cond, List, [], ◌∷◌, length, get_or, slice_get, slice_set, Option, Some, None, option_map}
use Rattle.std.specs.Prelude.{is_some}
use Rattle.std.specs.Option.{unwrap_or}
use Rattle.std.proofs.lemmas.Bool.{false≢true, eqb-true}
use Rattle.std.proofs.lemmas.Option.{slice_get-get_or}
use Rattle.bpl_ast.specs.Place.{Name, Params}
use Rattle.bpl_ast.specs.Statement.{Body, Signature, Spec, DeclBody, constant, function, axiom_of, variables, synonym, procedure, implementation, Decl}
use Rattle.bpl_scopes.specs.Scopes.{Text}
use Rattle.bpl_resolve.proofs.Ways.{same_text}
use Rattle.body_revision.specs.Revised.{IsRevised}
use Rattle.body_revision.specs.Procedures.{is_procedure, is_axiom, lacks_body, gives_body, any_decl, only_place, if_at, procedure_place, procedure_by}
use Rattle.body_revision.proofs.KeptBodies.{of_revised, parted}

-- ---- the place of the only one

-- one is so at that place, and no other
abbrev pub IsOnlyAt : (DeclBody → Bool) → List Decl → ℕ → Type 0
IsOnlyAt f [] k = ⊥
IsOnlyAt f (d ∷ ds) zero = (f d.body ≡ true) × (any_decl f ds ≡ false)
IsOnlyAt f (d ∷ ds) (suc k) = (f d.body ≡ false) × IsOnlyAt f ds k

pub only_at : (f : DeclBody → Bool) (ds : List Decl) (k : ℕ) → only_place f ds ≡ Some k → IsOnlyAt f ds k
only_at f [] k is = absurd (cc)
only_at f (d ∷ ds) k is = by k (f d.body) (any_decl f ds) (only_place f ds) refl refl (λ j h. only_at f ds j h) is
  where
    by : (k : ℕ) (b a : Bool) (o : Option ℕ) → f d.body ≡ b → any_decl f ds ≡ a → ((j : ℕ) → o ≡ Some j → IsOnlyAt f ds j) → ◌≡◌ {A = Option ℕ} (cond b (cond a None (Some 0)) (option_map suc o)) (Some k) → IsOnlyAt f (d ∷ ds) k
    by k true true o p q h e = absurd (cc)
    by zero true false o p q h e = (p, q)
    by (suc k) true false o p q h e = absurd (cc)
    by k false a None p q h e = absurd (cc)
    by zero false a (Some j) p q h e = absurd (cc)
    by (suc k) false a (Some j) p q h e = let same : j ≡ k = cc in (p, subst (IsOnlyAt f ds) same (h j refl))

pub only_there : (f : DeclBody → Bool) (ds : List Decl) (k : ℕ) → IsOnlyAt f ds k → k < length ds
only_there f [] k h = absurd h
only_there f (d ∷ ds) zero h = omega arith
only_there f (d ∷ ds) (suc k) h = omega (arith, only_there f ds k h.1)

pub only_is : (f : DeclBody → Bool) (ds : List Decl) (k : ℕ) (e : Decl) → IsOnlyAt f ds k → f (get_or ds k e).body ≡ true
only_is f [] k e h = absurd h
only_is f (d ∷ ds) zero e h = h.0
only_is f (d ∷ ds) (suc k) e h = only_is f ds k e h.1

some_only : (f : DeclBody → Bool) (ds : List Decl) (k : ℕ) → IsOnlyAt f ds k → any_decl f ds ≡ true
some_only f [] k h = absurd h
some_only f (d ∷ ds) zero h = ap (λ b. b || any_decl f ds) h.0
some_only f (d ∷ ds) (suc k) h = ap (λ b. b || any_decl f ds) h.0 ∙ some_only f ds k h.1

-- ---- the loop over them

pub place_begins : (o : Option ℕ) → option_map (λ k. 0 + k) o ≡ o
place_begins None = refl
place_begins (Some k) = ap Some (omega arith)

pub place_found : (f : DeclBody → Bool) (at : ℕ) (d : Decl) (ds : List Decl) → f d.body ≡ true → cond (any_decl f ds) None (Some at) ≡ option_map (λ k. at + k) (only_place f (d ∷ ds))
place_found f at d ds is = by (any_decl f ds) ∙ sym (ap (λ b. option_map (λ k. at + k) (cond b (cond (any_decl f ds) None (Some 0)) (option_map suc (only_place f ds)))) is)
  where
    by : (c : Bool) → ◌≡◌ {A = Option ℕ} (cond c None (Some at)) (option_map (λ k. at + k) (cond c None (Some 0)))
    by true = refl
    by false = ap Some (omega arith)

pub place_behind : (f : DeclBody → Bool) (at : ℕ) (d : Decl) (ds : List Decl) → f d.body ≡ false → option_map (λ k. at + k) (only_place f (d ∷ ds)) ≡ option_map (λ k. at + 1 + k) (only_place f ds)
place_behind f at d ds is = ap (λ b. option_map (λ k. at + k) (cond b (cond (any_decl f ds) None (Some 0)) (option_map suc (only_place f ds)))) is ∙ by (only_place f ds)
  where
    by : (o : Option ℕ) → option_map (λ k. at + k) (option_map suc o) ≡ option_map (λ k. at + 1 + k) o
    by None = refl
    by (Some k) = ap Some (omega arith)

-- ---- a declaration in the place of another

pub any_stays : (f : DeclBody → Bool) (ds : List Decl) (at : ℕ) (d e : Decl) → slice_get ds at ≡ Some d → f e.body ≡ f d.body → any_decl f (slice_set ds at e) ≡ any_decl f ds
any_stays f [] at d e g h = refl
any_stays f (x ∷ xs) zero d e g h = let s : x ≡ d = cc in λ i. (h ∙ ap (λ (y : Decl). f y.body) (sym s)) i || any_decl f xs
any_stays f (x ∷ xs) (suc at) d e g h = ap (λ b. f x.body || b) (any_stays f xs at d e g h)

pub only_stays : (f : DeclBody → Bool) (ds : List Decl) (at : ℕ) (d e : Decl) → slice_get ds at ≡ Some d → f e.body ≡ f d.body → only_place f (slice_set ds at e) ≡ only_place f ds
only_stays f [] at d e g h = refl
only_stays f (x ∷ xs) zero d e g h = let s : x ≡ d = cc in λ i. cond ((h ∙ ap (λ (y : Decl). f y.body) (sym s)) i) (cond (any_decl f xs) None (Some 0)) (option_map suc (only_place f xs))
only_stays f (x ∷ xs) (suc at) d e g h = λ i. cond (f x.body) (cond (any_stays f xs at d e g h i) None (Some 0)) (option_map suc (only_stays f xs at d e g h i))

lacking_stays : (m : Text) (n : Name) (ps : Option Params) (g : Signature) (ss zs : List Spec) (a b : Option Body) → is_some b ≡ is_some a → lacks_body m (procedure n ps g zs b) ≡ lacks_body m (procedure n ps g ss a)
lacking_stays m n ps g ss zs None None h = refl
lacking_stays m n ps g ss zs None (Some b) h = absurd (false≢true (sym h))
lacking_stays m n ps g ss zs (Some a) None h = absurd (false≢true h)
lacking_stays m n ps g ss zs (Some a) (Some b) h = refl

pub lacks_stays : (m : Text) (d e : DeclBody) → IsRevised d e → lacks_body m e ≡ lacks_body m d
lacks_stays m = of_revised (lacks_body m) (λ n ps g ss zs a b same h. lacking_stays m n ps g ss zs a b h) (λ n ps g a b. refl) (λ x y. refl) (λ n ps ins v x y h. refl)

pub gives_stays : (m : Text) (d e : DeclBody) → IsRevised d e → gives_body m e ≡ gives_body m d
gives_stays m = of_revised (gives_body m) (λ n ps g ss zs a b same h. refl) (λ n ps g a b. refl) (λ x y. refl) (λ n ps ins v x y h. refl)

pub kind_stays : (d e : DeclBody) → IsRevised d e → is_procedure e ≡ is_procedure d
kind_stays = of_revised is_procedure (λ n ps g ss zs a b same h. refl) (λ n ps g a b. refl) (λ x y. refl) (λ n ps ins v x y h. refl)

pub axiom_stays : (d e : DeclBody) → IsRevised d e → is_axiom e ≡ is_axiom d
axiom_stays = of_revised is_axiom (λ n ps g ss zs a b same h. refl) (λ n ps g a b. refl) (λ x y. refl) (λ n ps ins v x y h. refl)

-- what is found is so with a revision
pub place_stays : (ds : List Decl) (at : ℕ) (d e : Decl) → slice_get ds at ≡ Some d → IsRevised d.body e.body → (k : ℕ) (f : DeclBody) → procedure_place (slice_set ds at e) k f ≡ procedure_place ds k f
place_stays ds at d e g r k (procedure n ps s ss (Some b)) = refl
place_stays ds at d e g r k (procedure n ps s ss None) = λ i. cond (any_stays (gives_body n.text) ds at d e g (gives_stays n.text d.body e.body r) i) None (Some k)
place_stays ds at d e g r k (implementation n ps s b) =
    λ i. if_at k (only_stays (gives_body n.text) ds at d e g (gives_stays n.text d.body e.body r) i) (only_stays (lacks_body n.text) ds at d e g (lacks_stays n.text d.body e.body r) i)
place_stays ds at d e g r k (constant u ns s) = refl
place_stays ds at d e g r k (function n ps ins t x) = refl
place_stays ds at d e g r k (axiom_of x) = refl
place_stays ds at d e g r k (variables gs) = refl
place_stays ds at d e g r k (synonym n s) = refl

some_is : {A : Type 0} (x y : A) → Some x ≡ Some y → x ≡ y
some_is x y e = ap (λ o. unwrap_or o x) e

pub still_revised : (ds : List Decl) (at : ℕ) (e : Decl) (k : ℕ) (f : Decl) → ((d : Decl) → slice_get ds at ≡ Some d → IsRevised d.body e.body) → ((d : Decl) → slice_get ds k ≡ Some d → IsRevised d.body f.body)
    → (d : Decl) → slice_get (slice_set ds at e) k ≡ Some d → IsRevised d.body f.body
still_revised [] at e k f r s d g = s d g
still_revised (x ∷ xs) zero e zero f r s d g = subst (λ (y : Decl). IsRevised y.body f.body) (some_is e d g) (parted x.body e.body f.body (r x refl) (s x refl))
still_revised (x ∷ xs) zero e (suc k) f r s d g = s d g
still_revised (x ∷ xs) (suc at) e zero f r s d g = s d g
still_revised (x ∷ xs) (suc at) e (suc k) f r s d g = still_revised xs at e k f r s d g

-- ---- the procedure of an implementation

pub record IsGiven (ds : List Decl) (n : Text) (at place : ℕ) : Type 0 where
  pub alone : IsOnlyAt (gives_body n) ds at
  pub lacks : IsOnlyAt (lacks_body n) ds place

pub given : (ds : List Decl) (at : ℕ) (n : Name) (ps : Option Params) (g : Signature) (b : Body) (place : ℕ) → procedure_place ds at (implementation n ps g b) ≡ Some place → IsGiven ds n.text at place
given ds at n ps g b place is = by (only_place (gives_body n.text) ds) (only_place (lacks_body n.text) ds) refl refl is
  where
    by : (o p : Option ℕ) → only_place (gives_body n.text) ds ≡ o → only_place (lacks_body n.text) ds ≡ p → if_at at o p ≡ Some place → IsGiven ds n.text at place
    by None p x y h = absurd (cc)
    by (Some k) p x y h = so (nat_eq k at) refl h
      where
        so : (r : Bool) → nat_eq k at ≡ r → ◌≡◌ {A = Option ℕ} (cond r p None) (Some place) → IsGiven ds n.text at place
        so true z w = record { alone = subst (IsOnlyAt (gives_body n.text) ds) (eqb-true k at z) (only_at (gives_body n.text) ds k x); lacks = only_at (lacks_body n.text) ds place (y ∙ w) }
        so false z w = absurd (cc)

pub lacks_procedure : (m : Text) (d : DeclBody) → lacks_body m d ≡ true → is_procedure d ≡ true
lacks_procedure m (procedure n ps g ss b) h = refl
lacks_procedure m (constant u ns s) h = absurd (false≢true h)
lacks_procedure m (function n ps ins t x) h = absurd (false≢true h)
lacks_procedure m (axiom_of x) h = absurd (false≢true h)
lacks_procedure m (variables gs) h = absurd (false≢true h)
lacks_procedure m (synonym n s) h = absurd (false≢true h)
lacks_procedure m (implementation n ps g b) h = absurd (false≢true h)

none_there : (o : Bool) (at place : ℕ) → ◌≡◌ {A = Option ℕ} (cond o None (Some at)) (Some place) → (o ≡ false) × (at ≡ place)
none_there true at place h = absurd (cc)
none_there false at place h = (refl, cc)

pub procedure_there : (ds : List Decl) (at : ℕ) (e : Decl) (place : ℕ) → procedure_place ds at e.body ≡ Some place → at < length ds → (place < length ds) × (is_procedure (procedure_by ds place e) ≡ true)
procedure_there ds at e place is there = by e.body is
  where
    by : (b : DeclBody) → procedure_place ds at b ≡ Some place → (place < length ds) × (is_procedure (cond (is_procedure b) b (get_or ds place e).body) ≡ true)
    by (procedure n ps g ss (Some b)) h = let same : at ≡ place = cc in (subst (λ k. k < length ds) same there, refl)
    by (procedure n ps g ss None) h = (subst (λ k. k < length ds) ((none_there (any_decl (gives_body n.text) ds) at place h).1) there, refl)
    by (implementation n ps g b) h =
        let r = given ds at n ps g b place h in
        (only_there (lacks_body n.text) ds place r.lacks, lacks_procedure n.text (get_or ds place e).body (only_is (lacks_body n.text) ds place e r.lacks))
    by (constant u ns s) h = absurd (cc)
    by (function n ps ins t x) h = absurd (cc)
    by (axiom_of x) h = absurd (cc)
    by (variables gs) h = absurd (cc)
    by (synonym n s) h = absurd (cc)

-- of a procedure itself
pub own_place : (ds : List Decl) (at : ℕ) (n : Name) (ps : Option Params) (g : Signature) (ss : List Spec) (b : Option Body) (place : ℕ) → procedure_place ds at (procedure n ps g ss b) ≡ Some place → at ≡ place
own_place ds at n ps g ss (Some b) place h = cc
own_place ds at n ps g ss None place h = (none_there (any_decl (gives_body n.text) ds) at place h).1

pub own_alone : (ds : List Decl) (at : ℕ) (n : Name) (ps : Option Params) (g : Signature) (ss : List Spec) (place : ℕ) → procedure_place ds at (procedure n ps g ss None) ≡ Some place → any_decl (gives_body n.text) ds ≡ false
own_alone ds at n ps g ss place h = (none_there (any_decl (gives_body n.text) ds) at place h).0

-- a procedure that is revised by itself is not the one of an implementation
lacking_found : (ds : List Decl) (at : ℕ) (n : Name) (ps : Option Params) (g : Signature) (ss zs : List Spec) (a b : Option Body) (place : ℕ) (m : Text) → procedure_place ds at (procedure n ps g zs b) ≡ Some place → is_some b ≡ is_some a
    → lacks_body m (procedure n ps g ss a) ≡ true → any_decl (gives_body m) ds ≡ false
lacking_found ds at n ps g ss zs None None place m found same h = subst (λ k. any_decl (gives_body k) ds ≡ false) (same_text n.text m h) (own_alone ds at n ps g zs place found)
lacking_found ds at n ps g ss zs None (Some b) place m found same h = absurd (false≢true (sym same))
lacking_found ds at n ps g ss zs (Some a) b place m found same h = absurd (false≢true h)

abbrev pub IsFound : List Decl → ℕ → DeclBody → Type 0
IsFound ds at e = is_procedure e ≡ true → (place : ℕ) × (procedure_place ds at e ≡ Some place)

pub apart : (ds : List Decl) (at : ℕ) (d e : Decl) (n : Text) (k other : ℕ) → slice_get ds at ≡ Some d → IsRevised d.body e.body → IsFound ds at e.body → IsGiven ds n k other → at ≢ other
apart ds at d e n k other g r found is same = by r
  where
    here : lacks_body n d.body ≡ true
    here = ap (λ (x : Decl). lacks_body n x.body) (some_is d (get_or ds other d) (sym (ap (slice_get ds) (sym same) ∙ g) ∙ stood)) ∙ only_is (lacks_body n) ds other d is.lacks
      where
        stood : slice_get ds other ≡ Some (get_or ds other d)
        stood = slice_get-get_or ds other d (only_there (lacks_body n) ds other is.lacks)

    by : IsRevised d.body e.body → ⊥
    by (inl q) =
        let there = found (ap is_procedure q.new) in
        false≢true (sym (lacking_found ds at q.name q.params q.signature q.specs q.new_specs q.before q.after there.0 n (ap (procedure_place ds at) (sym q.new) ∙ there.1) q.bodies (ap (lacks_body n) (sym q.old) ∙ here)) ∙ some_only (gives_body n) ds k is.alone)
    by (inr (inl q)) = false≢true (ap (lacks_body n) (sym q.old) ∙ here)
    by (inr (inr (inl q))) = false≢true (ap (lacks_body n) (sym q.old) ∙ here)
    by (inr (inr (inr q))) = false≢true (ap (lacks_body n) (sym q.old) ∙ here)

-- ---- the place, by what the code finds

pub place_of_lacking : (ds : List Decl) (at : ℕ) (d : DeclBody) (n : Name) (ps : Option Params) (g : Signature) (ss : List Spec) (b : Option Body) (m : Text) (r : Option ℕ) → d ≡ procedure n ps g ss b → b ≡ None → m ≡ n.text
    → r ≡ cond (any_decl (gives_body m) ds) None (Some at) → r ≡ procedure_place ds at d
place_of_lacking ds at d n ps g ss b m r is none text found =
    found
    ∙ (λ i. cond (any_decl (gives_body (text i)) ds) None (Some at))
    ∙ sym (ap (procedure_place ds at) (is ∙ (λ i. procedure n ps g ss (none i))))

pub place_of_given : (ds : List Decl) (at : ℕ) (d : DeclBody) (n : Name) (ps : Option Params) (g : Signature) (b : Body) (m : Text) (r : Option ℕ) → d ≡ implementation n ps g b → m ≡ n.text
    → r ≡ if_at at (only_place (gives_body m) ds) (only_place (lacks_body m) ds) → r ≡ procedure_place ds at d
place_of_given ds at d n ps g b m r is text found =
    found
    ∙ (λ i. if_at at (only_place (gives_body (text i)) ds) (only_place (lacks_body (text i)) ds))
    ∙ sym (ap (procedure_place ds at) is)
