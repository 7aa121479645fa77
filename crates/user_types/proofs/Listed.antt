-- Lists of declarations and constants, taken from the front.
use Rattle.std.proofs.Common.{◌≡◌, refl, sym, ap, ◌∙◌, ℕ, zero, suc, ◌+◌, ◌-◌, ◌<◌, arith, nat_eq, eqb-true, eq-eqb, cond, Bool, true, false, List, [], ◌∷◌, ◌++◌, append_assoc, length, get_or, set, Option}
use Rattle.std.proofs.lemmas.Grind.{get_or-set_at}
use Rattle.std.proofs.lemmas.List.{get_or-set_other, get_or_default}
use Rattle.bv_base.specs.declared.place.Place.{Place}
use Rattle.bpl_ast.specs.Place.{Ty}
use Rattle.bpl_ast.specs.Statement.{Decl}
use Rattle.bpl_scopes.specs.Scopes.{Text, Table}
use Rattle.user_types.specs.UserTypes.{user_after}
use Rattle.user_types.specs.Erased.{users_with, replaced_body, replaced_from, Unique, carrier_axiom, one_more, axioms_from}
use Rattle.user_types.specs.Views.{counted}

pub replaced_next : (f : ℕ → Place → Ty) (t : Table) (k : ℕ) (d : Decl) (ds : List Decl)
    → replaced_from f t k (d ∷ ds) ≡ record d { body = replaced_body f t (users_with k d.body) d.body } ∷ replaced_from f t (users_with k d.body) ds
replaced_next f t k d ds = refl

-- one name further
pub one_round : (t : Table) (start now : Text) (i : ℕ) (after : ℕ → Option ℕ) → i < length t → user_after t (length t) start ≡ user_after t (length t - i) now
    → ((k : ℕ) → user_after t (suc k) now ≡ after k) → user_after t (length t) start ≡ after (length t - (i + 1))
one_round t start now i after below h f = h ∙ (ap (λ k. user_after t k now) (let e : length t - i ≡ suc (length t - (i + 1)) = omega (below, arith) in e) ∙ f (length t - (i + 1)))

pub axioms_next : (made made' : List Decl) (count count' : ℕ → ℕ) (k k' : ℕ) (u : Unique) (us : List Unique) (d : Decl) → made' ≡ made ++ d ∷ [] → d ≡ carrier_axiom k u.1 (count u.0) → count' ≡ one_more count u.0 → k' ≡ suc k
    → made' ++ axioms_from count' k' us ≡ made ++ axioms_from count k (u ∷ us)
axioms_next made made' count count' k k' u us d m a c n = (λ j. m j ++ axioms_from (c j) (n j) us) ∙ (append_assoc made (d ∷ []) (axioms_from (one_more count u.0) (suc k) us) ∙ ap (λ x. made ++ x ∷ axioms_from (one_more count u.0) (suc k) us) a)

-- a count of nothing more
behind_none : (xs : List ℕ) (i : ℕ) → get_or (xs ++ 0 ∷ []) i 0 ≡ get_or xs i 0
behind_none [] zero = refl
behind_none [] (suc i) = refl
behind_none (x ∷ xs) zero = refl
behind_none (x ∷ xs) (suc i) = behind_none xs i

pub counted_more : (xs : List ℕ) → counted (xs ++ 0 ∷ []) ≡ counted xs
unfolding counted
counted_more xs = λ j i. behind_none xs i j

set_there : (xs : List ℕ) (i n j : ℕ) → i < length xs → get_or (set xs i n) j 0 ≡ cond (nat_eq j i) n (get_or xs j 0)
set_there xs i n j h = by (nat_eq j i) refl
  where
    by : (b : Bool) → nat_eq j i ≡ b → get_or (set xs i n) j 0 ≡ cond b n (get_or xs j 0)
    by true e = get_or-set_at xs i j n 0 (eqb-true j i e) h
    by false e = get_or-set_other xs i j n 0 (λ p. let q : true ≡ false = sym (eq-eqb j i p) ∙ e in cc)

same_count : (xs : List ℕ) (i j : ℕ) (b : Bool) → nat_eq j i ≡ b → cond b (suc (get_or xs i 0)) (get_or xs j 0) ≡ cond b (suc (get_or xs j 0)) (get_or xs j 0)
same_count xs i j true e = ap (λ k. suc (get_or xs k 0)) (sym (eqb-true j i e))
same_count xs i j false e = refl

pub counted_set : (xs : List ℕ) (i : ℕ) → i < length xs → counted (set xs i (suc (get_or xs i 0))) ≡ one_more (counted xs) i
unfolding counted
counted_set xs i h = λ k j. (set_there xs i (suc (get_or xs i 0)) j h ∙ same_count xs i j (nat_eq j i) refl) k

-- a count that is there, whatever stands for one that isn't
pub counted_there : (xs : List ℕ) (i d : ℕ) → i < length xs → get_or xs i d ≡ counted xs i
unfolding counted
counted_there xs i d h = get_or_default xs i d 0 h

pub next_counted : (xs : List ℕ) (i n : ℕ) → i < length xs → n ≡ counted xs i + 1 → counted (set xs i n) ≡ one_more (counted xs) i
next_counted xs i n h e = ap (λ m. counted (set xs i m)) (e ∙ (let q : counted xs i + 1 ≡ suc (counted xs i) = omega arith in q) ∙ ap suc (sym (counted_there xs i 0 h))) ∙ counted_set xs i h

-- nothing is counted yet
none_there : (i : ℕ) → ◌≡◌ {A = ℕ} (get_or [] i 0) 0
none_there zero = refl
none_there (suc i) = refl

pub counted_none : ◌≡◌ {A = ℕ → ℕ} (counted []) (λ i. 0)
unfolding counted
counted_none = λ j i. none_there i j
