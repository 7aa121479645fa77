-- The terms of a tuple have the sorts of the quantifier's variables.
use Rattle.std.proofs.Common.{◌≡◌, refl, sym, subst, ℕ, zero, suc, nat_eq, Bool, true, false, ◌&&◌, Option, Some, None, option_map, option_to_list, List, [], ◌∷◌, ◌++◌, reverse, map, flat_map, length, slice_get, slice_set, arith}
use Rattle.std.specs.List.{All}
use Rattle.std.proofs.lemmas.List.{reverse-reverse, length-reverse}
use Rattle.std.proofs.lemmas.List.Elements.{All-nil, All-cons, All-append}
use Rattle.logic_core.proofs.Booleans.{both_true, all_true}
use mathlib.Core.List.{reverse-cons}
use Rattle.logic_core.specs.Tree.{Kind, Tree, num, truth, free, bound, linear, mul, read, write, choose, call, negation, all, some, equal, at_most, for_all, exists, Trees, no_trees, tree}
use Rattle.logic_core.specs.Def.{Def}
use Rattle.logic_core.specs.View.{trees_of}
use Rattle.logic_core.specs.Wide.{◌>>=◌, when}
use Rattle.logic_core.specs.Same.{same_term}
use Rattle.logic_core.specs.Sorts.{is, sort_of, are}
use Rattle.quantifier_triggers.specs.Match.{Found, root, as_read, as_call, each_found, taken, variable, matched, matched_each, tuples_from, tuples}

all_flat : {A B : Type 0} (P : B → Type 0) (f : A → List B) (xs : List A) → ((x : A) → All P (f x)) → All P (flat_map f xs)
all_flat P f [] h = All-nil P
all_flat P f (x ∷ xs) h = All-append P (f x) (flat_map f xs) (h x) (all_flat P f xs h)

module _ (vars : List Kind) (defs : List Def) where
  are_append : (ks js : List Kind) (ts us : List Tree) → are vars defs [] ks (trees_of ts) ≡ true → are vars defs [] js (trees_of us) ≡ true → are vars defs [] (ks ++ js) (trees_of (ts ++ us)) ≡ true
  are_append [] js [] us h i = i
  are_append (k ∷ ks) js (t ∷ ts) us h i = let both = both_true _ _ h in all_true _ _ both.0 (are_append ks js ts us both.1 i)
  are_append [] js (t ∷ ts) us h i = absurd (cc)
  are_append (k ∷ ks) js [] us h i = absurd (cc)

  are_reverse : (ks : List Kind) (ts : List Tree) → are vars defs [] ks (trees_of ts) ≡ true → are vars defs [] (reverse ks) (trees_of (reverse ts)) ≡ true
  are_reverse [] [] h = refl
  are_reverse (k ∷ ks) (t ∷ ts) h = let both = both_true _ _ h in
      subst (λ js. are vars defs [] js (trees_of (reverse (t ∷ ts))) ≡ true) (sym (reverse-cons k ks)) (subst (λ us. are vars defs [] (reverse ks ++ k ∷ []) (trees_of us) ≡ true) (sym (reverse-cons t ts))
      (are_append (reverse ks) (k ∷ []) (reverse ts) (t ∷ []) (are_reverse ks ts both.1) (all_true _ _ both.0 refl)))
  are_reverse [] (t ∷ ts) h = absurd (cc)
  are_reverse (k ∷ ks) [] h = absurd (cc)

  -- each term that was found has the sort of its variable
  abbrev sorted : List Kind → Found → Bool
  sorted [] [] = true
  sorted (k ∷ ks) (None ∷ b) = sorted ks b
  sorted (k ∷ ks) (Some t ∷ b) = is k (sort_of vars defs [] t) && sorted ks b
  sorted [] (o ∷ b) = false
  sorted (k ∷ ks) [] = false

  none_sorted : (ks ss : List Kind) → length ks ≡ length ss → sorted ks (map (λ k. None) ss) ≡ true
  none_sorted [] [] h = refl
  none_sorted (k ∷ ks) (s ∷ ss) h = none_sorted ks ss (omega (arith, h))
  none_sorted [] (s ∷ ss) h = absurd (omega (arith, h))
  none_sorted (k ∷ ks) [] h = absurd (omega (arith, h))

  set_sorted : (ks : List Kind) (b : Found) (v : ℕ) (k : Kind) (t : Tree) → sorted ks b ≡ true → slice_get ks v ≡ Some k → slice_get b v ≡ Some None → is k (sort_of vars defs [] t) ≡ true → sorted ks (slice_set b v (Some t)) ≡ true
  set_sorted [] b v k t h e f i = absurd (cc)
  set_sorted (j ∷ ks) [] v k t h e f i = absurd (cc)
  set_sorted (j ∷ ks) (None ∷ b) zero k t h e f i = let same : k ≡ j = cc in all_true _ _ (subst (λ j. is j (sort_of vars defs [] t) ≡ true) same i) h
  set_sorted (j ∷ ks) (Some u ∷ b) zero k t h e f i = absurd (cc)
  set_sorted (j ∷ ks) (None ∷ b) (suc v) k t h e f i = set_sorted ks b v k t h e f i
  set_sorted (j ∷ ks) (Some u ∷ b) (suc v) k t h e f i = let both = both_true _ _ h in all_true _ _ both.0 (set_sorted ks b v k t both.1 e f i)

  -- what is found is sorted, if there is a match
  abbrev Keeps : List Kind → Option Found → Type 0
  Keeps ks None = Unit {0}
  Keeps ks (Some b) = sorted ks b ≡ true

  keeps_bind : {A : Type 0} (ks : List Kind) (o : Option A) (f : A → Option Found) → ((a : A) → o ≡ Some a → Keeps ks (f a)) → Keeps ks (o >>= f)
  keeps_bind ks None f h = tt
  keeps_bind ks (Some a) f h = h a refl

  keeps_next : (ks : List Kind) (o : Option Found) (f : Found → Option Found) → Keeps ks o → ((c : Found) → sorted ks c ≡ true → Keeps ks (f c)) → Keeps ks (o >>= f)
  keeps_next ks None f h g = tt
  keeps_next ks (Some c) f h g = g c h

  keeps_when : (ks : List Kind) (q : Bool) (o : Option Found) → (q ≡ true → Keeps ks o) → Keeps ks (when q o)
  keeps_when ks true o h = h refl
  keeps_when ks false o h = tt

  taken_keeps : (ks : List Kind) (v : ℕ) (t : Tree) (b : Found) (o : Option Tree) → slice_get b v ≡ Some o → sorted ks b ≡ true → Keeps ks (taken vars defs ks v t b o)
  taken_keeps ks v t b (Some u) e h = keeps_when ks (same_term u t) (Some b) (λ q. h)
  taken_keeps ks v t b None e h = keeps_bind ks (slice_get ks v) (λ k. when (is k (sort_of vars defs [] t)) (Some (slice_set b v (Some t)))) (λ k f. keeps_when ks (is k (sort_of vars defs [] t)) (Some (slice_set b v (Some t))) (λ i. set_sorted ks b v k t h f e i))

  variable_keeps : (ks : List Kind) (v : ℕ) (t : Tree) (b : Found) → sorted ks b ≡ true → Keeps ks (variable vars defs ks v t b)
  variable_keeps ks v t b h = keeps_bind ks (slice_get b v) (λ o. taken vars defs ks v t b o) (λ o e. taken_keeps ks v t b o e h)

  mutual
    matched_keeps : (ks : List Kind) (r : Bool) (p t : Tree) (b : Found) → sorted ks b ≡ true → Keeps ks (matched vars defs ks r p t b)
    matched_keeps ks r (num n) t b h = keeps_when ks (same_term (num n) t) (Some b) (λ q. h)
    matched_keeps ks r (truth x) t b h = keeps_when ks (same_term (truth x) t) (Some b) (λ q. h)
    matched_keeps ks r (free v) t b h = keeps_when ks (same_term (free v) t) (Some b) (λ q. h)
    matched_keeps ks r (bound v) t b h = variable_keeps ks v t b h
    matched_keeps ks r (linear ps c) t b h = keeps_when ks (same_term (linear ps c) t) (Some b) (λ q. h)
    matched_keeps ks r (mul x y) t b h = keeps_when ks (same_term (mul x y) t) (Some b) (λ q. h)
    matched_keeps ks r (read p q) t b h = keeps_bind ks (as_read t) (λ a. matched vars defs ks true p (root a.0) b >>= λ c. matched vars defs ks false q a.1 c) (λ a e. keeps_next ks (matched vars defs ks true p (root a.0) b) (λ c. matched vars defs ks false q a.1 c) (matched_keeps ks true p (root a.0) b h) (λ c g. matched_keeps ks false q a.1 c g))
    matched_keeps ks true (write p q x) t b h = matched_keeps ks true p t b h
    matched_keeps ks false (write p q x) t b h = keeps_when ks (same_term (write p q x) t) (Some b) (λ q. h)
    matched_keeps ks r (choose c x y) t b h = keeps_when ks (same_term (choose c x y) t) (Some b) (λ q. h)
    matched_keeps ks r (call f ps) t b h = keeps_bind ks (as_call t) (λ a. when (nat_eq f a.0) (matched_each vars defs ks ps a.1 b)) (λ a e. keeps_when ks (nat_eq f a.0) (matched_each vars defs ks ps a.1 b) (λ q. each_keeps ks ps a.1 b h))
    matched_keeps ks r (negation x) t b h = keeps_when ks (same_term (negation x) t) (Some b) (λ q. h)
    matched_keeps ks r (all ps) t b h = keeps_when ks (same_term (all ps) t) (Some b) (λ q. h)
    matched_keeps ks r (some ps) t b h = keeps_when ks (same_term (some ps) t) (Some b) (λ q. h)
    matched_keeps ks r (equal x y) t b h = keeps_when ks (same_term (equal x y) t) (Some b) (λ q. h)
    matched_keeps ks r (at_most x y) t b h = keeps_when ks (same_term (at_most x y) t) (Some b) (λ q. h)
    matched_keeps ks r (for_all ss ps x) t b h = keeps_when ks (same_term (for_all ss ps x) t) (Some b) (λ q. h)
    matched_keeps ks r (exists ss ps x) t b h = keeps_when ks (same_term (exists ss ps x) t) (Some b) (λ q. h)

    each_keeps : (ks : List Kind) (ps ts : Trees) (b : Found) → sorted ks b ≡ true → Keeps ks (matched_each vars defs ks ps ts b)
    each_keeps ks no_trees no_trees b h = h
    each_keeps ks (tree p ps) (tree t ts) b h = keeps_next ks (matched vars defs ks false p t b) (λ c. matched_each vars defs ks ps ts c) (matched_keeps ks false p t b h) (λ c g. each_keeps ks ps ts c g)
    each_keeps ks no_trees (tree t ts) b h = tt
    each_keeps ks (tree p ps) no_trees b h = tt

  abbrev Are : List Kind → List Tree → Type 0
  Are ks ts = are vars defs [] ks (trees_of ts) ≡ true

  -- terms of these sorts, if there is one for each
  abbrev AreFound : List Kind → Option (List Tree) → Type 0
  AreFound ks None = Unit {0}
  AreFound ks (Some ts) = are vars defs [] ks (trees_of ts) ≡ true

  one_more : (k : Kind) (ks : List Kind) (t : Tree) (o : Option (List Tree)) → is k (sort_of vars defs [] t) ≡ true → AreFound ks o → AreFound (k ∷ ks) (option_map (λ ts. t ∷ ts) o)
  one_more k ks t None h i = tt
  one_more k ks t (Some ts) h i = all_true _ _ h i

  each_sorted : (ks : List Kind) (b : Found) → sorted ks b ≡ true → AreFound ks (each_found b)
  each_sorted [] [] h = refl
  each_sorted (k ∷ ks) (None ∷ b) h = tt
  each_sorted (k ∷ ks) (Some t ∷ b) h = let both = both_true _ _ h in one_more k ks t (each_found b) both.0 (each_sorted ks b both.1)
  each_sorted [] (o ∷ b) h = absurd (cc)
  each_sorted (k ∷ ks) [] h = absurd (cc)

  turned : (ks : List Kind) (o : Option (List Tree)) → AreFound ks o → All (Are (reverse ks)) (option_to_list (option_map reverse o))
  turned ks None h = All-nil (Are (reverse ks))
  turned ks (Some ts) h = All-cons (Are (reverse ks)) (reverse ts) [] (are_reverse ks ts h) (All-nil (Are (reverse ks)))

  all_found : {B : Type 0} (P : B → Type 0) (f : Found → List B) (ks : List Kind) (o : Option Found) → Keeps ks o → ((c : Found) → sorted ks c ≡ true → All P (f c)) → All P (flat_map f (option_to_list o))
  all_found P f ks None h g = All-nil P
  all_found P f ks (Some c) h g = All-append P (f c) [] (g c h) (All-nil P)

  from_sorted : (ks : List Kind) (terms : List Tree) (ps : Trees) (b : Found) → sorted ks b ≡ true → All (Are (reverse ks)) (tuples_from vars defs ks terms ps b)
  from_sorted ks terms no_trees b h = turned ks (each_found b) (each_sorted ks b h)
  from_sorted ks terms (tree p ps) b h = all_flat (Are (reverse ks)) (λ t. flat_map (λ c. tuples_from vars defs ks terms ps c) (option_to_list (matched vars defs ks false p t b))) terms (λ t. all_found (Are (reverse ks)) (λ c. tuples_from vars defs ks terms ps c) ks (matched vars defs ks false p t b) (matched_keeps ks false p t b h) (λ c g. from_sorted ks terms ps c g))

  pub tuples_sorted : (trigger : Trees) (sorts : List Kind) (terms : List Tree) → All (Are sorts) (tuples vars defs trigger sorts terms)
  tuples_sorted trigger sorts terms = subst (λ ks. All (Are ks) (tuples vars defs trigger sorts terms)) (reverse-reverse sorts)
      (from_sorted (reverse sorts) terms trigger (map (λ k. None) sorts) (none_sorted (reverse sorts) sorts (length-reverse sorts)))
