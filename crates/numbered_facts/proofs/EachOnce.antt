-- Lists that are each once.
use Rattle.std.proofs.Common.{◌≡◌, refl, sym, ap, subst, ◌∙◌, ℕ, ◌<◌, nat_eq, Bool, true, false, true≢false, ◌&&◌, ◌||◌, cond, Some, List, [], ◌∷◌, ◌++◌, map, filter, find, length}
use Rattle.std.specs.List.{list_any, AllByRecursion, flat_map}
use Rattle.std.proofs.lemmas.Bool.{eq-eqb, ne_eqb}
use Rattle.std.proofs.lemmas.List.{append_assoc, append-nil}
use Rattle.std.proofs.lemmas.List.Elements.{filter-append}
use Rattle.std.proofs.lemmas.Map.Views.{any-filter_same}
use Rattle.logic_core.specs.Tree.{Tree}
use Rattle.logic_core.specs.Same.{same_term}
use Rattle.logic_core.proofs.Anywhere.{any_append}
use Rattle.logic_core.proofs.Booleans.{or_first, or_second}
use Rattle.logic_core.proofs.SameTerm.{same_is_equal, same_as_itself}
use Rattle.term_bank.specs.Numbered.{at, number_of}
use Rattle.logic_rules.specs.Instantiating.{each_once}

-- one term at a time
pub once_by : (b : Bool) (seen ts : List Tree) (t : Tree) → list_any (same_term t) seen ≡ b → each_once seen (t ∷ ts) ≡ each_once (cond b seen (seen ++ t ∷ [])) ts
once_by true seen ts t e = rw (each_once, e) refl
once_by false seen ts t e = rw (each_once, e) refl

pub once_append : (seen xs ys : List Tree) → each_once seen (xs ++ ys) ≡ each_once (each_once seen xs) ys
once_append seen [] ys = refl
once_append seen (x ∷ xs) ys = once_by (list_any (same_term x) seen) seen (xs ++ ys) x refl ∙ once_append (cond (list_any (same_term x) seen) seen (seen ++ x ∷ [])) xs ys
    ∙ ap (λ zs. each_once zs ys) (sym (once_by (list_any (same_term x) seen) seen xs x refl))

-- what is seen stays
pub stays_seen : (p : Tree → Bool) (seen xs : List Tree) → list_any p seen ≡ true → list_any p (each_once seen xs) ≡ true
stays_seen p seen [] h = h
stays_seen p seen (x ∷ xs) h = ap (list_any p) (once_by (list_any (same_term x) seen) seen xs x refl) ∙ stays_seen p (cond (list_any (same_term x) seen) seen (seen ++ x ∷ [])) xs (by (list_any (same_term x) seen))
  where
    by : (b : Bool) → list_any p (cond b seen (seen ++ x ∷ [])) ≡ true
    by true = h
    by false = any_append p seen (x ∷ []) ∙ or_first (list_any p seen) (list_any p (x ∷ [])) h

-- a test that passes on a term that is there
passes_there : (p : Tree → Bool) (x : Tree) (seen : List Tree) → p x ≡ true → list_any (same_term x) seen ≡ true → list_any p seen ≡ true
passes_there p x [] h g = absurd (cc)
passes_there p x (s ∷ seen) h g = by (same_term x s) refl g (passes_there p x seen h)
  where
    by : (b : Bool) → same_term x s ≡ b → (b || list_any (same_term x) seen) ≡ true → (list_any (same_term x) seen ≡ true → list_any p seen ≡ true) → (p s || list_any p seen) ≡ true
    by true e k r = or_first (p s) (list_any p seen) (ap p (sym (same_is_equal x s e)) ∙ h)
    by false e k r = or_second (p s) (list_any p seen) (r k)

-- the first term of a list is there afterwards
first_there : (p : Tree → Bool) (x : Tree) (seen : List Tree) (b : Bool) → list_any (same_term x) seen ≡ b → p x ≡ true → list_any p (cond b seen (seen ++ x ∷ [])) ≡ true
first_there p x seen true e g = passes_there p x seen g e
first_there p x seen false e g = any_append p seen (x ∷ []) ∙ or_second (list_any p seen) (p x || false) (or_first (p x) false g)

-- and each term
pub is_there : (p : Tree → Bool) (seen xs : List Tree) → list_any p xs ≡ true → list_any p (each_once seen xs) ≡ true
is_there p seen [] h = absurd (cc)
is_there p seen (x ∷ xs) h = ap (list_any p) (once_by (list_any (same_term x) seen) seen xs x refl) ∙ by (p x) refl h (is_there p (cond (list_any (same_term x) seen) seen (seen ++ x ∷ [])) xs)
  where
    by : (b : Bool) → p x ≡ b → (b || list_any p xs) ≡ true → (list_any p xs ≡ true → list_any p (each_once (cond (list_any (same_term x) seen) seen (seen ++ x ∷ [])) xs) ≡ true)
        → list_any p (each_once (cond (list_any (same_term x) seen) seen (seen ++ x ∷ [])) xs) ≡ true
    by true e k r = stays_seen p (cond (list_any (same_term x) seen) seen (seen ++ x ∷ [])) xs (first_there p x seen (list_any (same_term x) seen) refl e)
    by false e k r = r k

pub each_there : (seen xs : List Tree) → AllByRecursion (λ t. list_any (same_term t) (each_once seen xs) ≡ true) xs
each_there seen [] = tt
each_there seen (x ∷ xs) = (
  is_there (same_term x) seen (x ∷ xs) (or_first (same_term x x) (list_any (same_term x) xs) (same_as_itself x)),
  subst (λ zs. AllByRecursion (λ t. list_any (same_term t) zs ≡ true) xs) (sym (once_by (list_any (same_term x) seen) seen xs x refl)) (each_there (cond (list_any (same_term x) seen) seen (seen ++ x ∷ [])) xs),
)

-- what is seen already is not seen again
pub all_seen : (seen xs : List Tree) → AllByRecursion (λ t. list_any (same_term t) seen ≡ true) xs → each_once seen xs ≡ seen
all_seen seen [] h = refl
all_seen seen (x ∷ xs) h = once_by true seen xs x h.0 ∙ all_seen seen xs h.1

once_of : (seen before xs : List Tree) → each_once seen (each_once before xs) ≡ each_once (each_once seen before) xs
once_of seen before [] = refl
once_of seen before (x ∷ xs) = ap (each_once seen) (once_by (list_any (same_term x) before) before xs x refl) ∙ by (list_any (same_term x) before) refl (λ zs. once_of seen zs xs)
  where
    by : (b : Bool) → list_any (same_term x) before ≡ b → ((zs : List Tree) → each_once seen (each_once zs xs) ≡ each_once (each_once seen zs) xs) → each_once seen (each_once (cond b before (before ++ x ∷ [])) xs) ≡ each_once (each_once seen before) (x ∷ xs)
    by true e r = r before ∙ sym (once_by true (each_once seen before) xs x (is_there (same_term x) seen before e))
    by false e r = r (before ++ x ∷ []) ∙ ap (λ zs. each_once zs xs) (once_append seen before (x ∷ [])) ∙ sym (once_append (each_once seen before) (x ∷ []) xs)

pub once_twice : (seen xs ys : List Tree) → each_once seen (each_once [] xs ++ ys) ≡ each_once seen (xs ++ ys)
once_twice seen xs ys = once_append seen (each_once [] xs) ys ∙ ap (λ zs. each_once zs ys) (once_of seen [] xs) ∙ sym (once_append seen xs ys)

pub once_each : {A : Type 0} (f : A → List Tree) (seen : List Tree) (as' : List A) (ys : List Tree) → each_once seen (flat_map (λ a. each_once [] (f a)) as' ++ ys) ≡ each_once seen (flat_map f as' ++ ys)
once_each f seen [] ys = refl
once_each f seen (a ∷ as') ys = ap (each_once seen) (append_assoc (each_once [] (f a)) (flat_map (λ b. each_once [] (f b)) as') ys)
    ∙ once_twice seen (f a) (flat_map (λ b. each_once [] (f b)) as' ++ ys)
    ∙ once_append seen (f a) (flat_map (λ b. each_once [] (f b)) as' ++ ys)
    ∙ once_each f (each_once seen (f a)) as' ys
    ∙ sym (once_append seen (f a) (flat_map f as' ++ ys))
    ∙ ap (each_once seen) (sym (append_assoc (f a) (flat_map f as') ys))

-- those that pass a test, each once
module _ (p : Tree → Bool) where
  there_kept : (x : Tree) (seen : List Tree) → list_any (same_term x) (filter p seen) ≡ (p x && list_any (same_term x) seen)
  there_kept x seen = any-filter_same (same_term x) p (p x) (λ k e. ap p (sym (same_is_equal x k e))) seen

  -- of one term more, by whether it is seen and whether it passes
  kept_next : (x : Tree) (seen : List Tree) (b d : Bool) → list_any (same_term x) seen ≡ b → p x ≡ d → (zs : List Tree) → each_once (filter p (cond b seen (seen ++ x ∷ []))) zs ≡ each_once (filter p seen) (cond d (x ∷ zs) zs)
  kept_next x seen true true e g zs = sym (once_by true (filter p seen) zs x (there_kept x seen ∙ (λ i. g i && e i)))
  kept_next x seen true false e g zs = refl
  kept_next x seen false true e g zs = ap (λ us. each_once us zs) (filter-append p seen (x ∷ []) ∙ ap (λ d. filter p seen ++ cond d (x ∷ []) []) g) ∙ sym (once_by false (filter p seen) zs x (there_kept x seen ∙ (λ i. g i && e i)))
  kept_next x seen false false e g zs = ap (λ us. each_once us zs) (filter-append p seen (x ∷ []) ∙ ap (λ d. filter p seen ++ cond d (x ∷ []) []) g ∙ append-nil (filter p seen))

  pub once_kept : (seen xs : List Tree) → filter p (each_once seen xs) ≡ each_once (filter p seen) (filter p xs)
  once_kept seen [] = refl
  once_kept seen (x ∷ xs) = ap (filter p) (once_by (list_any (same_term x) seen) seen xs x refl) ∙ once_kept (cond (list_any (same_term x) seen) seen (seen ++ x ∷ [])) xs
      ∙ kept_next x seen (list_any (same_term x) seen) (p x) refl refl (filter p xs)

  -- the first of them
  not_first : (x : Tree) (seen xs : List Tree) → p x ≡ false → find p (seen ++ x ∷ xs) ≡ find p (seen ++ xs)
  not_first x [] xs h = ap (λ b. cond b (Some x) (find p xs)) h
  not_first x (s ∷ seen) xs h = ap (cond (p s) (Some s)) (not_first x seen xs h)

  passed_over : (x : Tree) (seen xs : List Tree) → list_any (same_term x) seen ≡ true → find p (seen ++ x ∷ xs) ≡ find p (seen ++ xs)
  passed_over x [] xs h = absurd (cc)
  passed_over x (s ∷ seen) xs h = by (p s) refl (same_term x s) refl h (passed_over x seen xs)
    where
      by : (b : Bool) → p s ≡ b → (d : Bool) → same_term x s ≡ d → (d || list_any (same_term x) seen) ≡ true → (list_any (same_term x) seen ≡ true → find p (seen ++ x ∷ xs) ≡ find p (seen ++ xs))
          → cond b (Some s) (find p (seen ++ x ∷ xs)) ≡ cond b (Some s) (find p (seen ++ xs))
      by true g d e k r = refl
      by false g true e k r = not_first x seen xs (ap p (same_is_equal x s e) ∙ g)
      by false g false e k r = r k

  first_next : (x : Tree) (seen xs : List Tree) (b : Bool) → list_any (same_term x) seen ≡ b → find p (cond b seen (seen ++ x ∷ []) ++ xs) ≡ find p (seen ++ x ∷ xs)
  first_next x seen xs true e = sym (passed_over x seen xs e)
  first_next x seen xs false e = ap (find p) (append_assoc seen (x ∷ []) xs)

  first_once : (seen xs : List Tree) → find p (each_once seen xs) ≡ find p (seen ++ xs)
  first_once seen [] = ap (find p) (sym (append-nil seen))
  first_once seen (x ∷ xs) = ap (find p) (once_by (list_any (same_term x) seen) seen xs x refl) ∙ first_once (cond (list_any (same_term x) seen) seen (seen ++ x ∷ [])) xs
      ∙ first_next x seen xs (list_any (same_term x) seen) refl

  pub once_first : (xs : List Tree) → find p (each_once [] xs) ≡ find p xs
  once_first xs = first_once [] xs

-- by number
module _ (ts : List Tree) (apart : (i : ℕ) → i < length ts → number_of ts (at ts i) ≡ Some i) where
  pub same_number : (i j : ℕ) → i < length ts → j < length ts → nat_eq i j ≡ same_term (at ts i) (at ts j)
  same_number i j v w = by (same_term (at ts i) (at ts j)) refl
    where
      by : (b : Bool) → same_term (at ts i) (at ts j) ≡ b → nat_eq i j ≡ b
      by true e = let one : Some i ≡ Some j = sym (apart i v) ∙ ap (number_of ts) (same_is_equal (at ts i) (at ts j) e) ∙ apart j w in let two : i ≡ j = cc in eq-eqb i j two
      by false e = ne_eqb i j (λ q. true≢false (sym (ap (same_term (at ts i)) (sym (ap (at ts) q)) ∙ same_as_itself (at ts i)) ∙ e))

  pub among : (i : ℕ) (is : List ℕ) → i < length ts → AllByRecursion (λ j. j < length ts) is → list_any (nat_eq i) is ≡ list_any (same_term (at ts i)) (map (at ts) is)
  among i [] v h = refl
  among i (j ∷ is) v h = λ k. same_number i j v h.0 k || among i is v h.1 k
