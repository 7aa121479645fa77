-- Terms that are tried, or looked for, among others that are each once.
use Rattle.std.proofs.Common.{◌≡◌, refl, sym, ap, ◌∙◌, Bool, true, false, ◌||◌, cond, Some, None, List, [], ◌∷◌, ◌++◌, filter, find}
use Rattle.std.specs.List.{list_any}
use Rattle.std.proofs.lemmas.List.{append_assoc, append-nil}
use Rattle.logic_core.specs.Tree.{Tree, read, call}
use Rattle.logic_core.specs.Same.{same_term}
use Rattle.logic_core.proofs.SameTerm.{same_is_equal}
use Rattle.tableau_branch.specs.Branch.{Attempt, none, leaves, gives, first_attempt}
use Rattle.tableau_branch.specs.Oriented.{is_application}
use Rattle.tableau_branch.specs.Shapes.{is_access}
use Rattle.tableau_branch.proofs.Lists.{filter_append}
use Rattle.logic_rules.specs.Instantiating.{each_once}
use Rattle.numbered_facts.proofs.EachOnce.{once_by}
use Rattle.theory_rules.proofs.Attempting.{or_else, first_of_both}
use Rattle.numbered_branches.proofs.Among.{filter_by}

-- what is picked by a narrower test
pub filter_twice : (p q : Tree → Bool) → ((t : Tree) → p t ≡ true → q t ≡ true) → (xs : List Tree) → filter p (filter q xs) ≡ filter p xs
filter_twice p q narrow [] = refl
filter_twice p q narrow (x ∷ xs) = by (p x) (q x) refl refl (filter_twice p q narrow xs)
  where
    by : (a b : Bool) → p x ≡ a → q x ≡ b → filter p (filter q xs) ≡ filter p xs → filter p (filter q (x ∷ xs)) ≡ filter p (x ∷ xs)
    by a true e f r = ap (filter p) (filter_by q true x xs f) ∙ filter_by p a x (filter q xs) e ∙ ap (λ ys. cond a (x ∷ ys) ys) r ∙ sym (filter_by p a x xs e)
    by false false e f r = ap (filter p) (filter_by q false x xs f) ∙ r ∙ sym (filter_by p false x xs e)
    by true false e f r = absurd (let no : true ≡ false = sym (narrow x e) ∙ f in cc)

pub none_picked : (p : Tree → Bool) (xs : List Tree) → find p xs ≡ None → filter p xs ≡ []
none_picked p [] h = refl
none_picked p (x ∷ xs) h = by (p x) refl h (none_picked p xs)
  where
    by : (a : Bool) → p x ≡ a → cond a (Some x) (find p xs) ≡ None → (find p xs ≡ None → filter p xs ≡ []) → filter p (x ∷ xs) ≡ []
    by true e g r = absurd (cc)
    by false e g r = filter_by p false x xs e ∙ r g

module _ {B : Type 0} (f : Tree → Attempt B) (p : Tree → Bool) where
  abbrev pub tried : List Tree → Attempt B
  tried xs = first_attempt f (filter p xs)

  tried_both : (xs ys : List Tree) → tried (xs ++ ys) ≡ or_else (tried xs) (tried ys)
  tried_both xs ys = ap (first_attempt f) (filter_append p xs ys) ∙ first_of_both f (filter p xs) (filter p ys)

  -- a term that was tried before gives nothing where those before gave nothing
  nothing_again : (x : Tree) (seen : List Tree) → list_any (same_term x) seen ≡ true → tried seen ≡ none → tried (x ∷ []) ≡ none
  nothing_again x [] h e = absurd (cc)
  nothing_again x (s ∷ seen) h e = by (same_term x s) refl h (tried_both (s ∷ []) seen) (nothing_again x seen)
    where
      first_none : (a b : Attempt B) → or_else a b ≡ none → (a ≡ none) × (b ≡ none)
      first_none none b k = (refl, k)
      first_none leaves b k = absurd (cc)
      first_none (gives c) b k = absurd (cc)

      by : (b : Bool) → same_term x s ≡ b → (b || list_any (same_term x) seen) ≡ true → tried (s ∷ seen) ≡ or_else (tried (s ∷ [])) (tried seen) → (list_any (same_term x) seen ≡ true → tried seen ≡ none → tried (x ∷ []) ≡ none) → tried (x ∷ []) ≡ none
      by true k g both r = ap (λ t. tried (t ∷ [])) (same_is_equal x s k) ∙ (first_none (tried (s ∷ [])) (tried seen) (sym both ∙ e)).0
      by false k g both r = r g (first_none (tried (s ∷ [])) (tried seen) (sym both ∙ e)).1

  passed : (x : Tree) (seen ys : List Tree) → list_any (same_term x) seen ≡ true → tried (seen ++ ys) ≡ tried (seen ++ x ∷ ys)
  passed x seen ys h = tried_both seen ys ∙ by (tried seen) refl ∙ ap (or_else (tried seen)) (sym (tried_both (x ∷ []) ys)) ∙ sym (tried_both seen (x ∷ ys))
    where
      by : (a : Attempt B) → tried seen ≡ a → or_else (tried seen) (tried ys) ≡ or_else (tried seen) (or_else (tried (x ∷ [])) (tried ys))
      by none e = ap (λ a. or_else a (tried ys)) e ∙ ap (λ a. or_else a (tried ys)) (sym (nothing_again x seen h e)) ∙ ap (λ a. or_else a (or_else (tried (x ∷ [])) (tried ys))) (sym e)
      by leaves e = ap (λ a. or_else a (tried ys)) e ∙ ap (λ a. or_else a (or_else (tried (x ∷ [])) (tried ys))) (sym e)
      by (gives c) e = ap (λ a. or_else a (tried ys)) e ∙ ap (λ a. or_else a (or_else (tried (x ∷ [])) (tried ys))) (sym e)

  pub tried_once : (seen xs : List Tree) → tried (each_once seen xs) ≡ tried (seen ++ xs)
  tried_once seen [] = ap tried (sym (append-nil seen))
  tried_once seen (x ∷ xs) = by (list_any (same_term x) seen) refl (tried_once seen xs) (tried_once (seen ++ x ∷ []) xs)
    where
      by : (b : Bool) → list_any (same_term x) seen ≡ b → tried (each_once seen xs) ≡ tried (seen ++ xs) → tried (each_once (seen ++ x ∷ []) xs) ≡ tried ((seen ++ x ∷ []) ++ xs) → tried (each_once seen (x ∷ xs)) ≡ tried (seen ++ x ∷ xs)
      by true e r s = ap tried (once_by true seen xs x e) ∙ r ∙ passed x seen xs e
      by false e r s = ap tried (once_by false seen xs x e) ∙ s ∙ ap tried (append_assoc seen (x ∷ []) xs)

  -- of terms that are each once, and picked by a wider test
  pub tried_among : (q : Tree → Bool) → ((t : Tree) → p t ≡ true → q t ≡ true) → (xs : List Tree) → tried (each_once [] (filter q xs)) ≡ tried xs
  tried_among q narrow xs = tried_once [] (filter q xs) ∙ ap (first_attempt f) (filter_twice p q narrow xs)

pub access_applies : (t : Tree) → is_access t ≡ true → is_application t ≡ true
access_applies (read m i) h = refl
access_applies (call f ts) h = refl
access_applies t h = absurd (cc)
