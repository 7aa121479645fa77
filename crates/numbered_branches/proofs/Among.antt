-- A term looked for among others that are each once.
use Rattle.std.proofs.Common.{◌≡◌, refl, sym, ap, ◌∙◌, ℕ, ◌<◌, nat_eq, Bool, true, false, ◌||◌, cond, List, [], ◌∷◌, ◌++◌, length, filter}
use Rattle.std.specs.List.{list_any}
use Rattle.std.proofs.lemmas.List.{append_assoc, append-nil}
use Rattle.logic_core.specs.Tree.{Tree}
use Rattle.logic_core.specs.Same.{same_term}
use Rattle.logic_core.specs.Subterm.{outside}
use Rattle.logic_core.proofs.Anywhere.{any_append}
use Rattle.logic_core.proofs.SameTerm.{same_is_equal}
use Rattle.proof_core.specs.Split.{stands_in}
use Rattle.tableau_branch.specs.Oriented.{is_application}
use Rattle.term_bank.specs.Numbered.{at}
use Rattle.logic_rules.specs.Instantiating.{each_once}
use Rattle.numbered_terms.specs.Stored.{AreStored}
use Rattle.numbered_facts.specs.Answers.{AreAt}
use Rattle.numbered_facts.proofs.EachOnce.{once_by, among}

pub filter_by : (p : Tree → Bool) (b : Bool) (x : Tree) (xs : List Tree) → p x ≡ b → filter p (x ∷ xs) ≡ cond b (x ∷ filter p xs) (filter p xs)
filter_by p true x xs e = rw e refl
filter_by p false x xs e = rw e refl

-- a term among those that are each once
there_before : (t x : Tree) (seen : List Tree) → list_any (same_term x) seen ≡ true → same_term t x ≡ true → list_any (same_term t) seen ≡ true
there_before t x seen h e = ap (λ y. list_any (same_term y) seen) (same_is_equal t x e) ∙ h

or_absorbs : (a b c : Bool) → (b ≡ true → a ≡ true) → (a || c) ≡ (a || (b || c))
or_absorbs true b c h = refl
or_absorbs false true c h = absurd (let no : false ≡ true = h refl in cc)
or_absorbs false false c h = refl

pub any_once : (t : Tree) (seen xs : List Tree) → list_any (same_term t) (each_once seen xs) ≡ list_any (same_term t) (seen ++ xs)
any_once t seen [] = ap (list_any (same_term t)) (sym (append-nil seen))
any_once t seen (x ∷ xs) = by (list_any (same_term x) seen) refl (any_once t seen xs) (any_once t (seen ++ x ∷ []) xs)
  where
    by : (b : Bool) → list_any (same_term x) seen ≡ b → list_any (same_term t) (each_once seen xs) ≡ list_any (same_term t) (seen ++ xs)
        → list_any (same_term t) (each_once (seen ++ x ∷ []) xs) ≡ list_any (same_term t) ((seen ++ x ∷ []) ++ xs) → list_any (same_term t) (each_once seen (x ∷ xs)) ≡ list_any (same_term t) (seen ++ x ∷ xs)
    by true e r s = ap (list_any (same_term t)) (once_by true seen xs x e) ∙ r ∙ any_append (same_term t) seen xs
        ∙ or_absorbs (list_any (same_term t) seen) (same_term t x) (list_any (same_term t) xs) (there_before t x seen e) ∙ sym (any_append (same_term t) seen (x ∷ xs))
    by false e r s = ap (list_any (same_term t)) (once_by false seen xs x e) ∙ s ∙ ap (list_any (same_term t)) (append_assoc seen (x ∷ []) xs)

any_picked : (t : Tree) (q : Tree → Bool) → q t ≡ true → (xs : List Tree) → list_any (same_term t) (filter q xs) ≡ list_any (same_term t) xs
any_picked t q h [] = refl
any_picked t q h (x ∷ xs) = by (q x) (same_term t x) refl refl (any_picked t q h xs)
  where
    by : (a b : Bool) → q x ≡ a → same_term t x ≡ b → list_any (same_term t) (filter q xs) ≡ list_any (same_term t) xs → list_any (same_term t) (filter q (x ∷ xs)) ≡ list_any (same_term t) (x ∷ xs)
    by true b e f r = ap (list_any (same_term t)) (filter_by q true x xs e) ∙ ap (λ c. same_term t x || c) r
    by false false e f r = ap (list_any (same_term t)) (filter_by q false x xs e) ∙ r ∙ ap (λ c. c || list_any (same_term t) xs) (sym f)
    by false true e f r = absurd (let no : true ≡ false = sym h ∙ ap q (same_is_equal t x f) ∙ e in cc)

-- a Read or a Call stands in a term outside quantifiers where its number is one of these
pub stands_among : (ts : List Tree) → AreStored ts → (i : ℕ) (is : List ℕ) (t u : Tree) → i < length ts → at ts i ≡ t → is_application t ≡ true → AreAt ts is (each_once [] (filter is_application (outside u))) → list_any (nat_eq i) is ≡ stands_in t u
stands_among ts stored i is t u l e applies are = among ts stored.apart i is l are.0 ∙ (λ k. list_any (same_term (e k)) (are.1 k))
    ∙ any_once t [] (filter is_application (outside u)) ∙ any_picked t is_application applies (outside u)
