-- Lists that a loop keeps of another, the first item of a list, and what is kept of numbers.
use Rattle.std.proofs.Common.{◌≡◌, refl, true≢false, sym, ap, subst, ◌∙◌, ℕ, ◌+◌, ◌<◌, ◌≤◌, Bool, true, false, cond, Option, Some, None, is_some, List, [], ◌∷◌, ◌++◌, map, filter, find, length, take, drop, get_or}
use Rattle.std.specs.List.{AllByRecursion}
use Rattle.std.proofs.lemmas.Bool.{eq-eqb}
use Rattle.std.proofs.lemmas.List.{at_drop_all}
use Rattle.std.proofs.lemmas.List.Elements.{filter_more}
use Rattle.logic_core.specs.Tree.{Tree}
use Rattle.logic_core.specs.Subterm.{outside}
use Rattle.tableau_branch.proofs.Lists.{drop_item}
use Rattle.term_bank.specs.Numbered.{at}
use Rattle.numbered_terms.specs.Slots.{kept_at, IsPut}
use Rattle.logic_rules.specs.Instantiating.{each_once}
use Rattle.numbered_facts.specs.Answers.{StandsFor, AreAt}
use Rattle.numbered_facts.proofs.AtomsIn.{kept_all}
use Rattle.numbered_facts.proofs.EachOnce.{once_kept, once_first}

-- one item more passes or doesn't
pub kept_next : (q : ℕ → Bool) (is : List ℕ) (i x : ℕ) (old new : List ℕ) (b : Bool) → i < length is → x ≡ get_or is i x → b ≡ q x → old ≡ filter q (take i is) → new ≡ old ++ cond b (x ∷ []) [] → new ≡ filter q (take (i + 1) is)
kept_next q is i x old new b l e t so_far next = next ∙ (λ k. so_far k ++ cond (t k) (x ∷ []) []) ∙ ap (λ y. filter q (take i is) ++ cond (q y) (y ∷ []) []) e ∙ sym (filter_more q is i x l)

-- the first of numbers whose term passes
module _ (ts : List Tree) (p : Tree → Bool) where
  first_is : (is : List ℕ) (i x : ℕ) → i < length is → x ≡ get_or is i x → find p (map (at ts) (drop i is)) ≡ find p (map (at ts) is) → (b : Bool) → b ≡ p (at ts x)
      → cond b (Some (at ts x)) (find p (map (at ts) (drop (i + 1) is))) ≡ find p (map (at ts) is)
  first_is is i x l e rest b t = ap (λ d. cond d (Some (at ts x)) (find p (map (at ts) (drop (i + 1) is)))) t ∙ sym (ap (λ js. find p (map (at ts) js)) (drop_item is i x l e)) ∙ rest

  pub first_found : (is : List ℕ) (i x : ℕ) (b : Bool) → x < length ts → i < length is → x ≡ get_or is i x → find p (map (at ts) (drop i is)) ≡ find p (map (at ts) is) → b ≡ p (at ts x) → b ≡ true
      → StandsFor ts (Some x) (find p (map (at ts) is))
  first_found is i x b w l e rest t passes = (w, sym (first_is is i x l e rest true (sym passes ∙ t)))

  pub first_passed : (is : List ℕ) (i x : ℕ) (b : Bool) → i < length is → x ≡ get_or is i x → find p (map (at ts) (drop i is)) ≡ find p (map (at ts) is) → b ≡ p (at ts x) → b ≡ false
      → find p (map (at ts) (drop (i + 1) is)) ≡ find p (map (at ts) is)
  first_passed is i x b l e rest t fails = first_is is i x l e rest false (sym fails ∙ t)

  pub none_found : (is : List ℕ) (i : ℕ) → length is ≤ i → find p (map (at ts) (drop i is)) ≡ find p (map (at ts) is) → find p (map (at ts) is) ≡ None
  none_found is i l rest = sym rest ∙ at_drop_all (λ js. find p (map (at ts) js)) is i l

  -- of the terms in a term outside quantifiers, each once
  pub first_outside : (is : List ℕ) (o : Option ℕ) (t : Tree) → map (at ts) is ≡ each_once [] (outside t) → StandsFor ts o (find p (map (at ts) is)) → StandsFor ts o (find p (outside t))
  first_outside is o t e h = subst (StandsFor ts o) (ap (find p) e ∙ once_first p (outside t)) h

  kept_terms : (is : List ℕ) → map (at ts) (filter (λ i. p (at ts i)) is) ≡ filter p (map (at ts) is)
  kept_terms [] = refl
  kept_terms (i ∷ is) = by (p (at ts i)) ∙ ap (λ us. cond (p (at ts i)) (at ts i ∷ us) us) (kept_terms is)
    where
      by : (b : Bool) → map (at ts) (cond b (i ∷ filter (λ j. p (at ts j)) is) (filter (λ j. p (at ts j)) is)) ≡ cond b (at ts i ∷ map (at ts) (filter (λ j. p (at ts j)) is)) (map (at ts) (filter (λ j. p (at ts j)) is))
      by true = refl
      by false = refl

  pub kept_outside : (is js : List ℕ) (t : Tree) → AreAt ts is (each_once [] (outside t)) → js ≡ filter (λ i. p (at ts i)) is → AreAt ts js (each_once [] (filter p (outside t)))
  kept_outside is js t h e = (subst (AllByRecursion (λ j. j < length ts)) (sym e) (kept_all (λ i. p (at ts i)) (λ j. j < length ts) is h.0), ap (map (at ts)) e ∙ kept_terms is ∙ ap (filter p) h.1 ∙ once_kept p [] (outside t))

-- of what is kept something is there
pub there_now : {A : Type 0} (i : ℕ) (a : A) (old new : List (Option A)) → IsPut old i a new → is_some (kept_at new i) ≡ true
there_now i a old new e = ap is_some (e i) ∙ ap (λ b. is_some (cond b (Some a) (kept_at old i))) (eq-eqb i i refl)

-- nothing is found where something is there
pub not_none : {A : Type 0} (o : Option A) → is_some o ≡ true → None ≡ o → ⊥
not_none o h e = true≢false (sym h ∙ ap is_some (sym e))
