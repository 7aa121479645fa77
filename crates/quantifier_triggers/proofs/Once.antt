-- A candidate that stands twice changes nothing: the first decides.
use Rattle.std.specs.Prelude.{◌≡◌, refl, ℕ, nat_eq, nat_lt, ◌≤◌, Bool, true, false, not, cond, ◌&&◌, ◌||◌, List, [], ◌∷◌, ◌++◌, filter, fold, Option, Some, None, option_map, if◌then◌else◌}
use Rattle.std.specs.List.{AllByRecursion, list_any}
use Rattle.std.proofs.Common.{ap, arith}
use Rattle.std.proofs.lemmas.Bool.Decides.{nat_tests}
use Rattle.std.proofs.lemmas.List.{append_assoc}
use mathlib.Core.Path.{subst, sym, ◌∙◌}
use Rattle.logic_core.specs.Tree.{Tree, nodes}
use Rattle.logic_core.specs.Size.{capped}
use Rattle.logic_core.specs.Same.{same_term}
use Rattle.logic_core.proofs.SameTerm.{same_is_equal}
use Rattle.logic_core.proofs.EachOf.{every_append}
use Rattle.quantifier_triggers.specs.Candidates.{bound_numbers, covers, joined, once}
use Rattle.quantifier_triggers.specs.Choice.{smaller, smaller_of, least, adds, cover, pick}
use Rattle.quantifier_triggers.proofs.Lists.{Has, has_left, has_right}

-- the terms that are not among those seen, each once
abbrev pub thin : List Tree → List Tree → List Tree
thin seen [] = []
thin seen (t ∷ ts) = if list_any (same_term t) seen then thin seen ts else t ∷ thin (seen ++ t ∷ []) ts

once_after : (seen ts : List Tree) → fold joined seen ts ≡ seen ++ thin seen ts
once_after seen [] = sym (append_nothing seen)
  where
    append_nothing : (xs : List Tree) → xs ++ [] ≡ xs
    append_nothing [] = refl
    append_nothing (x ∷ xs) = ap (λ l. x ∷ l) (append_nothing xs)
once_after seen (t ∷ ts) = by_test (list_any (same_term t) seen) (once_after seen ts) (once_after (seen ++ t ∷ []) ts)
  where
    by_test : (b : Bool) → fold joined seen ts ≡ seen ++ thin seen ts → fold joined (seen ++ t ∷ []) ts ≡ (seen ++ t ∷ []) ++ thin (seen ++ t ∷ []) ts
        → fold joined (if b then seen else seen ++ t ∷ []) ts ≡ seen ++ (if b then thin seen ts else t ∷ thin (seen ++ t ∷ []) ts)
    by_test true r s = r
    by_test false r s = s ∙ append_assoc seen (t ∷ []) (thin (seen ++ t ∷ []) ts)

-- what is true of each term seen is true of one that is the same
at_same : (P : Tree → Type 0) (t : Tree) (seen : List Tree) → list_any (same_term t) seen ≡ true → AllByRecursion P seen → P t
at_same P t [] h all = let c : false ≡ true = h in absurd cc
at_same P t (x ∷ xs) h all = by_test (same_term t x) refl h (λ r. at_same P t xs r all.1)
  where
    by_test : (b : Bool) → same_term t x ≡ b → (b || list_any (same_term t) xs) ≡ true → (list_any (same_term t) xs ≡ true → P t) → P t
    by_test true e g r = subst P (sym (same_is_equal t x e)) all.0
    by_test false e g r = r g

weaker : {A : Type 0} (P Q : A → Type 0) (xs : List A) → ((x : A) → P x → Q x) → AllByRecursion P xs → AllByRecursion Q xs
weaker P Q [] f h = tt
weaker P Q (x ∷ xs) f h = (f x h.0, weaker P Q xs f h.1)

-- the least of one that was found before, if any, and these
abbrev pub least_from : Option Tree → List Tree → Option Tree
least_from None ts = least ts
least_from (Some u) ts = Some (fold smaller u ts)

pub least_more : (m : Option Tree) (t : Tree) (ts : List Tree) → least_from m (t ∷ ts) ≡ least_from (Some (smaller_of m t)) ts
least_more None t ts = refl
least_more (Some u) t ts = refl

abbrev weight : Tree → ℕ
weight t = capped (nodes t)

-- a term is no smaller than the one found
abbrev NoSmaller : Option Tree → Tree → Type 0
NoSmaller None t = ⊥
NoSmaller (Some u) t = weight u ≤ weight t

smaller_is : (u t : Tree) → (weight (smaller u t) ≤ weight u) × (weight (smaller u t) ≤ weight t)
smaller_is u t = by_test (nat_lt (weight t) (weight u)) refl
  where
    by_test : (b : Bool) → nat_lt (weight t) (weight u) ≡ b → (weight (cond b t u) ≤ weight u) × (weight (cond b t u) ≤ weight t)
    by_test true e = let less : weight t ≤ weight u = grind (arith, nat_tests) in (less, omega arith)
    by_test false e = let less : weight u ≤ weight t = grind (arith, nat_tests) in (omega arith, less)

still_no_smaller : (m : Option Tree) (t x : Tree) → NoSmaller m x → NoSmaller (Some (smaller_of m t)) x
still_no_smaller None t x h = absurd h
still_no_smaller (Some u) t x h = omega (arith, h, (smaller_is u t).0)

no_smaller_itself : (m : Option Tree) (t : Tree) → NoSmaller (Some (smaller_of m t)) t
no_smaller_itself None t = omega arith
no_smaller_itself (Some u) t = (smaller_is u t).1

skipped : (m : Option Tree) (t : Tree) (ts : List Tree) → NoSmaller m t → least_from (Some (smaller_of m t)) ts ≡ least_from m ts
skipped None t ts h = absurd h
skipped (Some u) t ts h = by_test (nat_lt (weight t) (weight u)) refl
  where
    by_test : (b : Bool) → nat_lt (weight t) (weight u) ≡ b → Some (fold smaller (cond b t u) ts) ≡ Some (fold smaller u ts)
    by_test true e = absurd (grind (arith, nat_tests))
    by_test false e = refl

module _ (p : Tree → Bool) where
  abbrev AreSeen : Option Tree → List Tree → Type 0
  AreSeen m seen = AllByRecursion (λ x. p x ≡ true → NoSmaller m x) seen

  thin_least : (m : Option Tree) (seen ts : List Tree) → AreSeen m seen → least_from m (filter p (thin seen ts)) ≡ least_from m (filter p ts)
  thin_least m seen [] h = refl
  thin_least m seen (t ∷ ts) h = by_test (list_any (same_term t) seen) (p t) refl refl (thin_least m seen ts h) (thin_least (Some (smaller_of m t)) (seen ++ t ∷ []) ts) (thin_least m (seen ++ t ∷ []) ts)
    where
      by_test : (b c : Bool) → list_any (same_term t) seen ≡ b → p t ≡ c → least_from m (filter p (thin seen ts)) ≡ least_from m (filter p ts)
          → (AreSeen (Some (smaller_of m t)) (seen ++ t ∷ []) → least_from (Some (smaller_of m t)) (filter p (thin (seen ++ t ∷ []) ts)) ≡ least_from (Some (smaller_of m t)) (filter p ts))
          → (AreSeen m (seen ++ t ∷ []) → least_from m (filter p (thin (seen ++ t ∷ []) ts)) ≡ least_from m (filter p ts))
          → least_from m (filter p (if b then thin seen ts else t ∷ thin (seen ++ t ∷ []) ts)) ≡ least_from m (cond c (t ∷ filter p ts) (filter p ts))
      by_test true true e f same taken passed = same ∙ sym (least_more m t (filter p ts) ∙ skipped m t (filter p ts) (at_same (λ x. p x ≡ true → NoSmaller m x) t seen e h f))
      by_test true false e f same taken passed = same
      by_test false true e f same taken passed =
          ap (λ d. least_from m (cond d (t ∷ filter p (thin (seen ++ t ∷ []) ts)) (filter p (thin (seen ++ t ∷ []) ts)))) f ∙ least_more m t (filter p (thin (seen ++ t ∷ []) ts))
          ∙ taken (every_append _ seen (t ∷ []) (weaker _ _ seen (λ x k g. still_no_smaller m t x (k g)) h) ((λ g. no_smaller_itself m t), tt))
          ∙ sym (least_more m t (filter p ts))
      by_test false false e f same taken passed =
          ap (λ d. least_from m (cond d (t ∷ filter p (thin (seen ++ t ∷ []) ts)) (filter p (thin (seen ++ t ∷ []) ts)))) f
          ∙ passed (every_append _ seen (t ∷ []) h ((λ g. let c : true ≡ false = sym g ∙ f in absurd cc), tt))

module _ (n : ℕ) where
  -- where all are covered nothing is taken
  pub cover_done : (covered : List ℕ) (ts : List Tree) → covers n covered ≡ true → cover n covered ts ≡ Some []
  cover_done covered [] h = ap (λ b. cond {A = Option (List Tree)} b (Some []) None) h
  cover_done covered (t ∷ ts) h =
      ap (λ b. elim b [ true ↦ Some [] | false ↦ elim (adds n covered t) [ true ↦ option_map (λ us. t ∷ us) (cover n (covered ++ bound_numbers t) ts) | false ↦ cover n covered ts ] ]) h

  none_new : (covered more : List ℕ) (vs : List ℕ) → list_any (λ v. nat_lt v n && not (list_any (nat_eq v) covered)) vs ≡ false → list_any (λ v. nat_lt v n && not (list_any (nat_eq v) (covered ++ more))) vs ≡ false
  none_new covered more [] h = refl
  none_new covered more (v ∷ vs) h = by_test (nat_lt v n) (list_any (nat_eq v) covered) refl h (none_new covered more vs)
    where
      by_test : (a b : Bool) → list_any (nat_eq v) covered ≡ b → ((a && not b) || list_any (λ v. nat_lt v n && not (list_any (nat_eq v) covered)) vs) ≡ false
          → (list_any (λ v. nat_lt v n && not (list_any (nat_eq v) covered)) vs ≡ false → list_any (λ v. nat_lt v n && not (list_any (nat_eq v) (covered ++ more))) vs ≡ false)
          → ((a && not (list_any (nat_eq v) (covered ++ more))) || list_any (λ v. nat_lt v n && not (list_any (nat_eq v) (covered ++ more))) vs) ≡ false
      by_test false b e g r = r g
      by_test true false e g r = let c : true ≡ false = g in absurd cc
      by_test true true e g r = ap (λ b. not b || list_any (λ v. nat_lt v n && not (list_any (nat_eq v) (covered ++ more))) vs) (has_left v covered more e) ∙ r g

  none_own : (there : List ℕ) (vs : List ℕ) → AllByRecursion (λ v. Has v there) vs → list_any (λ v. nat_lt v n && not (list_any (nat_eq v) there)) vs ≡ false
  none_own there [] h = refl
  none_own there (v ∷ vs) h = by_test (nat_lt v n) (list_any (nat_eq v) there) h.0 (none_own there vs h.1)
    where
      by_test : (a b : Bool) → b ≡ true → list_any (λ v. nat_lt v n && not (list_any (nat_eq v) there)) vs ≡ false → ((a && not b) || list_any (λ v. nat_lt v n && not (list_any (nat_eq v) there)) vs) ≡ false
      by_test false b e r = r
      by_test true true e r = r
      by_test true false e r = let c : false ≡ true = e in absurd cc

  each_has : (vs : List ℕ) → AllByRecursion (λ v. Has v vs) vs
  each_has [] = tt
  each_has (v ∷ vs) = (here (nat_eq v v) itself, weaker (λ u. Has u vs) (λ u. Has u (v ∷ vs)) vs (λ u k. has_right u (v ∷ []) vs k) (each_has vs))
    where
      itself : nat_eq v v ≡ true
      itself = grind (arith, nat_tests)

      here : (b : Bool) → b ≡ true → (b || list_any (nat_eq v) vs) ≡ true
      here true e = refl
      here false e = let c : false ≡ true = e in absurd cc

  adds_none : (covered : List ℕ) (t : Tree) → adds n (covered ++ bound_numbers t) t ≡ false
  adds_none covered t = none_own (covered ++ bound_numbers t) (bound_numbers t) (weaker (λ v. Has v (bound_numbers t)) (λ v. Has v (covered ++ bound_numbers t)) (bound_numbers t) (λ v k. has_right v covered (bound_numbers t) k) (each_has (bound_numbers t)))

  abbrev Step : Bool → Bool → List ℕ → Tree → List Tree → Option (List Tree)
  Step b c covered t ts = elim b [ true ↦ Some [] | false ↦ elim c [ true ↦ option_map (λ us. t ∷ us) (cover n (covered ++ bound_numbers t) ts) | false ↦ cover n covered ts ] ]

  thin_cover : (covered : List ℕ) (seen ts : List Tree) → AllByRecursion (λ x. adds n covered x ≡ false) seen → cover n covered (thin seen ts) ≡ cover n covered ts
  thin_cover covered seen [] h = refl
  thin_cover covered seen (t ∷ ts) h =
      by_test (list_any (same_term t) seen) (covers n covered) (adds n covered t) refl refl refl (thin_cover covered seen ts h) (thin_cover (covered ++ bound_numbers t) (seen ++ t ∷ []) ts) (thin_cover covered (seen ++ t ∷ []) ts)
    where
      by_test : (a b c : Bool) → list_any (same_term t) seen ≡ a → covers n covered ≡ b → adds n covered t ≡ c → cover n covered (thin seen ts) ≡ cover n covered ts
          → (AllByRecursion (λ x. adds n (covered ++ bound_numbers t) x ≡ false) (seen ++ t ∷ []) → cover n (covered ++ bound_numbers t) (thin (seen ++ t ∷ []) ts) ≡ cover n (covered ++ bound_numbers t) ts)
          → (AllByRecursion (λ x. adds n covered x ≡ false) (seen ++ t ∷ []) → cover n covered (thin (seen ++ t ∷ []) ts) ≡ cover n covered ts)
          → cover n covered (if a then thin seen ts else t ∷ thin (seen ++ t ∷ []) ts) ≡ Step b c covered t ts
      by_test a true c e f g same taken passed = cover_done covered (if a then thin seen ts else t ∷ thin (seen ++ t ∷ []) ts) f
      by_test true false true e f g same taken passed = let d : true ≡ false = sym g ∙ at_same (λ x. adds n covered x ≡ false) t seen e h in absurd cc
      by_test true false false e f g same taken passed = same
      by_test false false true e f g same taken passed = (λ j. Step (f j) (g j) covered t (thin (seen ++ t ∷ []) ts))
          ∙ ap (option_map (λ us. t ∷ us)) (taken (every_append _ seen (t ∷ []) (weaker _ _ seen (λ x k. none_new covered (bound_numbers t) (bound_numbers x) k) h) (adds_none covered t, tt)))
      by_test false false false e f g same taken passed = (λ j. Step (f j) (g j) covered t (thin (seen ++ t ∷ []) ts)) ∙ passed (every_append _ seen (t ∷ []) h (g, tt))

  -- so what is picked is the same
  pub picked_once : (ts : List Tree) → pick n (once ts) ≡ pick n ts
  picked_once ts = ap (pick n) (once_after [] ts) ∙ (λ j. elim (thin_least (λ t. covers n (bound_numbers t)) None [] ts tt j) [ Some t ↦ Some (t ∷ []) | None ↦ thin_cover [] [] ts tt j ])
