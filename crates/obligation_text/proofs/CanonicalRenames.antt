-- The canonical obligation renames the obligation, so the two are valid together.
use Rattle.std.specs.Prelude.{◌≡◌, refl, ◌↔◌, ℕ, zero, suc, ◌<◌, true, false, Option, Some, None, option_map, unwrap_or, List, [], ◌∷◌, ◌++◌, map, reverse, take, length, flat_map, slice_get}
use Rattle.std.specs.List.{AllByRecursion}
use Rattle.std.proofs.Common.{arith, ap, ◌∙◌}
use Rattle.std.proofs.lemmas.List.Elements.{All-from_recursion, recursion_from_All}
use mathlib.Core.Path.{subst, sym}
use Rattle.logic_core.specs.Tree.{boolean, Tree, truth}
use Rattle.logic_core.specs.Def.{Def, Obligation}
use Rattle.logic_core.specs.Valid.{Valid}
use Rattle.logic_core.specs.WellSorted.{IsFormula, IsWellSorted}
use Rattle.logic_core.specs.Renamed.{def_renamed, EachHas}
use Rattle.logic_core.specs.Variables.{variables, calls, place_in}
use Rattle.logic_core.proofs.FirstOccurrences.{all_occur}
use Rattle.logic_core.proofs.Mentioned.{all_left, all_right, as_it_stands}
use Rattle.logic_core.proofs.ThereIs.{There}
use Rattle.logic_core.proofs.EachOf.{every_append, every_map, every_both}
use Rattle.logic_laws.specs.RenamingLaws.{Covers, IsRenamedDef, IsRenamedObligation}
use Rattle.logic_laws.proofs.SortedNumbers.{HasVariable, HasDefinition, mentions_there, formula_is_sorted, there_in_front, body_is_sorted}
use Rattle.logic_laws.proofs.RenamedValidity
use Rattle.obligation_text.specs.Numbering.{body, definition_order, variable_order, numbered_terms}
use Rattle.obligation_text.specs.Canonical.{picked, canonical}
use Rattle.obligation_text.proofs.Places.{is_among, In, each_in, stands_there, one_place, picked_at}
use Rattle.obligation_text.proofs.Lists.{variables_have, calls_have}
use Rattle.obligation_text.proofs.Walk.{every_of, flat_to, flat_from, only_these, Walked, walk}

of_mapped : {A B : Type 0} (P : B → Type 0) (f : A → B) (xs : List A) → AllByRecursion P (map f xs) → AllByRecursion (λ x. P (f x)) xs
of_mapped P f [] h = tt
of_mapped P f (x ∷ xs) h = (h.0, of_mapped P f xs h.1)

to_mapped : {A B : Type 0} (P : B → Type 0) (f : A → B) (xs : List A) → AllByRecursion (λ x. P (f x)) xs → AllByRecursion P (map f xs)
to_mapped P f [] h = tt
to_mapped P f (x ∷ xs) h = (h.0, to_mapped P f xs h.1)

pub mapped_at : {A B : Type 0} (f : A → B) (xs : List A) (i : ℕ) → slice_get (map f xs) i ≡ option_map f (slice_get xs i)
mapped_at f [] i = refl
mapped_at f (x ∷ xs) zero = refl
mapped_at f (x ∷ xs) (suc i) = mapped_at f xs i

pub there_below : {A : Type 0} (xs : List A) (n : ℕ) → There (slice_get xs n) → n < length xs
there_below [] n h = let c : false ≡ true = h in absurd cc
there_below (x ∷ xs) zero h = omega arith
there_below (x ∷ xs) (suc n) h = let below = there_below xs n h in omega (below, arith)

there_from : {A : Type 0} (xs : List A) (n : ℕ) → n < length xs → There (slice_get xs n)
there_from [] n h = absurd (omega (h, arith))
there_from (x ∷ xs) zero h = refl
there_from (x ∷ xs) (suc n) h = there_from xs n (omega (h, arith))

pub the_item : {A : Type 0} (o : Option A) → There o → (x : A) × (o ≡ Some x)
the_item None h = let c : false ≡ true = h in absurd cc
the_item (Some x) h = (x, refl)

module _ (o : Obligation) (sorted : IsWellSorted o) where
  pub body_is : (f : ℕ) (d : Def) → slice_get o.defs f ≡ Some d → body o.defs f ≡ d.body
  body_is f d e = ap (λ x. unwrap_or (option_map (λ (y : Def). y.body) x) (truth true)) e

  pub body_mentions : (f : ℕ) → f < length o.defs → EachHas (HasVariable o.vars (take f o.defs)) (HasDefinition o.vars (take f o.defs)) (body o.defs f)
  body_mentions f below =
      let d = the_item (slice_get o.defs f) (there_from o.defs f below) in
      subst (EachHas (HasVariable o.vars (take f o.defs)) (HasDefinition o.vars (take f o.defs))) (sym (body_is f d.0 d.1))
      (mentions_there o.vars (take f o.defs) d.0.body (reverse d.0.params) (body_is_sorted o.vars o.defs f d.0 sorted.definitions d.1))

  lower : (f : ℕ) → f < length o.defs → AllByRecursion (λ g. g < f) (calls (body o.defs f))
  lower f below = every_map (HasDefinition o.vars (take f o.defs)) (λ g. g < f) (λ g h. (there_in_front o.defs f g h).0) (calls (body o.defs f))
      (calls_have (HasVariable o.vars (take f o.defs)) (HasDefinition o.vars (take f o.defs)) (body o.defs f) (body_mentions f below))

  -- the goal and the axioms
  abbrev formulas : List Tree
  formulas = o.goal ∷ o.axioms

  pub formulas_mention : AllByRecursion (EachHas (HasVariable o.vars o.defs) (HasDefinition o.vars o.defs)) formulas
  formulas_mention = every_map (IsFormula o.vars o.defs) (EachHas (HasVariable o.vars o.defs) (HasDefinition o.vars o.defs))
      (λ t h. mentions_there o.vars o.defs t [] (formula_is_sorted o.vars o.defs [] t boolean h)) formulas (sorted.goal, recursion_from_All (IsFormula o.vars o.defs) o.axioms sorted.axioms)

  start_below : AllByRecursion (λ g. g < length o.defs) (flat_map calls formulas)
  start_below = flat_from (λ g. g < length o.defs) calls formulas (every_map (EachHas (HasVariable o.vars o.defs) (HasDefinition o.vars o.defs)) (λ t. AllByRecursion (λ g. g < length o.defs) (calls t))
      (λ t h. every_map (HasDefinition o.vars o.defs) (λ g. g < length o.defs) (λ g k. there_below o.defs g k) (calls t) (calls_have (HasVariable o.vars o.defs) (HasDefinition o.vars o.defs) t h)) formulas formulas_mention)

  abbrev pub fs : List ℕ
  fs = definition_order o

  abbrev pub vs : List ℕ
  vs = variable_order o fs

  walked : Walked o.defs [] fs (flat_map calls formulas)
  walked = walk o.defs lower (flat_map calls formulas) start_below

  pub definitions_there : AllByRecursion (HasDefinition o.vars o.defs) fs
  definitions_there = every_of (HasDefinition o.vars o.defs) fs (λ f h. there_from o.defs f (walked.good f h).0)

  -- the texts in which variables occur
  abbrev texts : List Tree
  texts = numbered_terms o fs

  variables_occur : AllByRecursion (λ t. AllByRecursion (In vs) (variables t)) texts
  variables_occur = flat_to (In vs) variables texts (all_occur [] (flat_map variables texts))

  abbrev HasVariables : Tree → Type 0
  HasVariables t = AllByRecursion (HasVariable o.vars o.defs) (variables t)

  formulas_have : AllByRecursion HasVariables formulas
  formulas_have = every_map (EachHas (HasVariable o.vars o.defs) (HasDefinition o.vars o.defs)) HasVariables (λ t h. variables_have (HasVariable o.vars o.defs) (HasDefinition o.vars o.defs) t h) formulas formulas_mention

  bodies_have : AllByRecursion HasVariables (map (body o.defs) fs)
  bodies_have = to_mapped HasVariables (body o.defs) fs (every_of (λ f. HasVariables (body o.defs f)) fs (λ f h.
      variables_have (HasVariable o.vars (take f o.defs)) (HasDefinition o.vars (take f o.defs)) (body o.defs f) (body_mentions f (walked.good f h).0)))

  pub variables_there : AllByRecursion (HasVariable o.vars o.defs) vs
  variables_there = only_these (HasVariable o.vars o.defs) [] (flat_map variables texts) tt
      (flat_from (HasVariable o.vars o.defs) variables texts (every_append HasVariables (map (body o.defs) fs ++ o.axioms) (o.goal ∷ []) (every_append HasVariables (map (body o.defs) fs) o.axioms bodies_have formulas_have.1) (formulas_have.0, tt)))

  abbrev Variables : Tree → Type 0
  Variables t = AllByRecursion (In vs) (variables t)

  bodies_occur : (f : ℕ) → In fs f → Variables (body o.defs f)
  bodies_occur f h = each_in (λ f. Variables (body o.defs f)) fs
      (of_mapped Variables (body o.defs) fs (all_left Variables (map (body o.defs) fs) o.axioms (all_left Variables (map (body o.defs) fs ++ o.axioms) (o.goal ∷ []) variables_occur))) f h

  axioms_occur : AllByRecursion Variables o.axioms
  axioms_occur = all_right Variables (map (body o.defs) fs) o.axioms (all_left Variables (map (body o.defs) fs ++ o.axioms) (o.goal ∷ []) variables_occur)

  goal_occurs : Variables o.goal
  goal_occurs = (all_right Variables (map (body o.defs) fs ++ o.axioms) (o.goal ∷ []) variables_occur).0

  calls_occur : AllByRecursion (λ t. AllByRecursion (In fs) (calls t)) formulas
  calls_occur = flat_to (In fs) calls formulas walked.there

  abbrev Covered : Tree → Type 0
  Covered t = Covers (place_in fs) (place_in vs) (is_among fs) (is_among vs) t

  axioms_covered : AllByRecursion Covered o.axioms
  axioms_covered = every_map (λ t. Variables t × AllByRecursion (In fs) (calls t)) Covered (λ t h. as_it_stands (In vs) (In fs) t h) o.axioms
      (every_both Variables (λ t. AllByRecursion (In fs) (calls t)) o.axioms axioms_occur calls_occur.1)

  abbrev anew : Def → Def
  anew d = def_renamed (place_in fs) (place_in vs) d

  renames_def : (f : ℕ) → In fs f → IsRenamedDef (place_in fs) (place_in vs) (is_among fs) (is_among vs) o.defs (canonical o).defs f
  renames_def f h =
      let good = walked.good f h in
      let d = the_item (slice_get o.defs f) (there_from o.defs f good.0) in
      let at_place : slice_get (picked o.defs fs) (place_in fs f) ≡ Some d.0 = picked_at o.defs fs definitions_there (place_in fs f) f (stands_there fs f h) ∙ d.1 in
      let called : AllByRecursion (λ g. In fs g × (g < f) × (place_in fs g < place_in fs f)) (calls (body o.defs f))
      = every_map (λ g. (In fs g × (place_in fs g < place_in fs f)) × (g < f)) (λ g. In fs g × (g < f) × (place_in fs g < place_in fs f)) (λ g k. (k.0.0, k.1, k.0.1)) (calls (body o.defs f))
      (every_both (λ g. In fs g × (place_in fs g < place_in fs f)) (λ g. g < f) (calls (body o.defs f)) good.1 (lower f good.0)) in
      record {
        definition = d.0;
        old = d.1;
        new = mapped_at anew (picked o.defs fs) (place_in fs f) ∙ ap (option_map anew) at_place;
        calls_lower = subst (EachHas (In vs) (λ g. In fs g × (g < f) × (place_in fs g < place_in fs f))) (body_is f d.0 d.1)
            (as_it_stands (In vs) (λ g. In fs g × (g < f) × (place_in fs g < place_in fs f)) (body o.defs f) (bodies_occur f h, called));
      }

  pub canonical_renames : IsRenamedObligation (place_in fs) (place_in vs) (is_among fs) (is_among vs) o (canonical o)
  canonical_renames = record {
    vars = λ v h. picked_at o.vars vs variables_there (place_in vs v) v (stands_there vs v h);
    vars_there = λ v h. the_item (slice_get o.vars v) (each_in (HasVariable o.vars o.defs) vs variables_there v h);
    one_to_one = λ u v hu hv e. one_place vs u v hu hv e;
    defs = renames_def;
    axioms_covered = All-from_recursion Covered o.axioms axioms_covered;
    axioms = refl;
    goal_covered = as_it_stands (In vs) (In fs) o.goal (goal_occurs, calls_occur.0);
    goal = refl;
  }

  pub valid_together : Valid o ↔ Valid (canonical o)
  valid_together = RenamedValidity.renaming_keeps_validity (place_in fs) (place_in vs) (is_among fs) (is_among vs) o (canonical o) canonical_renames

pub canonical_valid : (o : Obligation) → IsWellSorted o → Valid (canonical o) → Valid o
canonical_valid o sorted = (valid_together o sorted).1
