-- A well-sorted term over well-sorted definitions means the same in assignments that agree on the variables that are there.
use Rattle.std.specs.Prelude.{◌≡◌, refl, ℕ, zero, suc, ◌<◌, nat_lt, Bool, true, false, IsTrue, List, [], ◌∷◌, reverse, take, length, slice_get, Some}
use Rattle.std.proofs.Common.{arith, ap, ◌∙◌}
use Rattle.std.proofs.lemmas.Bool.{lt-ltb, ltb-true}
use mathlib.Core.Path.{sym}
use Rattle.logic_core.specs.Tree.{Kind, Tree, num, truth, free, bound, linear, mul, read, write, choose, call, negation, all, some, equal, at_most, for_all, exists, Trees, no_trees, tree, Parts, no_parts, part, Patterns, no_patterns, pattern}
use Rattle.logic_core.specs.Def.{Def}
use Rattle.logic_core.specs.Value.{Value, at}
use Rattle.logic_core.specs.Sorts.{sort_of, bodies_sorted}
use Rattle.logic_core.specs.Meaning.{With}
use Rattle.logic_core.specs.Valid.{calls_of}
use Rattle.logic_core.specs.Renamed.{both_renamed, EachHas, EachInTrees, EachInParts, EachInPatterns}
use Rattle.logic_core.proofs.ThereIs.{There}
use Rattle.logic_laws.specs.RenamingLaws.{AreRenamed}
use Rattle.logic_laws.proofs.SortedNumbers.{HasVariable, HasDefinition, mentions_there, there_in_front, body_is_sorted}
use Rattle.logic_laws.proofs.RenamedVariables.{renames_nothing}
use Rattle.logic_laws.proofs.RenamedCalls.{renamed_means}

-- what each variable and each definition has may be weakened
module _ (V C V' C' : ℕ → Type 0) (v : (n : ℕ) → V n → V' n) (c : (n : ℕ) → C n → C' n) where
  mutual
    pub each_weaker : (t : Tree) → EachHas V C t → EachHas V' C' t
    each_weaker (num n) h = tt
    each_weaker (truth x) h = tt
    each_weaker (free n) h = v n h
    each_weaker (bound n) h = tt
    each_weaker (linear ps k) h = parts_weaker ps h
    each_weaker (mul x y) h = (each_weaker x h.0, each_weaker y h.1)
    each_weaker (read x y) h = (each_weaker x h.0, each_weaker y h.1)
    each_weaker (write x y z) h = (each_weaker x h.0, each_weaker y h.1, each_weaker z h.2)
    each_weaker (choose x y z) h = (each_weaker x h.0, each_weaker y h.1, each_weaker z h.2)
    each_weaker (call f ts) h = (c f h.0, trees_weaker ts h.1)
    each_weaker (negation x) h = each_weaker x h
    each_weaker (all ts) h = trees_weaker ts h
    each_weaker (some ts) h = trees_weaker ts h
    each_weaker (equal x y) h = (each_weaker x h.0, each_weaker y h.1)
    each_weaker (at_most x y) h = (each_weaker x h.0, each_weaker y h.1)
    each_weaker (for_all ss ps t) h = (patterns_weaker ps h.0, each_weaker t h.1)
    each_weaker (exists ss ps t) h = (patterns_weaker ps h.0, each_weaker t h.1)

    trees_weaker : (ts : Trees) → EachInTrees V C ts → EachInTrees V' C' ts
    trees_weaker no_trees h = tt
    trees_weaker (tree t ts) h = (each_weaker t h.0, trees_weaker ts h.1)

    parts_weaker : (ps : Parts) → EachInParts V C ps → EachInParts V' C' ps
    parts_weaker no_parts h = tt
    parts_weaker (part k t ps) h = (each_weaker t h.0, parts_weaker ps h.1)

    patterns_weaker : (ps : Patterns) → EachInPatterns V C ps → EachInPatterns V' C' ps
    patterns_weaker no_patterns h = tt
    patterns_weaker (pattern ts ps) h = (trees_weaker ts h.0, patterns_weaker ps h.1)

abbrev itself : ℕ → ℕ
itself n = n

pub number_below : {A : Type 0} (xs : List A) (n : ℕ) → There (slice_get xs n) → n < length xs
number_below [] n h = let c : false ≡ true = h in absurd cc
number_below (x ∷ xs) zero h = omega arith
number_below (x ∷ xs) (suc n) h = let below = number_below xs n h in omega (below, arith)

item_below : {A : Type 0} (xs : List A) (n : ℕ) → n < length xs → (x : A) × (slice_get xs n ≡ Some x)
item_below [] n h = absurd (omega (h, arith))
item_below (x ∷ xs) zero h = (x, refl)
item_below (x ∷ xs) (suc n) h = item_below xs n (omega (h, arith))

same_term : (t : Tree) → both_renamed itself itself t ≡ t
same_term t = renames_nothing t

module _ (vars : List Kind) (defs : List Def) (bodies : bodies_sorted vars [] defs ≡ true) (frees frees' : List Value) (agree : (v : ℕ) → v < length vars → at frees' v ≡ at frees v) where
  abbrev defs? : ℕ → Bool
  defs? f = nat_lt f (length defs)

  abbrev vars? : ℕ → Bool
  vars? v = nat_lt v (length vars)

  variable_there : (n : ℕ) → There (slice_get vars n) → IsTrue (vars? n)
  variable_there n h = lt-ltb n (length vars) (number_below vars n h)

  definition_there : (n : ℕ) → There (slice_get defs n) → IsTrue (defs? n)
  definition_there n h = lt-ltb n (length defs) (number_below defs n h)

  itself_renamed : AreRenamed itself itself defs? vars? defs defs
  itself_renamed f h =
      let d = item_below defs f (ltb-true f (length defs) h) in
      record {
        definition = d.0;
        old = d.1;
        new = d.1 ∙ (λ j. Some (record { params = d.0.params; sort = d.0.sort; logical = d.0.logical; body = sym (same_term d.0.body) j }));
        calls_lower = each_weaker (HasVariable vars (take f defs)) (HasDefinition vars (take f defs)) (λ v. IsTrue (vars? v)) (λ g. IsTrue (defs? g) × (g < f) × (g < f))
            variable_there (λ g k. let p = there_in_front defs f g k in (definition_there g p.1, p.0, p.0)) d.0.body (mentions_there vars (take f defs) d.0.body (reverse d.0.params) (body_is_sorted vars defs f d.0 bodies d.1));
      }

  pub sorted_means : (t : Tree) (s : List Kind) → There (sort_of vars defs s t) → With frees' (calls_of frees' defs) t ≡ With frees (calls_of frees defs) t
  sorted_means t s h =
      ap (With frees' (calls_of frees' defs)) (sym (same_term t))
      ∙ renamed_means itself itself defs? vars? defs defs frees frees' (λ v there. agree v (ltb-true v (length vars) there)) itself_renamed t
      (each_weaker (HasVariable vars defs) (HasDefinition vars defs) (λ v. IsTrue (vars? v)) (λ f. IsTrue (defs? f)) variable_there definition_there t (mentions_there vars defs t s h))
