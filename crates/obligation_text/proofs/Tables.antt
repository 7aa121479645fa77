-- Tables of new numbers: made number by number, and they renumber an obligation as its orders do.
use Rattle.std.specs.Prelude.{◌≡◌, refl, ℕ, zero, suc, ◌+◌, ◌<◌, Option, Some, None, List, [], ◌∷◌, ◌++◌, map, length, reverse, take, slice_get, slice_index_or}
use Rattle.std.specs.List.{AllByRecursion, cons_option}
use Rattle.std.proofs.Common.{arith, ap, ◌∙◌}
use Rattle.std.proofs.lemmas.Bool.{cases_eq}
use mathlib.Core.Path.{subst, sym}
use mathlib.Core.Logic.{inl, inr}
use Rattle.logic_core.specs.Tree.{Kind, Tree}
use Rattle.logic_core.specs.Def.{Def, Obligation}
use Rattle.logic_core.specs.WellSorted.{IsWellSorted}
use Rattle.logic_core.specs.Renamed.{both_renamed, def_renamed, new_number, EachHas}
use Rattle.logic_core.specs.Variables.{place_in}
use Rattle.logic_core.proofs.Mentioned.{agree}
use Rattle.logic_laws.proofs.SortedNumbers.{HasVariable, HasDefinition, mentions_there, there_in_front, body_is_sorted}
use Rattle.obligation_text.specs.Numbering.{definition_order, variable_order}
use Rattle.obligation_text.specs.Canonical.{picked, renumbered, canonical}
use Rattle.obligation_text.proofs.CanonicalRenames.{there_below, formulas_mention}

at_end : (xs : List ℕ) (y k d : ℕ) → length xs ≡ k → slice_index_or (xs ++ y ∷ []) k d ≡ y
at_end [] y zero d e = refl
at_end [] y (suc k) d e = absurd (omega (e, arith))
at_end (x ∷ xs) y zero d e = absurd (omega (e, arith))
at_end (x ∷ xs) y (suc k) d e = at_end xs y k d (omega (e, arith))

at_front : (xs : List ℕ) (y k d : ℕ) → k < length xs → slice_index_or (xs ++ y ∷ []) k d ≡ slice_index_or xs k d
at_front [] y k d h = absurd (omega (h, arith))
at_front (x ∷ xs) y zero d h = refl
at_front (x ∷ xs) y (suc k) d h = at_front xs y k d (omega (h, arith))

-- one number more
pub table_more : (f : ℕ → ℕ) (xs ys : List ℕ) (n : ℕ) → length xs ≡ n → ys ≡ xs ++ f n ∷ [] → ((k : ℕ) → k < n → new_number xs k ≡ f k) → (k : ℕ) → k < n + 1 → new_number ys k ≡ f k
table_more f xs ys n count pushed each k below = ap (λ zs. new_number zs k) pushed ∙ elim (cases_eq k n) [
  | inl same ↦ at_end xs (f n) k k (omega (count, same, arith)) ∙ ap f (sym same)
  | inr apart ↦ at_front xs (f n) k k (omega (count, below, apart, arith)) ∙ each k (omega (below, apart, arith))
]

-- the table has these numbers, below a count
abbrev pub HasTable : (ℕ → ℕ) → ℕ → List ℕ → Type 0
HasTable f n table = (k : ℕ) → k < n → new_number table k ≡ f k

module _ (o : Obligation) (sorted : IsWellSorted o) (definitions variables : List ℕ)
    (defs_at : HasTable (place_in (definition_order o)) (length o.defs) definitions) (vars_at : HasTable (place_in (variable_order o (definition_order o))) (length o.vars) variables) where
  abbrev fs : List ℕ
  fs = definition_order o

  abbrev vs : List ℕ
  vs = variable_order o fs

  same_term : (t : Tree) → EachHas (HasVariable o.vars o.defs) (HasDefinition o.vars o.defs) t → both_renamed (new_number definitions) (new_number variables) t ≡ both_renamed (place_in fs) (place_in vs) t
  same_term t h = agree (new_number definitions) (new_number variables) (place_in fs) (place_in vs) (HasVariable o.vars o.defs) (HasDefinition o.vars o.defs)
      (λ v there. vars_at v (there_below o.vars v there)) (λ f there. defs_at f (there_below o.defs f there)) t h

  same_terms : (ts : List Tree) → AllByRecursion (EachHas (HasVariable o.vars o.defs) (HasDefinition o.vars o.defs)) ts → map (both_renamed (new_number definitions) (new_number variables)) ts ≡ map (both_renamed (place_in fs) (place_in vs)) ts
  same_terms [] h = refl
  same_terms (t ∷ ts) h = λ i. same_term t h.0 i ∷ same_terms ts h.1 i

  same_def : (f : ℕ) (d : Def) → slice_get o.defs f ≡ Some d → def_renamed (new_number definitions) (new_number variables) d ≡ def_renamed (place_in fs) (place_in vs) d
  same_def f d e =
      let body = agree (new_number definitions) (new_number variables) (place_in fs) (place_in vs) (HasVariable o.vars (take f o.defs)) (HasDefinition o.vars (take f o.defs))
      (λ v there. vars_at v (there_below o.vars v there)) (λ g there. defs_at g (there_below o.defs g (there_in_front o.defs f g there).1)) d.body
      (mentions_there o.vars (take f o.defs) d.body (reverse d.params) (body_is_sorted o.vars o.defs f d sorted.definitions e)) in
      λ i. record { params = d.params; sort = d.sort; logical = d.logical; body = body i }

  same_defs : (ns : List ℕ) → map (def_renamed (new_number definitions) (new_number variables)) (picked o.defs ns) ≡ map (def_renamed (place_in fs) (place_in vs)) (picked o.defs ns)
  same_defs [] = refl
  same_defs (n ∷ ns) = by_item (slice_get o.defs n) refl (same_defs ns)
    where
      by_item : (x : Option Def) → slice_get o.defs n ≡ x → map (def_renamed (new_number definitions) (new_number variables)) (picked o.defs ns) ≡ map (def_renamed (place_in fs) (place_in vs)) (picked o.defs ns)
          → map (def_renamed (new_number definitions) (new_number variables)) (cons_option x (picked o.defs ns)) ≡ map (def_renamed (place_in fs) (place_in vs)) (cons_option x (picked o.defs ns))
      by_item None e rest = rest
      by_item (Some d) e rest = λ i. same_def n d e i ∷ rest i

  -- by the tables as by the orders
  tables_number : renumbered (new_number definitions) (new_number variables) fs vs o ≡ canonical o
  tables_number = λ i. record {
    vars = picked o.vars vs;
    defs = same_defs fs i;
    axioms = same_terms o.axioms (formulas_mention o sorted).1 i;
    goal = same_term o.goal (formulas_mention o sorted).0 i;
  }

numbers_all : (o : Obligation) → IsWellSorted o → (fs vs definitions variables : List ℕ) (made : Obligation) → fs ≡ definition_order o → vs ≡ variable_order o fs
    → HasTable (place_in fs) (length o.defs) definitions → HasTable (place_in vs) (length o.vars) variables → made ≡ renumbered (new_number definitions) (new_number variables) fs vs o → made ≡ canonical o
numbers_all o sorted fs vs definitions variables made order named at_defs at_vars same =
    let vs_is : vs ≡ variable_order o (definition_order o) = named ∙ ap (variable_order o) order in
    same
    ∙ (λ i. renumbered (new_number definitions) (new_number variables) (order i) (vs_is i) o)
    ∙ tables_number o sorted definitions variables (subst (λ ns. HasTable (place_in ns) (length o.defs) definitions) order at_defs) (subst (λ ns. HasTable (place_in ns) (length o.vars) variables) vs_is at_vars)

-- the parts that are made by tables are those of the canonical obligation
pub parts_canonical : (o : Obligation) → IsWellSorted o → (fs vs definitions variables : List ℕ) → fs ≡ definition_order o → vs ≡ variable_order o fs
    → HasTable (place_in fs) (length o.defs) definitions → HasTable (place_in vs) (length o.vars) variables
    → (vars : List Kind) (defs : List Def) (axioms : List Tree) (goal : Tree)
    → vars ≡ picked o.vars vs → defs ≡ map (def_renamed (new_number definitions) (new_number variables)) (picked o.defs fs)
    → axioms ≡ map (both_renamed (new_number definitions) (new_number variables)) o.axioms → goal ≡ both_renamed (new_number definitions) (new_number variables) o.goal
    → record { vars = vars; defs = defs; axioms = axioms; goal = goal } ≡ canonical o
parts_canonical o sorted fs vs definitions variables order named at_defs at_vars vars defs axioms goal vars_are defs_are axioms_are goal_is =
    numbers_all o sorted fs vs definitions variables (record { vars = vars; defs = defs; axioms = axioms; goal = goal }) order named at_defs at_vars
    (λ i. record { vars = vars_are i; defs = defs_are i; axioms = axioms_are i; goal = goal_is i })
