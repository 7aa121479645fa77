-- The canonical obligation has canonical numbers: its own walk and its own text meet them in the order 0, 1 ..
use Rattle.std.specs.Prelude.{◌≡◌, refl, ℕ, zero, suc, ◌+◌, Bool, true, false, is_some, if◌then◌else◌, Option, Some, None, List, [], ◌∷◌, ◌++◌, map, length, fold, flat_map, slice_get}
use Rattle.std.specs.List.{AllByRecursion, cons_option}
use Rattle.std.proofs.Common.{ap, sym, arith, ◌∙◌}
use Rattle.std.proofs.lemmas.List.{map-append, length-append, length-map}
use Rattle.std.proofs.lemmas.List.Elements.{recursion_from_All}
use Rattle.logic_core.specs.Def.{Def, Obligation}
use Rattle.logic_core.specs.WellSorted.{IsWellSorted}
use Rattle.logic_core.specs.Renamed.{def_renamed}
use Rattle.logic_core.specs.Variables.{variables, calls, joined, place_in}
use Rattle.logic_core.proofs.FirstOccurrences.{joined_cases}
use Rattle.logic_laws.specs.RenamingLaws.{Covers}
use Rattle.obligation_text.specs.Numbering.{body, visited, definition_order, numbered_terms, variable_order, up_from, up_to, IsCanonical}
use Rattle.obligation_text.specs.Canonical.{picked, canonical, CanonicalIsCanonical}
use Rattle.obligation_text.proofs.Places.{is_among, In, one_place, stays_there, new_place}
use Rattle.obligation_text.proofs.Walk.{every_of}
use Rattle.obligation_text.proofs.CanonicalRenames.{fs, vs, definitions_there, variables_there, canonical_renames}
use Rattle.obligation_text.proofs.SameCanonical.{Renames, Alike, order_alike, variables_same}

-- one number more
up_from_more : (k n : ℕ) → up_from k (suc n) ≡ up_from k n ++ (k + n) ∷ []
up_from_more k zero = let e : k ≡ k + 0 = omega arith in λ i. e i ∷ []
up_from_more k (suc n) =
    let e : k + 1 + n ≡ k + suc n = omega arith in
    λ i. k ∷ (up_from_more (k + 1) n ∙ ap (λ m. up_from (k + 1) n ++ m ∷ []) e) i

-- the numbers stand at 0, 1 ..: each stands there once
abbrev StandInOrder : List ℕ → Type 0
StandInOrder os = map (place_in os) os ≡ up_to (length os)

same_places : (os ns : List ℕ) (v : ℕ) → AllByRecursion (In os) ns → map (place_in (os ++ v ∷ [])) ns ≡ map (place_in os) ns
same_places os [] v h = refl
same_places os (n ∷ ns) v h = λ i. stays_there os (v ∷ []) n h.0 i ∷ same_places os ns v h.1 i

order_more : (os : List ℕ) (v : ℕ) → StandInOrder os → is_among os v ≡ false → StandInOrder (os ++ v ∷ [])
order_more os v h anew =
    let count : suc (length os) ≡ length (os ++ v ∷ []) = omega (arith, length-append os (v ∷ [])) in
    let last : length os ≡ 0 + length os = omega arith in
    map-append (place_in (os ++ v ∷ [])) os (v ∷ [])
    ∙ (λ i. (same_places os os v (every_of (In os) os (λ n k. k)) ∙ h) i ++ (new_place os v anew ∙ last) i ∷ [])
    ∙ sym (up_from_more 0 (length os))
    ∙ ap up_to count

order_joined : (os : List ℕ) (v : ℕ) → StandInOrder os → StandInOrder (joined os v)
order_joined os v h = joined_cases os v StandInOrder (λ there. h) (λ anew. order_more os v h anew)

order_after : (step : List ℕ → ℕ → List ℕ) → ((os : List ℕ) (v : ℕ) → StandInOrder os → StandInOrder (step os v)) → (vs os : List ℕ) → StandInOrder os → StandInOrder (fold step os vs)
order_after step one [] os h = h
order_after step one (v ∷ vs) os h = order_after step one vs (step os v) (one os v h)

order_visited : (ds : List Def) (depth : ℕ) (os : List ℕ) (f : ℕ) → StandInOrder os → StandInOrder (visited ds depth os f)
order_visited ds zero os f h = order_joined os f h
order_visited ds (suc depth) os f h =
    let deeper = fold (visited ds depth) os (calls (body ds f)) in
    by_test (order_joined deeper f (order_after (visited ds depth) (λ ns g k. order_visited ds depth ns g k) (calls (body ds f)) os h)) (is_among os f)
  where
    by_test : StandInOrder (joined (fold (visited ds depth) os (calls (body ds f))) f) → (b : Bool) → StandInOrder (if b then os else joined (fold (visited ds depth) os (calls (body ds f))) f)
    by_test k true = h
    by_test k false = k

-- as many items are picked as there are numbers
count_picked : {A : Type 0} (items : List A) (ns : List ℕ) → AllByRecursion (λ n. is_some (slice_get items n) ≡ true) ns → length (picked items ns) ≡ length ns
count_picked items [] h = refl
count_picked {A} items (n ∷ ns) h = by_item (count_picked items ns h.1) (slice_get items n) h.0
  where
    by_item : length (picked items ns) ≡ length ns → (o : Option A) → is_some o ≡ true → length (cons_option o (picked items ns)) ≡ suc (length ns)
    by_item rest None t = let c : false ≡ true = t in absurd cc
    by_item rest (Some a) t = ap suc rest

module _ (o : Obligation) (sorted : IsWellSorted o) where
  abbrev order : List ℕ
  order = fs o sorted

  abbrev named : List ℕ
  named = vs o sorted

  renames_def : (f : ℕ) → In order f → Renames (place_in order) (place_in named) (In order) (In named) (one_place order) (one_place named) o.defs (canonical o).defs f
  renames_def f h = let d = (canonical_renames o sorted).defs f h in record { definition = d.definition; old = d.old; new = d.new; lower = d.calls_lower }

  walks_alike : Alike (place_in order) (place_in named) (In order) (In named) (one_place order) (one_place named) order (definition_order (canonical o))
  walks_alike =
      let r = canonical_renames o sorted in
      order_alike (place_in order) (place_in named) (In order) (In named) (one_place order) (one_place named) o (canonical o) r.vars renames_def
      (recursion_from_All (Covers (place_in order) (place_in named) (is_among order) (is_among named)) o.axioms r.axioms_covered) r.axioms r.goal_covered r.goal

  texts_alike : variable_order (canonical o) (map (place_in order) order) ≡ map (place_in named) named
  texts_alike =
      let r = canonical_renames o sorted in
      variables_same (place_in order) (place_in named) (In order) (In named) (one_place order) (one_place named) o (canonical o) r.vars renames_def
      (recursion_from_All (Covers (place_in order) (place_in named) (is_among order) (is_among named)) o.axioms r.axioms_covered) r.axioms r.goal_covered r.goal
      order walks_alike.each

  as_many_definitions : length order ≡ length (canonical o).defs
  as_many_definitions = sym (length-map (picked o.defs order) (def_renamed (place_in order) (place_in named)) ∙ count_picked o.defs order (definitions_there o sorted))

  as_many_variables : length named ≡ length (canonical o).vars
  as_many_variables = sym (count_picked o.vars named (variables_there o sorted))

  definitions_in_order : map (place_in order) order ≡ up_to (length (canonical o).defs)
  definitions_in_order = order_after (visited o.defs (length o.defs)) (order_visited o.defs (length o.defs)) (flat_map calls (o.goal ∷ o.axioms)) [] refl ∙ ap up_to as_many_definitions

  variables_in_order : map (place_in named) named ≡ up_to (length (canonical o).vars)
  variables_in_order = order_after joined order_joined (flat_map variables (numbered_terms o order)) [] refl ∙ ap up_to as_many_variables

  pub is_canonical : IsCanonical (canonical o)
  is_canonical = record {
    definitions = walks_alike.same ∙ definitions_in_order;
    variables = ap (variable_order (canonical o)) (sym definitions_in_order) ∙ texts_alike ∙ variables_in_order;
  }

pub canonical_is_canonical : CanonicalIsCanonical
canonical_is_canonical o sorted = is_canonical o sorted
