-- The walk to the definitions gives each its number after those that its body calls, and the variables' order holds each that occurs.
use Rattle.std.specs.Prelude.{◌≡◌, refl, ℕ, zero, suc, ◌-◌, ◌<◌, ◌≤◌, Bool, true, false, List, [], ◌∷◌, ◌++◌, length, fold, flat_map, if◌then◌else◌}
use Rattle.std.specs.List.{AllByRecursion}
use Rattle.std.proofs.Common.{arith, ap}
use mathlib.Core.Path.{subst, sym}
use mathlib.Core.Logic.{inl, inr}
use Rattle.logic_core.specs.Def.{Def}
use Rattle.logic_core.specs.Variables.{calls, joined, place_in}
use Rattle.logic_core.proofs.FirstOccurrences.{joined_cases}
use Rattle.logic_core.proofs.Mentioned.{all_left, all_right}
use Rattle.logic_core.proofs.EachOf.{every_append, every_map}
use Rattle.obligation_text.specs.Numbering.{body, visited}
use Rattle.obligation_text.proofs.Places.{is_among, In, in_left, in_right, in_itself, in_one, in_first, stays_there, stands_below, new_place}

pub every_of : (P : ℕ → Type 0) (xs : List ℕ) → ((v : ℕ) → In xs v → P v) → AllByRecursion P xs
every_of P [] h = tt
every_of P (x ∷ xs) h = (h x (in_itself x xs), every_of P xs (λ v there. h v (in_right (x ∷ []) xs v there)))

pub flat_to : {A B : Type 0} (P : B → Type 0) (f : A → List B) (xs : List A) → AllByRecursion P (flat_map f xs) → AllByRecursion (λ x. AllByRecursion P (f x)) xs
flat_to P f [] h = tt
flat_to P f (x ∷ xs) h = (all_left P (f x) (flat_map f xs) h, flat_to P f xs (all_right P (f x) (flat_map f xs) h))

pub flat_from : {A B : Type 0} (P : B → Type 0) (f : A → List B) (xs : List A) → AllByRecursion (λ x. AllByRecursion P (f x)) xs → AllByRecursion P (flat_map f xs)
flat_from P f [] h = tt
flat_from P f (x ∷ xs) h = every_append P (f x) (flat_map f xs) h.0 (flat_from P f xs h.1)

-- nothing else than what occurs is there
pub only_these : (P : ℕ → Type 0) (os vs : List ℕ) → AllByRecursion P os → AllByRecursion P vs → AllByRecursion P (fold joined os vs)
only_these P os [] h k = h
only_these P os (v ∷ vs) h k = only_these P (joined os v) vs (joined_cases os v (AllByRecursion P) (λ there. h) (λ anew. every_append P os (v ∷ []) h (k.0, tt))) k.1

module _ (ds : List Def) where
  -- each definition in the order is there, and what its body calls stands before it
  abbrev pub IsOrder : List ℕ → Type 0
  IsOrder order = (f : ℕ) → In order f → (f < length ds) × AllByRecursion (λ g. In order g × (place_in order g < place_in order f)) (calls (body ds f))

  pub record Walked (order next gs : List ℕ) : Type 0 where
    pub good : IsOrder next
    pub there : AllByRecursion (In next) gs
    pub kept : (v : ℕ) → In order v → In next v

  push : (order : List ℕ) (f : ℕ) → f < length ds → is_among order f ≡ false → IsOrder order → AllByRecursion (In order) (calls (body ds f)) → IsOrder (order ++ f ∷ [])
  push order f below anew good called g h = elim (in_one order (f ∷ []) g h) [
    | inl old ↦ let p = good g old in (
      p.0,
      every_map (λ x. In order x × (place_in order x < place_in order g)) (λ x. In (order ++ f ∷ []) x × (place_in (order ++ f ∷ []) x < place_in (order ++ f ∷ []) g))
          (λ x q. (in_left order (f ∷ []) x q.0, omega (q.1, stays_there order (f ∷ []) x q.0, stays_there order (f ∷ []) g old, arith))) (calls (body ds g)) p.1,
    )
    | inr last ↦ elim (in_first f [] g last) [
      | inl same ↦ subst (λ y. (y < length ds) × AllByRecursion (λ x. In (order ++ f ∷ []) x × (place_in (order ++ f ∷ []) x < place_in (order ++ f ∷ []) y)) (calls (body ds y))) (sym same) (
        below,
        every_map (In order) (λ x. In (order ++ f ∷ []) x × (place_in (order ++ f ∷ []) x < place_in (order ++ f ∷ []) f))
            (λ x q. (in_left order (f ∷ []) x q, omega (stays_there order (f ∷ []) x q, new_place order f anew, stands_below order x q, arith))) (calls (body ds f)) called,
      )
      | inr none ↦ let c : false ≡ true = none in absurd cc
    ]
  ]

  join : (order : List ℕ) (f : ℕ) → f < length ds → IsOrder order → AllByRecursion (In order) (calls (body ds f)) → Walked order (joined order f) (f ∷ [])
  join order f below good called = joined_cases order f (λ next. Walked order next (f ∷ []))
      (λ there. record { good = good; there = (there, tt); kept = λ v h. h })
      (λ anew. record { good = push order f below anew good called; there = (in_right order (f ∷ []) f (in_itself f []), tt); kept = λ v h. in_left order (f ∷ []) v h })

  steps : (step : List ℕ → ℕ → List ℕ) (P : ℕ → Type 0) → ((order : List ℕ) (g : ℕ) → P g → IsOrder order → Walked order (step order g) (g ∷ []))
      → (gs : List ℕ) (order : List ℕ) → AllByRecursion P gs → IsOrder order → Walked order (fold step order gs) gs
  steps step P one [] order h good = record { good = good; there = tt; kept = λ v k. k }
  steps step P one (g ∷ gs) order h good =
      let a = one order g h.0 good in
      let b = steps step P one gs (step order g) h.1 a.good in
      record { good = b.good; there = (b.kept g a.there.0, b.there); kept = λ v k. b.kept v (a.kept v k) }

  module _ (lower : (f : ℕ) → f < length ds → AllByRecursion (λ g. g < f) (calls (body ds f))) where
    pub visit : (depth : ℕ) (order : List ℕ) (f : ℕ) → f ≤ depth → f < length ds → IsOrder order → Walked order (visited ds depth order f) (f ∷ [])
    visit zero order f low below good = join order f below good (every_map (λ g. g < f) (In order) (λ g h. absurd (omega (h, low, arith))) (calls (body ds f)) (lower f below))
    visit (suc depth) order f low below good =
        let deeper = fold (visited ds depth) order (calls (body ds f)) in
        let s = steps (visited ds depth) (λ g. (g ≤ depth) × (g < length ds)) (λ order' g h good'. visit depth order' g h.0 h.1 good') (calls (body ds f)) order
        (every_map (λ g. g < f) (λ g. (g ≤ depth) × (g < length ds)) (λ g h. (omega (h, low, arith), omega (h, below, arith))) (calls (body ds f)) (lower f below)) good in
        let j = join deeper f below s.good s.there in
        by_test (record { good = j.good; there = j.there; kept = λ v h. j.kept v (s.kept v h) }) (is_among order f) refl
      where
        by_test : Walked order (joined (fold (visited ds depth) order (calls (body ds f))) f) (f ∷ []) → (b : Bool) → is_among order f ≡ b
            → Walked order (if b then order else joined (fold (visited ds depth) order (calls (body ds f))) f) (f ∷ [])
        by_test w true e = record { good = good; there = (e, tt); kept = λ v h. h }
        by_test w false e = w

    -- the walk from these numbers
    pub walk : (gs : List ℕ) → AllByRecursion (λ g. g < length ds) gs → Walked [] (fold (visited ds (length ds)) [] gs) gs
    walk gs h = steps (visited ds (length ds)) (λ g. g < length ds) (λ order g below good. visit (length ds) order g (omega (below, arith)) below good) gs [] h (λ f none. let c : false ≡ true = none in absurd cc)

-- a step of the walk
pub visited_step : (ds : List Def) (depth : ℕ) (order : List ℕ) (f : ℕ) → (depth ≡ 0 → ⊥)
    → visited ds depth order f ≡ (if is_among order f then order else joined (fold (visited ds (depth - 1)) order (calls (body ds f))) f)
visited_step ds zero order f h = absurd (h refl)
visited_step ds (suc depth) order f h =
    let e : depth ≡ suc depth - 1 = omega arith in
    ap (λ k. if is_among order f then order else joined (fold (visited ds k) order (calls (body ds f))) f) e
