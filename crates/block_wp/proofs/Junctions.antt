-- An Or of negations and a last formula fails where the negated formulas hold and the last fails; an And fails where one of its formulas fails.
use Rattle.std.specs.Prelude.{◌≡◌, refl, ◌⊎◌, ℕ, Bool, true, false, ◌&&◌, ◌||◌, not, IsTrue, List, [], ◌∷◌, ◌++◌, map}
use Rattle.std.specs.List.{AllByRecursion}
use Rattle.logic_core.proofs.Booleans.{both_true}
use mathlib.Core.Path.{subst}
use mathlib.Core.Logic.{inl, inr}
use Rattle.logic_core.specs.Tree.{Tree, Trees, tree}
use Rattle.logic_core.specs.View.{trees_of}
use Rattle.logic_core.specs.Value.{Value, holds}
use Rattle.logic_core.specs.Meaning.{Said, WithEvery, WithAny, Holds}
use Rattle.logic_core.proofs.Values.{HasOne, has_value, has_every}
use Rattle.block_wp.specs.Equations.{conjunction, negations, block_equation}

-- the number is among them
abbrev pub In : ℕ → List ℕ → Type 0
In x [] = ⊥
In x (y ∷ ys) = (y ≡ x) ⊎ In x ys

no_or : (b : Bool) → (b || false) ≡ true → b ≡ true
no_or true h = refl
no_or false h = h

not_or : (a b : Bool) → (not a || b) ≡ true → a ≡ true → b ≡ true
not_or true b h e = h
not_or false b h e = let c : false ≡ true = e in absurd cc

module _ (frees : List Value) (calls : ℕ → List Value → Said → Type 0) (has_call : (f : ℕ) (vs : List Value) → HasOne (calls f vs)) where
  abbrev HoldsHere : Tree → Type 0
  HoldsHere t = Holds frees calls t []

  or_fails : (As : List Tree) (N : Tree) → AllByRecursion HoldsHere As → ¬ HoldsHere N → ¬ WithAny frees calls (trees_of (negations As ++ N ∷ [])) [] (λ h. IsTrue h)
  or_fails [] N held fails h = has_value frees calls has_call N [] (λ v vi. fails ((vi (λ u. IsTrue (holds u))).1 (no_or (holds v) ((vi (λ u. IsTrue (holds u || false))).0 h))))
  or_fails (A ∷ As) N held fails h = has_value frees calls has_call A [] (λ v vi.
      let yes : holds v ≡ true = (vi (λ u. IsTrue (holds u))).0 held.0 in
      let rest : WithAny frees calls (trees_of (negations As ++ N ∷ [])) [] (λ b. IsTrue (not (holds v) || b)) = (vi (λ u. WithAny frees calls (trees_of (negations As ++ N ∷ [])) [] (λ b. IsTrue (not (holds u) || b)))).0 h in
      or_fails As N held.1 fails (subst (λ a. WithAny frees calls (trees_of (negations As ++ N ∷ [])) [] (λ b. IsTrue (not a || b))) yes rest))

  pub equation_fails : (As : List Tree) (N : Tree) → AllByRecursion HoldsHere As → ¬ HoldsHere N → ¬ HoldsHere (block_equation As N)
  equation_fails As N held fails h = or_fails As N held fails h

  -- both hold, as far as a contradiction is to be shown
  first_and_rest : (t : Tree) (ts : Trees) → WithEvery frees calls (tree t ts) [] (λ h. IsTrue h) → (HoldsHere t → WithEvery frees calls ts [] (λ h. IsTrue h) → ⊥) → ⊥
  first_and_rest t ts h k = has_value frees calls has_call t [] (λ v vi. has_every frees calls has_call ts [] (λ b bi.
      let p = both_true (holds v) b ((bi (λ c. IsTrue (holds v && c))).0 ((vi (λ u. WithEvery frees calls ts [] (λ c. IsTrue (holds u && c)))).0 h)) in
      k ((vi (λ u. IsTrue (holds u))).1 p.0) ((bi (λ c. IsTrue c)).1 p.1)))

  module _ (f : ℕ → Tree) (c : ℕ) (wrong : ¬ HoldsHere (f c)) where
    fails_at : (x : ℕ) → x ≡ c → ¬ HoldsHere (f x)
    fails_at x e h = wrong (subst (λ y. HoldsHere (f y)) e h)

    and_fails : (xs : List ℕ) → In c xs → ¬ WithEvery frees calls (trees_of (map f xs)) [] (λ h. IsTrue h)
    and_fails [] there h = there
    and_fails (x ∷ xs) (inl e) h = first_and_rest (f x) (trees_of (map f xs)) h (λ p q. fails_at x e p)
    and_fails (x ∷ xs) (inr there) h = first_and_rest (f x) (trees_of (map f xs)) h (λ p q. and_fails xs there q)

    pub conjunction_fails : (xs : List ℕ) → In c xs → ¬ HoldsHere (conjunction (map f xs))
    conjunction_fails [] there h = there
    conjunction_fails (x ∷ []) (inl e) h = fails_at x e h
    conjunction_fails (x ∷ []) (inr there) h = there
    conjunction_fails (x ∷ y ∷ xs) there h = and_fails (x ∷ y ∷ xs) there h
