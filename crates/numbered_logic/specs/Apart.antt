-- Facts of which none is false and none is the normal Not of another, by number.
use Rattle.std.specs.Prelude.{◌≡◌, ℕ, ◌<◌, nat_eq, Bool, true, false, Option, Some, None, List, length}
use Rattle.std.specs.Bool.{⊤}
use Rattle.std.specs.List.{list_any}
use Rattle.logic_core.specs.Tree.{Tree}
use Rattle.logic_core.specs.Same.{is_some_and}
use Rattle.logic_core.specs.Junction.{negated, is_truth}
use Rattle.term_bank.specs.Numbered.{at}
use Rattle.numbered_facts.specs.Answers.{StandsFor}
use Rattle.numbered_branches.specs.Branches.{NumberedFact}
use Rattle.numbered_logic.specs.declared.apart.Apart.{Apart}

-- whether the number, if there is one, is among these
abbrev pub is_among : List ℕ → Option ℕ → Bool
is_among keys o = is_some_and o (λ n. list_any (nat_eq n) keys)

-- the same, as a fact
abbrev pub IsAmong : List ℕ → Option ℕ → Type 0
IsAmong keys None = ⊤
IsAmong keys (Some i) = list_any (nat_eq i) keys ≡ true

-- what is among the first numbers is among the second
abbrev pub AreStill : List ℕ → List ℕ → Type 0
AreStill is js = (j : ℕ) → list_any (nat_eq j) is ≡ true → list_any (nat_eq j) js ≡ true

-- the fact's number is among these
abbrev pub IsListed : List ℕ → NumberedFact → Type 0
IsListed keys f = list_any (nat_eq f.term) keys ≡ true

module _ (ts : List Tree) where
  -- a fact that isn't false and isn't among these normal Nots, among which its own is
  pub record IsApart (negations : List ℕ) (i : ℕ) : Type 0 where
    pub within : i < length ts
    pub truth : is_truth false (at ts i) ≡ false
    pub lacking : list_any (nat_eq i) negations ≡ false
    pub negation : (o : Option ℕ) × (StandsFor ts o (negated (at ts i)) × IsAmong negations o)

  abbrev pub AreApart : Apart → Type 0
  AreApart a = (i : ℕ) → list_any (nat_eq i) a.facts ≡ true → IsApart a.negations i
