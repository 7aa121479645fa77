-- Numbers found for variables stand for terms found for them.
use Rattle.std.proofs.Common.{◌≡◌, refl, sym, ap, subst, ◌∙◌, ℕ, zero, suc, ◌<◌, Bool, true, false, Option, Some, None, option_map, List, [], ◌∷◌, ◌++◌, map, reverse, length, slice_get, slice_set, get_or, arith}
use Rattle.std.specs.Bool.{⊤}
use Rattle.std.specs.List.{AllByRecursion}
use Rattle.std.proofs.lemmas.List.{map-append}
use mathlib.Core.List.{reverse-cons}
use Rattle.logic_core.specs.Tree.{Kind, Tree}
use Rattle.logic_core.specs.Def.{Def}
use Rattle.logic_core.specs.Same.{same_term}
use Rattle.logic_core.specs.Sorts.{is, sort_of}
use Rattle.logic_core.specs.Wide.{◌>>=◌, when}
use Rattle.logic_core.proofs.EachOf.{every_append}
use Rattle.term_bank.specs.Numbered.{at}
use Rattle.quantifier_triggers.specs.Match.{Found, each_found, tuple_of, taken, variable}
use Rattle.numbered_instances.specs.Finding.{found_at, each_number, IsSomeBelow, IsFoundBelow}

pub get_at : (ts : List Tree) (b : List (Option ℕ)) (v : ℕ) → slice_get (found_at ts b) v ≡ option_map (option_map (at ts)) (slice_get b v)
get_at ts [] v = refl
get_at ts (o ∷ b) zero = refl
get_at ts (o ∷ b) (suc v) = get_at ts b v

pub set_at : (ts : List Tree) (b : List (Option ℕ)) (v i : ℕ) → found_at ts (slice_set b v (Some i)) ≡ slice_set (found_at ts b) v (Some (at ts i))
set_at ts [] v i = refl
set_at ts (o ∷ b) zero i = refl
set_at ts (o ∷ b) (suc v) i = ap (λ c. option_map (at ts) o ∷ c) (set_at ts b v i)

pub below_get : (n : ℕ) (b : List (Option ℕ)) (v i : ℕ) → IsFoundBelow n b → slice_get b v ≡ Some (Some i) → i < n
below_get n [] v i h e = absurd (cc)
below_get n (o ∷ b) zero i h e = let same : o ≡ Some i = cc in subst (IsSomeBelow n) same h.0
below_get n (o ∷ b) (suc v) i h e = below_get n b v i h.1 e

pub below_set : (n : ℕ) (b : List (Option ℕ)) (v i : ℕ) → IsFoundBelow n b → i < n → IsFoundBelow n (slice_set b v (Some i))
below_set n [] v i h l = tt
below_set n (o ∷ b) zero i h l = (l, h.1)
below_set n (o ∷ b) (suc v) i h l = (h.0, below_set n b v i h.1 l)

pub got_within : (b : List (Option ℕ)) (v : ℕ) (o : Option ℕ) → slice_get b v ≡ Some o → v < length b
got_within [] v o e = absurd (cc)
got_within (p ∷ b) zero o e = omega arith
got_within (p ∷ b) (suc v) o e = omega (arith, got_within b v o e)

-- nothing is found
pub nothing_at : (ts : List Tree) (ks : List Kind) → found_at ts (map (λ (k : Kind). None) ks) ≡ map (λ (k : Kind). None) ks
nothing_at ts [] = refl
nothing_at ts (k ∷ ks) = ap (λ c. None ∷ c) (nothing_at ts ks)

pub nothing_below : (n : ℕ) (ks : List Kind) → IsFoundBelow n (map (λ (k : Kind). None) ks)
nothing_below n [] = tt
nothing_below n (k ∷ ks) = (tt, nothing_below n ks)

-- one variable
module _ (vars : List Kind) (defs : List Def) (kinds : List Kind) (ts : List Tree) (b : List (Option ℕ)) (v : ℕ) (t : Tree) where
  pub no_variable : slice_get b v ≡ None → variable vars defs kinds v t (found_at ts b) ≡ None
  no_variable e = ap (λ o. o >>= λ p. taken vars defs kinds v t (found_at ts b) p) (get_at ts b v ∙ ap (option_map (option_map (at ts))) e)

  pub same_variable : (i : ℕ) (same : Bool) → slice_get b v ≡ Some (Some i) → same ≡ same_term (at ts i) t → variable vars defs kinds v t (found_at ts b) ≡ when same (Some (found_at ts b))
  same_variable i same e h = ap (λ o. o >>= λ p. taken vars defs kinds v t (found_at ts b) p) (get_at ts b v ∙ ap (option_map (option_map (at ts))) e) ∙ ap (λ q. when q (Some (found_at ts b))) (sym h)

  pub free_variable : slice_get b v ≡ Some None → variable vars defs kinds v t (found_at ts b) ≡ taken vars defs kinds v t (found_at ts b) None
  free_variable e = ap (λ o. o >>= λ p. taken vars defs kinds v t (found_at ts b) p) (get_at ts b v ∙ ap (option_map (option_map (at ts))) e)

  -- a variable without a sort, of another sort, and one that is taken
  pub without_sort : slice_get kinds v ≡ None → taken vars defs kinds v t (found_at ts b) None ≡ None
  without_sort e = ap (λ o. o >>= λ k. when (is k (sort_of vars defs [] t)) (Some (slice_set (found_at ts b) v (Some t)))) e

  pub of_sort : (k : Kind) (has : Bool) → slice_get kinds v ≡ Some k → has ≡ is k (sort_of vars defs [] t) → taken vars defs kinds v t (found_at ts b) None ≡ when has (Some (slice_set (found_at ts b) v (Some t)))
  of_sort k has e h = ap (λ o. o >>= λ j. when (is j (sort_of vars defs [] t)) (Some (slice_set (found_at ts b) v (Some t)))) e ∙ ap (λ q. when q (Some (slice_set (found_at ts b) v (Some t)))) (sym h)

pub got_kind : (ks : List Kind) (v : ℕ) (k : Kind) → v < length ks → k ≡ get_or ks v k → slice_get ks v ≡ Some k
got_kind [] v k l e = absurd (omega (arith, l))
got_kind (j ∷ ks) zero k l e = ap Some (sym e)
got_kind (j ∷ ks) (suc v) k l e = got_kind ks v k (omega (arith, l)) e
