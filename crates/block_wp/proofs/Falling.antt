-- Numbers that fall, and the place of one of them: those above it stand before it.
use Rattle.std.specs.Prelude.{◌≡◌, refl, ℕ, zero, suc, ◌+◌, ◌<◌, ◌≤◌, nat_eq, Bool, true, false, not, cond, List, [], ◌∷◌, ◌++◌, length, Some, None, unwrap_or, position}
use Rattle.std.specs.List.{AllByRecursion, position_or_len}
use Rattle.std.proofs.Common.{arith, ap, ◌∙◌}
use Rattle.std.proofs.lemmas.Bool.{eqb-true, eqb-false, lt-ltb}
use mathlib.Core.Path.{sym}
use mathlib.Core.Logic.{inl, inr}
use Rattle.passive_form.specs.declared.passive.Passive.{Passive}
use Rattle.block_wp.specs.Numbers.{Falling}
use Rattle.block_wp.specs.Equations.{reaching_from, reaching}
use Rattle.block_wp.proofs.Junctions.{In}
use Rattle.block_wp.proofs.Reaching.{in_one, joins, joins_cases, joined_below}

abbrev pub From : ℕ → List ℕ → Type 0
From n xs = AllByRecursion (λ y. n ≤ y) xs

pub from_less : (n : ℕ) (xs : List ℕ) → From (suc n) xs → From n xs
from_less n [] h = tt
from_less n (x ∷ xs) h = (omega (h.0, arith), from_less n xs h.1)

pub from_push : (n : ℕ) (xs : List ℕ) → From (suc n) xs → From n (xs ++ n ∷ [])
from_push n [] h = (omega arith, tt)
from_push n (x ∷ xs) h = (omega (h.0, arith), from_push n xs h.1)

below_push : (n x : ℕ) (xs : List ℕ) → n < x → AllByRecursion (λ y. y < x) xs → AllByRecursion (λ y. y < x) (xs ++ n ∷ [])
below_push n x [] below h = (below, tt)
below_push n x (y ∷ xs) below h = (h.0, below_push n x xs below h.1)

pub falling_push : (n : ℕ) (xs : List ℕ) → From (suc n) xs → Falling xs → Falling (xs ++ n ∷ [])
falling_push n [] h f = (tt, tt)
falling_push n (x ∷ xs) h f = (below_push n x xs (omega (h.0, arith)) f.0, falling_push n xs h.1 f.1)

falling_from : (g : Passive) (n : ℕ) (xs : List ℕ) → From n xs → Falling xs → Falling (reaching_from g n xs)
falling_from g zero xs h f = f
falling_from g (suc n) xs h f =
    let both = joins_cases g n xs (λ ys. From n ys × Falling ys) (λ e. (from_push n xs h, falling_push n xs h f)) (from_less n xs h, f) in
    falling_from g n (joins g n xs) both.0 both.1

pub reaching_falls : (g : Passive) (k : ℕ) → Falling (reaching g k)
reaching_falls g k = falling_from g k (k ∷ []) (omega arith, tt) (tt, tt)

pub reaching_below : (g : Passive) (k x : ℕ) → In x (reaching g k) → x ≤ k
reaching_below g k x h = elim (joined_below g k (k ∷ []) x h) [
  | inl there ↦ elim there [ inl e ↦ omega (e, arith) | inr none ↦ absurd none ]
  | inr below ↦ omega (below, arith)
]

-- where a number stands first
pub record Split (b : ℕ) (xs : List ℕ) : Type 0 where
  pub front : List ℕ
  pub rest : List ℕ
  pub joined : xs ≡ front ++ b ∷ rest
  pub place : position_or_len (nat_eq b) xs ≡ length front

pub split : (b : ℕ) (xs : List ℕ) → In b xs → Split b xs
split b [] h = absurd h
split b (x ∷ xs) h = at_first (nat_eq b x) refl h (split b xs)
  where
    at_first : (t : Bool) → nat_eq b x ≡ t → In b (x ∷ xs) → (In b xs → Split b xs) → Split b (x ∷ xs)
    at_first true e h f = record {
      front = [];
      rest = xs;
      joined = ap (λ y. y ∷ xs) (sym (eqb-true b x e));
      place = ap (λ t. cond (not t) (1 + position_or_len (nat_eq b) xs) 0) e;
    }
    at_first false e (inl same) f = absurd (eqb-false b x e (sym same))
    at_first false e (inr there) f = let s = f there in record {
      front = x ∷ s.front;
      rest = s.rest;
      joined = ap (λ ys. x ∷ ys) s.joined;
      place = ap (λ t. cond (not t) (1 + position_or_len (nat_eq b) xs) 0) e ∙ (let q : 1 + position_or_len (nat_eq b) xs ≡ suc (length s.front) = omega (s.place, arith) in q);
    }

-- a number of the front stands before the rest
pub in_front : (c : ℕ) (front rest : List ℕ) → In c front → position_or_len (nat_eq c) (front ++ rest) < length front
in_front c [] rest h = absurd h
in_front c (x ∷ front) rest h = at_first (nat_eq c x) refl h (in_front c front rest)
  where
    at_first : (t : Bool) → nat_eq c x ≡ t → In c (x ∷ front) → (In c front → position_or_len (nat_eq c) (front ++ rest) < length front) → cond (not t) (1 + position_or_len (nat_eq c) (front ++ rest)) 0 < suc (length front)
    at_first true e h f = omega arith
    at_first false e (inl same) f = absurd (eqb-false c x e (sym same))
    at_first false e (inr there) f = let below = f there in omega (below, arith)

pub place_of : (b : ℕ) (xs : List ℕ) → position_or_len (nat_eq b) xs < length xs → unwrap_or (position (nat_eq b) xs) 0 ≡ position_or_len (nat_eq b) xs
place_of b xs h = ap (λ t. unwrap_or (cond t (Some (position_or_len (nat_eq b) xs)) None) 0) (lt-ltb (position_or_len (nat_eq b) xs) (length xs) h)

-- what falls behind a number is below it, so a number above it that is there stands before it
behind : (b : ℕ) (front rest : List ℕ) → Falling (front ++ b ∷ rest) → AllByRecursion (λ y. y < b) rest
behind b [] rest f = f.0
behind b (x ∷ front) rest f = behind b front rest f.1

below_in : (b c : ℕ) (xs : List ℕ) → AllByRecursion (λ y. y < b) xs → In c xs → c < b
below_in b c [] h there = absurd there
below_in b c (x ∷ xs) h (inl e) = omega (h.0, e, arith)
below_in b c (x ∷ xs) h (inr there) = below_in b c xs h.1 there

pub before_it : (b c : ℕ) (front rest : List ℕ) → Falling (front ++ b ∷ rest) → b < c → In c (front ++ b ∷ rest) → In c front
before_it b c front rest f above there = elim (in_one c front (b ∷ rest) there) [
  | inl here ↦ here
  | inr (inl e) ↦ absurd (omega (e, above, arith))
  | inr (inr later) ↦ let lower : c < b = below_in b c rest (behind b front rest f) later in absurd (omega (lower, above, arith))
]
