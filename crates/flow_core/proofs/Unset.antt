-- A term has a variable that is own and not set exactly where it mentions one.
use Rattle.std.proofs.Common.{◌≡◌, refl, ℕ, nat_le, Bool, true, false, ◌&&◌, ◌||◌, not, List, subst, eq-eqb}
use Rattle.std.proofs.lemmas.Bool.{or_left, or_right, eqb-true}
use Rattle.logic_core.specs.Tree.{Tree, num, truth, free, bound, linear, mul, read, write, choose, call, negation, all, some, equal, at_most, for_all, exists, Trees, no_trees, tree, Parts, no_parts, part, Patterns, no_patterns, pattern}
use Rattle.logic_core.specs.Same.{same_term}
use Rattle.logic_core.specs.Subterm.{has, has_any, has_part, has_pattern, occurs}
use Rattle.flow_core.specs.declared.command.Command.{Command}
use Rattle.flow_core.specs.Reading.{is_set, is_unset}

module _ (own : ℕ) (cs : List Command) where
  -- the variable is own and not set
  abbrev pub unset : ℕ → Bool
  unset v = nat_le own v && not (is_set cs v)

  -- the term has such a variable
  abbrev has_unset : Tree → Bool
  has_unset t = has (is_unset own cs) t

  abbrev mentions : Tree → ℕ → Bool
  mentions t v = occurs (free v) t

  -- one is mentioned, by this test
  abbrev pub Found : (ℕ → Bool) → Type 0
  Found m = (v : ℕ) × (unset v ≡ true) × (m v ≡ true)

  either : (x y : Bool) (l r : ℕ → Bool) → (x ≡ true → Found l) → (y ≡ true → Found r) → (x || y) ≡ true → Found (λ v. l v || r v)
  either true y l r f g h = let e = f refl in (e.0, e.1, or_left (l e.0) (r e.0) e.2)
  either false y l r f g h = let e = g h in (e.0, e.1, or_right (l e.0) (r e.0) e.2)

  mutual
    pub found : (t : Tree) → has_unset t ≡ true → Found (mentions t)
    found (num n) h = absurd (cc)
    found (truth b) h = absurd (cc)
    found (free v) h = (v, h, eq-eqb v v refl)
    found (bound v) h = absurd (cc)
    found (linear ps c) h = found_part ps h
    found (mul a b) h = either (has_unset a) (has_unset b) (mentions a) (mentions b) (found a) (found b) h
    found (read a b) h = either (has_unset a) (has_unset b) (mentions a) (mentions b) (found a) (found b) h
    found (write a b c) h = either (has_unset a) (has_unset b || has_unset c) (mentions a) (λ v. mentions b v || mentions c v) (found a) (either (has_unset b) (has_unset c) (mentions b) (mentions c) (found b) (found c)) h
    found (choose a b c) h = either (has_unset a) (has_unset b || has_unset c) (mentions a) (λ v. mentions b v || mentions c v) (found a) (either (has_unset b) (has_unset c) (mentions b) (mentions c) (found b) (found c)) h
    found (call f ts) h = found_any ts h
    found (negation a) h = found a h
    found (all ts) h = found_any ts h
    found (some ts) h = found_any ts h
    found (equal a b) h = either (has_unset a) (has_unset b) (mentions a) (mentions b) (found a) (found b) h
    found (at_most a b) h = either (has_unset a) (has_unset b) (mentions a) (mentions b) (found a) (found b) h
    found (for_all ss ps a) h = either (has_pattern (is_unset own cs) ps) (has_unset a) (λ v. has_pattern (same_term (free v)) ps) (mentions a) (found_pattern ps) (found a) h
    found (exists ss ps a) h = either (has_pattern (is_unset own cs) ps) (has_unset a) (λ v. has_pattern (same_term (free v)) ps) (mentions a) (found_pattern ps) (found a) h

    found_any : (ts : Trees) → has_any (is_unset own cs) ts ≡ true → Found (λ v. has_any (same_term (free v)) ts)
    found_any no_trees h = absurd (cc)
    found_any (tree t ts) h = either (has_unset t) (has_any (is_unset own cs) ts) (mentions t) (λ v. has_any (same_term (free v)) ts) (found t) (found_any ts) h

    found_part : (ps : Parts) → has_part (is_unset own cs) ps ≡ true → Found (λ v. has_part (same_term (free v)) ps)
    found_part no_parts h = absurd (cc)
    found_part (part k t ps) h = either (has_unset t) (has_part (is_unset own cs) ps) (mentions t) (λ v. has_part (same_term (free v)) ps) (found t) (found_part ps) h

    found_pattern : (ps : Patterns) → has_pattern (is_unset own cs) ps ≡ true → Found (λ v. has_pattern (same_term (free v)) ps)
    found_pattern no_patterns h = absurd (cc)
    found_pattern (pattern ts ps) h = either (has_any (is_unset own cs) ts) (has_pattern (is_unset own cs) ps) (λ v. has_any (same_term (free v)) ts) (λ v. has_pattern (same_term (free v)) ps) (found_any ts) (found_pattern ps) h

  both : (x y x' y' : Bool) → (x ≡ true → x' ≡ true) → (y ≡ true → y' ≡ true) → (x || y) ≡ true → (x' || y') ≡ true
  both true y x' y' f g h = or_left x' y' (f refl)
  both false y x' y' f g h = or_right x' y' (g h)

  module _ (v : ℕ) (is : unset v ≡ true) where
    mutual
      pub mentioned : (t : Tree) → mentions t v ≡ true → has_unset t ≡ true
      mentioned (num n) h = absurd (cc)
      mentioned (truth b) h = absurd (cc)
      mentioned (free w) h = let P : ℕ → Type 0 = λ n. unset n ≡ true in subst P (eqb-true v w h) is
      mentioned (bound w) h = absurd (cc)
      mentioned (linear ps c) h = mentioned_part ps h
      mentioned (mul a b) h = both (mentions a v) (mentions b v) (has_unset a) (has_unset b) (mentioned a) (mentioned b) h
      mentioned (read a b) h = both (mentions a v) (mentions b v) (has_unset a) (has_unset b) (mentioned a) (mentioned b) h
      mentioned (write a b c) h = both (mentions a v) (mentions b v || mentions c v) (has_unset a) (has_unset b || has_unset c) (mentioned a) (both (mentions b v) (mentions c v) (has_unset b) (has_unset c) (mentioned b) (mentioned c)) h
      mentioned (choose a b c) h = both (mentions a v) (mentions b v || mentions c v) (has_unset a) (has_unset b || has_unset c) (mentioned a) (both (mentions b v) (mentions c v) (has_unset b) (has_unset c) (mentioned b) (mentioned c)) h
      mentioned (call f ts) h = mentioned_any ts h
      mentioned (negation a) h = mentioned a h
      mentioned (all ts) h = mentioned_any ts h
      mentioned (some ts) h = mentioned_any ts h
      mentioned (equal a b) h = both (mentions a v) (mentions b v) (has_unset a) (has_unset b) (mentioned a) (mentioned b) h
      mentioned (at_most a b) h = both (mentions a v) (mentions b v) (has_unset a) (has_unset b) (mentioned a) (mentioned b) h
      mentioned (for_all ss ps a) h = both (has_pattern (same_term (free v)) ps) (mentions a v) (has_pattern (is_unset own cs) ps) (has_unset a) (mentioned_pattern ps) (mentioned a) h
      mentioned (exists ss ps a) h = both (has_pattern (same_term (free v)) ps) (mentions a v) (has_pattern (is_unset own cs) ps) (has_unset a) (mentioned_pattern ps) (mentioned a) h

      mentioned_any : (ts : Trees) → has_any (same_term (free v)) ts ≡ true → has_any (is_unset own cs) ts ≡ true
      mentioned_any no_trees h = absurd (cc)
      mentioned_any (tree t ts) h = both (mentions t v) (has_any (same_term (free v)) ts) (has_unset t) (has_any (is_unset own cs) ts) (mentioned t) (mentioned_any ts) h

      mentioned_part : (ps : Parts) → has_part (same_term (free v)) ps ≡ true → has_part (is_unset own cs) ps ≡ true
      mentioned_part no_parts h = absurd (cc)
      mentioned_part (part k t ps) h = both (mentions t v) (has_part (same_term (free v)) ps) (has_unset t) (has_part (is_unset own cs) ps) (mentioned t) (mentioned_part ps) h

      mentioned_pattern : (ps : Patterns) → has_pattern (same_term (free v)) ps ≡ true → has_pattern (is_unset own cs) ps ≡ true
      mentioned_pattern no_patterns h = absurd (cc)
      mentioned_pattern (pattern ts ps) h = both (has_any (same_term (free v)) ts) (has_pattern (same_term (free v)) ps) (has_any (is_unset own cs) ts) (has_pattern (is_unset own cs) ps) (mentioned_any ts) (mentioned_pattern ps) h
