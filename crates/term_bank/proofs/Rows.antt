-- The terms in a term as its triggers and its direct parts, and what numbering them leaves.
use Rattle.std.proofs.Common.{◌≡◌, refl, sym, ap, subst, ◌∙◌, ℕ, ◌+◌, ◌<◌, ◌≤◌, List, [], ◌∷◌, length, arith}
use Rattle.logic_core.specs.Tree.{Tree, num, truth, free, bound, linear, mul, read, write, choose, call, negation, all, some, equal, at_most, for_all, exists, Trees, no_trees, tree, Parts, no_parts, part, Patterns, no_patterns, pattern}
use Rattle.logic_core.specs.View.{trees_of, patterns_of}
use Rattle.logic_core.specs.Subterm.{listed}
use Rattle.term_bank.specs.Tabled.{Tabled}
use Rattle.term_bank.specs.Numbered.{at, with_term, with_inner, with_whole, with_each, with_atoms, with_patterns, Begins}
use Rattle.term_bank.specs.Standing.{atoms, lists, direct, triggers}
use Rattle.term_bank.proofs.Numbers.{begins_equal, begins_then, begins_term, begins_each, begins_patterns, begins_whole, begins_at, begins_length}

pub trees_listed : (us : Trees) → trees_of (listed us) ≡ us
trees_listed no_trees = refl
trees_listed (tree u us) = λ i. tree u (trees_listed us i)

patterns_listed : (ps : Patterns) → patterns_of (lists ps) ≡ ps
patterns_listed no_patterns = refl
patterns_listed (pattern us ps) = λ i. pattern (trees_listed us i) (patterns_listed ps i)

each_atom : (ts : List Tree) (ps : Parts) → with_atoms ts ps ≡ with_each ts (trees_of (atoms ps))
each_atom ts no_parts = refl
each_atom ts (part k u ps) = each_atom (with_whole ts u) ps

pub inner_by_rows : (ts : List Tree) (t : Tree) → with_inner ts t ≡ with_each (with_patterns ts (patterns_of (triggers t))) (trees_of (direct t))
inner_by_rows ts (num n) = refl
inner_by_rows ts (truth b) = refl
inner_by_rows ts (free v) = refl
inner_by_rows ts (bound v) = refl
inner_by_rows ts (linear ps c) = each_atom ts ps
inner_by_rows ts (mul a b) = refl
inner_by_rows ts (read a b) = refl
inner_by_rows ts (write a b c) = refl
inner_by_rows ts (choose a b c) = refl
inner_by_rows ts (call f us) = ap (with_each ts) (sym (trees_listed us))
inner_by_rows ts (negation a) = refl
inner_by_rows ts (all us) = ap (with_each ts) (sym (trees_listed us))
inner_by_rows ts (some us) = ap (with_each ts) (sym (trees_listed us))
inner_by_rows ts (equal a b) = refl
inner_by_rows ts (at_most a b) = refl
inner_by_rows ts (for_all ss ps a) = ap (λ qs. with_whole (with_patterns ts qs) a) (sym (patterns_listed ps))
inner_by_rows ts (exists ss ps a) = ap (λ qs. with_whole (with_patterns ts qs) a) (sym (patterns_listed ps))

-- a front of what the triggers give, or the triggers and the parts, is one of what the term gives
pub after_parts : (ts us vs : List Tree) (t : Tree) → vs ≡ with_patterns ts (patterns_of (triggers t)) → Begins us (with_each vs (trees_of (direct t))) → Begins us (with_whole ts t)
after_parts ts us vs t e h = begins_then us (with_inner ts t) (with_whole ts t)
    (subst (Begins us) (ap (λ xs. with_each xs (trees_of (direct t))) e ∙ sym (inner_by_rows ts t)) h) (begins_term (with_inner ts t) t)

pub after_lists : (ts us : List Tree) (t : Tree) → Begins us (with_patterns ts (patterns_of (triggers t))) → Begins us (with_whole ts t)
after_lists ts us t h = after_parts ts us (with_patterns ts (patterns_of (triggers t))) t refl
    (begins_then us (with_patterns ts (patterns_of (triggers t))) _ h (begins_each (with_patterns ts (patterns_of (triggers t))) (trees_of (direct t))))

-- the terms after the triggers and then the parts
module _ (old one two : Tabled) (t : Tree) (e : one.terms ≡ with_patterns old.terms (patterns_of (triggers t))) (f : two.terms ≡ with_each one.terms (trees_of (direct t))) where
  pub inner_done : two.terms ≡ with_inner old.terms t
  inner_done = f ∙ ap (λ xs. with_each xs (trees_of (direct t))) e ∙ sym (inner_by_rows old.terms t)

  pub kept_lists : Begins old.terms one.terms
  kept_lists = subst (Begins old.terms) (sym e) (begins_patterns old.terms (patterns_of (triggers t)))

  pub kept_parts : Begins one.terms two.terms
  kept_parts = subst (Begins one.terms) (sym f) (begins_each one.terms (trees_of (direct t)))

  pub kept_both : Begins old.terms two.terms
  kept_both = begins_then old.terms one.terms two.terms kept_lists kept_parts

  pub front_of_whole : Begins two.terms (with_whole old.terms t)
  front_of_whole = after_parts old.terms two.terms one.terms t e (begins_equal two.terms _ (sym f))

-- a term stands where it stood
pub still_within : (ss rr : List Tree) (p : ℕ) → Begins ss rr → p < length ss → p < length rr
still_within ss rr p b l = omega (arith, begins_length ss rr b, l)

pub still_stands : (ss rr : List Tree) (p : ℕ) (t : Tree) → Begins ss rr → p < length ss → at ss p ≡ t → at rr p ≡ t
still_stands ss rr p t b l e = begins_at ss rr p b l ∙ e
