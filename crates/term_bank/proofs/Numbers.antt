-- Numbers of terms: the first is the only one, and it stays as terms join the end.
use Rattle.std.proofs.Common.{◌≡◌, refl, sym, ap, subst, ◌∙◌, ℕ, zero, suc, ◌+◌, ◌<◌, ◌≤◌, Bool, true, false, cond, List, [], ◌∷◌, ◌++◌, map, length, take, get_or, Option, Some, None, option_map, is_some, slice_get, arith}
use Rattle.std.proofs.lemmas.List.{append-nil, append_assoc, length-append, length_push, get_or_append_left, get_or_push, take_at}
use Rattle.logic_core.specs.Tree.{Tree, num, truth, free, bound, linear, mul, read, write, choose, call, negation, all, some, equal, at_most, for_all, exists, Trees, no_trees, tree, Parts, no_parts, part, Patterns, no_patterns, pattern}
use Rattle.logic_core.specs.Same.{same_term}
use Rattle.logic_core.proofs.SameTerm.{same_is_equal, same_as_itself}
use Rattle.term_bank.specs.Standing.{direct}
use Rattle.term_bank.specs.Numbered.{at, number_of, with_term, with_inner, with_each, with_atoms, with_patterns, with_whole, interned, Begins, IsNumber}

-- the term of a term's number is that term
pub number_is : (ts : List Tree) (t : Tree) (i : ℕ) → number_of ts t ≡ Some i → (i < length ts) × (at ts i ≡ t)
number_is [] t i h = absurd (cc)
number_is (u ∷ ts) t i h = by (same_term t u) refl (number_of ts t) (number_is ts t) h
  where
    by : (b : Bool) → same_term t u ≡ b → (o : Option ℕ) → ((j : ℕ) → o ≡ Some j → (j < length ts) × (at ts j ≡ t)) → cond b (Some 0) (option_map suc o) ≡ Some i → (i < length (u ∷ ts)) × (at (u ∷ ts) i ≡ t)
    by true e o r g = let one : i ≡ 0 = cc in rw one (omega arith, sym (same_is_equal t u e))
    by false e (Some j) r g = let one : i ≡ suc j = cc in let n = r j refl in rw one (omega (arith, n.0), n.1)
    by false e None r g = absurd (cc)

-- a term that stands nowhere has no number
pub none_from : (ts : List Tree) (t : Tree) → ((j : ℕ) → j < length ts → at ts j ≡ t → ⊥) → number_of ts t ≡ None
none_from ts t none = by (number_of ts t) refl
  where
    by : (o : Option ℕ) → number_of ts t ≡ o → o ≡ None
    by None e = refl
    by (Some i) e = let n = number_is ts t i e in absurd (none i n.0 n.1)

pub number_front : (ts us : List Tree) (t : Tree) (i : ℕ) → number_of ts t ≡ Some i → number_of (ts ++ us) t ≡ Some i
number_front [] us t i h = absurd (cc)
number_front (u ∷ ts) us t i h = by (same_term t u) (number_of ts t) (number_front ts us t) h
  where
    by : (b : Bool) (o : Option ℕ) → ((j : ℕ) → o ≡ Some j → number_of (ts ++ us) t ≡ Some j) → cond b (Some 0) (option_map suc o) ≡ Some i → cond b (Some 0) (option_map suc (number_of (ts ++ us) t)) ≡ Some i
    by true o r g = g
    by false (Some j) r g = ap (option_map suc) (r j refl) ∙ g
    by false None r g = absurd (cc)

-- and among the terms up to it
pub number_take : (ts : List Tree) (n : ℕ) (t : Tree) (i : ℕ) → number_of ts t ≡ Some i → i < n → number_of (take n ts) t ≡ Some i
number_take [] n t i h l = absurd (cc)
number_take (u ∷ ts) zero t i h l = absurd (omega (arith, l))
number_take (u ∷ ts) (suc n) t i h l = by (same_term t u) (number_of ts t) (number_take ts n t) h
  where
    by : (b : Bool) (o : Option ℕ) → ((j : ℕ) → o ≡ Some j → j < n → number_of (take n ts) t ≡ Some j) → cond b (Some 0) (option_map suc o) ≡ Some i → cond b (Some 0) (option_map suc (number_of (take n ts) t)) ≡ Some i
    by true o r g = g
    by false (Some j) r g = let one : i ≡ suc j = cc in ap (option_map suc) (r j refl (omega (arith, one, l))) ∙ g
    by false None r g = absurd (cc)

-- a new term has the next number
pub number_push : (ts : List Tree) (t : Tree) → number_of ts t ≡ None → number_of (ts ++ t ∷ []) t ≡ Some (length ts)
number_push [] t h = ap (λ b. cond b (Some 0) None) (same_as_itself t)
number_push (u ∷ ts) t h = by (same_term t u) (number_of ts t) (number_push ts t) h
  where
    by : (b : Bool) (o : Option ℕ) → (o ≡ None → number_of (ts ++ t ∷ []) t ≡ Some (length ts)) → cond b (Some 0) (option_map suc o) ≡ None → cond b (Some 0) (option_map suc (number_of (ts ++ t ∷ []) t)) ≡ Some (suc (length ts))
    by true o r g = absurd (cc)
    by false None r g = ap (option_map suc) (r refl)
    by false (Some j) r g = absurd (cc)

-- fronts
pub begins_same : (ts : List Tree) → Begins ts ts
begins_same ts = ([], sym (append-nil ts))

pub begins_equal : (ts us : List Tree) → us ≡ ts → Begins ts us
begins_equal ts us e = ([], e ∙ sym (append-nil ts))

pub begins_then : (ts us vs : List Tree) → Begins ts us → Begins us vs → Begins ts vs
begins_then ts us vs h g = (h.0 ++ g.0, g.1 ∙ ap (λ xs. xs ++ g.0) h.1 ∙ append_assoc ts h.0 g.0)

-- as many of the terms as there were are those that were there
pub begins_back : (ts us vs : List Tree) (n : ℕ) → Begins ts us → n ≡ length ts → vs ≡ take n us → vs ≡ ts
begins_back ts us vs n h e q = q ∙ ap (take n) h.1 ∙ take_at ts h.0 n (sym e)

pub begins_length : (ts us : List Tree) → Begins ts us → length ts ≤ length us
begins_length ts us h = omega (arith, ap length h.1, length-append ts h.0)

pub begins_at : (ts us : List Tree) (i : ℕ) → Begins ts us → i < length ts → at us i ≡ at ts i
begins_at ts us i h l = ap (λ xs. at xs i) h.1 ∙ get_or_append_left ts h.0 (truth true) i l

pub number_kept : (ts us : List Tree) (i : ℕ) (t : Tree) → Begins ts us → IsNumber ts i t → IsNumber us i t
number_kept ts us i t h n = ap (λ xs. number_of xs t) h.1 ∙ number_front ts h.0 t i n

-- a term that is there leaves the list
pub with_there : (ts : List Tree) (t : Tree) (i : ℕ) → IsNumber ts i t → with_term ts t ≡ ts
with_there ts t i h = ap (λ o. cond (is_some o) ts (ts ++ t ∷ [])) h

pub with_new : (ts : List Tree) (t : Tree) → number_of ts t ≡ None → with_term ts t ≡ ts ++ t ∷ []
with_new ts t h = ap (λ o. cond (is_some o) ts (ts ++ t ∷ [])) h

pub interned_there : (ts : List Tree) (t : Tree) (i : ℕ) → IsNumber ts i t → interned ts t ≡ ts
interned_there ts t i h = ap (λ o. cond (is_some o) ts (with_whole ts t)) h

pub interned_new : (ts : List Tree) (t : Tree) → number_of ts t ≡ None → interned ts t ≡ with_whole ts t
interned_new ts t h = ap (λ o. cond (is_some o) ts (with_whole ts t)) h

pub begins_term : (ts : List Tree) (t : Tree) → Begins ts (with_term ts t)
begins_term ts t = by (is_some (number_of ts t))
  where
    by : (b : Bool) → Begins ts (cond b ts (ts ++ t ∷ []))
    by true = begins_same ts
    by false = (t ∷ [], refl)

one_more : (ts us : List Tree) (t : Tree) → Begins ts us → Begins ts (with_term us t)
one_more ts us t h = begins_then ts us (with_term us t) h (begins_term us t)

joined_two : (ts : List Tree) (a b : Tree) → Begins ts (with_inner ts a) → Begins (with_whole ts a) (with_inner (with_whole ts a) b) → Begins ts (with_whole (with_whole ts a) b)
joined_two ts a b h g = begins_then ts (with_whole ts a) (with_whole (with_whole ts a) b) (one_more ts (with_inner ts a) a h) (one_more (with_whole ts a) (with_inner (with_whole ts a) b) b g)

joined_three : (ts us : List Tree) (c : Tree) → Begins ts us → Begins us (with_inner us c) → Begins ts (with_whole us c)
joined_three ts us c h g = begins_then ts us (with_whole us c) h (one_more us (with_inner us c) c g)

mutual
  pub begins_inner : (ts : List Tree) (t : Tree) → Begins ts (with_inner ts t)
  begins_inner ts (num n) = begins_same ts
  begins_inner ts (truth b) = begins_same ts
  begins_inner ts (free v) = begins_same ts
  begins_inner ts (bound v) = begins_same ts
  begins_inner ts (linear ps c) = begins_atoms ts ps
  begins_inner ts (mul a b) = joined_two ts a b (begins_inner ts a) (begins_inner (with_whole ts a) b)
  begins_inner ts (read a b) = joined_two ts a b (begins_inner ts a) (begins_inner (with_whole ts a) b)
  begins_inner ts (write a b c) = joined_three ts (with_whole (with_whole ts a) b) c (joined_two ts a b (begins_inner ts a) (begins_inner (with_whole ts a) b)) (begins_inner (with_whole (with_whole ts a) b) c)
  begins_inner ts (choose a b c) = joined_three ts (with_whole (with_whole ts a) b) c (joined_two ts a b (begins_inner ts a) (begins_inner (with_whole ts a) b)) (begins_inner (with_whole (with_whole ts a) b) c)
  begins_inner ts (call f us) = begins_each ts us
  begins_inner ts (negation a) = one_more ts _ a (begins_inner ts a)
  begins_inner ts (all us) = begins_each ts us
  begins_inner ts (some us) = begins_each ts us
  begins_inner ts (equal a b) = joined_two ts a b (begins_inner ts a) (begins_inner (with_whole ts a) b)
  begins_inner ts (at_most a b) = joined_two ts a b (begins_inner ts a) (begins_inner (with_whole ts a) b)
  begins_inner ts (for_all ss ps a) = begins_then ts (with_patterns ts ps) _ (begins_patterns ts ps) (one_more (with_patterns ts ps) _ a (begins_inner (with_patterns ts ps) a))
  begins_inner ts (exists ss ps a) = begins_then ts (with_patterns ts ps) _ (begins_patterns ts ps) (one_more (with_patterns ts ps) _ a (begins_inner (with_patterns ts ps) a))

  pub begins_each : (ts : List Tree) (us : Trees) → Begins ts (with_each ts us)
  begins_each ts no_trees = begins_same ts
  begins_each ts (tree u us) = begins_then ts (with_whole ts u) _ (one_more ts _ u (begins_inner ts u)) (begins_each (with_whole ts u) us)

  pub begins_atoms : (ts : List Tree) (ps : Parts) → Begins ts (with_atoms ts ps)
  begins_atoms ts no_parts = begins_same ts
  begins_atoms ts (part k u ps) = begins_then ts (with_whole ts u) _ (one_more ts _ u (begins_inner ts u)) (begins_atoms (with_whole ts u) ps)

  pub begins_patterns : (ts : List Tree) (ps : Patterns) → Begins ts (with_patterns ts ps)
  begins_patterns ts no_patterns = begins_same ts
  begins_patterns ts (pattern us ps) = begins_then ts (with_each ts us) _ (begins_each ts us) (begins_patterns (with_each ts us) ps)

pub begins_whole : (ts : List Tree) (t : Tree) → Begins ts (with_whole ts t)
begins_whole ts t = one_more ts (with_inner ts t) t (begins_inner ts t)

-- what comes when the list of a front goes on
pub begins_more : (ts us : List Tree) (t : Tree) → Begins ts us → Begins ts (with_term us t)
begins_more ts us t h = one_more ts us t h

-- after a place is taken
pub stands_last : (ts us : List Tree) (t : Tree) (p : ℕ) → us ≡ ts ++ t ∷ [] → p ≡ length ts → (p < length us) × (at us p ≡ t)
stands_last ts us t p e q = (omega (arith, q, ap length e, length_push ts t), ap (λ xs. at xs p) e ∙ get_or_push ts t (truth true) p (sym q))

pub begins_pushed : (ts us : List Tree) (t : Tree) → us ≡ ts ++ t ∷ [] → Begins ts us
begins_pushed ts us t e = (t ∷ [], e)

-- what a refusal leaves
pub begins_whole_of : (ts us : List Tree) (t : Tree) → us ≡ ts → Begins us (with_whole ts t)
begins_whole_of ts us t e = subst (λ xs. Begins xs (with_whole ts t)) (sym e) (begins_whole ts t)

pub begins_on : (ts us : List Tree) (t : Tree) → Begins ts us → Begins ts (with_whole us t)
begins_on ts us t h = begins_then ts us (with_whole us t) h (begins_whole us t)

-- a direct part of the term at a place, also after further places
pub got : (xs : List Tree) (i : ℕ) (d u : Tree) → slice_get xs i ≡ Some u → get_or xs i d ≡ u
got [] i d u h = absurd (cc)
got (x ∷ xs) zero d u h = cc
got (x ∷ xs) (suc i) d u h = got xs i d u h

pub direct_stands : (ss rr : List Tree) (of i : ℕ) (us : List Tree) (u : Tree) → Begins ss rr → of < length ss → direct (at ss of) ≡ us → slice_get us i ≡ Some u → slice_get (direct (at rr of)) i ≡ Some u
direct_stands ss rr of i us u b l e h = ap (λ t. slice_get (direct t) i) (begins_at ss rr of b l) ∙ ap (λ xs. slice_get xs i) e ∙ h

-- numbers of one list, in a longer one
pub two_numbers : (ts us : List Tree) (i j : ℕ) (t u : Tree) → Begins ts us → IsNumber ts i t → IsNumber us j u → IsNumber us i t × IsNumber us j u
two_numbers ts us i j t u b h g = (number_kept ts us i t b h, g)

-- a refusal at a later term
pub refused_after : (ts us vs : List Tree) (t : Tree) → us ≡ vs → Begins ts (with_whole us t) → Begins ts (with_whole vs t)
refused_after ts us vs t e h = subst (λ xs. Begins ts (with_whole xs t)) e h

-- a new term at the end, told by equations
pub number_next : (ts us : List Tree) (t u : Tree) (i : ℕ) → number_of ts t ≡ None → u ≡ t → us ≡ ts ++ u ∷ [] → i ≡ length ts → number_of us t ≡ Some i
number_next ts us t u i n q e l = ap (λ xs. number_of xs t) (e ∙ ap (λ v. ts ++ v ∷ []) q) ∙ number_push ts t n ∙ ap Some (sym l)
