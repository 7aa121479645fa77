-- Where steps lead, and the parts of a term in code and in contracts.
use Rattle.std.proofs.Common.{◌≡◌, refl, sym, ap, subst, ◌∙◌, ℕ, zero, suc, ◌+◌, ◌<◌, ◌≤◌, ℤ, Vec, true, List, [], ◌∷◌, ◌++◌, map, length, take, get_or, Option, Some, None, arith}
use Rattle.std.proofs.lemmas.List.{length-map, length_push, append_assoc, get_or_append_left, get_or_at, append-nil, take_at, take_all}
use Rattle.std.specs.declared.alloc.Global.{Global}
use Rattle.logic_core.specs.Tree.{Tree, truth}
use Rattle.logic_core.specs.View.{trees_of, parts_of, patterns_of, each_items}
use Rattle.logic_core.specs.Subterm.{listed}
use Rattle.term_bank.specs.declared.places.Way.{Way}
use Rattle.term_bank.specs.declared.places.Step.{Step}
use Rattle.term_bank.specs.declared.places.Step.TheVariants.{Whole, Within}
use Rattle.term_bank.specs.Numbered.{at}
use Rattle.term_bank.specs.Standing.{atoms, lists, part_or_self, led, led_from, all_led, IsBehind, AreBehind}

pub listed_trees : (ts : List Tree) → listed (trees_of ts) ≡ ts
listed_trees [] = refl
listed_trees (t ∷ ts) = λ i. t ∷ listed_trees ts i

pub atoms_parts : (ps : List (ℤ × Tree)) → atoms (parts_of ps) ≡ map (λ p. p.1) ps
atoms_parts [] = refl
atoms_parts (p ∷ ps) = λ i. p.1 ∷ atoms_parts ps i

pub lists_patterns : (pss : List (List Tree)) → lists (patterns_of pss) ≡ pss
lists_patterns [] = refl
lists_patterns (ps ∷ pss) = λ i. listed_trees ps i ∷ lists_patterns pss i

-- one more step
pub led_push : (ts : List Tree) (ss : List Step) (s : Step) → led_from ts (ss ++ s ∷ []) ≡ led_from ts ss ++ led (led_from ts ss) s ∷ []
led_push ts [] s = refl
led_push ts (r ∷ ss) s = led_push (ts ++ led ts r ∷ []) ss s

pub behind_push : (n : ℕ) (ss : List Step) (s : Step) → AreBehind n ss → IsBehind (n + length ss) s → AreBehind n (ss ++ s ∷ [])
behind_push n [] s h b = (subst_behind n (n + 0) s (omega arith) b, tt)
  where
    subst_behind : (m k : ℕ) (r : Step) → k ≡ m → IsBehind k r → IsBehind m r
    subst_behind m k (Whole t) e h = tt
    subst_behind m k (Within p w) e h = omega (arith, e, h)
behind_push n (r ∷ ss) s h b = (h.0, behind_push (n + 1) ss s h.1 (moved s b))
  where
    moved : (r : Step) → IsBehind (n + length (r ∷ ss)) r → IsBehind (n + 1 + length ss) r
    moved (Whole t) h = tt
    moved (Within p w) h = omega (arith, h)

-- the terms that are there stay in front, and each step has one
pub led_front : (ts : List Tree) (ss : List Step) → (more : List Tree) × (led_from ts ss ≡ ts ++ more) × (length more ≡ length ss)
led_front ts [] = ([], sym (append-nil ts), refl)
led_front ts (s ∷ ss) = let h = led_front (ts ++ led ts s ∷ []) ss in (led ts s ∷ h.0, h.1 ∙ append_assoc ts (led ts s ∷ []) h.0, omega (arith, h.2))

pub length_led : (ss : List Step) → length (all_led ss) ≡ length ss
length_led ss = let h = led_front [] ss in ap length h.1 ∙ h.2

-- what a step leads to depends on the terms before it alone
led_same : (ts more : List Tree) (s : Step) → IsBehind (length ts) s → led (ts ++ more) s ≡ led ts s
led_same ts more (Whole t) h = refl
led_same ts more (Within p w) h = ap (λ t. part_or_self t w) (get_or_append_left ts more (truth true) p h)

led_here : (ts : List Tree) (ss : List Step) (i : ℕ) (d : Step) → AreBehind (length ts) ss → i < length ss → at (led_from ts ss) (length ts + i) ≡ led (led_from ts ss) (get_or ss i d)
led_here ts [] i d h l = absurd (omega (arith, l))
led_here ts (s ∷ ss) zero d h l = let f = led_front (ts ++ led ts s ∷ []) ss in
    let e : led_from (ts ++ led ts s ∷ []) ss ≡ ts ++ led ts s ∷ f.0 = f.1 ∙ append_assoc ts (led ts s ∷ []) f.0 in
    ap (λ us. at us (length ts + 0)) e ∙ get_or_at ts (led ts s) f.0 (truth true) (length ts + 0) (omega arith)
    ∙ sym (ap (λ us. led us s) e ∙ led_same ts (led ts s ∷ f.0) s h.0)
led_here ts (s ∷ ss) (suc i) d h l = ap (at (led_from (ts ++ led ts s ∷ []) ss)) (omega (arith, length_push ts (led ts s)))
    ∙ led_here (ts ++ led ts s ∷ []) ss i d (moved h.1) (omega (arith, l))
  where
    moved : AreBehind (length ts + 1) ss → AreBehind (length (ts ++ led ts s ∷ [])) ss
    moved b = rw (length_push ts (led ts s)) b

-- the term at a place is what its step leads to
pub led_at : (ss : List Step) (i : ℕ) (d : Step) → AreBehind 0 ss → i < length ss → at (all_led ss) i ≡ led (all_led ss) (get_or ss i d)
led_at ss i d h l = subst (λ k. at (all_led ss) k ≡ led (all_led ss) (get_or ss i d)) (none_before i) (led_here [] ss i d h l)
  where
    none_before : (k : ℕ) → length {A = Tree} [] + k ≡ k
    none_before k = omega arith

pub behind_at : (n : ℕ) (ss : List Step) (i : ℕ) (d : Step) → AreBehind n ss → i < length ss → IsBehind (n + i) (get_or ss i d)
behind_at n [] i d h l = absurd (omega (arith, l))
behind_at n (s ∷ ss) zero d h l = moved s h.0
  where
    moved : (r : Step) → IsBehind n r → IsBehind (n + 0) r
    moved (Whole t) b = tt
    moved (Within p w) b = omega (arith, b)
behind_at n (s ∷ ss) (suc i) d h l = moved (get_or ss i d) (behind_at (n + 1) ss i d h.1 (omega (arith, l)))
  where
    moved : (r : Step) → IsBehind (n + 1 + i) r → IsBehind (n + suc i) r
    moved (Whole t) b = tt
    moved (Within p w) b = omega (arith, b)

-- one more step, told by equations
pub behind_next : (ss rr : List Step) (s : Step) → AreBehind 0 ss → IsBehind (0 + length ss) s → rr ≡ ss ++ s ∷ [] → AreBehind 0 rr
behind_next ss rr s h b e = rw e (behind_push 0 ss s h b)

pub led_next : (ss rr : List Step) (s : Step) (ts : List Tree) → all_led ss ≡ ts → rr ≡ ss ++ s ∷ [] → all_led rr ≡ ts ++ led ts s ∷ []
led_next ss rr s ts v e = ap all_led e ∙ led_push [] ss s ∙ ap (λ us. us ++ led us s ∷ []) v

-- the first steps lead to the first terms
pub behind_take : (n k : ℕ) (ss : List Step) → AreBehind n ss → AreBehind n (take k ss)
behind_take n zero ss h = tt
behind_take n (suc k) [] h = tt
behind_take n (suc k) (s ∷ ss) h = (h.0, behind_take (n + 1) k ss h.1)

led_take : (ts : List Tree) (k : ℕ) (ss : List Step) → led_from ts (take k ss) ≡ take (length ts + k) (led_from ts ss)
led_take ts zero ss = let f = led_front ts ss in sym (ap (take (length ts + 0)) f.1 ∙ take_at ts f.0 (length ts + 0) (omega arith))
led_take ts (suc k) [] = sym (take_all (length ts + suc k) ts (omega arith))
led_take ts (suc k) (s ∷ ss) = led_take (ts ++ led ts s ∷ []) k ss
    ∙ ap (λ n. take n (led_from (ts ++ led ts s ∷ []) ss)) (omega (arith, length_push ts (led ts s)))

pub led_fewer : (ss rr : List Step) (k : ℕ) (ts : List Tree) → all_led ss ≡ ts → rr ≡ take k ss → all_led rr ≡ take k ts
led_fewer ss rr k ts v e = ap all_led e ∙ led_take [] k ss ∙ ap (λ n. take n (all_led ss)) (none_before k) ∙ ap (take k) v
  where
    none_before : (n : ℕ) → length {A = Tree} [] + n ≡ n
    none_before n = omega arith

-- what is read of a step
pub within_behind : (ss : List Step) (i p : ℕ) (w : Way) (s : Step) → AreBehind 0 ss → i < length ss → s ≡ get_or ss i s → s ≡ Within p w → p < i
within_behind ss i p w s h l e q = let b : IsBehind (0 + i) (Within p w) = subst (IsBehind (0 + i)) (sym e ∙ q) (behind_at 0 ss i s h l) in omega (arith, b)

pub whole_at : (ss : List Step) (i : ℕ) (t : Tree) (s : Step) (ts : List Tree) → AreBehind 0 ss → i < length ss → all_led ss ≡ ts → s ≡ get_or ss i s → s ≡ Whole t → t ≡ at ts i
whole_at ss i t s ts h l v e q = sym (led_at ss i s h l ∙ ap (led (all_led ss)) (sym e ∙ q)) ∙ ap (λ us. at us i) v

pub within_at : (ss : List Step) (i p : ℕ) (w : Way) (s : Step) (ts : List Tree) → AreBehind 0 ss → i < length ss → all_led ss ≡ ts → s ≡ get_or ss i s → s ≡ Within p w → part_or_self (at ts p) w ≡ at ts i
within_at ss i p w s ts h l v e q = ap (λ us. part_or_self (at us p) w) (sym v) ∙ sym (led_at ss i s h l ∙ ap (led (all_led ss)) (sym e ∙ q)) ∙ ap (λ us. at us i) v

pub length_atoms : (ps : List (ℤ × Tree)) → length (atoms (parts_of ps)) ≡ length ps
length_atoms ps = ap length (atoms_parts ps) ∙ length-map ps (λ (p : ℤ × Tree). p.1)

pub length_lists : (rows : List (Vec Tree Global)) → length (lists (patterns_of (each_items rows))) ≡ length rows
length_lists rows = ap length (lists_patterns (each_items rows)) ∙ length-map rows (λ (r : Vec Tree Global). r.items)
