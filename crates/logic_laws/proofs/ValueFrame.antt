-- What a term doesn't mention doesn't matter: variables, binders and definitions beyond those over which it is well sorted.
-- Here a is that the values for the bound variables agree, s the sort of the term, g the values of the parts, p their sorts.
use Rattle.std.proofs.Common.{◌≡◌, ◌∙◌, refl, sym, ap, ℕ, zero, suc, ◌-◌, ◌<◌, ◌≤◌, ℤ, Bool, true, Some, IsTrue, List, [], ◌∷◌, ◌++◌, reverse, slice_get, length, arith}
use Rattle.logic_core.proofs.Booleans.{both_true}
use Rattle.logic_core.specs.Tree.{Kind, int, boolean, map, Tree, num, truth, free, bound, linear, mul, read, write, choose, call, negation, all, some, equal, at_most, for_all, exists, Trees, no_trees, tree, Parts, no_parts, part}
use Rattle.logic_core.specs.Def.{Def}
use Rattle.logic_core.specs.Value.{Value, holds, is_of, are_of, at}
use Rattle.logic_core.specs.Meaning.{With, Holds}
use Rattle.logic_core.specs.Valid.{Calls}
use Rattle.logic_core.specs.Sorts.{sort_of, are, are_formulas, are_ints}
use Rattle.logic_core.proofs.Values.{HasOne}
use Rattle.logic_core.proofs.Kept.{Keeps, true_stable}
use Rattle.logic_core.proofs.Replaced.{Same}
use Rattle.logic_laws.proofs.Options.{when_some}
use Rattle.logic_laws.proofs.SumSorts.{first_int}
use Rattle.logic_laws.proofs.FormulaSorts.{first_formula, part_of_negation, parts_of_at_most, parts_of_equal, parts_of_quantifier}
use Rattle.logic_laws.proofs.NormalSorts.{parts_of_mul, parts_of_read, parts_of_write, parts_of_choose, parts_of_call, first_of_sort}
use Rattle.logic_laws.proofs.Tables.{at_next, are_of_reverse}
use Rattle.logic_laws.proofs.Gives.{decided_every, decided_some, if_map, Gives, GivesEach, GivesEvery, GivesAny, GivesSum, same_values}

-- the same value for each variable of these sorts
abbrev pub Agree : List Kind → List Value → List Value → Type 0
Agree ks vs ws = (n : ℕ) (k : Kind) → slice_get ks n ≡ Some k → at vs n ≡ at ws n

pub agree_after : (ss ks : List Kind) (xs vs ws : List Value) → are_of ss xs ≡ true → Agree ks vs ws → Agree (ss ++ ks) (xs ++ vs) (xs ++ ws)
agree_after [] ks [] vs ws h a n k e = a n k e
agree_after (j ∷ ss) ks (x ∷ xs) vs ws h a zero k e = refl
agree_after (j ∷ ss) ks (x ∷ xs) vs ws h a (suc n) k e = at_next x (xs ++ vs) n ∙ agree_after ss ks xs vs ws (both_true (is_of j x) (are_of ss xs) h).1 a n k e ∙ sym (at_next x (xs ++ ws) n)
agree_after [] ks (x ∷ xs) vs ws h a n k e = absurd (cc)
agree_after (j ∷ ss) ks [] vs ws h a n k e = absurd (cc)

-- values joined at the end change nothing
pub agree_more : (ks : List Kind) (vs ws : List Value) → are_of ks vs ≡ true → Agree ks vs (vs ++ ws)
agree_more [] vs ws h n k e = absurd (cc)
agree_more (j ∷ ks) [] ws h n k e = absurd (cc)
agree_more (j ∷ ks) (v ∷ vs) ws h zero k e = refl
agree_more (j ∷ ks) (v ∷ vs) ws h (suc n) k e = at_next v vs n ∙ agree_more ks vs ws (both_true (is_of j v) (are_of ks vs) h).1 n k e ∙ sym (at_next v (vs ++ ws) n)

pub agree_itself : (ks : List Kind) (vs : List Value) → Agree ks vs vs
agree_itself ks vs n k e = refl

pub agree_none : (vs ws : List Value) → Agree [] vs ws
agree_none vs ws n k e = absurd (cc)

-- a value in two lists joined is one of the first or of the second
pub at_first : (vs ws : List Value) (n : ℕ) → n < length vs → at (vs ++ ws) n ≡ at vs n
at_first [] ws n h = absurd (omega arith)
at_first (v ∷ vs) ws zero h = refl
at_first (v ∷ vs) ws (suc n) h = at_next v (vs ++ ws) n ∙ at_first vs ws n (omega arith) ∙ sym (at_next v vs n)

pub at_second : (vs ws : List Value) (n : ℕ) → length vs ≤ n → at (vs ++ ws) n ≡ at ws (n - length vs)
at_second [] ws n h = let q : n ≡ n - 0 = omega arith in ap (at ws) q
at_second (v ∷ vs) ws zero h = absurd (omega arith)
at_second (v ∷ vs) ws (suc n) h = let q : n - length vs ≡ suc n - suc (length vs) = omega arith in at_next v (vs ++ ws) n ∙ at_second vs ws n (omega arith) ∙ ap (at ws) q

-- each value that a call of one of these definitions has here, it has there
abbrev pub SameCalls : List Def → Calls → Calls → Type 0
SameCalls below calls calls' = (f : ℕ) (d : Def) (vs : List Value) (r : Value) → slice_get below f ≡ Some d → calls f vs (λ v. v ≡ r) → calls' f vs (λ v. v ≡ r)

module _ (vars : List Kind) (below : List Def) (frees : List Value) (calls : Calls) (has_call : (f : ℕ) (vs : List Value) → HasOne (calls f vs)) (keeps_call : (f : ℕ) (vs : List Value) → Keeps (calls f vs))
    (frees' : List Value) (calls' : Calls) (has_call' : (f : ℕ) (vs : List Value) → HasOne (calls' f vs)) (keeps_call' : (f : ℕ) (vs : List Value) → Keeps (calls' f vs))
    (same_frees : Agree vars frees frees') (same_calls : SameCalls below calls calls') where
  holds_over : (t : Tree) (b b' : List Value) → ((r : Value) → Gives frees calls t b r → Gives frees' calls' t b' r) → (Holds frees calls t b → Holds frees' calls' t b') × (Holds frees' calls' t b' → Holds frees calls t b)
  holds_over t b b' f = same_values frees calls has_call keeps_call frees' calls' has_call' keeps_call' t t b b' f (λ v. IsTrue (holds v)) (λ v. true_stable (holds v))

  mutual
    pub gives_over : (t : Tree) (bs : List Kind) (b b' : List Value) (k : Kind) (r : Value) → Agree bs b b' → sort_of vars below bs t ≡ Some k → Gives frees calls t b r → Gives frees' calls' t b' r
    gives_over (num n) bs b b' k r a s g = g
    gives_over (truth x) bs b b' k r a s g = g
    gives_over (free v) bs b b' k r a s g = g ∙ same_frees v k s
    gives_over (bound v) bs b b' k r a s g = g ∙ a v k s
    gives_over (linear ps c) bs b b' k r a s g = (g.0, sum_over ps bs b b' g.0 a (when_some (are_ints vars below bs ps) int k s).0 g.1, g.2)
    gives_over (mul x y) bs b b' k r a s g = let p = parts_of_mul vars below x y bs k s in (g.0, g.1, gives_over x bs b b' int g.0 a p.0 g.2, gives_over y bs b b' int g.1 a p.1 g.3, g.4)
    gives_over (read x y) bs b b' k r a s g = let p = parts_of_read vars below x y bs k s in (g.0, g.1, gives_over x bs b b' (map k) g.0 a p.0 g.2, gives_over y bs b b' int g.1 a p.1 g.3, g.4)
    gives_over (write x y z) bs b b' k r a s g = let p = parts_of_write vars below x y z bs k s in (g.0, g.1, g.2, gives_over x bs b b' (map p.0) g.0 a p.1 g.3, gives_over y bs b b' int g.1 a p.2 g.4, gives_over z bs b b' p.0 g.2 a p.3 g.5, g.6)
    gives_over (choose x y z) bs b b' k r a s g = let p = parts_of_choose vars below x y z bs k s in
        (g.0, gives_over x bs b b' boolean g.0 a p.0 g.1, if_map (holds g.0) (Gives frees calls y b r) (Gives frees calls z b r) (Gives frees' calls' y b' r) (Gives frees' calls' z b' r) (gives_over y bs b b' k r a p.1) (gives_over z bs b b' k r a p.2) g.2)
    gives_over (call n ts) bs b b' k r a s g = let p = parts_of_call vars below n ts bs k s in (g.0, each_over ts bs b b' p.0.params g.0 a p.2 g.1, same_calls n p.0 g.0 r p.1 g.2)
    gives_over (negation x) bs b b' k r a s g = (g.0, gives_over x bs b b' boolean g.0 a (part_of_negation vars below x bs k s) g.1, g.2)
    gives_over (all ts) bs b b' k r a s g = (g.0, every_over ts bs b b' g.0 a (when_some (are_formulas vars below bs ts) boolean k s).0 g.1, g.2)
    gives_over (some ts) bs b b' k r a s g = (g.0, any_over ts bs b b' g.0 a (when_some (are_formulas vars below bs ts) boolean k s).0 g.1, g.2)
    gives_over (equal x y) bs b b' k r a s g = let p = parts_of_equal vars below x y bs k s in (g.0, g.1, gives_over x bs b b' p.0 g.0 a p.1 g.2, gives_over y bs b b' p.0 g.1 a p.2 g.3, g.4)
    gives_over (at_most x y) bs b b' k r a s g = let p = parts_of_at_most vars below x y bs k s in (g.0, g.1, gives_over x bs b b' int g.0 a p.0 g.2, gives_over y bs b b' int g.1 a p.1 g.3, g.4)
    gives_over (for_all ss ps t) bs b b' k r a s g = let p = parts_of_quantifier vars below ss ps t bs k s in
        decided_every ss (λ vs. Holds frees calls t (reverse vs ++ b)) (λ vs. Holds frees' calls' t (reverse vs ++ b')) r
        (λ vs h. holds_over t (reverse vs ++ b) (reverse vs ++ b') (λ v w. gives_over t (reverse ss ++ bs) (reverse vs ++ b) (reverse vs ++ b') boolean v (agree_after (reverse ss) bs (reverse vs) b b' (are_of_reverse ss vs h) a) p.1 w)) g
    gives_over (exists ss ps t) bs b b' k r a s g = let p = parts_of_quantifier vars below ss ps t bs k s in
        decided_some ss (λ vs. Holds frees calls t (reverse vs ++ b)) (λ vs. Holds frees' calls' t (reverse vs ++ b')) r
        (λ vs h. holds_over t (reverse vs ++ b) (reverse vs ++ b') (λ v w. gives_over t (reverse ss ++ bs) (reverse vs ++ b) (reverse vs ++ b') boolean v (agree_after (reverse ss) bs (reverse vs) b b' (are_of_reverse ss vs h) a) p.1 w)) g

    pub each_over : (ts : Trees) (bs : List Kind) (b b' : List Value) (ks : List Kind) (vs : List Value) → Agree bs b b' → are vars below bs ks ts ≡ true → GivesEach frees calls ts b vs → GivesEach frees' calls' ts b' vs
    each_over no_trees bs b b' ks vs a s g = g
    each_over (tree t ts) bs b b' [] vs a s g = absurd (cc)
    each_over (tree t ts) bs b b' (k ∷ ks) vs a s g = let p = first_of_sort vars below k ks t ts bs s in (g.0, g.1, gives_over t bs b b' k g.0 a p.0 g.2, each_over ts bs b b' ks g.1 a p.1 g.3, g.4)

    pub every_over : (ts : Trees) (bs : List Kind) (b b' : List Value) (h : Bool) → Agree bs b b' → are_formulas vars below bs ts ≡ true → GivesEvery frees calls ts b h → GivesEvery frees' calls' ts b' h
    every_over no_trees bs b b' h a s g = g
    every_over (tree t ts) bs b b' h a s g = let p = first_formula vars below t ts bs s in (g.0, g.1, gives_over t bs b b' boolean g.0 a p.0 g.2, every_over ts bs b b' g.1 a p.1 g.3, g.4)

    pub any_over : (ts : Trees) (bs : List Kind) (b b' : List Value) (h : Bool) → Agree bs b b' → are_formulas vars below bs ts ≡ true → GivesAny frees calls ts b h → GivesAny frees' calls' ts b' h
    any_over no_trees bs b b' h a s g = g
    any_over (tree t ts) bs b b' h a s g = let p = first_formula vars below t ts bs s in (g.0, g.1, gives_over t bs b b' boolean g.0 a p.0 g.2, any_over ts bs b b' g.1 a p.1 g.3, g.4)

    pub sum_over : (ps : Parts) (bs : List Kind) (b b' : List Value) (n : ℤ) → Agree bs b b' → are_ints vars below bs ps ≡ true → GivesSum frees calls ps b n → GivesSum frees' calls' ps b' n
    sum_over no_parts bs b b' n a s g = g
    sum_over (part c t ps) bs b b' n a s g = let p = first_int vars below c t ps bs s in (g.0, g.1, gives_over t bs b b' int g.0 a p.0 g.2, sum_over ps bs b b' g.1 a p.1 g.3, g.4)

  pub same_over : (t : Tree) (bs : List Kind) (b b' : List Value) (k : Kind) → Agree bs b b' → sort_of vars below bs t ≡ Some k → Same (With frees calls t b) (With frees' calls' t b')
  same_over t bs b b' k a s = same_values frees calls has_call keeps_call frees' calls' has_call' keeps_call' t t b b' (λ r g. gives_over t bs b b' k r a s g)
