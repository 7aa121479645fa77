-- A term's value is of its sort.
-- Here s is the sort of the term, h that the values for the bound variables fit, g the values of the parts, f their sorts.
use Rattle.std.proofs.Common.{◌≡◌, refl, sym, subst, ℕ, ◌+ℤ◌, ◌*ℤ◌, int_le, Bool, true, false, ◌&&◌, not, Some, IsTrue, List, [], ◌∷◌, ◌++◌, reverse, slice_get, inl, inr}
use Rattle.logic_core.proofs.Booleans.{all_true}
use Rattle.logic_core.specs.Tree.{Kind, int, boolean, map, Tree, num, truth, free, bound, linear, mul, read, write, choose, call, negation, all, some, equal, at_most, for_all, exists, Trees, no_trees, tree}
use Rattle.logic_core.specs.Def.{Def}
use Rattle.logic_core.specs.Value.{Value, whole, flag, int_of, holds, same, look, put, is_of, are_of, at}
use Rattle.logic_core.specs.Meaning.{If}
use Rattle.logic_core.specs.Valid.{Calls}
use Rattle.logic_core.specs.Sorts.{is, sort_of, are, are_formulas, are_ints, have_sorts_in}
use Rattle.logic_core.proofs.Values.{HasOne}
use Rattle.logic_core.proofs.Kept.{true_stable}
use Rattle.logic_laws.proofs.Options.{when_some}
use Rattle.logic_laws.proofs.FormulaSorts.{parts_of_equal}
use Rattle.logic_laws.proofs.NormalSorts.{parts_of_mul, parts_of_read, parts_of_write, parts_of_choose, parts_of_call, first_of_sort}
use Rattle.logic_laws.proofs.Tables.{at_sort, look_sort, put_sort}
use Rattle.logic_laws.proofs.Gives.{Gives, GivesEach, Decided}

-- a value that is equal to one of an equal sort
of_sort : (j k : Kind) (v r : Value) → j ≡ k → r ≡ v → is_of j v ≡ true → is_of k r ≡ true
of_sort j k v r p e h = subst (λ i. is_of i r ≡ true) p (subst (λ x. is_of j x ≡ true) (sym e) h)

decided_sort : (A : Type 0) (r : Value) (k : Kind) → boolean ≡ k → Decided A r → is_of k r ≡ true
decided_sort A r k e (inl a) = of_sort boolean k (flag true) r e a.1 refl
decided_sort A r k e (inr a) = of_sort boolean k (flag false) r e a.1 refl

if_sort : (c : Bool) (G H : Type 0) (k : Kind) (r : Value) → If c G H → (G → is_of k r ≡ true) → (H → is_of k r ≡ true) → is_of k r ≡ true
if_sort true G H k r g f h = f g
if_sort false G H k r g f h = h g

-- each call of a definition has a value of its sort, where the arguments have theirs
abbrev pub CallsHaveSorts : List Def → Calls → Type 0
CallsHaveSorts defs calls = (f : ℕ) (d : Def) (vs : List Value) → slice_get defs f ≡ Some d → are_of d.params vs ≡ true → calls f vs (λ v. IsTrue (is_of d.sort v))

-- what is said of a value is of the value that is named
said_call : (M : (Value → Type 0) → Type 0) (r : Value) (k : Kind) → HasOne M → M (λ v. v ≡ r) → M (λ v. IsTrue (is_of k v)) → is_of k r ≡ true
said_call M r k has e h = true_stable (is_of k r) (λ no. has (λ v vi. no (subst (λ x. is_of k x ≡ true) ((vi (λ u. u ≡ r)).0 e) ((vi (λ u. IsTrue (is_of k u))).0 h))))

module _ (vars : List Kind) (defs : List Def) (frees : List Value) (calls : Calls) (has_call : (f : ℕ) (vs : List Value) → HasOne (calls f vs)) (fits : are_of vars frees ≡ true) (call_sorts : CallsHaveSorts defs calls) where
  mutual
    pub gives_sort : (t : Tree) (bs : List Kind) (b : List Value) (k : Kind) (r : Value) → sort_of vars defs bs t ≡ Some k → are_of bs b ≡ true → Gives frees calls t b r → is_of k r ≡ true
    gives_sort (num n) bs b k r s h g = of_sort int k (whole n) r (cc) g refl
    gives_sort (truth x) bs b k r s h g = of_sort boolean k (flag x) r (cc) g refl
    gives_sort (free v) bs b k r s h g = of_sort k k (at frees v) r refl g (at_sort vars frees v k fits s)
    gives_sort (bound v) bs b k r s h g = of_sort k k (at b v) r refl g (at_sort bs b v k h s)
    gives_sort (linear ps c) bs b k r s h g = of_sort int k (whole (g.0 +ℤ c)) r (when_some (are_ints vars defs bs ps) int k s).1 g.2 refl
    gives_sort (mul x y) bs b k r s h g = of_sort int k (whole (int_of g.0 *ℤ int_of g.1)) r (parts_of_mul vars defs x y bs k s).2 g.4 refl
    gives_sort (read m i) bs b k r s h g = of_sort k k (look g.0 (int_of g.1)) r refl g.4 (look_sort k g.0 (int_of g.1) (gives_sort m bs b (map k) g.0 (parts_of_read vars defs m i bs k s).0 h g.2))
    gives_sort (write m i x) bs b k r s h g = let f = parts_of_write vars defs m i x bs k s in
        of_sort (map f.0) k (put g.0 (int_of g.1) g.2) r f.4 g.6 (put_sort f.0 g.0 (int_of g.1) g.2 (gives_sort m bs b (map f.0) g.0 f.1 h g.3) (gives_sort x bs b f.0 g.2 f.3 h g.5))
    gives_sort (choose c x y) bs b k r s h g = let f = parts_of_choose vars defs c x y bs k s in
        if_sort (holds g.0) (Gives frees calls x b r) (Gives frees calls y b r) k r g.2 (gives_sort x bs b k r f.1 h) (gives_sort y bs b k r f.2 h)
    gives_sort (call n ts) bs b k r s h g = let f = parts_of_call vars defs n ts bs k s in
        subst (λ j. is_of j r ≡ true) f.3 (said_call (calls n g.0) r f.0.sort (has_call n g.0) g.2 (call_sorts n f.0 g.0 f.1 (give_sorts ts bs b f.0.params g.0 f.2 h g.1)))
    gives_sort (negation x) bs b k r s h g = of_sort boolean k (flag (not (holds g.0))) r (when_some (is boolean (sort_of vars defs bs x)) boolean k s).1 g.2 refl
    gives_sort (all ts) bs b k r s h g = of_sort boolean k (flag g.0) r (when_some (are_formulas vars defs bs ts) boolean k s).1 g.2 refl
    gives_sort (some ts) bs b k r s h g = of_sort boolean k (flag g.0) r (when_some (are_formulas vars defs bs ts) boolean k s).1 g.2 refl
    gives_sort (equal x y) bs b k r s h g = of_sort boolean k (flag (same g.0 g.1)) r (sym (parts_of_equal vars defs x y bs k s).3) g.4 refl
    gives_sort (at_most x y) bs b k r s h g = of_sort boolean k (flag (int_le (int_of g.0) (int_of g.1))) r (when_some (is int (sort_of vars defs bs x) && is int (sort_of vars defs bs y)) boolean k s).1 g.4 refl
    gives_sort (for_all ss ps t) bs b k r s h g = decided_sort _ r k (when_some (have_sorts_in vars defs (reverse ss ++ bs) ps && is boolean (sort_of vars defs (reverse ss ++ bs) t)) boolean k s).1 g
    gives_sort (exists ss ps t) bs b k r s h g = decided_sort _ r k (when_some (have_sorts_in vars defs (reverse ss ++ bs) ps && is boolean (sort_of vars defs (reverse ss ++ bs) t)) boolean k s).1 g

    pub give_sorts : (ts : Trees) (bs : List Kind) (b : List Value) (ks : List Kind) (vs : List Value) → are vars defs bs ks ts ≡ true → are_of bs b ≡ true → GivesEach frees calls ts b vs → are_of ks vs ≡ true
    give_sorts no_trees bs b [] vs s h g = subst (λ ws. are_of [] ws ≡ true) (sym g) refl
    give_sorts no_trees bs b (k ∷ ks) vs s h g = absurd (cc)
    give_sorts (tree t ts) bs b [] vs s h g = absurd (cc)
    give_sorts (tree t ts) bs b (k ∷ ks) vs s h g = let f = first_of_sort vars defs k ks t ts bs s in
        subst (λ ws. are_of (k ∷ ks) ws ≡ true) (sym g.4) (all_true (is_of k g.0) (are_of ks g.1) (gives_sort t bs b k g.0 f.0 h g.2) (give_sorts ts bs b ks g.1 f.1 h g.3))
