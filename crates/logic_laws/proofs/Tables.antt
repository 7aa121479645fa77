-- Values keep their sorts: looked up, put into tables, and in lists.
use Rattle.std.proofs.Common.{◌≡◌, refl, sym, ap, subst, ℕ, zero, suc, ℤ, pos, int_lt, int_eq, Bool, true, false, ◌&&◌, not, cond, Some, List, [], ◌∷◌, ◌++◌, reverse, slice_get, length, ◌-◌, arith, nat_eq, eqb-true, is_eq, Less, Equal, Greater}
use mathlib.Core.List.{reverse-cons}
use Rattle.std.proofs.lemmas.Bool.Decides.{Decides-int_eq}
use Rattle.std.proofs.lemmas.Int.{ints}
use Rattle.logic_core.proofs.Booleans.{both_true, all_true}
use Rattle.logic_core.specs.Tree.{Kind, int, boolean, map}
use Rattle.logic_core.specs.Value.{Value, whole, flag, table, Entries, no_entries, entry, same, look_in, look, kept, put_in, put, above, is_of, are_entries, are_of, at}
use Rattle.logic_laws.proofs.Options.{cond_has}

pub at_next : (v : Value) (vs : List Value) (n : ℕ) → at (v ∷ vs) (suc n) ≡ at vs n
at_next v vs n = cond_has (λ x. x ≡ at vs n) (nat_eq (suc n) 0) v (at vs (suc n - 1)) (λ e. absurd (let q : suc n ≡ 0 = eqb-true (suc n) 0 e in omega arith)) (λ _. let q : suc n - 1 ≡ n = omega arith in ap (at vs) q)

-- the value at a number has the sort there
pub at_sort : (ks : List Kind) (vs : List Value) (n : ℕ) (k : Kind) → are_of ks vs ≡ true → slice_get ks n ≡ Some k → is_of k (at vs n) ≡ true
at_sort [] vs n k h e = absurd (cc)
at_sort (j ∷ ks) [] n k h e = absurd (cc)
at_sort (j ∷ ks) (v ∷ vs) zero k h e = let p : j ≡ k = cc in subst (λ i. is_of i v ≡ true) p (both_true (is_of j v) (are_of ks vs) h).0
at_sort (j ∷ ks) (v ∷ vs) (suc n) k h e = subst (λ x. is_of k x ≡ true) (sym (at_next v vs n)) (at_sort ks vs n k (both_true (is_of j v) (are_of ks vs) h).1 e)

pub are_of_append : (ks js : List Kind) (vs ws : List Value) → are_of ks vs ≡ true → are_of js ws ≡ true → are_of (ks ++ js) (vs ++ ws) ≡ true
are_of_append [] js [] ws h g = g
are_of_append (k ∷ ks) js (v ∷ vs) ws h g = let p = both_true (is_of k v) (are_of ks vs) h in all_true (is_of k v) (are_of (ks ++ js) (vs ++ ws)) p.0 (are_of_append ks js vs ws p.1 g)
are_of_append [] js (v ∷ vs) ws h g = absurd (cc)
are_of_append (k ∷ ks) js [] ws h g = absurd (cc)

pub are_of_reverse : (ks : List Kind) (vs : List Value) → are_of ks vs ≡ true → are_of (reverse ks) (reverse vs) ≡ true
are_of_reverse [] [] h = refl
are_of_reverse (k ∷ ks) (v ∷ vs) h =
    let p = both_true (is_of k v) (are_of ks vs) h in
    subst (λ js. are_of js (reverse (v ∷ vs)) ≡ true) (sym (reverse-cons k ks)) (subst (λ ws. are_of (reverse ks ++ k ∷ []) ws ≡ true) (sym (reverse-cons v vs))
    (are_of_append (reverse ks) (k ∷ []) (reverse vs) (v ∷ []) (are_of_reverse ks vs p.1) (all_true (is_of k v) true p.0 refl)))
are_of_reverse [] (v ∷ vs) h = absurd (cc)
are_of_reverse (k ∷ ks) [] h = absurd (cc)

-- under a binder
pub are_of_bound : (ss bs : List Kind) (vs b : List Value) → are_of ss vs ≡ true → are_of bs b ≡ true → are_of (reverse ss ++ bs) (reverse vs ++ b) ≡ true
are_of_bound ss bs vs b h g = are_of_append (reverse ss) bs (reverse vs) b (are_of_reverse ss vs h) g

pub are_of_length : (ks : List Kind) (vs : List Value) → are_of ks vs ≡ true → length vs ≡ length ks
are_of_length [] [] h = refl
are_of_length (k ∷ ks) (v ∷ vs) h = ap suc (are_of_length ks vs (both_true (is_of k v) (are_of ks vs) h).1)
are_of_length [] (v ∷ vs) h = absurd (cc)
are_of_length (k ∷ ks) [] h = absurd (cc)

-- each sort has a value
abbrev pub some_value : Kind → Value
some_value int = whole (pos 0)
some_value boolean = flag false
some_value (map k) = table (some_value k) no_entries

pub some_value_sort : (k : Kind) → is_of k (some_value k) ≡ true
some_value_sort int = refl
some_value_sort boolean = refl
some_value_sort (map k) = all_true (is_of k (some_value k)) true (some_value_sort k) refl

abbrev pub some_values : List Kind → List Value
some_values [] = []
some_values (k ∷ ks) = some_value k ∷ some_values ks

pub some_values_sort : (ks : List Kind) → are_of ks (some_values ks) ≡ true
some_values_sort [] = refl
some_values_sort (k ∷ ks) = all_true (is_of k (some_value k)) (are_of ks (some_values ks)) (some_value_sort k) (some_values_sort ks)

-- what a value of a sort is
pub of_int : (v : Value) → is_of int v ≡ true → (n : ℤ) × (v ≡ whole n)
of_int (whole n) h = (n, refl)
of_int (flag b) h = absurd (cc)
of_int (table d es) h = absurd (cc)

pub of_boolean : (v : Value) → is_of boolean v ≡ true → (c : Bool) × (v ≡ flag c)
of_boolean (whole n) h = absurd (cc)
of_boolean (flag b) h = (b, refl)
of_boolean (table d es) h = absurd (cc)

-- of an entry: its value, that it isn't the default, that the later ones stand above it, and these
pub parts_of_entry : (k : Kind) (d : Value) (i : ℤ) (v : Value) (es : Entries) → are_entries k d (entry i v es) ≡ true → (is_of k v ≡ true) × (not (same v d) ≡ true) × (above i es ≡ true) × (are_entries k d es ≡ true)
parts_of_entry k d i v es h =
    let p = both_true (is_of k v) (not (same v d) && (above i es && are_entries k d es)) h in
    let q = both_true (not (same v d)) (above i es && are_entries k d es) p.1 in
    let r = both_true (above i es) (are_entries k d es) q.1 in
    (p.0, q.0, r.0, r.1)

entry_sort : (k : Kind) (d : Value) (i : ℤ) (v : Value) (es : Entries) → is_of k v ≡ true → not (same v d) ≡ true → above i es ≡ true → are_entries k d es ≡ true → are_entries k d (entry i v es) ≡ true
entry_sort k d i v es a b c e = all_true (is_of k v) (not (same v d) && (above i es && are_entries k d es)) a (all_true (not (same v d)) (above i es && are_entries k d es) b (all_true (above i es) (are_entries k d es) c e))

look_in_sort : (k : Kind) (d : Value) (es : Entries) (i : ℤ) → is_of k d ≡ true → are_entries k d es ≡ true → is_of k (look_in d es i) ≡ true
look_in_sort k d no_entries i h g = h
look_in_sort k d (entry j v es) i h g = let p = parts_of_entry k d j v es g in cond_has (λ x. is_of k x ≡ true) (int_eq i j) v (look_in d es i) (λ _. p.0) (λ _. look_in_sort k d es i h p.3)

pub look_sort : (k : Kind) (v : Value) (i : ℤ) → is_of (map k) v ≡ true → is_of k (look v i) ≡ true
look_sort k (whole n) i h = absurd (cc)
look_sort k (flag b) i h = absurd (cc)
look_sort k (table d es) i h = let p = both_true (is_of k d) (are_entries k d es) h in look_in_sort k d es i p.0 p.1

not_same : (b : Bool) → b ≡ false → not b ≡ true
not_same b e = ap not e

kept_sort : (k : Kind) (d : Value) (i : ℤ) (v : Value) (es : Entries) → is_of k v ≡ true → above i es ≡ true → are_entries k d es ≡ true → are_entries k d (kept d i v es) ≡ true
kept_sort k d i v es a b c = cond_has (λ x. are_entries k d x ≡ true) (same v d) es (entry i v es) (λ _. c) (λ e. entry_sort k d i v es a (not_same (same v d) e) b c)

kept_above : (j : ℤ) (d : Value) (i : ℤ) (v : Value) (es : Entries) → int_lt j i ≡ true → above j es ≡ true → above j (kept d i v es) ≡ true
kept_above j d i v es a b = cond_has (λ x. above j x ≡ true) (same v d) es (entry i v es) (λ _. b) (λ _. a)

other_test : (p q : Bool) → is_eq (cond p Less (cond q Greater Equal)) ≡ false → p ≡ false → q ≡ true
other_test true q e f = absurd (cc)
other_test false true e f = refl
other_test false false e f = absurd (cc)

-- where i is neither j nor below it, it is above
pub above_other : (i j : ℤ) → int_eq i j ≡ false → int_lt i j ≡ false → int_lt j i ≡ true
above_other i j e f = other_test (int_lt i j) (int_lt j i) e f

pub less_less : (i j l : ℤ) → int_lt i j ≡ true → int_lt j l ≡ true → int_lt i l ≡ true
less_less i j l h a = grind (arith, ints)

pub above_less : (i j : ℤ) (es : Entries) → int_lt i j ≡ true → above j es ≡ true → above i es ≡ true
above_less i j no_entries h a = refl
above_less i j (entry l v es) h a = less_less i j l h a

put_in_above : (k : Kind) (j : ℤ) (d : Value) (es : Entries) (i : ℤ) (v : Value) → int_lt j i ≡ true → above j es ≡ true → are_entries k d es ≡ true → above j (put_in d es i v) ≡ true
put_in_above k j d no_entries i v h a g = kept_above j d i v no_entries h refl
put_in_above k j d (entry l w es) i v h a g =
    cond_has (λ x. above j x ≡ true) (int_eq i l) (kept d i v es) (cond (int_lt i l) (kept d i v (entry l w es)) (entry l w (put_in d es i v)))
    (λ _. kept_above j d i v es h (above_less j l es a (parts_of_entry k d l w es g).2))
    (λ _. cond_has (λ x. above j x ≡ true) (int_lt i l) (kept d i v (entry l w es)) (entry l w (put_in d es i v)) (λ _. kept_above j d i v (entry l w es) h a) (λ _. a))

put_in_sort : (k : Kind) (d : Value) (es : Entries) (i : ℤ) (v : Value) → is_of k v ≡ true → are_entries k d es ≡ true → are_entries k d (put_in d es i v) ≡ true
put_in_sort k d no_entries i v h g = kept_sort k d i v no_entries h refl refl
put_in_sort k d (entry j w es) i v h g = let p = parts_of_entry k d j w es g in
    cond_has (λ x. are_entries k d x ≡ true) (int_eq i j) (kept d i v es) (cond (int_lt i j) (kept d i v (entry j w es)) (entry j w (put_in d es i v)))
    (λ e. kept_sort k d i v es h (subst (λ l. above l es ≡ true) (sym ((Decides-int_eq i j).0 e)) p.2) p.3)
    (λ e. cond_has (λ x. are_entries k d x ≡ true) (int_lt i j) (kept d i v (entry j w es)) (entry j w (put_in d es i v))
    (λ f. kept_sort k d i v (entry j w es) h f g)
    (λ f. entry_sort k d j w (put_in d es i v) p.0 p.1 (put_in_above k j d es i v (above_other i j e f) p.2 p.3) (put_in_sort k d es i v h p.3)))

pub put_sort : (k : Kind) (v : Value) (i : ℤ) (w : Value) → is_of (map k) v ≡ true → is_of k w ≡ true → is_of (map k) (put v i w) ≡ true
put_sort k (whole n) i w h g = absurd (cc)
put_sort k (flag b) i w h g = absurd (cc)
put_sort k (table d es) i w h g = let p = both_true (is_of k d) (are_entries k d es) h in all_true (is_of k d) (are_entries k d (put_in d es i w)) p.0 (put_in_sort k d es i w g p.1)
