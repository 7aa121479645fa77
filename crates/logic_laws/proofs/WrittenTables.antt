-- Reading a table after a write, and tables that read the same.
use Rattle.std.proofs.Common.{◌≡◌, ◌∙◌, refl, sym, ap, subst, ℤ, pos, negsuc, ◌+ℤ◌, int_lt, int_eq, Bool, true, false, not, cond, arith, ◌⊎◌, inl, inr}
use Rattle.std.proofs.lemmas.Bool.Decides.{Decides-int_eq}
use Rattle.std.proofs.lemmas.Int.{ints}
use Rattle.logic_core.proofs.Booleans.{both_true}
use Rattle.logic_core.specs.Tree.{Kind, map}
use Rattle.logic_core.specs.Value.{Value, whole, flag, table, Entries, no_entries, entry, same, look_in, look, kept, put_in, put, above, is_of, are_entries}
use Rattle.logic_laws.proofs.Options.{cond_has}
use Rattle.logic_laws.proofs.SameValue.{same_equal, equal_same}
use Rattle.logic_laws.proofs.Tables.{parts_of_entry, above_less, above_other}

cond_true : {A : Type 0} (c : Bool) (x y : A) → c ≡ true → cond c x y ≡ x
cond_true true x y e = refl
cond_true false x y e = absurd (cc)

cond_false : {A : Type 0} (c : Bool) (x y : A) → c ≡ false → cond c x y ≡ y
cond_false true x y e = absurd (cc)
cond_false false x y e = refl

itself : (i : ℤ) → int_eq i i ≡ true
itself i = (Decides-int_eq i i).1 refl

equal_index : (i j : ℤ) → int_eq i j ≡ true → i ≡ j
equal_index i j e = (Decides-int_eq i j).0 e

less_is_other : (i j : ℤ) → int_lt i j ≡ true → int_eq i j ≡ false
less_is_other i j h = grind (arith, ints)

-- below all entries stands the default
pub look_below : (k : Kind) (d : Value) (es : Entries) (i : ℤ) → above i es ≡ true → are_entries k d es ≡ true → look_in d es i ≡ d
look_below k d no_entries i a g = refl
look_below k d (entry j v es) i a g = let p = parts_of_entry k d j v es g in
    cond_false (int_eq i j) v (look_in d es i) (less_is_other i j a) ∙ look_below k d es i (above_less i j es a p.2) p.3

look_kept : (k : Kind) (d : Value) (i : ℤ) (x : Value) (es : Entries) → above i es ≡ true → are_entries k d es ≡ true → look_in d (kept d i x es) i ≡ x
look_kept k d i x es a g = cond_has (λ fs. look_in d fs i ≡ x) (same x d) es (entry i x es) (λ e. look_below k d es i a g ∙ sym (same_equal x d e)) (λ _. cond_true (int_eq i i) x (look_in d es i) (itself i))

look_kept_other : (d : Value) (i : ℤ) (x : Value) (es : Entries) (j : ℤ) → int_eq j i ≡ false → look_in d (kept d i x es) j ≡ look_in d es j
look_kept_other d i x es j o = cond_has (λ fs. look_in d fs j ≡ look_in d es j) (same x d) es (entry i x es) (λ _. refl) (λ _. cond_false (int_eq j i) x (look_in d es j) o)

pub look_in_put : (k : Kind) (d : Value) (es : Entries) (i : ℤ) (x : Value) → are_entries k d es ≡ true → look_in d (put_in d es i x) i ≡ x
look_in_put k d no_entries i x g = look_kept k d i x no_entries refl refl
look_in_put k d (entry j w es) i x g = let p = parts_of_entry k d j w es g in
    cond_has (λ fs. look_in d fs i ≡ x) (int_eq i j) (kept d i x es) (cond (int_lt i j) (kept d i x (entry j w es)) (entry j w (put_in d es i x)))
    (λ e. look_kept k d i x es (subst (λ l. above l es ≡ true) (sym (equal_index i j e)) p.2) p.3)
    (λ e. cond_has (λ fs. look_in d fs i ≡ x) (int_lt i j) (kept d i x (entry j w es)) (entry j w (put_in d es i x))
    (λ l. look_kept k d i x (entry j w es) l g) (λ _. cond_false (int_eq i j) w (look_in d (put_in d es i x) i) e ∙ look_in_put k d es i x p.3))

cond_ap : {A : Type 0} (c : Bool) (x y z : A) → y ≡ z → cond c x y ≡ cond c x z
cond_ap true x y z e = refl
cond_ap false x y z e = e

pub look_in_put_other : (d : Value) (es : Entries) (i : ℤ) (x : Value) (n : ℤ) → int_eq n i ≡ false → look_in d (put_in d es i x) n ≡ look_in d es n
look_in_put_other d no_entries i x n o = look_kept_other d i x no_entries n o
look_in_put_other d (entry j w es) i x n o =
    cond_has (λ fs. look_in d fs n ≡ look_in d (entry j w es) n) (int_eq i j) (kept d i x es) (cond (int_lt i j) (kept d i x (entry j w es)) (entry j w (put_in d es i x)))
    (λ e. look_kept_other d i x es n o ∙ sym (cond_false (int_eq n j) w (look_in d es n) (subst (λ l. int_eq n l ≡ false) (equal_index i j e) o)))
    (λ e. cond_has (λ fs. look_in d fs n ≡ look_in d (entry j w es) n) (int_lt i j) (kept d i x (entry j w es)) (entry j w (put_in d es i x))
    (λ _. look_kept_other d i x (entry j w es) n o) (λ _. cond_ap (int_eq n j) w (look_in d (put_in d es i x) n) (look_in d es n) (look_in_put_other d es i x n o)))

-- at the index that was written
pub look_put : (k : Kind) (m : Value) (i : ℤ) (x : Value) → is_of (map k) m ≡ true → look (put m i x) i ≡ x
look_put k (whole n) i x h = absurd (cc)
look_put k (flag b) i x h = absurd (cc)
look_put k (table d es) i x h = look_in_put k d es i x (both_true (is_of k d) (are_entries k d es) h).1

-- at another one
pub look_put_other : (m : Value) (i : ℤ) (x : Value) (n : ℤ) → int_eq n i ≡ false → look (put m i x) n ≡ look m n
look_put_other (whole n) i x j o = refl
look_put_other (flag b) i x j o = refl
look_put_other (table d es) i x j o = look_in_put_other d es i x j o

-- an index below all entries
lower : Entries → ℤ
lower no_entries = pos 0
lower (entry i v es) = i +ℤ negsuc 0

one_less : (i : ℤ) → int_lt (i +ℤ negsuc 0) i ≡ true
one_less i = grind (arith, ints)

lower_above : (es : Entries) → above (lower es) es ≡ true
unfolding lower
lower_above no_entries = refl
lower_above (entry i v es) = one_less i

lowest_by : (c : Bool) (es fs : Entries) → int_lt (lower es) (lower fs) ≡ c → (i : ℤ) × (above i es ≡ true) × (above i fs ≡ true)
lowest_by true es fs e = (lower es, lower_above es, above_less (lower es) (lower fs) fs e (lower_above fs))
lowest_by false es fs e = (lower fs +ℤ negsuc 0, above_less (lower fs +ℤ negsuc 0) (lower es) es (not_less (lower es) (lower fs) e) (lower_above es), above_less (lower fs +ℤ negsuc 0) (lower fs) fs (one_less (lower fs)) (lower_above fs))
  where
    not_less : (a b : ℤ) → int_lt a b ≡ false → int_lt (b +ℤ negsuc 0) a ≡ true
    not_less a b h = grind (arith, ints)

-- an entry has not the default
not_default : (v d : Value) → not (same v d) ≡ true → v ≡ d → ⊥
not_default v d h e = let q = equal_same v d e in let p : not true ≡ true = subst (λ b. not b ≡ true) q h in (cc)

same_index : (c : Bool) (i j : ℤ) → int_eq i j ≡ c → (i ≡ j) ⊎ (int_eq i j ≡ false)
same_index true i j e = inl (equal_index i j e)
same_index false i j e = inr e

pub other_index : (i j : ℤ) → (i ≡ j → ⊥) → int_eq i j ≡ false
other_index i j ne = elim (same_index (int_eq i j) i j refl) [ inl e ↦ absurd (ne e) | inr e ↦ e ]

order_of : (c : Bool) (i j : ℤ) → int_eq i j ≡ false → int_lt i j ≡ c → (int_lt i j ≡ true) ⊎ (int_lt j i ≡ true)
order_of true i j o e = inl e
order_of false i j o e = inr (above_other i j o e)

-- one table's first entry stands below the other's entries
no_lower_entry : (k : Kind) (d : Value) (i : ℤ) (v : Value) (es fs : Entries) → are_entries k d (entry i v es) ≡ true → are_entries k d fs ≡ true → above i fs ≡ true → look_in d (entry i v es) i ≡ look_in d fs i → ⊥
no_lower_entry k d i v es fs g h a e = not_default v d (parts_of_entry k d i v es g).1 (sym (cond_true (int_eq i i) v (look_in d es i) (itself i)) ∙ e ∙ look_below k d fs i a h)

pub entries_by_reads : (k : Kind) (d : Value) (es fs : Entries) → are_entries k d es ≡ true → are_entries k d fs ≡ true → ((n : ℤ) → look_in d es n ≡ look_in d fs n) → es ≡ fs
entries_by_reads k d no_entries no_entries g h e = refl
entries_by_reads k d no_entries (entry j w fs) g h e = absurd (no_lower_entry k d j w fs no_entries h g refl (sym (e j)))
entries_by_reads k d (entry i v es) no_entries g h e = absurd (no_lower_entry k d i v es no_entries g h refl (e i))
entries_by_reads k d (entry i v es) (entry j w fs) g h e =
    let p = parts_of_entry k d i v es g in let q = parts_of_entry k d j w fs h in
    elim (same_index (int_eq i j) i j refl) [
      | inl o ↦
          let values : v ≡ w = sym (cond_true (int_eq i i) v (look_in d es i) (itself i)) ∙ e i ∙ cond_true (int_eq i j) w (look_in d fs i) (subst (λ l. int_eq i l ≡ true) o (itself i)) in
          let rest : es ≡ fs = entries_by_reads k d es fs p.3 q.3 (λ n. elim (same_index (int_eq n i) n i refl) [
            | inl s ↦ look_below k d es n (subst (λ l. above l es ≡ true) (sym s) p.2) p.3 ∙ sym (look_below k d fs n (subst (λ l. above l fs ≡ true) (sym (s ∙ o)) q.2) q.3)
            | inr s ↦ sym (cond_false (int_eq n i) v (look_in d es n) s) ∙ e n ∙ cond_false (int_eq n j) w (look_in d fs n) (subst (λ l. int_eq n l ≡ false) o s)
          ]) in
          cc (o, values, rest)
      | inr o ↦ absurd (elim (order_of (int_lt i j) i j o refl) [
        | inl l ↦ no_lower_entry k d i v es (entry j w fs) g h l (e i)
        | inr l ↦ no_lower_entry k d j w fs (entry i v es) h g l (sym (e j))
      ])
    ]

tables_by_reads : (k : Kind) (d d' : Value) (es fs : Entries) → are_entries k d es ≡ true → are_entries k d' fs ≡ true → ((n : ℤ) → look_in d es n ≡ look_in d' fs n) → d ≡ d' → table d es ≡ table d' fs
tables_by_reads k d d' es fs g h e o =
    let p : es ≡ fs = entries_by_reads k d es fs g (subst (λ x. are_entries k x fs ≡ true) (sym o) h) (λ n. e n ∙ ap (λ x. look_in x fs n) (sym o)) in
    cc (o, p)

-- tables of one sort that read the same at every index are equal
pub same_by_reads : (k : Kind) (v w : Value) → is_of (map k) v ≡ true → is_of (map k) w ≡ true → ((n : ℤ) → look v n ≡ look w n) → v ≡ w
same_by_reads k (table d es) (table d' fs) h g e =
    let p = both_true (is_of k d) (are_entries k d es) h in let q = both_true (is_of k d') (are_entries k d' fs) g in
    let i = lowest_by (int_lt (lower es) (lower fs)) es fs refl in
    tables_by_reads k d d' es fs p.1 q.1 e (sym (look_below k d es i.0 i.1 p.1) ∙ e i.0 ∙ look_below k d' fs i.0 i.2 q.1)
same_by_reads k (whole m) w h g e = absurd (cc)
same_by_reads k (flag b) w h g e = absurd (cc)
same_by_reads k (table d es) (whole n) h g e = absurd (cc)
same_by_reads k (table d es) (flag b) h g e = absurd (cc)
