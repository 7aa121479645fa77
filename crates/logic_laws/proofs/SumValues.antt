-- The normal form of sums and products keeps their values.
-- Here i is a sort, f that the values for the bound variables fit, g and h the values of terms and sums, e what the computation gives; p and q are its steps.
use Rattle.std.proofs.Common.{◌≡◌, ◌∙◌, refl, sym, ap, subst, ℕ, ℤ, pos, negsuc, ◌+ℤ◌, ◌*ℤ◌, true, ◌&&◌, Some, option_map, List, int_eq, Ordering, Less, Equal, Greater}
use Rattle.std.proofs.lemmas.Bool.Decides.{Decides-int_eq}
use Rattle.logic_core.proofs.Booleans.{both_true}
use Rattle.logic_core.specs.Tree.{Kind, int, Tree, num, linear, mul, Parts, no_parts, part}
use Rattle.logic_core.specs.Def.{Def}
use Rattle.logic_core.specs.Order.{order}
use Rattle.logic_core.specs.Value.{Value, whole, int_of, are_of}
use Rattle.logic_core.specs.Valid.{Calls}
use Rattle.logic_core.specs.Wide.{◌>>=◌, checked_add, checked_mul}
use Rattle.logic_core.specs.Sorts.{sort_of, are_ints}
use Rattle.logic_core.specs.Sum.{Linear, constant, with_part, add_atom, add_number, add_parts, add_term, sum_term, term_of, affine, difference, in_order, product_with, product}
use Rattle.logic_core.proofs.OrderEqual.{order_is_equal}
use Rattle.logic_core.proofs.Values.{HasOne}
use Rattle.logic_core.proofs.Kept.{Keeps}
use Rattle.logic_laws.proofs.Integers as Z
use Rattle.logic_laws.proofs.Options.{some_has, bind_some, map_some, cond_has}
use Rattle.logic_laws.proofs.SumSorts.{in_order_has, checked_is, number_is, first_int, term_ints}
use Rattle.logic_laws.proofs.Tables.{of_int}
use Rattle.logic_laws.proofs.Gives.{Gives, GivesSum, gives_one}
use Rattle.logic_laws.proofs.ValueSorts.{CallsHaveSorts, gives_sort}

module _ (vars : List Kind) (defs : List Def) (frees : List Value) (calls : Calls) (has_call : (f : ℕ) (vs : List Value) → HasOne (calls f vs)) (keeps_call : (f : ℕ) (vs : List Value) → Keeps (calls f vs)) (fits : are_of vars frees ≡ true) (call_sorts : CallsHaveSorts defs calls) where
  -- a sum under way has the value m
  abbrev pub GivesLinear : Linear → List Value → ℤ → Type 0
  GivesLinear s b m = (x : ℤ) × GivesSum frees calls s.parts b x × (m ≡ x +ℤ s.rest)

  with_part_gives : (k : ℤ) (t : Tree) (ps : Parts) (b : List Value) (v : Value) (n : ℤ) → Gives frees calls t b v → GivesSum frees calls ps b n → GivesSum frees calls (with_part k t ps) b ((k *ℤ int_of v) +ℤ n)
  with_part_gives k t ps b v n g h = cond_has (λ qs. GivesSum frees calls qs b ((k *ℤ int_of v) +ℤ n)) (int_eq k (pos 0)) ps (part k t ps)
      (λ e. subst (GivesSum frees calls ps b) (sym (Z.zero_part k (int_of v) n ((Decides-int_eq k (pos 0)).0 e))) h) (λ _. (v, n, g, h, refl))

  atom_by : (k : ℤ) (t : Tree) (j : ℤ) (u : Tree) (ps qs : Parts) (b : List Value) (v : Value) (n : ℤ) (o : Ordering) → order t u ≡ o → Gives frees calls t b v → GivesSum frees calls (part j u ps) b n
      → ((rs : Parts) (m : ℤ) → GivesSum frees calls ps b m → add_atom k t ps ≡ Some rs → GivesSum frees calls rs b ((k *ℤ int_of v) +ℤ m))
      → (elim o [ Greater ↦ Some (with_part k t (part j u ps)) | Equal ↦ option_map (λ n. with_part n u ps) (checked_add j k) | Less ↦ option_map (λ rs. part j u rs) (add_atom k t ps) ]) ≡ Some qs → GivesSum frees calls qs b ((k *ℤ int_of v) +ℤ n)
  atom_by k t j u ps qs b v n Greater o g h ih e = some_has (λ rs. GivesSum frees calls rs b ((k *ℤ int_of v) +ℤ n)) (with_part k t (part j u ps)) qs e (with_part_gives k t (part j u ps) b v n g h)
  atom_by k t j u ps qs b v n Equal o g h ih e =
      let p = map_some (λ n. with_part n u ps) (checked_add j k) qs e in
      let w : v ≡ h.0 = gives_one frees calls has_call keeps_call u b v h.0 (subst (λ x. Gives frees calls x b v) (order_is_equal t u o) g) h.2 in
      let q : (k *ℤ int_of v) +ℤ n ≡ (p.0 *ℤ int_of h.0) +ℤ h.1 = ap (λ x. (k *ℤ int_of x) +ℤ n) w ∙ ap (λ x. (k *ℤ int_of h.0) +ℤ x) h.4 ∙ Z.joined_parts j k p.0 (int_of h.0) h.1 (checked_is (j +ℤ k) p.0 p.1) in
      subst (λ rs. GivesSum frees calls rs b ((k *ℤ int_of v) +ℤ n)) p.2 (subst (GivesSum frees calls (with_part p.0 u ps) b) (sym q) (with_part_gives p.0 u ps b h.0 h.1 h.2 h.3))
  atom_by k t j u ps qs b v n Less o g h ih e =
      let p = map_some (λ rs. part j u rs) (add_atom k t ps) qs e in
      subst (λ rs. GivesSum frees calls rs b ((k *ℤ int_of v) +ℤ n)) p.2 (h.0, (k *ℤ int_of v) +ℤ h.1, h.2, ih p.0 h.1 h.3 p.1, ap (λ x. (k *ℤ int_of v) +ℤ x) h.4 ∙ Z.plus_plus_swap (k *ℤ int_of v) (j *ℤ int_of h.0) h.1)

  pub atom_gives : (ps : Parts) (k : ℤ) (t : Tree) (qs : Parts) (b : List Value) (v : Value) (n : ℤ) → Gives frees calls t b v → GivesSum frees calls ps b n → add_atom k t ps ≡ Some qs → GivesSum frees calls qs b ((k *ℤ int_of v) +ℤ n)
  atom_gives no_parts k t qs b v n g h e = some_has (λ rs. GivesSum frees calls rs b ((k *ℤ int_of v) +ℤ n)) (with_part k t no_parts) qs e (with_part_gives k t no_parts b v n g h)
  atom_gives (part j u ps) k t qs b v n g h e = atom_by k t j u ps qs b v n (order t u) refl g h (λ rs m i x. atom_gives ps k t rs b v m g i x) e

  pub parts_gives : (ps : Parts) (k : ℤ) (s r : Linear) (b : List Value) (n m : ℤ) → GivesSum frees calls ps b n → GivesLinear s b m → add_parts k ps s ≡ Some r → GivesLinear r b ((k *ℤ n) +ℤ m)
  parts_gives no_parts k s r b n m h g e = some_has (λ x. GivesLinear x b ((k *ℤ n) +ℤ m)) s r e (g.0, g.1, ap (λ x. (k *ℤ x) +ℤ m) h ∙ Z.times_zero k m ∙ g.2)
  parts_gives (part j t ps) k s r b n m h g e =
      let p = bind_some (checked_mul k j) (λ n. add_atom n t s.parts >>= λ qs. add_parts k ps (record { parts = qs; rest = s.rest })) r e in
      let q = bind_some (add_atom p.0 t s.parts) (λ qs. add_parts k ps (record { parts = qs; rest = s.rest })) r p.2 in
      let a = atom_gives s.parts p.0 t q.0 b h.0 g.0 h.2 g.1 q.1 in
      let i : GivesLinear r b ((k *ℤ h.1) +ℤ ((p.0 *ℤ int_of h.0) +ℤ m)) = parts_gives ps k (record { parts = q.0; rest = s.rest }) r b h.1 ((p.0 *ℤ int_of h.0) +ℤ m) h.3
      ((p.0 *ℤ int_of h.0) +ℤ g.0, a, ap (λ x. (p.0 *ℤ int_of h.0) +ℤ x) g.2 ∙ Z.plus_plus (p.0 *ℤ int_of h.0) g.0 s.rest) q.2 in
      (i.0, i.1, ap (λ x. (k *ℤ x) +ℤ m) h.4 ∙ Z.scaled_part k j p.0 (int_of h.0) h.1 m (checked_is (k *ℤ j) p.0 p.1) ∙ i.2)

  pub number_gives : (k n : ℤ) (s r : Linear) (b : List Value) (m : ℤ) → GivesLinear s b m → add_number k n s ≡ Some r → GivesLinear r b ((k *ℤ n) +ℤ m)
  number_gives k n s r b m g e = let f = number_is k n s r e in
      (g.0, subst (λ qs. GivesSum frees calls qs b g.0) (sym f.0) g.1, ap (λ x. (k *ℤ n) +ℤ x) g.2 ∙ Z.constant_last (k *ℤ n) g.0 s.rest ∙ ap (λ x. g.0 +ℤ x) (sym f.1))

  other_gives : (t : Tree) (k : ℤ) (s r : Linear) (b : List Value) (v : Value) (m : ℤ) → Gives frees calls t b v → GivesLinear s b m → option_map (λ qs. record { parts = qs; rest = s.rest }) (add_atom k t s.parts) ≡ Some r → GivesLinear r b ((k *ℤ int_of v) +ℤ m)
  other_gives t k s r b v m g h e =
      let p = map_some (λ qs. record { parts = qs; rest = s.rest }) (add_atom k t s.parts) r e in
      subst (λ x. GivesLinear x b ((k *ℤ int_of v) +ℤ m)) p.2 ((k *ℤ int_of v) +ℤ h.0, atom_gives s.parts k t p.0 b v h.0 g h.1 p.1, ap (λ x. (k *ℤ int_of v) +ℤ x) h.2 ∙ Z.plus_plus (k *ℤ int_of v) h.0 s.rest)

  -- k times a term joins a sum
  pub term_gives : (t : Tree) (k : ℤ) (s r : Linear) (b : List Value) (v : Value) (m : ℤ) → Gives frees calls t b v → GivesLinear s b m → add_term k t s ≡ Some r → GivesLinear r b ((k *ℤ int_of v) +ℤ m)
  term_gives (num n) k s r b v m g h e = subst (λ x. GivesLinear r b ((k *ℤ int_of x) +ℤ m)) (sym g) (number_gives k n s r b m h e)
  term_gives (linear ps c) k s r b v m g h e =
      let p = bind_some (add_parts k ps s) (λ x. add_number k c x) r e in
      let i = number_gives k c p.0 r b ((k *ℤ g.0) +ℤ m) (parts_gives ps k s p.0 b g.0 m g.1 h p.1) p.2 in
      (i.0, i.1, ap (λ x. (k *ℤ int_of x) +ℤ m) g.2 ∙ Z.scaled_sum k g.0 c m ∙ i.2)
  term_gives t k s r b v m g h e = other_gives t k s r b v m g h e

  lone_part_gives : (k : ℤ) (t : Tree) (c : ℤ) (bs : List Kind) (b : List Value) (x : ℤ) → sort_of vars defs bs t ≡ Some int → are_of bs b ≡ true → GivesSum frees calls (part k t no_parts) b x → (int_eq k (pos 1) && int_eq c (pos 0)) ≡ true → Gives frees calls t b (whole (x +ℤ c))
  lone_part_gives k t c bs b x i f h e =
      let p = both_true (int_eq k (pos 1)) (int_eq c (pos 0)) e in
      let w = of_int h.0 (gives_sort vars defs frees calls has_call fits call_sorts t bs b int h.0 i f h.2) in
      let q : x +ℤ c ≡ int_of h.0 = ap (λ y. y +ℤ c) h.4 ∙ Z.one_part k (int_of h.0) h.1 c ((Decides-int_eq k (pos 1)).0 p.0) ((Decides-int_eq c (pos 0)).0 p.1) h.3 in
      subst (Gives frees calls t b) (w.1 ∙ ap whole (sym (ap int_of w.1)) ∙ ap whole (sym q)) h.2

  pub sum_gives : (ps : Parts) (c : ℤ) (bs : List Kind) (b : List Value) (x : ℤ) → are_ints vars defs bs ps ≡ true → are_of bs b ≡ true → GivesSum frees calls ps b x → Gives frees calls (sum_term ps c) b (whole (x +ℤ c))
  sum_gives no_parts c bs b x i f h = ap (λ y. whole (y +ℤ c)) h ∙ ap whole (Z.zero_plus c)
  sum_gives (part k t no_parts) c bs b x i f h = cond_has (λ u. Gives frees calls u b (whole (x +ℤ c))) (int_eq k (pos 1) && int_eq c (pos 0)) t (linear (part k t no_parts) c) (lone_part_gives k t c bs b x (first_int vars defs k t no_parts bs i).0 f h) (λ _. (x, h, refl))
  sum_gives (part k t (part j u ps)) c bs b x i f h = (x, h, refl)

  pub linear_gives : (s : Linear) (bs : List Kind) (b : List Value) (m : ℤ) → are_ints vars defs bs s.parts ≡ true → are_of bs b ≡ true → GivesLinear s b m → Gives frees calls (term_of s) b (whole m)
  linear_gives s bs b m i f h = subst (Gives frees calls (term_of s) b) (ap whole (sym h.2)) (sum_gives s.parts s.rest bs b h.0 i f h.1)

  pub constant_gives : (c : ℤ) (b : List Value) → GivesLinear (constant c) b c
  constant_gives c b = (pos 0, refl, sym (Z.zero_plus c))

  pub affine_gives : (k : ℤ) (d : Tree) (c : ℤ) (u : Tree) (bs : List Kind) (b : List Value) (v : Value) → sort_of vars defs bs d ≡ Some int → are_of bs b ≡ true → Gives frees calls d b v → affine k d c ≡ Some u → Gives frees calls u b (whole ((k *ℤ int_of v) +ℤ c))
  affine_gives k d c u bs b v i f g e =
      let p = map_some term_of (add_term k d (constant c)) u e in
      subst (λ x. Gives frees calls x b (whole ((k *ℤ int_of v) +ℤ c))) p.2 (linear_gives p.0 bs b ((k *ℤ int_of v) +ℤ c) (term_ints vars defs d k (constant c) p.0 bs i refl p.1) f (term_gives d k (constant c) p.0 b v c g (constant_gives c b) p.1))

  pub difference_gives : (x y u : Tree) (bs : List Kind) (b : List Value) (v w : Value) → sort_of vars defs bs x ≡ Some int → sort_of vars defs bs y ≡ Some int → are_of bs b ≡ true → Gives frees calls x b v → Gives frees calls y b w → difference x y ≡ Some u → Gives frees calls u b (whole (int_of v +ℤ (negsuc 0 *ℤ int_of w)))
  difference_gives x y u bs b v w i j f g h e =
      let p = bind_some (add_term (pos 1) x (constant (pos 0))) (λ s. option_map term_of (add_term (negsuc 0) y s)) u e in
      let q = map_some term_of (add_term (negsuc 0) y p.0) u p.2 in
      let a = term_gives x (pos 1) (constant (pos 0)) p.0 b v (pos 0) g (constant_gives (pos 0) b) p.1 in
      let c = term_gives y (negsuc 0) p.0 q.0 b w ((pos 1 *ℤ int_of v) +ℤ pos 0) h a q.1 in
      subst (λ z. Gives frees calls z b (whole (int_of v +ℤ (negsuc 0 *ℤ int_of w)))) q.2
      (subst (Gives frees calls (term_of q.0) b) (ap whole (Z.minus_plus (int_of v) (int_of w)))
      (linear_gives q.0 bs b ((negsuc 0 *ℤ int_of w) +ℤ ((pos 1 *ℤ int_of v) +ℤ pos 0)) (term_ints vars defs y (negsuc 0) p.0 q.0 bs j (term_ints vars defs x (pos 1) (constant (pos 0)) p.0 bs i refl p.1) q.1) f c))

  ordered_product_gives : (x y u : Tree) (b : List Value) (v w : Value) → Gives frees calls x b v → Gives frees calls y b w → Some (mul (in_order x y).0 (in_order x y).1) ≡ Some u → Gives frees calls u b (whole (int_of v *ℤ int_of w))
  ordered_product_gives x y u b v w g h e = some_has (λ t. Gives frees calls t b (whole (int_of v *ℤ int_of w))) (mul (in_order x y).0 (in_order x y).1) u e
      (in_order_has (λ p. Gives frees calls (mul p.0 p.1) b (whole (int_of v *ℤ int_of w))) x y (v, w, g, h, refl) (w, v, h, g, ap whole (Z.times_swap (int_of v) (int_of w))))

  product_with_gives : (y x u : Tree) (bs : List Kind) (b : List Value) (v w : Value) → sort_of vars defs bs x ≡ Some int → are_of bs b ≡ true → Gives frees calls x b v → Gives frees calls y b w → product_with x y ≡ Some u → Gives frees calls u b (whole (int_of v *ℤ int_of w))
  product_with_gives (num n) x u bs b v w i f g h e = subst (Gives frees calls u b) (ap whole (Z.plus_zero (n *ℤ int_of v) ∙ Z.times_swap n (int_of v)) ∙ ap (λ z. whole (int_of v *ℤ int_of z)) (sym h)) (affine_gives n x (pos 0) u bs b v i f g e)
  product_with_gives y x u bs b v w i f g h e = ordered_product_gives x y u b v w g h e

  pub product_gives : (x y u : Tree) (bs : List Kind) (b : List Value) (v w : Value) → sort_of vars defs bs x ≡ Some int → sort_of vars defs bs y ≡ Some int → are_of bs b ≡ true → Gives frees calls x b v → Gives frees calls y b w → product x y ≡ Some u → Gives frees calls u b (whole (int_of v *ℤ int_of w))
  product_gives (num n) y u bs b v w i j f g h e = subst (Gives frees calls u b) (ap whole (Z.plus_zero (n *ℤ int_of w)) ∙ ap (λ z. whole (int_of z *ℤ int_of w)) (sym g)) (affine_gives n y (pos 0) u bs b w j f h e)
  product_gives x y u bs b v w i j f g h e = product_with_gives y x u bs b v w i f g h e
