-- The order of terms is that of their keys, lists of numbers in the order of lists.
use Rattle.std.specs.Prelude.{◌≡◌, refl, ℕ, ℤ, Bool, true, false, List, [], ◌∷◌}
use Rattle.std.specs.Ordering.{ordering_then, ordering_reverse, nat_cmp, int_cmp, bool_cmp}
use Rattle.std.specs.declared.cmp.Ordering.{Ordering}
use Rattle.std.specs.declared.cmp.Ordering.TheVariants.{Less, Equal, Greater}
use Rattle.std.specs.Cmp.{IsTotalOrder}
use Rattle.std.specs.Cmp.Lexicographic.{slice_cmp}
use Rattle.std.proofs.Common.{◌∙◌, ap, sym}
use Rattle.std.proofs.lemmas.Cmp.{nat_cmp_total, int_cmp_total, lists_total, tied_itself}
use Rattle.logic_core.specs.Tree.{Kind, int, boolean, map, Tree, num, truth, free, bound, linear, mul, read, write, choose, call, negation, all, some, equal, at_most, for_all, exists, nodes, Trees, no_trees, tree, Parts, no_parts, part, Patterns, no_patterns, pattern}
use Rattle.logic_core.specs.Size.{capped}
use Rattle.logic_core.specs.Order.{kind_order, kinds_order, rank, first, inside, trees_order, parts_order, patterns_order, order}
use Rattle.logic_core.proofs.OrderEqual.{order_is_equal}
use Rattle.logic_laws.specs.OrderLaws.{OrderIsTotal}

-- natural numbers before integers
data Mark : Type 0 where
  natural : ℕ → Mark
  integer : ℤ → Mark

abbrev mark_order : Mark → Mark → Ordering
mark_order (natural m) (natural n) = nat_cmp m n
mark_order (natural m) (integer n) = Less
mark_order (integer m) (natural n) = Greater
mark_order (integer m) (integer n) = int_cmp m n

marks_turned : (x y : Mark) → mark_order x y ≡ ordering_reverse (mark_order y x)
marks_turned (natural m) (natural n) = nat_cmp_total.antisymm m n
marks_turned (natural m) (integer n) = refl
marks_turned (integer m) (natural n) = refl
marks_turned (integer m) (integer n) = int_cmp_total.antisymm m n

marks_follow : (x y z : Mark) → mark_order x y ≡ Less → mark_order y z ≡ Less → mark_order x z ≡ Less
marks_follow (natural a) (natural b) (natural c) h k = nat_cmp_total.trans a b c h k
marks_follow (natural a) (natural b) (integer c) h k = refl
marks_follow (natural a) (integer b) (natural c) h k = absurd (cc)
marks_follow (natural a) (integer b) (integer c) h k = refl
marks_follow (integer a) (natural b) z h k = absurd (cc)
marks_follow (integer a) (integer b) (natural c) h k = absurd (cc)
marks_follow (integer a) (integer b) (integer c) h k = int_cmp_total.trans a b c h k

marks_tie : (x y z : Mark) → mark_order x y ≡ Equal → mark_order x z ≡ mark_order y z
marks_tie (natural a) (natural b) (natural c) h = nat_cmp_total.congr a b c h
marks_tie (natural a) (natural b) (integer c) h = refl
marks_tie (natural a) (integer b) z h = absurd (cc)
marks_tie (integer a) (natural b) z h = absurd (cc)
marks_tie (integer a) (integer b) (natural c) h = refl
marks_tie (integer a) (integer b) (integer c) h = int_cmp_total.congr a b c h

marks_total : IsTotalOrder mark_order
marks_total = record { antisymm = marks_turned; trans = marks_follow; congr = marks_tie }

abbrev lists : List Mark → List Mark → Ordering
lists xs ys = slice_cmp mark_order xs ys

-- a key before other marks
abbrev kind_key : Kind → List Mark → List Mark
kind_key int r = natural 0 ∷ r
kind_key boolean r = natural 1 ∷ r
kind_key (map k) r = natural 2 ∷ kind_key k r

abbrev kinds_key : List Kind → List Mark → List Mark
kinds_key [] r = natural 0 ∷ r
kinds_key (k ∷ ks) r = natural 1 ∷ kind_key k (kinds_key ks r)

abbrev flag : Bool → ℕ
flag false = 0
flag true = 1

abbrev head : Tree → List Mark → List Mark
head x r = natural (capped (nodes x)) ∷ natural (rank x) ∷ r

abbrev mutual
  key : Tree → List Mark → List Mark
  key (num n) r = integer n ∷ r
  key (truth b) r = natural (flag b) ∷ r
  key (free v) r = natural v ∷ r
  key (bound v) r = natural v ∷ r
  key (linear ps c) r = parts_key ps (integer c ∷ r)
  key (mul a b) r = head a (key a (head b (key b r)))
  key (read a b) r = head a (key a (head b (key b r)))
  key (write a b c) r = head a (key a (head b (key b (head c (key c r)))))
  key (choose a b c) r = head a (key a (head b (key b (head c (key c r)))))
  key (call f ts) r = natural f ∷ trees_key ts r
  key (negation a) r = head a (key a r)
  key (all ts) r = trees_key ts r
  key (some ts) r = trees_key ts r
  key (equal a b) r = head a (key a (head b (key b r)))
  key (at_most a b) r = head a (key a (head b (key b r)))
  key (for_all ss ps a) r = head a (key a (kinds_key ss (patterns_key ps r)))
  key (exists ss ps a) r = head a (key a (kinds_key ss (patterns_key ps r)))

  trees_key : Trees → List Mark → List Mark
  trees_key no_trees r = natural 0 ∷ r
  trees_key (tree t ts) r = natural 1 ∷ head t (key t (trees_key ts r))

  parts_key : Parts → List Mark → List Mark
  parts_key no_parts r = natural 0 ∷ r
  parts_key (part k t ps) r = natural 1 ∷ head t (key t (integer k ∷ parts_key ps r))

  patterns_key : Patterns → List Mark → List Mark
  patterns_key no_patterns r = natural 0 ∷ r
  patterns_key (pattern ts ps) r = natural 1 ∷ trees_key ts (patterns_key ps r)

then_assoc : (a b c : Ordering) → ordering_then a (ordering_then b c) ≡ ordering_then (ordering_then a b) c
then_assoc Less b c = refl
then_assoc Equal b c = refl
then_assoc Greater b c = refl

then_equal : (a : Ordering) → ordering_then a Equal ≡ a
then_equal Less = refl
then_equal Equal = refl
then_equal Greater = refl

-- one part decides, and then the next one
two : (l m o p q : Ordering) → l ≡ ordering_then o m → m ≡ ordering_then p q → l ≡ ordering_then (ordering_then o p) q
two l m o p q e f = e ∙ ap (ordering_then o) f ∙ then_assoc o p q

flags : (a b : Bool) → nat_cmp (flag a) (flag b) ≡ bool_cmp a b
flags false false = refl
flags false true = refl
flags true false = refl
flags true true = refl

kind_keys : (j k : Kind) (r s : List Mark) → lists (kind_key j r) (kind_key k s) ≡ ordering_then (kind_order j k) (lists r s)
kind_keys int int r s = refl
kind_keys int boolean r s = refl
kind_keys int (map k) r s = refl
kind_keys boolean int r s = refl
kind_keys boolean boolean r s = refl
kind_keys boolean (map k) r s = refl
kind_keys (map j) int r s = refl
kind_keys (map j) boolean r s = refl
kind_keys (map j) (map k) r s = kind_keys j k r s

kinds_keys : (js ks : List Kind) (r s : List Mark) → lists (kinds_key js r) (kinds_key ks s) ≡ ordering_then (kinds_order js ks) (lists r s)
kinds_keys [] [] r s = refl
kinds_keys [] (k ∷ ks) r s = refl
kinds_keys (j ∷ js) [] r s = refl
kinds_keys (j ∷ js) (k ∷ ks) r s = two _ (lists (kinds_key js r) (kinds_key ks s)) (kind_order j k) (kinds_order js ks) (lists r s) (kind_keys j k (kinds_key js r) (kinds_key ks s)) (kinds_keys js ks r s)

abbrev whole : Tree → List Mark → List Mark
whole x r = head x (key x r)

-- where what is inside decides as the rest of the keys does, so do the terms
joined : (x y : Tree) (r s : List Mark) → lists (key x r) (key y s) ≡ ordering_then (inside x y) (lists r s) → lists (whole x r) (whole y s) ≡ ordering_then (order x y) (lists r s)
unfolding first
joined x y r s e =
    let c = nat_cmp (capped (nodes x)) (capped (nodes y)) in
    let d = nat_cmp (rank x) (rank y) in
    then_assoc c d (lists (key x r) (key y s)) ∙ ap (ordering_then (ordering_then c d)) e ∙ then_assoc (ordering_then c d) (inside x y) (lists r s)

-- terms of other ranks are decided by their ranks
decided : (c d o p q : Ordering) → (d ≡ Equal → ⊥) → ordering_then c (ordering_then d o) ≡ ordering_then (ordering_then (ordering_then c d) p) q
decided Less d o p q h = refl
decided Greater d o p q h = refl
decided Equal Less o p q h = refl
decided Equal Equal o p q h = absurd (h refl)
decided Equal Greater o p q h = refl

apart : (x y : Tree) (r s : List Mark) → (nat_cmp (rank x) (rank y) ≡ Equal → ⊥) → lists (whole x r) (whole y s) ≡ ordering_then (order x y) (lists r s)
unfolding first
apart x y r s h = decided (nat_cmp (capped (nodes x)) (capped (nodes y))) (nat_cmp (rank x) (rank y)) (lists (key x r) (key y s)) (inside x y) (lists r s) h

mutual
  keys : (x y : Tree) (r s : List Mark) → lists (whole x r) (whole y s) ≡ ordering_then (order x y) (lists r s)
  keys (num m) (num n) r s = joined (num m) (num n) r s (refl)
  keys (truth a) (truth b) r s = joined (truth a) (truth b) r s (ap (λ o. ordering_then o (lists r s)) (flags a b))
  keys (free v) (free w) r s = joined (free v) (free w) r s (refl)
  keys (bound v) (bound w) r s = joined (bound v) (bound w) r s (refl)
  keys (linear ps c) (linear qs d) r s = joined (linear ps c) (linear qs d) r s (two _ (lists (integer c ∷ r) (integer d ∷ s)) (parts_order ps qs) (int_cmp c d) (lists r s) (parts_keys ps qs (integer c ∷ r) (integer d ∷ s)) refl)
  keys (mul a b) (mul c d) r s = joined (mul a b) (mul c d) r s (two _ (lists (whole b r) (whole d s)) (order a c) (order b d) (lists r s) (keys a c (whole b r) (whole d s)) (keys b d r s))
  keys (read a b) (read c d) r s = joined (read a b) (read c d) r s (two _ (lists (whole b r) (whole d s)) (order a c) (order b d) (lists r s) (keys a c (whole b r) (whole d s)) (keys b d r s))
  keys (write a b e) (write c d f) r s = joined (write a b e) (write c d f) r s (two _ (lists (whole b (whole e r)) (whole d (whole f s))) (order a c) (ordering_then (order b d) (order e f)) (lists r s) (keys a c (whole b (whole e r)) (whole d (whole f s))) (two _ (lists (whole e r) (whole f s)) (order b d) (order e f) (lists r s) (keys b d (whole e r) (whole f s)) (keys e f r s)))
  keys (choose a b e) (choose c d f) r s = joined (choose a b e) (choose c d f) r s (two _ (lists (whole b (whole e r)) (whole d (whole f s))) (order a c) (ordering_then (order b d) (order e f)) (lists r s) (keys a c (whole b (whole e r)) (whole d (whole f s))) (two _ (lists (whole e r) (whole f s)) (order b d) (order e f) (lists r s) (keys b d (whole e r) (whole f s)) (keys e f r s)))
  keys (call f ts) (call g us) r s = joined (call f ts) (call g us) r s (two _ (lists (trees_key ts r) (trees_key us s)) (nat_cmp f g) (trees_order ts us) (lists r s) refl (trees_keys ts us r s))
  keys (negation a) (negation b) r s = joined (negation a) (negation b) r s (keys a b r s)
  keys (all ts) (all us) r s = joined (all ts) (all us) r s (trees_keys ts us r s)
  keys (some ts) (some us) r s = joined (some ts) (some us) r s (trees_keys ts us r s)
  keys (equal a b) (equal c d) r s = joined (equal a b) (equal c d) r s (two _ (lists (whole b r) (whole d s)) (order a c) (order b d) (lists r s) (keys a c (whole b r) (whole d s)) (keys b d r s))
  keys (at_most a b) (at_most c d) r s = joined (at_most a b) (at_most c d) r s (two _ (lists (whole b r) (whole d s)) (order a c) (order b d) (lists r s) (keys a c (whole b r) (whole d s)) (keys b d r s))
  keys (for_all ss ps a) (for_all rs qs b) r s = joined (for_all ss ps a) (for_all rs qs b) r s (two _ (lists (kinds_key ss (patterns_key ps r)) (kinds_key rs (patterns_key qs s))) (order a b) (ordering_then (kinds_order ss rs) (patterns_order ps qs)) (lists r s) (keys a b (kinds_key ss (patterns_key ps r)) (kinds_key rs (patterns_key qs s))) (two _ (lists (patterns_key ps r) (patterns_key qs s)) (kinds_order ss rs) (patterns_order ps qs) (lists r s) (kinds_keys ss rs (patterns_key ps r) (patterns_key qs s)) (patterns_keys ps qs r s)))
  keys (exists ss ps a) (exists rs qs b) r s = joined (exists ss ps a) (exists rs qs b) r s (two _ (lists (kinds_key ss (patterns_key ps r)) (kinds_key rs (patterns_key qs s))) (order a b) (ordering_then (kinds_order ss rs) (patterns_order ps qs)) (lists r s) (keys a b (kinds_key ss (patterns_key ps r)) (kinds_key rs (patterns_key qs s))) (two _ (lists (patterns_key ps r) (patterns_key qs s)) (kinds_order ss rs) (patterns_order ps qs) (lists r s) (kinds_keys ss rs (patterns_key ps r) (patterns_key qs s)) (patterns_keys ps qs r s)))
  keys x y r s = apart x y r s (λ e. absurd (cc))

  trees_keys : (ts us : Trees) (r s : List Mark) → lists (trees_key ts r) (trees_key us s) ≡ ordering_then (trees_order ts us) (lists r s)
  trees_keys no_trees no_trees r s = refl
  trees_keys no_trees (tree u us) r s = refl
  trees_keys (tree t ts) no_trees r s = refl
  trees_keys (tree t ts) (tree u us) r s = two _ (lists (trees_key ts r) (trees_key us s)) (order t u) (trees_order ts us) (lists r s) (keys t u (trees_key ts r) (trees_key us s)) (trees_keys ts us r s)

  parts_keys : (ps qs : Parts) (r s : List Mark) → lists (parts_key ps r) (parts_key qs s) ≡ ordering_then (parts_order ps qs) (lists r s)
  parts_keys no_parts no_parts r s = refl
  parts_keys no_parts (part l u qs) r s = refl
  parts_keys (part k t ps) no_parts r s = refl
  parts_keys (part k t ps) (part l u qs) r s =
      two _ (lists (integer k ∷ parts_key ps r) (integer l ∷ parts_key qs s)) (order t u) (ordering_then (int_cmp k l) (parts_order ps qs)) (lists r s) (keys t u (integer k ∷ parts_key ps r) (integer l ∷ parts_key qs s))
      (two _ (lists (parts_key ps r) (parts_key qs s)) (int_cmp k l) (parts_order ps qs) (lists r s) refl (parts_keys ps qs r s))

  patterns_keys : (ps qs : Patterns) (r s : List Mark) → lists (patterns_key ps r) (patterns_key qs s) ≡ ordering_then (patterns_order ps qs) (lists r s)
  patterns_keys no_patterns no_patterns r s = refl
  patterns_keys no_patterns (pattern us qs) r s = refl
  patterns_keys (pattern ts ps) no_patterns r s = refl
  patterns_keys (pattern ts ps) (pattern us qs) r s = two _ (lists (patterns_key ps r) (patterns_key qs s)) (trees_order ts us) (patterns_order ps qs) (lists r s) (trees_keys ts us (patterns_key ps r) (patterns_key qs s)) (patterns_keys ps qs r s)

by_key : (x y : Tree) → order x y ≡ lists (whole x []) (whole y [])
by_key x y = sym (then_equal (order x y)) ∙ sym (keys x y [] [])

lists_are_total : IsTotalOrder lists
lists_are_total = lists_total marks_total

order_total : IsTotalOrder order
order_total = record {
  antisymm = λ x y. by_key x y ∙ lists_are_total.antisymm (whole x []) (whole y []) ∙ ap ordering_reverse (sym (by_key y x));
  trans = λ x y z h k. by_key x z ∙ lists_are_total.trans (whole x []) (whole y []) (whole z []) (sym (by_key x y) ∙ h) (sym (by_key y z) ∙ k);
  congr = λ x y z h. by_key x z ∙ lists_are_total.congr (whole x []) (whole y []) (whole z []) (sym (by_key x y) ∙ h) ∙ sym (by_key y z);
}

pub order_is_total : OrderIsTotal
order_is_total = (order_total, λ x y. (order_is_equal x y, λ e. ap (order x) (sym e) ∙ tied_itself order_total x))
