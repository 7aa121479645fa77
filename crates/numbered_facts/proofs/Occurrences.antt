-- What a walk through the terms in a term has found, step by step.
use Rattle.std.proofs.Common.{◌≡◌, refl, sym, ap, subst, ◌∙◌, true≢false, ℕ, ℤ, Vec, ◌+◌, ◌<◌, ◌≤◌, nat_eq, Bool, true, false, ◌||◌, cond, List, [], ◌∷◌, ◌++◌, map, length, take, get_or}
use Rattle.std.specs.List.{list_any}
use Rattle.std.specs.declared.alloc.Global.{Global}
use Rattle.std.proofs.lemmas.Bool.{eqb-true}
use Rattle.std.proofs.lemmas.List.{take_more, take_all}
use Rattle.indexmap.specs.IndexSet.{insert_key}
use Rattle.logic_core.specs.Tree.{Tree}
use Rattle.logic_core.specs.View.{trees_of, parts_of, patterns_of}
use Rattle.logic_core.specs.Subterm.{has, has_any, has_part, has_pattern}
use Rattle.logic_core.proofs.Anywhere.{any_append}
use Rattle.logic_core.proofs.Booleans.{or_assoc, or_false, or_first, or_second}
use Rattle.term_bank.specs.declared.node.Node.{Node}
use Rattle.term_bank.specs.declared.node.Node.TheVariants.{Num, Truth, Free, Bound, Sum, Mul, Read, Write, If, Call, Not, And, Or, Eq, Le, ForAll, Exists}
use Rattle.term_bank.specs.Numbered.{at}
use Rattle.term_bank.specs.Node.{tree_over, in_lists, numbers_in}
use Rattle.numbered_facts.specs.Inside.{picks_one, AreWhole}

or_swap : (a b : Bool) → (a || b) ≡ (b || a)
or_swap true true = refl
or_swap true false = refl
or_swap false true = refl
or_swap false false = refl

-- a term is picked where it is itself or where a part is
module _ (p : Tree → Bool) (of : ℕ → Tree) where
  abbrev part_has : List ℕ → Bool
  part_has is = list_any (λ i. has p (of i)) is

  each_has : (is : List ℕ) → has_any p (trees_of (map of is)) ≡ part_has is
  each_has [] = refl
  each_has (i ∷ is) = ap (λ b. has p (of i) || b) (each_has is)

  atoms_have : (ps : List (ℤ × ℕ)) → has_part p (parts_of (map {B = ℤ × Tree} (λ (q : ℤ × ℕ). (q.0, of q.1)) ps)) ≡ part_has (map (λ (q : ℤ × ℕ). q.1) ps)
  atoms_have [] = refl
  atoms_have (q ∷ ps) = ap (λ b. has p (of q.1) || b) (atoms_have ps)

  lists_have : (ps : List (Vec ℕ Global)) → has_pattern p (patterns_of (map (λ (q : Vec ℕ Global). map of q.items) ps)) ≡ part_has (in_lists ps)
  lists_have [] = refl
  lists_have (q ∷ ps) = (λ k. each_has q.items k || lists_have ps k) ∙ sym (any_append (λ i. has p (of i)) q.items (in_lists ps))

  two_have : (a b : ℕ) → (has p (of a) || has p (of b)) ≡ part_has (a ∷ b ∷ [])
  two_have a b = ap (λ c. has p (of a) || c) (sym (or_false (has p (of b))))

  three_have : (a b c : ℕ) → (has p (of a) || (has p (of b) || has p (of c))) ≡ part_has (a ∷ b ∷ c ∷ [])
  three_have a b c = ap (λ d. has p (of a) || d) (two_have b c)

  quantified_have : (ps : List (Vec ℕ Global)) (a : ℕ) → (has_pattern p (patterns_of (map (λ (q : Vec ℕ Global). map of q.items) ps)) || has p (of a)) ≡ part_has (a ∷ in_lists ps)
  quantified_have ps a = or_swap (has_pattern p (patterns_of (map (λ (q : Vec ℕ Global). map of q.items) ps))) (has p (of a)) ∙ ap (λ b. has p (of a) || b) (lists_have ps)

  pub has_node : (m : Node) → has p (tree_over of m) ≡ (p (tree_over of m) || part_has (numbers_in m))
  has_node (Num n) = sym (or_false (p (tree_over of (Num n))))
  has_node (Truth b) = sym (or_false (p (tree_over of (Truth b))))
  has_node (Free v) = sym (or_false (p (tree_over of (Free v))))
  has_node (Bound v) = sym (or_false (p (tree_over of (Bound v))))
  has_node (Sum ps c) = ap (λ b. p (tree_over of (Sum ps c)) || b) (atoms_have ps.items)
  has_node (Mul a b) = ap (λ c. p (tree_over of (Mul a b)) || c) (two_have a b)
  has_node (Read a b) = ap (λ c. p (tree_over of (Read a b)) || c) (two_have a b)
  has_node (Write a b c) = ap (λ d. p (tree_over of (Write a b c)) || d) (three_have a b c)
  has_node (If a b c) = ap (λ d. p (tree_over of (If a b c)) || d) (three_have a b c)
  has_node (Call f is) = ap (λ b. p (tree_over of (Call f is)) || b) (each_has is.items)
  has_node (Not a) = ap (λ b. p (tree_over of (Not a)) || b) (sym (or_false (has p (of a))))
  has_node (And is) = ap (λ b. p (tree_over of (And is)) || b) (each_has is.items)
  has_node (Or is) = ap (λ b. p (tree_over of (Or is)) || b) (each_has is.items)
  has_node (Eq a b) = ap (λ c. p (tree_over of (Eq a b)) || c) (two_have a b)
  has_node (Le a b) = ap (λ c. p (tree_over of (Le a b)) || c) (two_have a b)
  has_node (ForAll ss ps a) = ap (λ b. p (tree_over of (ForAll ss ps a)) || b) (quantified_have ps.items a)
  has_node (Exists ss ps a) = ap (λ b. p (tree_over of (Exists ss ps a)) || b) (quantified_have ps.items a)

pub either : {R : Type 0} (b c : Bool) → (b ≡ true → R) → (c ≡ true → R) → (b || c) ≡ true → R
either true c f g h = f refl
either false c f g h = g h

shuffled : (a b c : Bool) → ((a || b) || c) ≡ (a || (c || b))
shuffled true b c = refl
shuffled false b c = or_swap b c

absorbed : (a b : Bool) → (b ≡ true → a ≡ true) → a ≡ (a || b)
absorbed true b h = refl
absorbed false true h = absurd (true≢false (sym (h refl)))
absorbed false false h = refl

-- a test that passes on a number that is there
passes_there : (q : ℕ → Bool) (i : ℕ) (is : List ℕ) → list_any (nat_eq i) is ≡ true → q i ≡ true → list_any q is ≡ true
passes_there q i [] h g = absurd (cc)
passes_there q i (j ∷ is) h g = either (nat_eq i j) (list_any (nat_eq i) is)
    (λ e. or_first (q j) (list_any q is) (ap q (sym (eqb-true i j e)) ∙ g))
    (λ k. or_second (q j) (list_any q is) (passes_there q i is k g)) h

-- one number more is found
pub any_more : (q : ℕ → Bool) (is : List ℕ) (i : ℕ) → list_any q (insert_key nat_eq is i) ≡ (list_any q is || q i)
any_more q is i = by (list_any (nat_eq i) is) refl
  where
    by : (b : Bool) → list_any (nat_eq i) is ≡ b → list_any q (cond b is (is ++ i ∷ [])) ≡ (list_any q is || q i)
    by true h = absorbed (list_any q is) (q i) (passes_there q i is h)
    by false h = any_append q is (i ∷ []) ∙ ap (λ b. list_any q is || b) (or_false (q i))

-- what was found already is not found again
pub found_again : (ts : List Tree) (is : List ℕ) (i : ℕ) → AreWhole ts is → list_any (nat_eq i) is ≡ true → (p : Tree → Bool) → picks_one p ts is ≡ (picks_one p ts is || has p (at ts i))
found_again ts is i h g = λ p. absorbed (picks_one p ts is) (has p (at ts i)) ((h i g).1 p)

-- a term whose parts are found is found
module _ (ts : List Tree) (before after : List ℕ) (i : ℕ) (m : Node) (l : i < length ts) (is : tree_over (at ts) m ≡ at ts i) (whole : AreWhole ts after)
    (parts : (p : Tree → Bool) → picks_one p ts after ≡ (picks_one p ts before || list_any (λ k. has p (at ts k)) (numbers_in m))) where
  has_here : (p : Tree → Bool) → has p (at ts i) ≡ (p (at ts i) || list_any (λ k. has p (at ts k)) (numbers_in m))
  has_here p = ap (has p) (sym is) ∙ has_node p (at ts) m ∙ ap (λ t. p t || list_any (λ k. has p (at ts k)) (numbers_in m)) is

  module _ (noted : List ℕ) (e : noted ≡ insert_key nat_eq after i) where
    more : (p : Tree → Bool) → picks_one p ts noted ≡ (picks_one p ts after || p (at ts i))
    more p = ap (picks_one p ts) e ∙ any_more (λ k. p (at ts k)) after i

    pub found_picks : (p : Tree → Bool) → picks_one p ts noted ≡ (picks_one p ts before || has p (at ts i))
    found_picks = λ p. more p ∙ ap (λ b. b || p (at ts i)) (parts p)
        ∙ shuffled (picks_one p ts before) (list_any (λ k. has p (at ts k)) (numbers_in m)) (p (at ts i))
        ∙ ap (λ b. picks_one p ts before || b) (sym (has_here p))

    here_whole : (p : Tree → Bool) → has p (at ts i) ≡ true → picks_one p ts noted ≡ true
    here_whole p h = found_picks p ∙ or_second (picks_one p ts before) (has p (at ts i)) h

    pub found_whole : AreWhole ts noted
    found_whole = λ j h. either (list_any (nat_eq j) after) (nat_eq j i)
        (λ k. let w = whole j k in (w.0, λ p g. more p ∙ or_first (picks_one p ts after) (p (at ts i)) (w.1 p g)))
        (λ q. subst (λ n. (n < length ts) × ((p : Tree → Bool) → has p (at ts n) ≡ true → picks_one p ts noted ≡ true)) (sym (eqb-true j i q)) (l, here_whole))
        (sym (ap (list_any (nat_eq j)) e ∙ any_more (nat_eq j) after i) ∙ h)

-- at first nothing is found
pub nothing_found : (ts : List Tree) (is : List ℕ) → is ≡ [] → AreWhole ts is
nothing_found ts is e = λ i h. absurd (true≢false (sym h ∙ ap (list_any (nat_eq i)) e))

-- the terms of one more term
pub picks_next : (ts : List Tree) (p : Tree → Bool) (old found more ids : List ℕ) (i x : ℕ) → i < length ids → x ≡ get_or ids i x → picks_one p ts found ≡ (picks_one p ts old || list_any (λ k. has p (at ts k)) (take i ids))
    → picks_one p ts more ≡ (picks_one p ts found || has p (at ts x)) → picks_one p ts more ≡ (picks_one p ts old || list_any (λ k. has p (at ts k)) (take (i + 1) ids))
picks_next ts p old found more ids i x l e so_far next = next ∙ ap (λ b. b || has p (at ts x)) so_far
    ∙ or_assoc (picks_one p ts old) (list_any (λ k. has p (at ts k)) (take i ids)) (has p (at ts x))
    ∙ ap (λ b. picks_one p ts old || b) (sym (ap (list_any (λ k. has p (at ts k))) (take_more ids i x l) ∙ any_append (λ k. has p (at ts k)) (take i ids) (get_or ids i x ∷ [])
    ∙ ap (λ b. list_any (λ k. has p (at ts k)) (take i ids) || b) (or_false (has p (at ts (get_or ids i x))) ∙ ap (λ k. has p (at ts k)) (sym e))))

pub picks_all : (ts : List Tree) (p : Tree → Bool) (old found ids : List ℕ) (i : ℕ) → length ids ≤ i → picks_one p ts found ≡ (picks_one p ts old || list_any (λ k. has p (at ts k)) (take i ids)) → picks_one p ts found ≡ (picks_one p ts old || list_any (λ k. has p (at ts k)) ids)
picks_all ts p old found ids i l so_far = so_far ∙ ap (λ xs. picks_one p ts old || list_any (λ k. has p (at ts k)) xs) (take_all i ids l)
