-- The normal form of a construct by those of its parts, and forms in a longer store.
use Rattle.std.proofs.Common.{◌≡◌, refl, sym, ap, subst, ◌∙◌, ℕ, ℤ, Vec, ◌+◌, ◌<◌, ◌≤◌, Option, Some, None, option_map, unwrap_or, List, [], ◌∷◌, ◌++◌, map, length, drop, get_or}
use Rattle.std.specs.List.{AllByRecursion}
use Rattle.std.specs.declared.alloc.Global.{Global}
use Rattle.std.proofs.lemmas.List.{map-append, at_drop_more, at_drop_all}
use Rattle.logic_core.specs.Tree.{Kind, Tree, Trees, no_trees, tree, Patterns, no_patterns, pattern}
use Rattle.logic_core.specs.Def.{Def}
use Rattle.logic_core.specs.View.{trees_of, parts_of, patterns_of}
use Rattle.logic_core.specs.Before.{before, tree_before}
use Rattle.logic_core.specs.Wide.{◌>>=◌}
use Rattle.logic_core.specs.Sum.{Linear, add_term}
use Rattle.logic_core.specs.Normal.{normal, normal_each, normal_sum, normal_patterns}
use Rattle.logic_core.proofs.Made.{given_more, given_none, given_all, trees_before_none}
use Rattle.logic_core.proofs.Mentioned.{all_left, all_right}
use Rattle.logic_core.proofs.EachOf.{every_append}
use Rattle.term_bank.specs.Numbered.{at, Begins}
use Rattle.term_bank.specs.Node.{in_lists}
use Rattle.term_bank.proofs.Numbers.{begins_at}
use Rattle.numbered_terms.specs.Lists.{terms_at, atoms_at, lists_at, AtomsBelow}
use Rattle.numbered_terms.proofs.Walking.{still_below}
use Rattle.numbered_forms.specs.Forms.{AreForms, normal_atom}
use Rattle.numbered_forms.specs.Sums.{sum_at}
use Rattle.numbered_forms.specs.declared.sum.NumberedSum.{NumberedSum}
use Rattle.numbered_forms.proofs.LongerStores.{terms_stay, lists_stay, atoms_stay, numbers_stay}

-- two values, one behind the other, and three
abbrev pub two_of : {A B : Type 0} → Option A → Option B → Option (A × B)
two_of p q = p >>= λ a. q >>= λ b. Some (a, b)

abbrev pub three_of : {A B C : Type 0} → Option A → Option B → Option C → Option (A × B × C)
three_of p q r = p >>= λ a. q >>= λ b. r >>= λ c. Some (a, b, c)

pub pair_made : {A B : Type 0} (p : Option A) (q : Option B) (u : A) (v : B) → p ≡ Some u → q ≡ Some v → two_of p q ≡ Some (u, v)
pair_made p q u v e f = ap (λ o. two_of o q) e ∙ ap (λ o. two_of (Some u) o) f

-- handed on
module _ {A B C : Type 0} (p : Option A) (q : Option B) where
  pub pair_given : (u : A) (v : B) (f : A → B → Option C) → two_of p q ≡ Some (u, v) → (p >>= λ a. q >>= λ b. f a b) ≡ f u v
  pair_given u v f e = by p q e
    where
      by : (x : Option A) (y : Option B) → two_of x y ≡ Some (u, v) → (x >>= λ a. y >>= λ b. f a b) ≡ f u v
      by (Some a) (Some b) e = ap (λ (o : Option (A × B)). unwrap_or (option_map (λ r. f r.0 r.1) o) None) e
      by (Some a) None e = absurd (cc)
      by None y e = absurd (cc)

  pub pair_none : (f : A → B → Option C) → two_of p q ≡ None → (p >>= λ a. q >>= λ b. f a b) ≡ None
  pair_none f e = by p q e
    where
      by : (x : Option A) (y : Option B) → two_of x y ≡ None → (x >>= λ a. y >>= λ b. f a b) ≡ None
      by (Some a) (Some b) e = absurd (cc)
      by (Some a) None e = refl
      by None y e = refl

  pub mapped_given : (u : A) (v : B) (f : A → B → C) → two_of p q ≡ Some (u, v) → (p >>= λ a. option_map (f a) q) ≡ Some (f u v)
  mapped_given u v f e = by p q e
    where
      by : (x : Option A) (y : Option B) → two_of x y ≡ Some (u, v) → (x >>= λ a. option_map (f a) y) ≡ Some (f u v)
      by (Some a) (Some b) e = ap (option_map (λ (r : A × B). f r.0 r.1)) e
      by (Some a) None e = absurd (cc)
      by None y e = absurd (cc)

  pub mapped_none : (f : A → B → C) → two_of p q ≡ None → (p >>= λ a. option_map (f a) q) ≡ None
  mapped_none f e = by p q e
    where
      by : (x : Option A) (y : Option B) → two_of x y ≡ None → (x >>= λ a. option_map (f a) y) ≡ None
      by (Some a) (Some b) e = absurd (cc)
      by (Some a) None e = refl
      by None y e = refl

-- three
module _ {A B C D : Type 0} (p : Option A) (q : Option B) (r : Option C) where
  pub triple_given : (u : A) (v : B) (w : C) (f : A → B → C → Option D) → three_of p q r ≡ Some (u, v, w) → (p >>= λ a. q >>= λ b. r >>= λ c. f a b c) ≡ f u v w
  triple_given u v w f e = by p q r e
    where
      by : (x : Option A) (y : Option B) (z : Option C) → three_of x y z ≡ Some (u, v, w) → (x >>= λ a. y >>= λ b. z >>= λ c. f a b c) ≡ f u v w
      by (Some a) (Some b) (Some c) e = ap (λ (o : Option (A × B × C)). unwrap_or (option_map (λ s. f s.0 s.1 s.2) o) None) e
      by (Some a) (Some b) None e = absurd (cc)
      by (Some a) None z e = absurd (cc)
      by None y z e = absurd (cc)

  pub triple_none : (f : A → B → C → Option D) → three_of p q r ≡ None → (p >>= λ a. q >>= λ b. r >>= λ c. f a b c) ≡ None
  triple_none f e = by p q r e
    where
      by : (x : Option A) (y : Option B) (z : Option C) → three_of x y z ≡ None → (x >>= λ a. y >>= λ b. z >>= λ c. f a b c) ≡ None
      by (Some a) (Some b) (Some c) e = absurd (cc)
      by (Some a) (Some b) None e = refl
      by (Some a) None z e = refl
      by None y z e = refl

module _ (vars : List Kind) (defs : List Def) where
  -- forms are right in a longer store
  pub forms_later : (ts us : List Tree) (forms : List (Option ℕ)) → Begins ts us → AreForms vars defs ts forms → AreForms vars defs us forms
  forms_later ts us forms b h = λ i j e. let r = h i j e in
      (still_below ts us i b r.0, (still_below ts us j b r.1.0, ap (normal vars defs []) (begins_at ts us i b r.0) ∙ r.1.1 ∙ ap Some (sym (begins_at ts us j b r.1.0))))

-- so is a sum
pub sum_stays : (ts us : List Tree) → Begins ts us → (s : NumberedSum) → AtomsBelow (length ts) s.parts.items → sum_at us s ≡ sum_at ts s
sum_stays ts us b s h = λ k. record { parts = parts_of (atoms_stay ts us b s.parts.items h k); rest = s.rest }

-- lists of terms in front of what a definition gives
abbrev pub row_before : List Tree → Patterns → Patterns
row_before ts qs = pattern (trees_of ts) qs

pub rows_before_none : (tss : List (List Tree)) → before row_before tss no_patterns ≡ patterns_of tss
rows_before_none [] = refl
rows_before_none (ts ∷ tss) = ap (pattern (trees_of ts)) (rows_before_none tss)

pub no_trees_before : (o : Option Trees) → option_map (before tree_before []) o ≡ o
no_trees_before None = refl
no_trees_before (Some ts) = refl

pub no_rows_before : (o : Option Patterns) → option_map (before row_before []) o ≡ o
no_rows_before None = refl
no_rows_before (Some ps) = refl

-- one form more
module _ (vars : List Kind) (defs : List Def) (bound : List Kind) (ts us vs : List Tree) (b : Begins ts us) (d : Begins us vs) where
  pub each_next : (done done' : List ℕ) (y : ℕ) → AllByRecursion (λ j. j < length us) done → done' ≡ done ++ y ∷ [] → (ids : List ℕ) (i x : ℕ) (whole : Option Trees) → i < length ids → x ≡ get_or ids i x → x < length ts → normal vars defs bound (at us x) ≡ Some (at vs y)
      → option_map (before tree_before (terms_at us done)) (normal_each vars defs bound (trees_of (terms_at ts (drop i ids)))) ≡ whole → option_map (before tree_before (terms_at vs done')) (normal_each vars defs bound (trees_of (terms_at ts (drop (i + 1) ids)))) ≡ whole
  each_next done done' y low pushed ids i x whole l e w g so_far = given_more tree_before (λ xs. normal_each vars defs bound (trees_of (terms_at ts xs))) ids (terms_at us done) (terms_at vs done') i x (at vs y) whole l e
      (ap (terms_at vs) pushed ∙ map-append (at vs) done (y ∷ []) ∙ ap (λ zs. zs ++ at vs y ∷ []) (terms_stay us vs d done low))
      so_far
      (ap (λ o. o >>= λ u. normal_each vars defs bound (trees_of (terms_at ts (drop (i + 1) ids))) >>= λ ws. Some (tree u ws)) (ap (normal vars defs bound) (sym (begins_at ts us x b w)) ∙ g))

  pub each_none : (done ids : List ℕ) (i x : ℕ) (whole : Option Trees) → i < length ids → x ≡ get_or ids i x → x < length ts → normal vars defs bound (at us x) ≡ None
      → option_map (before tree_before (terms_at us done)) (normal_each vars defs bound (trees_of (terms_at ts (drop i ids)))) ≡ whole → whole ≡ None
  each_none done ids i x whole l e w g so_far = given_none tree_before (λ xs. normal_each vars defs bound (trees_of (terms_at ts xs))) ids (terms_at us done) i x whole l e so_far
      (ap (λ o. o >>= λ u. normal_each vars defs bound (trees_of (terms_at ts (drop (i + 1) ids))) >>= λ ws. Some (tree u ws)) (ap (normal vars defs bound) (sym (begins_at ts us x b w)) ∙ g))

  pub rows_next : (done done' : List (Vec ℕ Global)) (y : Vec ℕ Global) → AllByRecursion (λ j. j < length us) (in_lists done) → done' ≡ done ++ y ∷ [] → (lists : List (Vec ℕ Global)) (i : ℕ) (x : Vec ℕ Global) (whole : Option Patterns) → i < length lists → x ≡ get_or lists i x
      → AllByRecursion (λ j. j < length ts) x.items → normal_each vars defs bound (trees_of (terms_at us x.items)) ≡ Some (trees_of (terms_at vs y.items))
      → option_map (before row_before (lists_at us done)) (normal_patterns vars defs bound (patterns_of (lists_at ts (drop i lists)))) ≡ whole → option_map (before row_before (lists_at vs done')) (normal_patterns vars defs bound (patterns_of (lists_at ts (drop (i + 1) lists)))) ≡ whole
  rows_next done done' y low pushed lists i x whole l e w g so_far = given_more row_before (λ xs. normal_patterns vars defs bound (patterns_of (lists_at ts xs))) lists (lists_at us done) (lists_at vs done') i x (terms_at vs y.items) whole l e
      (ap (lists_at vs) pushed ∙ map-append (λ (p : Vec ℕ Global). map (at vs) p.items) done (y ∷ []) ∙ ap (λ zs. zs ++ terms_at vs y.items ∷ []) (lists_stay us vs d done low))
      so_far
      (ap (λ o. o >>= λ u. normal_patterns vars defs bound (patterns_of (lists_at ts (drop (i + 1) lists))) >>= λ ws. Some (pattern u ws)) (ap (λ zs. normal_each vars defs bound (trees_of zs)) (sym (terms_stay ts us b x.items w)) ∙ g))

  pub rows_none : (done lists : List (Vec ℕ Global)) (i : ℕ) (x : Vec ℕ Global) (whole : Option Patterns) → i < length lists → x ≡ get_or lists i x
      → AllByRecursion (λ j. j < length ts) x.items → normal_each vars defs bound (trees_of (terms_at us x.items)) ≡ None
      → option_map (before row_before (lists_at us done)) (normal_patterns vars defs bound (patterns_of (lists_at ts (drop i lists)))) ≡ whole → whole ≡ None
  rows_none done lists i x whole l e w g so_far = given_none row_before (λ xs. normal_patterns vars defs bound (patterns_of (lists_at ts xs))) lists (lists_at us done) i x whole l e so_far
      (ap (λ o. o >>= λ u. normal_patterns vars defs bound (patterns_of (lists_at ts (drop (i + 1) lists))) >>= λ ws. Some (pattern u ws)) (ap (λ zs. normal_each vars defs bound (trees_of zs)) (sym (terms_stay ts us b x.items w)) ∙ g))

  -- the sum of the parts so far, and of the next one
  abbrev from : List (ℤ × ℕ) → Linear → Option Linear
  from ps s = normal_sum vars defs bound (parts_of (atoms_at ts ps)) s

  atom_here : (parts : List (ℤ × ℕ)) (i : ℕ) (x : ℤ × ℕ) (s : Linear) → i < length parts → x ≡ get_or parts i x → x.1 < length ts
      → from (drop i parts) s ≡ (normal_atom vars defs bound x.0 (at us x.1) s >>= λ r. from (drop (i + 1) parts) r)
  atom_here parts i x s l e w = at_drop_more (λ xs. from xs s) parts i x l ∙ ap (λ z. from (z ∷ drop (i + 1) parts) s) (sym e)
      ∙ ap (λ t. normal vars defs bound t >>= λ u. add_term x.0 u s >>= λ r. from (drop (i + 1) parts) r) (sym (begins_at ts us x.1 b w))
      ∙ grouped (normal vars defs bound (at us x.1))
    where
      grouped : (o : Option Tree) → (o >>= λ u. add_term x.0 u s >>= λ r. from (drop (i + 1) parts) r) ≡ ((o >>= λ u. add_term x.0 u s) >>= λ r. from (drop (i + 1) parts) r)
      grouped None = refl
      grouped (Some u) = refl

  pub atom_next : (parts : List (ℤ × ℕ)) (i : ℕ) (x : ℤ × ℕ) (s r : Linear) (whole : Option Linear) → i < length parts → x ≡ get_or parts i x → x.1 < length ts → normal_atom vars defs bound x.0 (at us x.1) s ≡ Some r → from (drop i parts) s ≡ whole → from (drop (i + 1) parts) r ≡ whole
  atom_next parts i x s r whole l e w g so_far = sym (atom_here parts i x s l e w ∙ ap (λ o. o >>= λ q. from (drop (i + 1) parts) q) g) ∙ so_far

  pub atom_none : (parts : List (ℤ × ℕ)) (i : ℕ) (x : ℤ × ℕ) (s : Linear) (whole : Option Linear) → i < length parts → x ≡ get_or parts i x → x.1 < length ts → normal_atom vars defs bound x.0 (at us x.1) s ≡ None → from (drop i parts) s ≡ whole → whole ≡ None
  atom_none parts i x s whole l e w g so_far = sym so_far ∙ atom_here parts i x s l e w ∙ ap (λ o. o >>= λ q. from (drop (i + 1) parts) q) g

module _ (vars : List Kind) (defs : List Def) (bound : List Kind) (ts us : List Tree) where
  pub each_all : (done ids : List ℕ) (i : ℕ) (whole : Option Trees) → length ids ≤ i → option_map (before tree_before (terms_at us done)) (normal_each vars defs bound (trees_of (terms_at ts (drop i ids)))) ≡ whole → whole ≡ Some (trees_of (terms_at us done))
  each_all done ids i whole l so_far = given_all tree_before (λ xs. normal_each vars defs bound (trees_of (terms_at ts xs))) ids (terms_at us done) i whole no_trees l refl so_far ∙ ap Some (trees_before_none (terms_at us done))

  pub rows_all : (done lists : List (Vec ℕ Global)) (i : ℕ) (whole : Option Patterns) → length lists ≤ i → option_map (before row_before (lists_at us done)) (normal_patterns vars defs bound (patterns_of (lists_at ts (drop i lists)))) ≡ whole → whole ≡ Some (patterns_of (lists_at us done))
  rows_all done lists i whole l so_far = given_all row_before (λ xs. normal_patterns vars defs bound (patterns_of (lists_at ts xs))) lists (lists_at us done) i whole no_patterns l refl so_far ∙ ap Some (rows_before_none (lists_at us done))

  pub atoms_all : (parts : List (ℤ × ℕ)) (i : ℕ) (s : Linear) (whole : Option Linear) → length parts ≤ i → normal_sum vars defs bound (parts_of (atoms_at ts (drop i parts))) s ≡ whole → whole ≡ Some s
  atoms_all parts i s whole l so_far = sym so_far ∙ at_drop_all (λ xs. normal_sum vars defs bound (parts_of (atoms_at ts xs)) s) parts i l

-- one row more
pub rows_below : (us vs : List Tree) (d : Begins us vs) (done done' : List (Vec ℕ Global)) (y : Vec ℕ Global) → AllByRecursion (λ j. j < length us) (in_lists done) → done' ≡ done ++ y ∷ [] → AllByRecursion (λ j. j < length vs) y.items → AllByRecursion (λ j. j < length vs) (in_lists done')
rows_below us vs d done done' y low pushed h = subst (λ ws. AllByRecursion (λ j. j < length vs) (in_lists ws)) (sym pushed) (more done (numbers_stay us vs d (in_lists done) low))
  where
    more : (ws : List (Vec ℕ Global)) → AllByRecursion (λ j. j < length vs) (in_lists ws) → AllByRecursion (λ j. j < length vs) (in_lists (ws ++ y ∷ []))
    more [] g = every_append (λ j. j < length vs) y.items [] h tt
    more (w ∷ ws) g = every_append (λ j. j < length vs) w.items (in_lists (ws ++ y ∷ [])) (all_left (λ j. j < length vs) w.items (in_lists ws) g) (more ws (all_right (λ j. j < length vs) w.items (in_lists ws) g))
