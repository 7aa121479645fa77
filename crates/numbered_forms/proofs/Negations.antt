-- Nots of lists by number, and quantifiers whose triggers stay.
use Rattle.std.proofs.Common.{◌≡◌, refl, sym, ap, subst, ◌∙◌, ℕ, Bool, Vec, ◌+◌, ◌<◌, ◌≤◌, Option, Some, None, option_map, List, [], ◌∷◌, ◌++◌, map, length, drop, get_or}
use Rattle.std.specs.List.{AllByRecursion}
use Rattle.std.specs.declared.alloc.Global.{Global}
use Rattle.std.proofs.lemmas.List.{map-append}
use Rattle.logic_core.specs.Tree.{Kind, Tree, negation, Trees, no_trees, tree}
use Rattle.logic_core.specs.View.{trees_of}
use Rattle.logic_core.specs.Before.{before, tree_before}
use Rattle.logic_core.specs.Wide.{◌>>=◌}
use Rattle.logic_core.specs.Junction.{negated, negated_each}
use Rattle.logic_core.proofs.Made.{given_more, given_none, given_all, trees_before_none}
use Rattle.logic_core.proofs.EachOf.{every_append}
use Rattle.term_bank.specs.Numbered.{at, Begins}
use Rattle.term_bank.specs.Node.{in_lists, tree_over}
use Rattle.term_bank.specs.declared.node.Node.{Node}
use Rattle.term_bank.specs.declared.node.Node.TheVariants.{Truth, Not, And, Or, Le, ForAll, Exists}
use Rattle.term_bank.proofs.Numbers.{begins_at}
use Rattle.numbered_terms.specs.Lists.{terms_at, lists_at}
use Rattle.numbered_forms.proofs.LongerStores.{terms_stay, lists_stay, numbers_stay}

-- lists with the same numbers
abbrev flat : List (List ℕ) → List ℕ
flat [] = []
flat (x ∷ xs) = x ++ flat xs

is_flat : (ws : List (Vec ℕ Global)) → in_lists ws ≡ flat (map (λ (w : Vec ℕ Global). w.items) ws)
is_flat [] = refl
is_flat (w ∷ ws) = ap (λ ys. w.items ++ ys) (is_flat ws)

rows : (ts : List Tree) (ws : List (Vec ℕ Global)) → lists_at ts ws ≡ map (map (at ts)) (map (λ (w : Vec ℕ Global). w.items) ws)
rows ts [] = refl
rows ts (w ∷ ws) = ap (λ ys. map (at ts) w.items ∷ ys) (rows ts ws)

module _ (ts us : List Tree) (b : Begins ts us) (ws vs : List (Vec ℕ Global)) (e : map (λ (w : Vec ℕ Global). w.items) vs ≡ map (λ (w : Vec ℕ Global). w.items) ws) (low : AllByRecursion (λ j. j < length ts) (in_lists ws)) where
  pub copies_below : AllByRecursion (λ j. j < length us) (in_lists vs)
  copies_below = subst (AllByRecursion (λ j. j < length us)) (sym (is_flat vs ∙ ap flat e ∙ sym (is_flat ws))) (numbers_stay ts us b (in_lists ws) low)

  pub copies_stay : lists_at us vs ≡ lists_at ts ws
  copies_stay = rows us vs ∙ ap (map (map (at us))) e ∙ sym (rows us ws) ∙ lists_stay ts us b ws low

-- lists with the same numbers as others
module _ (ws vs : List (Vec ℕ Global)) (e : map (λ (w : Vec ℕ Global). w.items) vs ≡ map (λ (w : Vec ℕ Global). w.items) ws) where
  pub copies_all : (P : ℕ → Type 0) → AllByRecursion P (in_lists ws) → AllByRecursion P (in_lists vs)
  copies_all P h = subst (AllByRecursion P) (sym (is_flat vs ∙ ap flat e ∙ sym (is_flat ws))) h

  pub copies_same : (ts : List Tree) → lists_at ts vs ≡ lists_at ts ws
  copies_same ts = rows ts vs ∙ ap (map (map (at ts))) e ∙ sym (rows ts ws)

pub none_before : (o : Option Trees) → option_map (before tree_before []) o ≡ o
none_before None = refl
none_before (Some ts) = refl

-- one more Not
module _ (ts us vs : List Tree) (b : Begins ts us) (d : Begins us vs) (made made' : List ℕ) (y : ℕ) (low : AllByRecursion (λ j. j < length us) made) (pushed : made' ≡ made ++ y ∷ []) where
  pub next_below : y < length vs → AllByRecursion (λ j. j < length vs) made'
  next_below l = subst (AllByRecursion (λ j. j < length vs)) (sym pushed) (every_append (λ j. j < length vs) made (y ∷ []) (numbers_stay us vs d made low) (l, tt))

  pub negated_next : (ids : List ℕ) (i x : ℕ) (whole : Option Trees) → i < length ids → x ≡ get_or ids i x → x < length ts → negated (at us x) ≡ Some (at vs y)
      → option_map (before tree_before (terms_at us made)) (negated_each (trees_of (terms_at ts (drop i ids)))) ≡ whole → option_map (before tree_before (terms_at vs made')) (negated_each (trees_of (terms_at ts (drop (i + 1) ids)))) ≡ whole
  negated_next ids i x whole l e w g so_far = given_more tree_before (λ xs. negated_each (trees_of (terms_at ts xs))) ids (terms_at us made) (terms_at vs made') i x (at vs y) whole l e
      (ap (terms_at vs) pushed ∙ map-append (at vs) made (y ∷ []) ∙ ap (λ zs. zs ++ at vs y ∷ []) (terms_stay us vs d made low))
      so_far
      (ap (λ o. o >>= λ u. negated_each (trees_of (terms_at ts (drop (i + 1) ids))) >>= λ ws. Some (tree u ws)) (ap negated (sym (begins_at ts us x b w)) ∙ g))

-- and one that there isn't
pub negated_none : (ts us : List Tree) (b : Begins ts us) (made ids : List ℕ) (i x : ℕ) (whole : Option Trees) → i < length ids → x ≡ get_or ids i x → x < length ts → negated (at us x) ≡ None
    → option_map (before tree_before (terms_at us made)) (negated_each (trees_of (terms_at ts (drop i ids)))) ≡ whole → whole ≡ None
negated_none ts us b made ids i x whole l e w g so_far = given_none tree_before (λ xs. negated_each (trees_of (terms_at ts xs))) ids (terms_at us made) i x whole l e so_far
    (ap (λ o. o >>= λ u. negated_each (trees_of (terms_at ts (drop (i + 1) ids))) >>= λ ws. Some (tree u ws)) (ap negated (sym (begins_at ts us x b w)) ∙ g))

pub negated_all : (ts us : List Tree) (made ids : List ℕ) (i : ℕ) (whole : Option Trees) → length ids ≤ i → option_map (before tree_before (terms_at us made)) (negated_each (trees_of (terms_at ts (drop i ids)))) ≡ whole → whole ≡ Some (trees_of (terms_at us made))
negated_all ts us made ids i whole l so_far = given_all tree_before (λ xs. negated_each (trees_of (terms_at ts xs))) ids (terms_at us made) i whole no_trees l refl so_far ∙ ap Some (trees_before_none (terms_at us made))

-- a Not stands before what it isn't moved into
pub not_moved : (of : ℕ → Tree) (m : Node) → ((b : Bool) → m ≡ Truth b → ⊥) → ((i : ℕ) → m ≡ Not i → ⊥) → ((is : Vec ℕ Global) → m ≡ And is → ⊥) → ((is : Vec ℕ Global) → m ≡ Or is → ⊥) → ((i j : ℕ) → m ≡ Le i j → ⊥)
    → ((ss : Vec Kind Global) (ws : Vec (Vec ℕ Global) Global) (i : ℕ) → m ≡ ForAll ss ws i → ⊥) → ((ss : Vec Kind Global) (ws : Vec (Vec ℕ Global) Global) (i : ℕ) → m ≡ Exists ss ws i → ⊥) → negated (tree_over of m) ≡ Some (negation (tree_over of m))
not_moved of (Truth b) t n a o l f e = absurd (t b refl)
not_moved of (Not i) t n a o l f e = absurd (n i refl)
not_moved of (And is) t n a o l f e = absurd (a is refl)
not_moved of (Or is) t n a o l f e = absurd (o is refl)
not_moved of (Le i j) t n a o l f e = absurd (l i j refl)
not_moved of (ForAll ss ws i) t n a o l f e = absurd (f ss ws i refl)
not_moved of (Exists ss ws i) t n a o l f e = absurd (e ss ws i refl)
not_moved of m t n a o l f e = refl
