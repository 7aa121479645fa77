-- Lists made item by item in a loop: what is made so far, and then what the rest gives, is what the whole list gives.
use Rattle.std.proofs.Common.{◌≡◌, ◌∙◌, refl, sym, ap, ℕ, ◌+◌, ◌<◌, ◌≤◌, ℤ, Vec, Option, Some, None, option_map, List, [], ◌∷◌, ◌++◌, length, get_or, drop}
use Rattle.std.proofs.lemmas.List.{at_drop_more, at_drop_all}
use Rattle.std.specs.declared.alloc.Global.{Global}
use Rattle.logic_terms.specs.Tree.{Tree, no_trees, tree, no_parts, part, no_patterns, pattern}
use Rattle.logic_core.specs.View.{trees_of, parts_of, patterns_of, each_items}
use Rattle.logic_core.specs.Before.{before, tree_before, part_before, pattern_before}
use Rattle.logic_terms.specs.Wide.{◌>>=◌}

-- in front of nothing
pub trees_before_none : (ts : List Tree) → before tree_before ts no_trees ≡ trees_of ts
trees_before_none [] = refl
trees_before_none (t ∷ ts) = ap (tree t) (trees_before_none ts)

pub parts_before_none : (ps : List (ℤ × Tree)) → before part_before ps no_parts ≡ parts_of ps
parts_before_none [] = refl
parts_before_none (p ∷ ps) = ap (part p.0 p.1) (parts_before_none ps)

pub patterns_before_none : (ps : List (Vec Tree Global)) → before pattern_before ps no_patterns ≡ patterns_of (each_items ps)
patterns_before_none [] = refl
patterns_before_none (p ∷ ps) = ap (pattern (trees_of p.items)) (patterns_before_none ps)

-- one item more
pub before_push : {B R : Type 0} (cons : B → R → R) (bs : List B) (b : B) (r : R) → before cons (bs ++ b ∷ []) r ≡ before cons bs (cons b r)
before_push cons [] b r = refl
before_push cons (c ∷ bs) b r = ap (cons c) (before_push cons bs b r)

-- a step of the loop: the next item x of the list is turned into y
pub made_more : {A B R : Type 0} (cons : B → R → R) (F : List A → R) (xs : List A) (made made' : List B) (i : ℕ) (x : A) (y : B) (whole : R) → i < length xs → x ≡ get_or xs i x → made' ≡ made ++ y ∷ [] → before cons made (F (drop i xs)) ≡ whole → F (x ∷ drop (i + 1) xs) ≡ cons y (F (drop (i + 1) xs)) → before cons made' (F (drop (i + 1) xs)) ≡ whole
made_more cons F xs made made' i x y whole within is pushed so_far gives =
    let here : F (drop i xs) ≡ F (x ∷ drop (i + 1) xs) = at_drop_more F xs i x within ∙ ap (λ z. F (z ∷ drop (i + 1) xs)) (sym is) in
    ap (λ zs. before cons zs (F (drop (i + 1) xs))) pushed ∙ before_push cons made y (F (drop (i + 1) xs)) ∙ ap (before cons made) (sym (here ∙ gives)) ∙ so_far

-- its end
pub made_all : {A B R : Type 0} (cons : B → R → R) (F : List A → R) (xs : List A) (made : List B) (i : ℕ) (whole : R) → length xs ≤ i → before cons made (F (drop i xs)) ≡ whole → before cons made (F []) ≡ whole
made_all cons F xs made i whole past so_far = ap (before cons made) (sym (at_drop_all F xs i past)) ∙ so_far

bind_some : {A B : Type 0} (f : A → B) (o : Option A) → (o >>= λ a. Some (f a)) ≡ option_map f o
bind_some f None = refl
bind_some f (Some a) = refl

mapped_push : {B R : Type 0} (cons : B → R → R) (bs : List B) (b : B) (o : Option R) → option_map (before cons (bs ++ b ∷ [])) o ≡ option_map (before cons bs) (option_map (cons b) o)
mapped_push cons bs b None = refl
mapped_push cons bs b (Some r) = ap Some (before_push cons bs b r)

here : {A R : Type 0} (F : List A → R) (xs : List A) (i : ℕ) (x : A) → i < length xs → x ≡ get_or xs i x → F (drop i xs) ≡ F (x ∷ drop (i + 1) xs)
here F xs i x within is = at_drop_more F xs i x within ∙ ap (λ z. F (z ∷ drop (i + 1) xs)) (sym is)

-- the same where an item may give nothing: a step
pub given_more : {A B R : Type 0} (cons : B → R → R) (F : List A → Option R) (xs : List A) (made made' : List B) (i : ℕ) (x : A) (y : B) (whole : Option R) → i < length xs → x ≡ get_or xs i x → made' ≡ made ++ y ∷ [] → option_map (before cons made) (F (drop i xs)) ≡ whole → F (x ∷ drop (i + 1) xs) ≡ (F (drop (i + 1) xs) >>= λ r. Some (cons y r)) → option_map (before cons made') (F (drop (i + 1) xs)) ≡ whole
given_more cons F xs made made' i x y whole within is pushed so_far gives =
    let rest = F (drop (i + 1) xs) in
    ap (λ zs. option_map (before cons zs) rest) pushed
    ∙ mapped_push cons made y rest
    ∙ ap (option_map (before cons made)) (sym (bind_some (cons y) rest) ∙ sym gives ∙ sym (here F xs i x within is))
    ∙ so_far

-- an item gives nothing
pub given_none : {A B R : Type 0} (cons : B → R → R) (F : List A → Option R) (xs : List A) (made : List B) (i : ℕ) (x : A) (whole : Option R) → i < length xs → x ≡ get_or xs i x → option_map (before cons made) (F (drop i xs)) ≡ whole → F (x ∷ drop (i + 1) xs) ≡ None → whole ≡ None
given_none cons F xs made i x whole within is so_far none = sym so_far ∙ ap (option_map (before cons made)) (here F xs i x within is ∙ none)

-- the end
pub given_all : {A B R : Type 0} (cons : B → R → R) (F : List A → Option R) (xs : List A) (made : List B) (i : ℕ) (whole : Option R) (none : R) → length xs ≤ i → F [] ≡ Some none → option_map (before cons made) (F (drop i xs)) ≡ whole → whole ≡ Some (before cons made none)
given_all cons F xs made i whole none past nil so_far = sym so_far ∙ ap (option_map (before cons made)) (at_drop_all F xs i past ∙ nil)
