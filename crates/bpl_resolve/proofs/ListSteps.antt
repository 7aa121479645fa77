-- One item more of lists that are put together item by item.
use Rattle.std.proofs.Common.{◌≡◌, refl, sym, ap, ◌∙◌, ℕ, suc, ◌+◌, ◌<◌, arith, length, drop, drop-cons, get_or, List, [], ◌∷◌, ◌++◌, flat_map, Option, Some, None}
use Rattle.std.specs.Prelude.{Vec, filter_map}
use Rattle.std.specs.List.{cons_option}
use Rattle.std.specs.declared.alloc.Global.{Global}
use Rattle.std.proofs.lemmas.List.{append_assoc}
use Rattle.bpl_ast.specs.Tree.{Groups}
use Rattle.bpl_ast.specs.ExprView.{groups_of, each_groups_of}
use Rattle.bpl_ast.specs.declared.expr.Group.{Group}
use Rattle.bpl_faults.proofs.ListedNames.{next_dropped}

-- what each item gives, behind what those before it gave
pub flat_pushed : {A B : Type 0} (f : A → List B) (xs : List A) (i : ℕ) (x : A) (before after total : List B) → i < length xs → x ≡ get_or xs i x → after ≡ before ++ f x
    → before ++ flat_map f (drop i xs) ≡ total → after ++ flat_map f (drop (i + 1) xs) ≡ total
flat_pushed f xs i x before after total within is step made =
    ap (λ w. w ++ flat_map f (drop (i + 1) xs)) step ∙ append_assoc before (f x) (flat_map f (drop (i + 1) xs))
    ∙ ap (λ l. before ++ flat_map f l) (sym (next_dropped xs i x within is)) ∙ made

kept_first : {B : Type 0} (o : Option B) (ys : List B) → filter_map (λ q. q) (o ∷ []) ++ ys ≡ cons_option o ys
kept_first None ys = refl
kept_first (Some b) ys = refl

pub kept_pushed : {A B : Type 0} (f : A → Option B) (xs : List A) (i : ℕ) (x : A) (before after total : List B) → i < length xs → x ≡ get_or xs i x → after ≡ before ++ filter_map (λ o. o) (f x ∷ [])
    → before ++ filter_map f (drop i xs) ≡ total → after ++ filter_map f (drop (i + 1) xs) ≡ total
kept_pushed f xs i x before after total within is step made =
    ap (λ w. w ++ filter_map f (drop (i + 1) xs)) step ∙ append_assoc before (filter_map (λ o. o) (f x ∷ [])) (filter_map f (drop (i + 1) xs))
    ∙ ap (λ l. before ++ l) (kept_first (f x) (filter_map f (drop (i + 1) xs))) ∙ ap (λ l. before ++ filter_map f l) (sym (next_dropped xs i x within is)) ∙ made

-- the same of numbers
pub numbers_pushed : {B : Type 0} (f : ℕ → List B) (xs : List ℕ) (i : ℕ) (before after total : List B) → i < length xs → after ≡ before ++ f (get_or xs i 0)
    → before ++ flat_map f (drop i xs) ≡ total → after ++ flat_map f (drop (i + 1) xs) ≡ total
numbers_pushed f xs i before after total within step made =
    let next : suc i ≡ i + 1 = omega arith in
    ap (λ w. w ++ flat_map f (drop (i + 1) xs)) step ∙ append_assoc before (f (get_or xs i 0)) (flat_map f (drop (i + 1) xs))
    ∙ ap (λ n. before ++ (f (get_or xs i 0) ++ flat_map f (drop n xs))) (sym next) ∙ ap (λ l. before ++ flat_map f l) (sym (drop-cons xs i 0 within)) ∙ made

pub groups_pushed : {B : Type 0} (f : Groups → List B) (xs : List (Vec Group Global)) (i : ℕ) (x : Vec Group Global) (before after total : List B) → i < length xs → x ≡ get_or xs i x → after ≡ before ++ f (groups_of x.items)
    → before ++ flat_map f (each_groups_of (drop i xs)) ≡ total → after ++ flat_map f (each_groups_of (drop (i + 1) xs)) ≡ total
groups_pushed f xs i x before after total within is step made =
    ap (λ w. w ++ flat_map f (each_groups_of (drop (i + 1) xs))) step ∙ append_assoc before (f (groups_of x.items)) (flat_map f (each_groups_of (drop (i + 1) xs)))
    ∙ ap (λ l. before ++ flat_map f (each_groups_of l)) (sym (next_dropped xs i x within is)) ∙ made
