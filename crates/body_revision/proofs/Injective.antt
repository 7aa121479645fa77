-- Lists of the code that stand for the same tree are equal.
use Rattle.std.proofs.Common.{◌≡◌, refl, sym, ◌∙◌, ap, ℕ, ◌<◌, List, [], ◌∷◌, length, get_or, map, Option, Some, None}
use Rattle.std.proofs.lemmas.List.{get_or-map}
use Rattle.bv_base.specs.declared.place.Place.{Place}
use Rattle.bpl_ast.specs.Place.{Name, Ty}
use Rattle.bpl_ast.specs.TypeView.{tys_of}
use Rattle.bpl_ast.specs.Tree.{Expr}
use Rattle.bpl_ast.specs.ExprView.{exprs_of, terms_of, indices_of, triggers_from, clause_of, groups_from}
use Rattle.bpl_ast.specs.declared.expr.Term.{Term}
use Rattle.bpl_ast.specs.declared.expr.Term.TheVariants.{Plus, Less}
use Rattle.bpl_ast.specs.declared.expr.Index.{Index}
use Rattle.bpl_ast.specs.declared.expr.Index.TheVariants.{Read, Write}
use Rattle.bpl_ast.specs.declared.expr.Where.{Where}

pub types_same : (xs ys : List Ty) → tys_of xs ≡ tys_of ys → xs ≡ ys
types_same [] [] e = refl
types_same [] (y ∷ ys) e = absurd (cc)
types_same (x ∷ xs) [] e = absurd (cc)
types_same (x ∷ xs) (y ∷ ys) e = let r = types_same xs ys (cc) in cc

pub exprs_same : (xs ys : List Expr) → exprs_of xs ≡ exprs_of ys → xs ≡ ys
exprs_same [] [] e = refl
exprs_same [] (y ∷ ys) e = absurd (cc)
exprs_same (x ∷ xs) [] e = absurd (cc)
exprs_same (x ∷ xs) (y ∷ ys) e = let r = exprs_same xs ys (cc) in cc

pub terms_same : (ts us : List Term) → terms_of ts ≡ terms_of us → ts ≡ us
terms_same [] [] e = refl
terms_same [] (Plus y ∷ us) e = absurd (cc)
terms_same [] (Less y ∷ us) e = absurd (cc)
terms_same (Plus x ∷ ts) [] e = absurd (cc)
terms_same (Less x ∷ ts) [] e = absurd (cc)
terms_same (Plus x ∷ ts) (Less y ∷ us) e = absurd (cc)
terms_same (Less x ∷ ts) (Plus y ∷ us) e = absurd (cc)
terms_same (Plus x ∷ ts) (Plus y ∷ us) e = let r = terms_same ts us (cc) in cc
terms_same (Less x ∷ ts) (Less y ∷ us) e = let r = terms_same ts us (cc) in cc

pub indices_same : (is js : List Index) → indices_of is ≡ indices_of js → is ≡ js
indices_same [] [] e = refl
indices_same [] (Read y ∷ js) e = absurd (cc)
indices_same [] (Write y w ∷ js) e = absurd (cc)
indices_same (Read x ∷ is) [] e = absurd (cc)
indices_same (Write x v ∷ is) [] e = absurd (cc)
indices_same (Read x ∷ is) (Write y w ∷ js) e = absurd (cc)
indices_same (Write x v ∷ is) (Read y ∷ js) e = absurd (cc)
indices_same (Read x ∷ is) (Read y ∷ js) e = let r = indices_same is js (cc) in cc
indices_same (Write x v ∷ is) (Write y w ∷ js) e = let r = indices_same is js (cc) in cc

pub triggers_same : (ts us : List (Place × List Expr)) → triggers_from ts ≡ triggers_from us → ts ≡ us
triggers_same [] [] e = refl
triggers_same [] (u ∷ us) e = absurd (cc)
triggers_same (t ∷ ts) [] e = absurd (cc)
triggers_same (t ∷ ts) (u ∷ us) e = let places : t.0 ≡ u.0 = cc in let patterns : t.1 ≡ u.1 = exprs_same t.1 u.1 (cc) in let rest : ts ≡ us = triggers_same ts us (cc) in λ i. (places i, patterns i) ∷ rest i

where_same : (c d : Option Where) → clause_of c ≡ clause_of d → c ≡ d
where_same None None e = refl
where_same None (Some w) e = absurd (cc)
where_same (Some v) None e = absurd (cc)
where_same (Some v) (Some w) e = let places : v.at ≡ w.at = cc in let conditions : v.condition ≡ w.condition = cc in λ i. Some (record { at = places i; condition = conditions i })

pub groups_same : (gs hs : List (List Name × (Ty × Option Where))) → groups_from gs ≡ groups_from hs → gs ≡ hs
groups_same [] [] e = refl
groups_same [] (h ∷ hs) e = absurd (cc)
groups_same (g ∷ gs) [] e = absurd (cc)
groups_same (g ∷ gs) (h ∷ hs) e = let names : g.0 ≡ h.0 = cc in let types : g.1.0 ≡ h.1.0 = cc in let conditions : g.1.1 ≡ h.1.1 = where_same g.1.1 h.1.1 (cc) in let rest : gs ≡ hs = groups_same gs hs (cc) in λ i. (names i, (types i, conditions i)) ∷ rest i

-- what two lists say is the same, so it is at each place
pub same_there : {A B : Type 0} (f : A → B) (xs ys : List A) (i : ℕ) (x y : A) → i < length xs → i < length ys → x ≡ get_or xs i x → y ≡ get_or ys i y → map f xs ≡ map f ys → f x ≡ f y
same_there f xs ys i x y inside within mine theirs e = ap f mine ∙ sym (get_or-map f xs i x (f x) inside) ∙ ap (λ l. get_or l i (f x)) e ∙ get_or-map f ys i y (f x) within ∙ ap f (sym theirs)
