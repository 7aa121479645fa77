-- Codes of names, types and expressions, by which proofs tell them apart.
use Rattle.std.specs.Prelude.{◌≡◌, ℕ, List, refl}
use Rattle.std.specs.Coded.{Coded, code_by, coded×, coded_ℕ, coded_bool, coded_list, coded_option}
use Rattle.std.proofs.Common.{ap, arith}
use base.Stored.{Gv, gnil, gnum, gcons}
use Rattle.bv_base.specs.declared.place.Place.{Place}
use Rattle.bpl_ast.specs.Place.{Name, Params, Ty, integer, boolean, named, map_type, Tys, no_tys, ty}
use Rattle.bpl_ast.specs.Tree.{Relation, eq, ne, lt, le, gt, ge, Quantifier, for_all, exists, Expr, expr, Node, number, truth, variable, apply, old, choose, quantified, iffs, implies, ands, ors, related, sums, products, negation, minus, indexed, Exprs, no_exprs, item, Terms, no_terms, plus, less, Indices, no_indices, at_index, update, Triggers, no_triggers, trigger, Groups, no_groups, group, Clause, no_clause, clause}

-- the number of the variant
abbrev pub tag : Gv → ℕ
tag gnil = 0
tag (gnum n) = 0
tag (gcons gnil b) = 0
tag (gcons (gnum n) b) = n
tag (gcons (gcons a c) b) = 0

abbrev pub coded_place : Coded Place
coded_place = code_by (ℕ × ℕ) (coded× coded_ℕ coded_ℕ) (λ p. (p.line, p.col)) (λ p. record { line = p.0; col = p.1 }) (λ _. refl)

abbrev pub coded_name : Coded Name
coded_name = code_by (List ℕ × Place) (coded× (coded_list coded_ℕ) coded_place) (λ n. (n.text, n.at)) (λ p. record { text = p.0; at = p.1 }) (λ _. refl)

abbrev pub coded_names : Coded (List Name)
coded_names = coded_list coded_name

abbrev pub coded_params : Coded Params
coded_params = code_by (Place × List Name) (coded× coded_place coded_names) (λ n. (n.at, n.names)) (λ p. record { at = p.0; names = p.1 }) (λ _. refl)

abbrev pub relation_code : Relation → Gv
relation_code eq = gcons (gnum 0) gnil
relation_code ne = gcons (gnum 1) gnil
relation_code lt = gcons (gnum 2) gnil
relation_code le = gcons (gnum 3) gnil
relation_code gt = gcons (gnum 4) gnil
relation_code ge = gcons (gnum 5) gnil

pub relation_inj : (x y : Relation) → relation_code x ≡ relation_code y → x ≡ y
relation_inj eq eq p = refl
relation_inj ne ne p = refl
relation_inj lt lt p = refl
relation_inj le le p = refl
relation_inj gt gt p = refl
relation_inj ge ge p = refl
relation_inj x y p = let e : tag (relation_code x) ≡ tag (relation_code y) = ap tag p in absurd (omega arith)

abbrev pub coded_relation : Coded Relation
coded_relation = record { code = relation_code; inj = relation_inj }

abbrev pub quantifier_code : Quantifier → Gv
quantifier_code for_all = gcons (gnum 0) gnil
quantifier_code exists = gcons (gnum 1) gnil

pub quantifier_inj : (x y : Quantifier) → quantifier_code x ≡ quantifier_code y → x ≡ y
quantifier_inj for_all for_all p = refl
quantifier_inj exists exists p = refl
quantifier_inj x y p = let e : tag (quantifier_code x) ≡ tag (quantifier_code y) = ap tag p in absurd (omega arith)

abbrev pub coded_quantifier : Coded Quantifier
coded_quantifier = record { code = quantifier_code; inj = quantifier_inj }

abbrev mutual
  pub ty_code : Ty → Gv
  ty_code (integer a) = gcons (gnum 0) (coded_place.code a)
  ty_code (boolean a) = gcons (gnum 1) (coded_place.code a)
  ty_code (named a b) = gcons (gnum 2) (gcons (coded_place.code a) (coded_name.code b))
  ty_code (map_type a b c d) = gcons (gnum 3) (gcons (coded_place.code a) (gcons ((coded_option coded_params).code b) (gcons (tys_code c) (ty_code d))))

  pub tys_code : Tys → Gv
  tys_code no_tys = gcons (gnum 0) gnil
  tys_code (ty a b) = gcons (gnum 1) (gcons (ty_code a) (tys_code b))

mutual
  pub ty_inj : (x y : Ty) → ty_code x ≡ ty_code y → x ≡ y
  ty_inj (integer a) (integer k) p = cc (coded_place.inj a k (cc))
  ty_inj (boolean a) (boolean k) p = cc (coded_place.inj a k (cc))
  ty_inj (named a b) (named k l) p = cc (coded_place.inj a k (cc), coded_name.inj b l (cc))
  ty_inj (map_type a b c d) (map_type k l m n) p = cc (coded_place.inj a k (cc), (coded_option coded_params).inj b l (cc), tys_inj c m (cc), ty_inj d n (cc))
  ty_inj x y p = let e : tag (ty_code x) ≡ tag (ty_code y) = ap tag p in absurd (omega arith)

  pub tys_inj : (x y : Tys) → tys_code x ≡ tys_code y → x ≡ y
  tys_inj no_tys no_tys p = refl
  tys_inj (ty a b) (ty k l) p = cc (ty_inj a k (cc), tys_inj b l (cc))
  tys_inj x y p = let e : tag (tys_code x) ≡ tag (tys_code y) = ap tag p in absurd (omega arith)

abbrev pub coded_ty : Coded Ty
coded_ty = record { code = ty_code; inj = ty_inj }

abbrev pub coded_tys : Coded Tys
coded_tys = record { code = tys_code; inj = tys_inj }

abbrev mutual
  pub expr_code : Expr → Gv
  expr_code (expr a b) = gcons (gnum 0) (gcons (coded_place.code a) (node_code b))

  pub node_code : Node → Gv
  node_code (number a) = gcons (gnum 0) (coded_ℕ.code a)
  node_code (truth a) = gcons (gnum 1) (coded_bool.code a)
  node_code (variable a) = gcons (gnum 2) (coded_name.code a)
  node_code (apply a b) = gcons (gnum 3) (gcons (coded_name.code a) (exprs_code b))
  node_code (old a b) = gcons (gnum 4) (gcons (coded_place.code a) (expr_code b))
  node_code (choose a b c) = gcons (gnum 5) (gcons (expr_code a) (gcons (expr_code b) (expr_code c)))
  node_code (quantified a b c d e f) = gcons (gnum 6) (gcons (coded_quantifier.code a) (gcons (coded_place.code b) (gcons ((coded_option coded_params).code c) (gcons (groups_code d) (gcons (triggers_code e) (expr_code f))))))
  node_code (iffs a) = gcons (gnum 7) (exprs_code a)
  node_code (implies a) = gcons (gnum 8) (exprs_code a)
  node_code (ands a) = gcons (gnum 9) (exprs_code a)
  node_code (ors a) = gcons (gnum 10) (exprs_code a)
  node_code (related a b c) = gcons (gnum 11) (gcons (coded_relation.code a) (gcons (expr_code b) (expr_code c)))
  node_code (sums a b) = gcons (gnum 12) (gcons (expr_code a) (terms_code b))
  node_code (products a) = gcons (gnum 13) (exprs_code a)
  node_code (negation a) = gcons (gnum 14) (expr_code a)
  node_code (minus a) = gcons (gnum 15) (expr_code a)
  node_code (indexed a b) = gcons (gnum 16) (gcons (expr_code a) (indices_code b))

  pub exprs_code : Exprs → Gv
  exprs_code no_exprs = gcons (gnum 0) gnil
  exprs_code (item a b) = gcons (gnum 1) (gcons (expr_code a) (exprs_code b))

  pub terms_code : Terms → Gv
  terms_code no_terms = gcons (gnum 0) gnil
  terms_code (plus a b) = gcons (gnum 1) (gcons (expr_code a) (terms_code b))
  terms_code (less a b) = gcons (gnum 2) (gcons (expr_code a) (terms_code b))

  pub indices_code : Indices → Gv
  indices_code no_indices = gcons (gnum 0) gnil
  indices_code (at_index a b) = gcons (gnum 1) (gcons (expr_code a) (indices_code b))
  indices_code (update a b c) = gcons (gnum 2) (gcons (expr_code a) (gcons (expr_code b) (indices_code c)))

  pub triggers_code : Triggers → Gv
  triggers_code no_triggers = gcons (gnum 0) gnil
  triggers_code (trigger a b c) = gcons (gnum 1) (gcons (coded_place.code a) (gcons (exprs_code b) (triggers_code c)))

  pub groups_code : Groups → Gv
  groups_code no_groups = gcons (gnum 0) gnil
  groups_code (group a b c d) = gcons (gnum 1) (gcons (coded_names.code a) (gcons (coded_ty.code b) (gcons (clause_code c) (groups_code d))))

  pub clause_code : Clause → Gv
  clause_code no_clause = gcons (gnum 0) gnil
  clause_code (clause a b) = gcons (gnum 1) (gcons (coded_place.code a) (expr_code b))

mutual
  pub expr_inj : (x y : Expr) → expr_code x ≡ expr_code y → x ≡ y
  expr_inj (expr a b) (expr k l) p = cc (coded_place.inj a k (cc), node_inj b l (cc))

  pub node_inj : (x y : Node) → node_code x ≡ node_code y → x ≡ y
  node_inj (number a) (number k) p = cc (coded_ℕ.inj a k (cc))
  node_inj (truth a) (truth k) p = cc (coded_bool.inj a k (cc))
  node_inj (variable a) (variable k) p = cc (coded_name.inj a k (cc))
  node_inj (apply a b) (apply k l) p = cc (coded_name.inj a k (cc), exprs_inj b l (cc))
  node_inj (old a b) (old k l) p = cc (coded_place.inj a k (cc), expr_inj b l (cc))
  node_inj (choose a b c) (choose k l m) p = cc (expr_inj a k (cc), expr_inj b l (cc), expr_inj c m (cc))
  node_inj (quantified a b c d e f) (quantified k l m n o q) p = cc (coded_quantifier.inj a k (cc), coded_place.inj b l (cc), (coded_option coded_params).inj c m (cc), groups_inj d n (cc), triggers_inj e o (cc), expr_inj f q (cc))
  node_inj (iffs a) (iffs k) p = cc (exprs_inj a k (cc))
  node_inj (implies a) (implies k) p = cc (exprs_inj a k (cc))
  node_inj (ands a) (ands k) p = cc (exprs_inj a k (cc))
  node_inj (ors a) (ors k) p = cc (exprs_inj a k (cc))
  node_inj (related a b c) (related k l m) p = cc (coded_relation.inj a k (cc), expr_inj b l (cc), expr_inj c m (cc))
  node_inj (sums a b) (sums k l) p = cc (expr_inj a k (cc), terms_inj b l (cc))
  node_inj (products a) (products k) p = cc (exprs_inj a k (cc))
  node_inj (negation a) (negation k) p = cc (expr_inj a k (cc))
  node_inj (minus a) (minus k) p = cc (expr_inj a k (cc))
  node_inj (indexed a b) (indexed k l) p = cc (expr_inj a k (cc), indices_inj b l (cc))
  node_inj x y p = let e : tag (node_code x) ≡ tag (node_code y) = ap tag p in absurd (omega arith)

  pub exprs_inj : (x y : Exprs) → exprs_code x ≡ exprs_code y → x ≡ y
  exprs_inj no_exprs no_exprs p = refl
  exprs_inj (item a b) (item k l) p = cc (expr_inj a k (cc), exprs_inj b l (cc))
  exprs_inj x y p = let e : tag (exprs_code x) ≡ tag (exprs_code y) = ap tag p in absurd (omega arith)

  pub terms_inj : (x y : Terms) → terms_code x ≡ terms_code y → x ≡ y
  terms_inj no_terms no_terms p = refl
  terms_inj (plus a b) (plus k l) p = cc (expr_inj a k (cc), terms_inj b l (cc))
  terms_inj (less a b) (less k l) p = cc (expr_inj a k (cc), terms_inj b l (cc))
  terms_inj x y p = let e : tag (terms_code x) ≡ tag (terms_code y) = ap tag p in absurd (omega arith)

  pub indices_inj : (x y : Indices) → indices_code x ≡ indices_code y → x ≡ y
  indices_inj no_indices no_indices p = refl
  indices_inj (at_index a b) (at_index k l) p = cc (expr_inj a k (cc), indices_inj b l (cc))
  indices_inj (update a b c) (update k l m) p = cc (expr_inj a k (cc), expr_inj b l (cc), indices_inj c m (cc))
  indices_inj x y p = let e : tag (indices_code x) ≡ tag (indices_code y) = ap tag p in absurd (omega arith)

  pub triggers_inj : (x y : Triggers) → triggers_code x ≡ triggers_code y → x ≡ y
  triggers_inj no_triggers no_triggers p = refl
  triggers_inj (trigger a b c) (trigger k l m) p = cc (coded_place.inj a k (cc), exprs_inj b l (cc), triggers_inj c m (cc))
  triggers_inj x y p = let e : tag (triggers_code x) ≡ tag (triggers_code y) = ap tag p in absurd (omega arith)

  pub groups_inj : (x y : Groups) → groups_code x ≡ groups_code y → x ≡ y
  groups_inj no_groups no_groups p = refl
  groups_inj (group a b c d) (group k l m n) p = cc (coded_names.inj a k (cc), coded_ty.inj b l (cc), clause_inj c m (cc), groups_inj d n (cc))
  groups_inj x y p = let e : tag (groups_code x) ≡ tag (groups_code y) = ap tag p in absurd (omega arith)

  pub clause_inj : (x y : Clause) → clause_code x ≡ clause_code y → x ≡ y
  clause_inj no_clause no_clause p = refl
  clause_inj (clause a b) (clause k l) p = cc (coded_place.inj a k (cc), expr_inj b l (cc))
  clause_inj x y p = let e : tag (clause_code x) ≡ tag (clause_code y) = ap tag p in absurd (omega arith)

abbrev pub coded_expr : Coded Expr
coded_expr = record { code = expr_code; inj = expr_inj }

abbrev pub coded_node : Coded Node
coded_node = record { code = node_code; inj = node_inj }

abbrev pub coded_exprs : Coded Exprs
coded_exprs = record { code = exprs_code; inj = exprs_inj }

abbrev pub coded_terms : Coded Terms
coded_terms = record { code = terms_code; inj = terms_inj }

abbrev pub coded_indices : Coded Indices
coded_indices = record { code = indices_code; inj = indices_inj }

abbrev pub coded_triggers : Coded Triggers
coded_triggers = record { code = triggers_code; inj = triggers_inj }

abbrev pub coded_groups : Coded Groups
coded_groups = record { code = groups_code; inj = groups_inj }

abbrev pub coded_clause : Coded Clause
coded_clause = record { code = clause_code; inj = clause_inj }
