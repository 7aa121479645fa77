-- What tokens spell is made of identifiers, numbers below the bound, and lists that are not empty.
use Rattle.std.specs.Prelude.{◌≡◌, ◌<◌, ◌^◌, List, [], ◌∷◌, IsTrue, Option, Some}
use Rattle.std.proofs.Common.{refl, subst}
use Rattle.bv_base.specs.declared.place.Place.{Place}
use Rattle.bpl_lex.specs.Token.{Kind, id, number as number_kind, text, sign, word}
use Rattle.bpl_lex.specs.Shape.{kind_of}
use Rattle.bpl_ast.specs.Place.{Name, Params, Ty, integer, boolean, named, map_type, Tys, ty_from}
use Rattle.bpl_ast.specs.Tree.{Expr, expr, Node, iffs, implies, ands, ors, products, Exprs, no_exprs, item, Terms, Indices, no_indices, Triggers, Groups, no_groups, first_place, expr_from, run}
use Rattle.bpl_grammar.specs.Lexeme.{Lexeme, same_kind, is_kind}
use Rattle.bpl_grammar.specs.Part.{Part}
use Rattle.bpl_grammar.specs.Spelling.{Takes, of_kind, of_text, empty, both, left, right, absent, present, no_more, again, deeper, whole, by}
use Rattle.bpl_grammar.specs.Nesting.{value}
use Rattle.bpl_grammar.specs.Types as types
use Rattle.bpl_grammar.specs.Types.{Lexemes, Is, IsId, Ids, TPar, Type', Types}
use Rattle.bpl_grammar.specs.Expressions.{E, e_run, Iffs, iffs_last, iffs_more, Imp, imp_run, Chain, chain_last, chain_more, Log, by_and, by_or, Ands, ands_last, ands_more, Ors, ors_last, ors_more, Rel, rel_alone, rel_both, Sum, sum_alone, sum_more, Terms', last_plus, last_less, more_plus, more_less, Prod, prod_run, Factors, factors_last, factors_more, Un, un_post, opposite, Post, post_alone, post_more, Indices', indices_last, indices_more, Index, Es, es_last, es_more, Args, no_args, args, Atom, numeral, true_word, false_word, application, old_value, if_then_else, Trigs, trigs_done, attribute, patterns, Groups', groups_last, groups_more, Group, guarded}
use Rattle.canonical_text.specs.WrittenExpression.{AreNames, SomeNames, AreParams, some_types, IsWrittenType, AreWrittenTypes, some_exprs, two_exprs, some_terms, some_indices, some_groups, IsWritten, IsWrittenNode, AreWritten, AreWrittenTerms, AreWrittenIndices, AreWrittenTriggers, AreWrittenGroups}

-- lexemes of their kinds, in which no number is too wide

abbrev pub IsKnown : Lexeme → Type 0
IsKnown t = (kind_of t.spelling ≡ Some t.kind) × (IsTrue (is_kind number_kind t) → value t.spelling < 2 ^ 127)

abbrev pub AreKnown : Lexemes → Type 0
AreKnown [] = Unit {0}
AreKnown (t ∷ ts) = IsKnown t × AreKnown ts

pub takes_known : {p : Part} {ts us : List Lexeme} → Takes p ts us → AreKnown ts → AreKnown us
takes_known (of_kind h) k = k.1
takes_known (of_text h) k = k.1
takes_known empty k = k
takes_known (both d e) k = takes_known e (takes_known d k)
takes_known (left d) k = takes_known d k
takes_known (right d) k = takes_known d k
takes_known absent k = k
takes_known (present d) k = takes_known d k
takes_known no_more k = k
takes_known (again d e) k = takes_known e (takes_known d k)
takes_known (deeper d) k = takes_known d k
takes_known (whole d) k = takes_known d k
takes_known (by d) k = takes_known d k

kind_is : (k : Kind) → IsTrue (same_kind id k) → k ≡ id
kind_is id h = refl
kind_is number_kind h = absurd (cc)
kind_is text h = absurd (cc)
kind_is sign h = absurd (cc)
kind_is word h = absurd (cc)

pub name_known : (t : Lexeme) → IsId t → IsKnown t → kind_of t.spelling ≡ Some id
name_known t h k = subst (λ (j : Kind). kind_of t.spelling ≡ Some j) (kind_is t.kind h) k.0

from_written : (p : Place) (x : Ty) → IsWrittenType x → IsWrittenType (ty_from p x)
from_written p (integer q) w = w
from_written p (boolean q) w = w
from_written p (named q n) w = w
from_written p (map_type q ps ds r) w = w

pub expr_from_written : (p : Place) (x : Expr) → IsWritten x → IsWritten (expr_from p x)
expr_from_written p (expr q n) w = w

run_some : (x y : Expr) → ◌≡◌ {A = Option Expr} (Some x) (Some y) → x ≡ y
run_some x y h = cc

-- a part alone, or a node of two parts or more
run_written : (f : Exprs → Node) → ((xs : Exprs) → IsTrue (two_exprs xs) → AreWritten xs → IsWrittenNode (f xs)) → (xs : Exprs) (x : Expr) → run f xs ≡ Some x → AreWritten xs → IsWritten x
run_written f g no_exprs x h w = absurd (cc)
run_written f g (item y no_exprs) x h w = subst IsWritten (run_some y x h) w.0
run_written f g (item y (item z ys)) x h w = subst IsWritten (run_some (expr (first_place y) (f (item y (item z ys)))) x h) (g (item y (item z ys)) refl w)

module _ (place : Lexeme → Place) where
  pub ids_written : {ts us : Lexemes} {ns : List Name} → Ids place ts us ns → AreKnown ts → SomeNames ns × AreKnown us
  ids_written (types.one {t = t} h) k = ((name_known t h k.0, tt), k.1)
  ids_written (types.more {t = t} h c d) k =
      let r = ids_written d k.1.1 in
      ((name_known t h k.0, all_names _ r.0), r.1)
    where
      all_names : (ns : List Name) → SomeNames ns → AreNames ns
      all_names [] w = tt
      all_names (n ∷ ns) w = w

  pub params_written : {ts us : Lexemes} {ps : Option Params} → TPar place ts us ps → AreKnown ts → AreParams ps × AreKnown us
  params_written types.absent k = (tt, k)
  params_written (types.present h d c) k =
      let r = ids_written d k.1 in
      (r.0, r.1.1)

  mutual
    pub type_written : {ts us : Lexemes} {x : Ty} → Type' place ts us x → AreKnown ts → IsWrittenType x × AreKnown us
    type_written (types.int h) k = (tt, k.1)
    type_written (types.bool h) k = (tt, k.1)
    type_written (Type'.of_name {t = t} h) k = (name_known t h k.0, k.1)
    type_written (Type'.round {t = t} {x = x} h d c) k =
        let r = type_written d k.1 in
        (from_written (place t) x r.0, r.1.1)
    type_written (types.map p h d c e) k =
        let a = params_written p k in
        let b = types_written d a.1.1 in
        let f = type_written e b.2.1 in
        ((a.0, b.0, b.1, f.0), f.1)

    types_written : {ts us : Lexemes} {xs : Tys} → Types place ts us xs → AreKnown ts → IsTrue (some_types xs) × AreWrittenTypes xs × AreKnown us
    types_written (Types.one d) k =
        let r = type_written d k in
        (refl, (r.0, tt), r.1)
    types_written (Types.more d c e) k =
        let r = type_written d k in
        let q = types_written e r.1.1 in
        (refl, (r.0, q.1), q.2)

  abbrev IndexWritten : (Indices → Indices) → Type 0
  IndexWritten f = (is : Indices) → AreWrittenIndices is → AreWrittenIndices (f is) × IsTrue (some_indices (f is))

  abbrev GroupWritten : (Groups → Groups) → Type 0
  GroupWritten f = (gs : Groups) → AreWrittenGroups gs → AreWrittenGroups (f gs) × IsTrue (some_groups (f gs))

  mutual
    pub e_written : {ts us : Lexemes} {x : Expr} → E place ts us x → AreKnown ts → IsWritten x × AreKnown us
    e_written (e_run {xs = xs} {x = x} d q) k =
        let r = iffs_written d k in
        (run_written iffs (λ zs t w. (t, w)) xs x q r.0, r.1)

    iffs_written : {ts us : Lexemes} {xs : Exprs} → Iffs place ts us xs → AreKnown ts → AreWritten xs × AreKnown us
    iffs_written (iffs_last d) k =
        let r = imp_written d k in
        ((r.0, tt), r.1)
    iffs_written (iffs_more d s e) k =
        let r = imp_written d k in
        let q = iffs_written e r.1.1 in
        ((r.0, q.0), q.1)

    imp_written : {ts us : Lexemes} {x : Expr} → Imp place ts us x → AreKnown ts → IsWritten x × AreKnown us
    imp_written (imp_run {xs = xs} {x = x} d q) k =
        let r = chain_written d k in
        (run_written implies (λ zs t w. (t, w)) xs x q r.0, r.1)

    chain_written : {ts us : Lexemes} {xs : Exprs} → Chain place ts us xs → AreKnown ts → AreWritten xs × AreKnown us
    chain_written (chain_last d) k =
        let r = log_written d k in
        ((r.0, tt), r.1)
    chain_written (chain_more d s e) k =
        let r = log_written d k in
        let q = chain_written e r.1.1 in
        ((r.0, q.0), q.1)

    log_written : {ts us : Lexemes} {x : Expr} → Log place ts us x → AreKnown ts → IsWritten x × AreKnown us
    log_written (by_and {xs = xs} {x = x} d q) k =
        let r = ands_written d k in
        (run_written ands (λ zs t w. (t, w)) xs x q r.0, r.1)
    log_written (by_or {xs = xs} {x = x} d q) k =
        let r = ors_written d k in
        (run_written ors (λ zs t w. (t, w)) xs x q r.0, r.1)

    ands_written : {ts us : Lexemes} {xs : Exprs} → Ands place ts us xs → AreKnown ts → AreWritten xs × AreKnown us
    ands_written (ands_last d) k =
        let r = rel_written d k in
        ((r.0, tt), r.1)
    ands_written (ands_more d s e) k =
        let r = rel_written d k in
        let q = ands_written e r.1.1 in
        ((r.0, q.0), q.1)

    ors_written : {ts us : Lexemes} {xs : Exprs} → Ors place ts us xs → AreKnown ts → AreWritten xs × AreKnown us
    ors_written (ors_last d) k =
        let r = rel_written d k in
        ((r.0, tt), r.1)
    ors_written (ors_more d s e) k =
        let r = rel_written d k in
        let q = ors_written e r.1.1 in
        ((r.0, q.0), q.1)

    rel_written : {ts us : Lexemes} {x : Expr} → Rel place ts us x → AreKnown ts → IsWritten x × AreKnown us
    rel_written (rel_alone d) k = sum_written d k
    rel_written (rel_both d s e) k =
        let r = sum_written d k in
        let q = sum_written e r.1.1 in
        ((r.0, q.0), q.1)

    sum_written : {ts us : Lexemes} {x : Expr} → Sum place ts us x → AreKnown ts → IsWritten x × AreKnown us
    sum_written (sum_alone d) k = prod_written d k
    sum_written (sum_more d e) k =
        let r = prod_written d k in
        let q = terms_written e r.1 in
        ((r.0, q.0, q.1), q.2)

    terms_written : {ts us : Lexemes} {xs : Terms} → Terms' place ts us xs → AreKnown ts → IsTrue (some_terms xs) × AreWrittenTerms xs × AreKnown us
    terms_written (last_plus s d) k =
        let r = prod_written d k.1 in
        (refl, (r.0, tt), r.1)
    terms_written (last_less s d) k =
        let r = prod_written d k.1 in
        (refl, (r.0, tt), r.1)
    terms_written (more_plus s d e) k =
        let r = prod_written d k.1 in
        let q = terms_written e r.1 in
        (refl, (r.0, q.1), q.2)
    terms_written (more_less s d e) k =
        let r = prod_written d k.1 in
        let q = terms_written e r.1 in
        (refl, (r.0, q.1), q.2)

    prod_written : {ts us : Lexemes} {x : Expr} → Prod place ts us x → AreKnown ts → IsWritten x × AreKnown us
    prod_written (prod_run {xs = xs} {x = x} d q) k =
        let r = factors_written d k in
        (run_written products (λ zs t w. (t, w)) xs x q r.0, r.1)

    factors_written : {ts us : Lexemes} {xs : Exprs} → Factors place ts us xs → AreKnown ts → AreWritten xs × AreKnown us
    factors_written (factors_last d) k =
        let r = un_written d k in
        ((r.0, tt), r.1)
    factors_written (factors_more d s e) k =
        let r = un_written d k in
        let q = factors_written e r.1.1 in
        ((r.0, q.0), q.1)

    un_written : {ts us : Lexemes} {x : Expr} → Un place ts us x → AreKnown ts → IsWritten x × AreKnown us
    un_written (Un.not h d) k = un_written d k.1
    un_written (opposite h d) k = un_written d k.1
    un_written (un_post d) k = post_written d k

    post_written : {ts us : Lexemes} {x : Expr} → Post place ts us x → AreKnown ts → IsWritten x × AreKnown us
    post_written (post_alone d) k = atom_written d k
    post_written (post_more d e) k =
        let r = atom_written d k in
        let q = indices_written e r.1 in
        ((r.0, q.0, q.1), q.2)

    indices_written : {ts us : Lexemes} {is : Indices} → Indices' place ts us is → AreKnown ts → IsTrue (some_indices is) × AreWrittenIndices is × AreKnown us
    indices_written (indices_last d) k =
        let r = index_written d k in
        let q = r.0 no_indices tt in
        (q.1, q.0, r.1)
    indices_written (indices_more {xs = is} d e) k =
        let r = index_written d k in
        let q = indices_written e r.1 in
        let s = r.0 is q.1 in
        (s.1, s.0, q.2)

    index_written : {ts us : Lexemes} {f : Indices → Indices} → Index place ts us f → AreKnown ts → IndexWritten f × AreKnown us
    index_written (Index.read h d c) k =
        let r = e_written d k.1 in
        ((λ is w. ((r.0, w), refl)), r.1.1)
    index_written (Index.write h d s e c) k =
        let r = e_written d k.1 in
        let q = e_written e r.1.1 in
        ((λ is w. ((r.0, q.0, w), refl)), q.1.1)

    pub es_written : {ts us : Lexemes} {xs : Exprs} → Es place ts us xs → AreKnown ts → IsTrue (some_exprs xs) × AreWritten xs × AreKnown us
    es_written (es_last d) k =
        let r = e_written d k in
        (refl, (r.0, tt), r.1)
    es_written (es_more d s e) k =
        let r = e_written d k in
        let q = es_written e r.1.1 in
        (refl, (r.0, q.1), q.2)

    pub args_written : {ts us : Lexemes} {xs : Exprs} → Args place ts us xs → AreKnown ts → AreWritten xs × AreKnown us
    args_written (no_args h c) k = (tt, k.1.1)
    args_written (args h d c) k =
        let r = es_written d k.1 in
        (r.1, r.2.1)

    atom_written : {ts us : Lexemes} {x : Expr} → Atom place ts us x → AreKnown ts → IsWritten x × AreKnown us
    atom_written (numeral h) k = (k.0.1 h, k.1)
    atom_written (true_word h) k = (tt, k.1)
    atom_written (false_word h) k = (tt, k.1)
    atom_written (Atom.of_name {t = t} h) k = (name_known t h k.0, k.1)
    atom_written (application {t = t} h d) k =
        let r = args_written d k.1 in
        ((name_known t h k.0, r.0), r.1)
    atom_written (old_value h o d c) k =
        let r = e_written d k.1.1 in
        (r.0, r.1.1)
    atom_written (Atom.round {t = t} {x = x} h d c) k =
        let r = e_written d k.1 in
        (expr_from_written (place t) x r.0, r.1.1)
    atom_written (if_then_else h d s e z f l) k =
        let r = e_written d k.1 in
        let q = e_written e r.1.1 in
        let p = e_written f q.1.1 in
        ((r.0, q.0, p.0), p.1)
    atom_written (Atom.quantifier h s p d c e f z) k =
        let a = params_written p k.1.1 in
        let b = groups_written d a.1 in
        let r = trigs_written e b.2.1 in
        let q = e_written f r.1 in
        ((a.0, b.0, b.1, r.0, q.0), q.1.1)

    trigs_written : {ts us : Lexemes} {rs : Triggers} → Trigs place ts us rs → AreKnown ts → AreWrittenTriggers rs × AreKnown us
    trigs_written trigs_done k = (tt, k)
    trigs_written (attribute d e) k = trigs_written e (takes_known d k)
    trigs_written (patterns h d c e) k =
        let r = es_written d k.1 in
        let q = trigs_written e r.2.1 in
        ((r.0, r.1, q.0), q.1)

    pub groups_written : {ts us : Lexemes} {gs : Groups} → Groups' place ts us gs → AreKnown ts → IsTrue (some_groups gs) × AreWrittenGroups gs × AreKnown us
    groups_written (groups_last d) k =
        let r = group_written d k in
        let q = r.0 no_groups tt in
        (q.1, q.0, r.1)
    groups_written (groups_more {gs = gs} d s e) k =
        let r = group_written d k in
        let q = groups_written e r.1.1 in
        let p = r.0 gs q.1 in
        (p.1, p.0, q.2)

    group_written : {ts us : Lexemes} {f : Groups → Groups} → Group place ts us f → AreKnown ts → GroupWritten f × AreKnown us
    group_written (Group.plain d c e) k =
        let a = ids_written d k in
        let b = type_written e a.1.1 in
        ((λ gs w. ((a.0, b.0, tt, w), refl)), b.1)
    group_written (guarded d c e s f) k =
        let a = ids_written d k in
        let b = type_written e a.1.1 in
        let r = e_written f b.1.1 in
        ((λ gs w. ((a.0, b.0, r.0, w), refl)), r.1)
