-- What spells a tree of types and expressions spells the production in the grammar.
use Rattle.std.specs.Prelude.{List, ◌∷◌, Option}
use Rattle.bpl_lex.specs.Token.{id}
use Rattle.bv_base.specs.declared.place.Place.{Place}
use Rattle.bpl_ast.specs.Place.{Name, Params, Ty, Tys}
use Rattle.bpl_ast.specs.Tree.{Relation, Quantifier, Expr, Exprs, Terms, Indices, Triggers, Groups}
use Rattle.bpl_grammar.specs.Lexeme.{Lexeme}
use Rattle.bpl_grammar.specs.Part.{Part, some, ◌⨟◌, ◌∣◌, maybe, many, rule, type, tpar, attr, group, e, imp, log, rel, sum, prod, un, post, es, atom, trig}
use Rattle.bpl_grammar.specs.Grammar.{the, listed, round, square, curly}
use Rattle.bpl_grammar.specs.Spelling.{Takes, of_kind, of_text, both, left, right, absent, present, no_more, again, deeper, whole, by}
use Rattle.bpl_grammar.specs.Types.{Lexemes, Is, Ids, TPar, Type', Types, one, more, int, bool, of_name, map}
use Rattle.bpl_grammar.specs.Types as types
use Rattle.bpl_grammar.specs.Expressions.{IsRelation, is_eq, is_ne, is_lt, is_le, is_gt, is_ge, IsQuantifier, is_forall, is_exists, E, Iffs, Imp, Chain, Log, Ands, Ors, Rel, Sum, Terms', Prod, Factors, Un, Post, Indices', Index, Es, Args, Atom, Trigs, Groups', Group, e_run, iffs_last, iffs_more, imp_run, chain_last, chain_more, by_and, by_or, ands_last, ands_more, ors_last, ors_more, rel_alone, rel_both, sum_alone, sum_more, last_plus, last_less, more_plus, more_less, prod_run, factors_last, factors_more, not, opposite, un_post, post_alone, post_more, indices_last, indices_more, read, write, es_last, es_more, no_args, args, numeral, true_word, false_word, application, old_value, if_then_else, quantifier, trigs_done, attribute, patterns, groups_last, groups_more, plain, guarded}

-- one more item of a list, and one more operand of a run
pub list_more : {p : Part} {t : Lexeme} {ts us vs : Lexemes} → Takes p ts (t ∷ us) → Is "," t → Takes (listed p) us vs → Takes (listed p) ts vs
list_more d c (both x rest) = both d (again (both (of_text c) x) rest)

run_more : {p q : Part} {ts us vs ws : Lexemes} → Takes p ts us → Takes q us vs → Takes (p ⨟ many (q ⨟ p)) vs ws → Takes (p ⨟ many (q ⨟ p)) ts ws
run_more d s (both x rest) = both d (again (both s x) rest)

pub in_round : {p : Part} {t u : Lexeme} {ts us : Lexemes} → Is "(" t → Takes p ts (u ∷ us) → Is ")" u → Takes (round p) (t ∷ ts) us
in_round h d k = both (of_text h) (both (deeper d) (of_text k))

pub in_square : {p : Part} {t u : Lexeme} {ts us : Lexemes} → Is "[" t → Takes p ts (u ∷ us) → Is "]" u → Takes (square p) (t ∷ ts) us
in_square h d k = both (of_text h) (both (deeper d) (of_text k))

pub in_curly : {p : Part} {t u : Lexeme} {ts us : Lexemes} → Is "{" t → Takes p ts (u ∷ us) → Is "}" u → Takes (curly p) (t ∷ ts) us
in_curly h d k = both (of_text h) (both (deeper d) (of_text k))

a_relation : {t : Lexeme} {ts : Lexemes} {o : Relation} → IsRelation t o → Takes (the "==" ∣ the "!=" ∣ the "<" ∣ the "<=" ∣ the ">" ∣ the ">=") (t ∷ ts) ts
a_relation (is_eq h) = left (of_text h)
a_relation (is_ne h) = right (left (of_text h))
a_relation (is_lt h) = right (right (left (of_text h)))
a_relation (is_le h) = right (right (right (left (of_text h))))
a_relation (is_gt h) = right (right (right (right (left (of_text h)))))
a_relation (is_ge h) = right (right (right (right (right (of_text h)))))

a_quantifier : {t : Lexeme} {ts : Lexemes} {q : Quantifier} → IsQuantifier t q → Takes (the "forall" ∣ the "exists") (t ∷ ts) ts
a_quantifier (is_forall h) = left (of_text h)
a_quantifier (is_exists h) = right (of_text h)

and_chain : {ts us : Lexemes} → Takes (rule rel ⨟ many (the "&&" ⨟ rule rel)) ts us → Takes (rule log) ts us
and_chain (both d rest) = by (both d (left rest))

or_chain : {ts us : Lexemes} → Takes (rule rel ⨟ many (the "||" ⨟ rule rel)) ts us → Takes (rule log) ts us
or_chain (both d rest) = by (both d (right rest))

module _ (place : Lexeme → Place) where
  pub ids_listed : {ts us : Lexemes} {ns : List Name} → Ids place ts us ns → Takes (listed (some id)) ts us
  ids_listed (one h) = both (of_kind h) no_more
  ids_listed (more h c d) = list_more (of_kind h) c (ids_listed d)

  pub takes_tpar : {ts us : Lexemes} {ps : Option Params} → TPar place ts us ps → Takes (maybe (rule tpar)) ts us
  takes_tpar types.absent = absent
  takes_tpar (types.present h d k) = present (by (both (of_text h) (both (by (ids_listed d)) (of_text k))))

  mutual
    pub takes_type : {ts us : Lexemes} {x : Ty} → Type' place ts us x → Takes (rule type) ts us
    takes_type (int h) = by (left (of_text h))
    takes_type (bool h) = by (right (left (of_text h)))
    takes_type (Type'.of_name h) = by (right (right (left (of_kind h))))
    takes_type (Type'.round h d k) = by (right (right (right (left (in_round h (takes_type d) k)))))
    takes_type (map p h d k r) = by (right (right (right (right (both (takes_tpar p) (both (in_square h (types_listed d) k) (deeper (takes_type r))))))))

    types_listed : {ts us : Lexemes} {xs : Tys} → Types place ts us xs → Takes (listed (rule type)) ts us
    types_listed (Types.one d) = both (takes_type d) no_more
    types_listed (Types.more d c rest) = list_more (takes_type d) c (types_listed rest)

  mutual
    pub takes_e : {ts us : Lexemes} {x : Expr} → E place ts us x → Takes (rule e) ts us
    takes_e (e_run d q) = by (iffs_run d)

    iffs_run : {ts us : Lexemes} {xs : Exprs} → Iffs place ts us xs → Takes (rule imp ⨟ many (the "<==>" ⨟ rule imp)) ts us
    iffs_run (iffs_last d) = both (takes_imp d) no_more
    iffs_run (iffs_more d s rest) = run_more (takes_imp d) (of_text s) (iffs_run rest)

    pub takes_imp : {ts us : Lexemes} {x : Expr} → Imp place ts us x → Takes (rule imp) ts us
    takes_imp (imp_run d q) = by (chain_run d)

    chain_run : {ts us : Lexemes} {xs : Exprs} → Chain place ts us xs → Takes (rule log ⨟ maybe (the "==>" ⨟ rule imp)) ts us
    chain_run (chain_last d) = both (takes_log d) absent
    chain_run (chain_more d s rest) = both (takes_log d) (present (both (of_text s) (by (chain_run rest))))

    pub takes_log : {ts us : Lexemes} {x : Expr} → Log place ts us x → Takes (rule log) ts us
    takes_log (by_and d q) = and_chain (ands_run d)
    takes_log (by_or d q) = or_chain (ors_run d)

    ands_run : {ts us : Lexemes} {xs : Exprs} → Ands place ts us xs → Takes (rule rel ⨟ many (the "&&" ⨟ rule rel)) ts us
    ands_run (ands_last d) = both (takes_rel d) no_more
    ands_run (ands_more d s rest) = run_more (takes_rel d) (of_text s) (ands_run rest)

    ors_run : {ts us : Lexemes} {xs : Exprs} → Ors place ts us xs → Takes (rule rel ⨟ many (the "||" ⨟ rule rel)) ts us
    ors_run (ors_last d) = both (takes_rel d) no_more
    ors_run (ors_more d s rest) = run_more (takes_rel d) (of_text s) (ors_run rest)

    pub takes_rel : {ts us : Lexemes} {x : Expr} → Rel place ts us x → Takes (rule rel) ts us
    takes_rel (rel_alone d) = by (both (takes_sum d) absent)
    takes_rel (rel_both d s k) = by (both (takes_sum d) (present (both (a_relation s) (takes_sum k))))

    pub takes_sum : {ts us : Lexemes} {x : Expr} → Sum place ts us x → Takes (rule sum) ts us
    takes_sum (sum_alone d) = by (both (takes_prod d) no_more)
    takes_sum (sum_more d rest) = by (both (takes_prod d) (terms_run rest))

    terms_run : {ts us : Lexemes} {xs : Terms} → Terms' place ts us xs → Takes (many ((the "+" ∣ the "-") ⨟ rule prod)) ts us
    terms_run (last_plus s d) = again (both (left (of_text s)) (takes_prod d)) no_more
    terms_run (last_less s d) = again (both (right (of_text s)) (takes_prod d)) no_more
    terms_run (more_plus s d rest) = again (both (left (of_text s)) (takes_prod d)) (terms_run rest)
    terms_run (more_less s d rest) = again (both (right (of_text s)) (takes_prod d)) (terms_run rest)

    pub takes_prod : {ts us : Lexemes} {x : Expr} → Prod place ts us x → Takes (rule prod) ts us
    takes_prod (prod_run d q) = by (factors_run d)

    factors_run : {ts us : Lexemes} {xs : Exprs} → Factors place ts us xs → Takes (rule un ⨟ many (the "*" ⨟ rule un)) ts us
    factors_run (factors_last d) = both (takes_un d) no_more
    factors_run (factors_more d s rest) = run_more (takes_un d) (of_text s) (factors_run rest)

    pub takes_un : {ts us : Lexemes} {x : Expr} → Un place ts us x → Takes (rule un) ts us
    takes_un (not h d) = by (left (both (left (of_text h)) (deeper (takes_un d))))
    takes_un (opposite h d) = by (left (both (right (of_text h)) (deeper (takes_un d))))
    takes_un (un_post d) = by (right (takes_post d))

    pub takes_post : {ts us : Lexemes} {x : Expr} → Post place ts us x → Takes (rule post) ts us
    takes_post (post_alone d) = by (both (takes_atom d) no_more)
    takes_post (post_more d rest) = by (both (takes_atom d) (indices_run rest))

    pub indices_run : {ts us : Lexemes} {xs : Indices} → Indices' place ts us xs → Takes (many (square (rule e ⨟ maybe (the ":=" ⨟ rule e)))) ts us
    indices_run (indices_last d) = again (index_one d) no_more
    indices_run (indices_more d rest) = again (index_one d) (indices_run rest)

    pub index_one : {ts us : Lexemes} {f : Indices → Indices} → Index place ts us f → Takes (square (rule e ⨟ maybe (the ":=" ⨟ rule e))) ts us
    index_one (read h d k) = in_square h (both (takes_e d) absent) k
    index_one (write h d s y k) = in_square h (both (takes_e d) (present (both (of_text s) (takes_e y)))) k

    pub es_listed : {ts us : Lexemes} {xs : Exprs} → Es place ts us xs → Takes (listed (rule e)) ts us
    es_listed (es_last d) = both (takes_e d) no_more
    es_listed (es_more d c rest) = list_more (takes_e d) c (es_listed rest)

    pub takes_args : {ts us : Lexemes} {xs : Exprs} → Args place ts us xs → Takes (round (maybe (rule es))) ts us
    takes_args (no_args h k) = in_round h absent k
    takes_args (args h d k) = in_round h (present (by (es_listed d))) k

    pub takes_atom : {ts us : Lexemes} {x : Expr} → Atom place ts us x → Takes (rule atom) ts us
    takes_atom (numeral h) = by (left (of_kind h))
    takes_atom (true_word h) = by (right (left (of_text h)))
    takes_atom (false_word h) = by (right (right (left (of_text h))))
    takes_atom (Atom.of_name h) = by (right (right (right (left (of_kind h)))))
    takes_atom (application h d) = by (right (right (right (right (left (both (of_kind h) (takes_args d)))))))
    takes_atom (old_value h k d j) = by (right (right (right (right (right (left (both (of_text h) (in_round k (takes_e d) j))))))))
    takes_atom (Atom.round h d k) = by (right (right (right (right (right (right (left (in_round h (takes_e d) k))))))))
    takes_atom (if_then_else h c k x j y l) = by (right (right (right (right (right (right (right (left
        (both (of_text h) (deeper (both (takes_e c) (both (of_text k) (both (takes_e x) (both (of_text j) (whole (takes_e y))))))))))))))))
    takes_atom (quantifier h q p g s r x k) = by (right (right (right (right (right (right (right (right
        (in_round h (both (a_quantifier q) (both (takes_tpar p) (both (by (groups_listed g)) (both (of_text s) (both (trigs_run r) (takes_e x)))))) k)))))))))

    pub trigs_run : {ts us : Lexemes} {rs : Triggers} → Trigs place ts us rs → Takes (many (rule attr ∣ rule trig)) ts us
    trigs_run trigs_done = no_more
    trigs_run (attribute d rest) = again (left d) (trigs_run rest)
    trigs_run (patterns h d k rest) = again (right (by (in_curly h (by (es_listed d)) k))) (trigs_run rest)

    pub groups_listed : {ts us : Lexemes} {gs : Groups} → Groups' place ts us gs → Takes (listed (rule group)) ts us
    groups_listed (groups_last d) = both (group_one d) no_more
    groups_listed (groups_more d c rest) = list_more (group_one d) c (groups_listed rest)

    pub group_one : {ts us : Lexemes} {f : Groups → Groups} → Group place ts us f → Takes (rule group) ts us
    group_one (plain d h x) = by (both (by (ids_listed d)) (both (of_text h) (both (takes_type x) absent)))
    group_one (guarded d h x k y) = by (both (by (ids_listed d)) (both (of_text h) (both (takes_type x) (present (both (of_text k) (takes_e y))))))
