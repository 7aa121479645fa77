-- Attributes, triggers, groups of names and quantifiers that are read are the trees that the lexemes spell.
use Rattle.std.specs.Prelude.{◌≡◌, ℕ, zero, suc, cond, List, [], ◌∷◌, drop, codes, IsTrue, Ok, Option}
use Rattle.bv_base.specs.declared.place.Place.{Place}
use Rattle.bpl_lex.specs.Token.{id, text}
use Rattle.bpl_ast.specs.Place.{Name, Params, Ty}
use Rattle.bpl_ast.specs.Tree.{Quantifier, for_all, exists, Expr, expr, quantified, group, no_clause, clause, Triggers, trigger}
use Rattle.bpl_ast.specs.ExprView.{exprs_of}
use Rattle.bpl_grammar.specs.Lexeme.{Lexeme}
use Rattle.bpl_grammar.specs.Part.{Part, ◌⨟◌, maybe, rule, attr, arg}
use Rattle.bpl_grammar.specs.Grammar.{the, attrs, listed as listed_part}
use Rattle.bpl_grammar.specs.Spelling.{Takes, of_kind, of_text, both, left, right, absent, present, no_more, again, by}
use Rattle.bpl_grammar.specs.Terminal.{kind, fixed, is, sees}
use Rattle.bpl_grammar.specs.Reading.{Read, read_as, place_of, read_fixed, read_name, repeated, listed, read_ids}
use Rattle.bpl_grammar.specs.ReadTypes.{read_params, read_type}
use Rattle.bpl_grammar.specs.ReadExpressions.{Inner, whole, Together, groups_from, Patterns, triggers_from, kept, arg_with, attr_args, attr_inside, attr_with, attrs_with, trig_with, mark_with, marks_with, group_with, groups_with, bound_with, inside_with, e_with}
use Rattle.bpl_grammar.specs.Types.{Is, Ids, TPar, Type'}
use Rattle.bpl_grammar.specs.Expressions.{IsQuantifier, is_forall, is_exists, E, Es, Trigs, trigs_done, attribute, patterns, Group, Groups', groups_last, groups_more, plain as bare, guarded}
use Rattle.bpl_grammar.proofs.Found.{same_found, followed_ok, read_as_ok, token_ok, seen_ok, name_ok}
use Rattle.bpl_grammar.proofs.Agree.{in_curly, takes_e}
use Rattle.bpl_grammar.proofs.TypeTrees.{comma, placed, ids_ok, params_ok, type_ok}
use Rattle.bpl_grammar.proofs.MarkParts.{attr_body}
use Rattle.bpl_grammar.proofs.Items.{by_cond, Items, none, next, items_ok, run_tree, takes_listed}
use Rattle.bpl_grammar.proofs.AtomTrees.{Enclosed, plain, bound}

-- what stands in braces
braced : (p : Part) (t u : Lexeme) (ls mid us : List Lexeme) → Is "{" t → ls ≡ t ∷ mid → Takes p mid (u ∷ us) → Is "}" u → Takes (the "{" ⨟ (Part.inside p ⨟ the "}")) ls us
braced p t u ls mid us i e d j = rw e (in_curly i d j)

module _ (inner : Inner → List Lexeme → Read Expr) (whole_ok : (ls : List Lexeme) (x : Expr) (us : List Lexeme) → inner whole ls ≡ Ok (x, us) → E placed ls us x) where
  -- Arg = string | E
  arg_ok : (ls : List Lexeme) (x : Unit {0}) (us : List Lexeme) → arg_with inner ls ≡ Ok (x, us) → Takes (rule arg) ls us
  unfolding arg_with
  arg_ok ls x us h = by_cond (sees (kind text) ls) _ _ (x, us) h
      (λ s q. let k = seen_ok (kind text) ls s in
      let e = same_found tt x (drop 1 ls) us q in
      rw (← e.1) (shown k.token ls (drop 1 ls) k.is k.there))
      (λ no q. let r = read_as_ok _ (inner whole ls) x us q in
      by (right (takes_e placed (whole_ok ls r.value us r.reads))))
    where
      shown : (t : Lexeme) (ls mid : List Lexeme) → IsTrue (is (kind text) t) → ls ≡ t ∷ mid → Takes (rule arg) ls mid
      shown t ls mid i e = rw e (by (left (of_kind i)))

  -- ":" Id [Arg {"," Arg}]
  shown_body : (t u : Lexeme) (ls mid rest us : List Lexeme) → Is ":" t → ls ≡ t ∷ mid → IsTrue (is (kind id) u) → mid ≡ u ∷ rest → Takes (maybe (listed_part (rule arg))) rest us → Takes attr_body ls us
  shown_body t u ls mid rest us i e j f d = rw (e, f) (both (of_text i) (both (of_kind j) d))

  args_ok : (rest us : List Lexeme) (x : Unit {0}) → cond (sees (fixed (codes "}")) rest) (Ok (tt, rest)) (read_as (λ xs. tt) (listed (arg_with inner) rest)) ≡ Ok (x, us) → Takes (maybe (listed_part (rule arg))) rest us
  args_ok rest us x h = by_cond (sees (fixed (codes "}")) rest) _ _ (x, us) h
      (λ s q. let e = same_found tt x rest us q in
      rw (← e.1) absent)
      (λ no q. let r = read_as_ok _ (listed (arg_with inner) rest) x us q in
      present (takes_listed (rule arg) (arg_with inner) arg_ok rest us r.value r.reads))

  body_ok : (ls us : List Lexeme) (x : Unit {0}) → attr_args inner ls ≡ Ok (x, us) → Takes attr_body ls us
  unfolding attr_args
  body_ok ls us x h =
      let f = followed_ok (read_fixed (codes ":") ls) _ (x, us) h in
      let o = token_ok (fixed (codes ":")) ls f.rest f.reads in
      let g = followed_ok (read_name f.rest) _ (x, us) f.then in
      let k = name_ok f.rest g.first g.rest g.reads in
      shown_body o.token k.0.token ls f.rest g.rest us o.is o.there k.0.is k.0.there (args_ok g.rest us x g.then)

  inside_ok : (room : ℕ) (ls us : List Lexeme) (x : Unit {0}) → attr_inside room inner ls ≡ Ok (x, us) → Takes attr_body ls us
  inside_ok zero ls us x h = absurd (cc (h))
  inside_ok (suc room) ls us x h = body_ok ls us x h

module _ (room : ℕ) (inner : Inner → List Lexeme → Read Expr)
    (whole_ok : (ls : List Lexeme) (x : Expr) (us : List Lexeme) → inner whole ls ≡ Ok (x, us) → E placed ls us x)
    (es_ok : (ls us : List Lexeme) (xs : List Expr) → listed (inner whole) ls ≡ Ok (xs, us) → Es placed ls us (exprs_of xs))
    (e_ok : (ls : List Lexeme) (x : Expr) (us : List Lexeme) → e_with room inner ls ≡ Ok (x, us) → E placed ls us x) where
  -- Attr = "{" ":" Id [Arg {"," Arg}] "}"
  pub attr_ok : (ls us : List Lexeme) (x : Unit {0}) → attr_with room inner ls ≡ Ok (x, us) → Takes (rule attr) ls us
  unfolding attr_with
  attr_ok ls us x h =
      let f = followed_ok (read_fixed (codes "{") ls) _ (x, us) h in
      let o = token_ok (fixed (codes "{")) ls f.rest f.reads in
      let g = followed_ok (attr_inside room inner f.rest) _ (x, us) f.then in
      let c = token_ok (fixed (codes "}")) g.rest us g.then in
      let d = rw c.there at (inside_ok inner whole_ok room f.rest g.rest g.first g.reads) in
      by (braced attr_body o.token c.token ls f.rest us o.is o.there d c.is)

  -- {Attr}
  attrs_from : (ls us : List Lexeme) (xs : List (Unit {0})) → Items (sees (fixed (codes "{"))) (attr_with room inner) ls us xs → Takes attrs ls us
  attrs_from ls us [] none = no_more
  attrs_from ls us (x ∷ xs) (next {rest = rest} b h r) = again (attr_ok ls rest x h) (attrs_from rest us xs r)

  pub attrs_ok : (ls us : List Lexeme) (x : Unit {0}) → attrs_with room inner ls ≡ Ok (x, us) → Takes attrs ls us
  unfolding attrs_with
  attrs_ok ls us x h =
      let r = read_as_ok _ (repeated (sees (fixed (codes "{"))) (attr_with room inner) ls) x us h in
      attrs_from ls us r.value (items_ok (sees (fixed (codes "{"))) (attr_with room inner) ls us r.value r.reads)

  -- {Attr | Trig}
  shown_trig : (t u : Lexeme) (ls mid rest us : List Lexeme) (xs : List Expr) (rs : Triggers) → Is "{" t → ls ≡ t ∷ mid → Es placed mid (u ∷ rest) (exprs_of xs) → Is "}" u → Trigs placed rest us rs → Trigs placed ls us (trigger (place_of ls) (exprs_of xs) rs)
  shown_trig t u ls mid rest us xs rs i e d j r = rw e (patterns i d j r)

  one_trig : (ls rest us : List Lexeme) (m : Patterns) (rs : Triggers) → trig_with room inner ls ≡ Ok (m, rest) → Trigs placed rest us rs → Trigs placed ls us (trigger m.at (exprs_of m.patterns) rs)
  unfolding trig_with
  one_trig ls rest us m rs h r =
      let f = followed_ok (read_fixed (codes "{") ls) _ (m, rest) h in
      let o = token_ok (fixed (codes "{")) ls f.rest f.reads in
      let g = followed_ok (listed (inner whole) f.rest) _ (m, rest) f.then in
      let k = read_as_ok _ (read_fixed (codes "}") g.rest) m rest g.then in
      let c = token_ok (fixed (codes "}")) g.rest rest k.reads in
      let d = rw c.there at (es_ok f.rest g.rest g.first g.reads) in
      rw (← k.is) (shown_trig o.token c.token ls f.rest rest us g.first rs o.is o.there d c.is r)

  one_mark : (ls rest us : List Lexeme) (m : Option Patterns) (ms : List (Option Patterns)) → mark_with room inner ls ≡ Ok (m, rest) → Trigs placed rest us (triggers_from (kept ms)) → Trigs placed ls us (triggers_from (kept (m ∷ ms)))
  unfolding mark_with
  one_mark ls rest us m ms h r = by_cond (sees (fixed (codes ":")) (drop 1 ls)) _ _ (m, rest) h
      (λ s q. let k = read_as_ok _ (attr_with room inner ls) m rest q in
      rw (← k.is) (attribute (attr_ok ls rest k.value k.reads) r))
      (λ no q. let k = read_as_ok _ (trig_with room inner ls) m rest q in
      rw (← k.is) (one_trig ls rest us k.value (triggers_from (kept ms)) k.reads r))

  marks_from : (ls us : List Lexeme) (ms : List (Option Patterns)) → Items (sees (fixed (codes "{"))) (mark_with room inner) ls us ms → Trigs placed ls us (triggers_from (kept ms))
  marks_from ls us [] none = trigs_done
  marks_from ls us (m ∷ ms) (next {rest = rest} b h r) = one_mark ls rest us m ms h (marks_from rest us ms r)

  pub marks_ok : (ls us : List Lexeme) (ts : List Patterns) → marks_with room inner ls ≡ Ok (ts, us) → Trigs placed ls us (triggers_from ts)
  unfolding marks_with
  marks_ok ls us ts h =
      let r = read_as_ok _ (repeated (sees (fixed (codes "{"))) (mark_with room inner) ls) ts us h in
      rw (← r.is) (marks_from ls us r.value (items_ok (sees (fixed (codes "{"))) (mark_with room inner) ls us r.value r.reads))

  -- Group = Ids ":" Type ["where" E]
  abbrev pub AGroup : List Lexeme → List Lexeme → Together → Type 0
  AGroup ls us g = Group placed ls us (group g.names g.of g.condition)

  shown_guarded : (t u : Lexeme) (ls mid rest after us : List Lexeme) (ns : List Name) (x : Ty) (y : Expr) → Ids placed ls (t ∷ mid) ns → Is ":" t → Type' placed mid rest x → Is "where" u → rest ≡ u ∷ after → E placed after us y
      → AGroup ls us (record { names = ns; of = x; condition = clause (place_of rest) y })
  shown_guarded t u ls mid rest after us ns x y d i k j e f =
      let there = rw e at k in
      rw e (guarded d i there j f)

  group_from : (t : Lexeme) (ls mid rest us : List Lexeme) (ns : List Name) (x : Ty) (g : Together) → Ids placed ls (t ∷ mid) ns → Is ":" t → Type' placed mid rest x
      → cond (sees (fixed (codes "where")) rest) (read_as (λ y. record { names = ns; of = x; condition = clause (place_of rest) y }) (e_with room inner (drop 1 rest))) (Ok (record { names = ns; of = x; condition = no_clause }, rest)) ≡ Ok (g, us) → AGroup ls us g
  group_from t ls mid rest us ns x g d i k h = by_cond (sees (fixed (codes "where")) rest) _ _ (g, us) h
      (λ s q. let w = seen_ok (fixed (codes "where")) rest s in
      let r = read_as_ok _ (e_with room inner (drop 1 rest)) g us q in
      rw (← r.is) (shown_guarded t w.token ls mid rest (drop 1 rest) us ns x r.value d i k w.is w.there (e_ok (drop 1 rest) r.value us r.reads)))
      (λ no q. let s = same_found (record { names = ns; of = x; condition = no_clause }) g rest us q in
      rw (← s.0, ← s.1) (bare d i k))

  group_ok : (ls : List Lexeme) (g : Together) (us : List Lexeme) → group_with room inner ls ≡ Ok (g, us) → AGroup ls us g
  unfolding group_with
  group_ok ls g us h =
      let f = followed_ok (read_ids ls) _ (g, us) h in
      let i = followed_ok (read_fixed (codes ":") f.rest) _ (g, us) f.then in
      let c = token_ok (fixed (codes ":")) f.rest i.rest i.reads in
      let t = followed_ok (read_type (suc room) i.rest) _ (g, us) i.then in
      let d = rw c.there at (ids_ok ls f.rest f.first f.reads) in
      group_from c.token ls i.rest t.rest us f.first t.first g d c.is (type_ok (suc room) i.rest t.first t.rest t.reads) t.then

  -- Groups = Group {"," Group}
  pub groups_ok : (ls us : List Lexeme) (gs : List Together) → groups_with room inner ls ≡ Ok (gs, us) → Groups' placed ls us (groups_from gs)
  unfolding groups_with
  groups_ok = run_tree comma (group_with room inner) AGroup (λ ls us gs. Groups' placed ls us (groups_from gs)) group_ok
      (λ ls us g d. groups_last d) (λ ls us vs t g o gs d i r. groups_more d i r)

  -- [TPar] Groups "::" {Attr | Trig} E
  shown_bound : (u v : Lexeme) (q : Quantifier) (p : Place) (ls mid rest after body us : List Lexeme) (ps : Option Params) (gs : List Together) (ts : List Patterns) (x : Expr) → IsQuantifier u q → ls ≡ u ∷ mid
      → TPar placed mid rest ps → Groups' placed rest (v ∷ after) (groups_from gs) → Is "::" v → Trigs placed after body (triggers_from ts) → E placed body us x
      → Enclosed p ls us (expr p (quantified q p ps (groups_from gs) (triggers_from ts) x))
  shown_bound u v q p ls mid rest after body us ps gs ts x i e d g j m f = rw e (bound i d g j m f)

  bound_ok : (u : Lexeme) (q : Quantifier) (p : Place) (ls mid us : List Lexeme) (x : Expr) → IsQuantifier u q → ls ≡ u ∷ mid → bound_with room inner q p mid ≡ Ok (x, us) → Enclosed p ls us x
  unfolding bound_with
  bound_ok u q p ls mid us x i e h =
      let f = followed_ok (read_params mid) _ (x, us) h in
      let g = followed_ok (groups_with room inner f.rest) _ (x, us) f.then in
      let c = followed_ok (read_fixed (codes "::") g.rest) _ (x, us) g.then in
      let o = token_ok (fixed (codes "::")) g.rest c.rest c.reads in
      let m = followed_ok (marks_with room inner c.rest) _ (x, us) c.then in
      let r = read_as_ok _ (e_with room inner m.rest) x us m.then in
      let d = rw o.there at (groups_ok f.rest g.rest g.first g.reads) in
      rw (← r.is) (shown_bound u o.token q p ls mid f.rest c.rest m.rest us f.first g.first m.first r.value i e (params_ok mid f.rest f.first f.reads) d o.is (marks_ok c.rest m.rest m.first m.reads) (e_ok m.rest r.value us r.reads))

  pub enclosed_ok : (p : Place) (ls : List Lexeme) (x : Expr) (us : List Lexeme) → inside_with room inner p ls ≡ Ok (x, us) → Enclosed p ls us x
  unfolding inside_with
  enclosed_ok p ls x us h = by_cond (sees (fixed (codes "forall")) ls) _ _ (x, us) h
      (λ s q. let k = seen_ok (fixed (codes "forall")) ls s in
      bound_ok k.token for_all p ls (drop 1 ls) us x (is_forall k.is) k.there q)
      (λ no q. by_cond (sees (fixed (codes "exists")) ls) _ _ (x, us) q
      (λ s g. let k = seen_ok (fixed (codes "exists")) ls s in
      bound_ok k.token exists p ls (drop 1 ls) us x (is_exists k.is) k.there g)
      (λ no g. plain (e_ok ls x us g)))
