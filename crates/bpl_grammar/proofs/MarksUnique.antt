-- Triggers, groups of names and quantifiers that lexemes spell are those that are read.
use Rattle.std.specs.Prelude.{◌≡◌, ℕ, suc, false, cond, List, [], ◌∷◌, drop, length, codes, IsTrue, Ok, Option}
use Rattle.std.proofs.Common.{refl, inl, inr, ap, sym, ◌∙◌, arith}
use Rattle.bv_base.specs.declared.place.Place.{Place}
use Rattle.bpl_ast.specs.Place.{Name, Params, Ty}
use Rattle.bpl_ast.specs.Tree.{Quantifier, Expr, expr, quantified, Groups, no_groups, group, no_clause, clause, Triggers, trigger, Exprs}
use Rattle.bpl_ast.specs.ExprView.{exprs_of}
use Rattle.bpl_grammar.specs.Lexeme.{Lexeme}
use Rattle.bpl_grammar.specs.Part.{rule, attr, group as one_group, e as expression}
use Rattle.bpl_grammar.specs.Grammar.{listed as listed_part}
use Rattle.bpl_grammar.specs.Spelling.{Takes, of_text, both, deeper, by}
use Rattle.bpl_grammar.specs.Judge.{Narrow}
use Rattle.bpl_grammar.specs.Terminal.{Terminal, fixed, sees}
use Rattle.bpl_grammar.specs.Reading.{Read, read_as, place_of, read_fixed, repeated, listed, read_ids}
use Rattle.bpl_grammar.specs.ReadTypes.{read_params, read_type}
use Rattle.bpl_grammar.specs.ReadExpressions.{Inner, whole, Together, groups_from, Patterns, triggers_from, kept, attr_with, trig_with, mark_with, marks_with, group_with, groups_with, bound_with, inside_with, e_with}
use Rattle.bpl_grammar.specs.Types.{Is, Ids, TPar, Type'}
use Rattle.bpl_grammar.specs.Expressions.{IsQuantifier, is_forall, is_exists, E, Es, Trigs, trigs_done, attribute, patterns, Group, Groups', groups_last, groups_more, plain as bare, guarded}
use Rattle.bpl_grammar.proofs.Agree.{ids_listed, takes_tpar, takes_type, takes_e, es_listed, trigs_run, groups_listed, group_one as takes_group}
use Rattle.bpl_grammar.proofs.Loops.{Shrinks}
use Rattle.bpl_grammar.proofs.Lengths.{less_behind}
use Rattle.bpl_grammar.proofs.Found.{same_found, followed_ok, read_as_ok}
use Rattle.bpl_grammar.proofs.TypeTrees.{comma, placed}
use Rattle.bpl_grammar.proofs.ExprShrinks.{e_less, group_less}
use Rattle.bpl_grammar.proofs.Items.{by_cond, Items, none, next, items_ok}
use Rattle.bpl_grammar.proofs.AtomTrees.{Enclosed, plain, bound}
use Rattle.bpl_grammar.proofs.TermParts.{e_goers}
use Rattle.bpl_grammar.proofs.TypesUnique.{ids_one, params_one, type_one}
use Rattle.bpl_grammar.proofs.Suffixes.{takes_suffix, narrow_suffix}
use Rattle.bpl_grammar.proofs.Spelled.{chosen, passed, other, unseen_first, token_rest}
use Rattle.bpl_grammar.proofs.Unique.{Goes, IsOne, IsFar, Leaves, none_seen, quiet_head, quiet_behind, goes_tail, repeated_ends, IsParted, part_last, part_more, run_one}

-- an attribute begins with a brace and a colon
pub attr_shape : {ls us : List Lexeme} → Takes (rule attr) ls us → IsTrue (sees (fixed (codes "{")) ls) × IsTrue (sees (fixed (codes ":")) (drop 1 ls))
attr_shape (by (both (of_text h) (both (deeper (both (of_text k) d)) j))) = (h, k)

-- groups

abbrev where_sign : Terminal
where_sign = fixed (codes "where")

abbrev pub group_goers : List Terminal
group_goers = where_sign ∷ e_goers

pub data GroupAt : List Lexeme → List Lexeme → Together → Type 0 where
  alone : {t : Lexeme} {ls mid us : List Lexeme} {ns : List Name} {x : Ty} → Ids placed ls (t ∷ mid) ns → Is ":" t → Type' placed mid us x → GroupAt ls us (record { names = ns; of = x; condition = no_clause })
  with_condition : {t u : Lexeme} {ls mid after us : List Lexeme} {ns : List Name} {x : Ty} {y : Expr} → Ids placed ls (t ∷ mid) ns → Is ":" t → Type' placed mid (u ∷ after) x → Is "where" u → E placed after us y
      → GroupAt ls us (record { names = ns; of = x; condition = clause u.place y })

-- the same as a group of the tree
pub spelled_group : {ls us : List Lexeme} {g : Together} → GroupAt ls us g → Group placed ls us (group g.names g.of g.condition)
spelled_group (alone d i k) = bare d i k
spelled_group (with_condition d i k j f) = guarded d i k j f

record OneGroup (ls us : List Lexeme) (f : Groups → Groups) : Type 0 where
  together : Together
  there : GroupAt ls us together
  same : (gs : Groups) → group together.names together.of together.condition gs ≡ f gs

a_group : {ls us : List Lexeme} {f : Groups → Groups} → Group placed ls us f → OneGroup ls us f
a_group (bare {ns = ns} {x = x} d i k) = record { together = record { names = ns; of = x; condition = no_clause }; there = alone d i k; same = λ gs. refl }
a_group (guarded {u = u} {ns = ns} {x = x} {y = y} d i k j f) = record { together = record { names = ns; of = x; condition = clause u.place y }; there = with_condition d i k j f; same = λ gs. refl }

groups_parts : {ls us : List Lexeme} {gs : Groups} → Groups' placed ls us gs → IsParted groups_from comma GroupAt ls us gs
groups_parts (groups_last {ts = ts} {us = us} {f = f} d) =
    let g = a_group d in
    rw (← g.same no_groups) (part_last groups_from comma GroupAt ts us g.together g.there)
groups_parts (groups_more {t = t} {ts = ts} {us = us} {vs = vs} {f = f} {gs = gs} d i r) =
    let g = a_group d in
    rw (← g.same gs) (part_more groups_from (λ h hs. group h.names h.of h.condition hs) (λ h hs. refl) comma GroupAt t ts us vs g.together gs g.there i (groups_parts r))

group_leaves : Leaves GroupAt
group_leaves = λ ls us x d. takes_suffix (takes_group placed (spelled_group d))

module _ (room : ℕ) (inner : Inner → List Lexeme → Read Expr) (s : (g : Inner) → Shrinks (inner g)) (whole_far : IsFar (E placed) (inner whole)) (e_one : IsOne e_goers (E placed) (e_with room inner))
    (es_one : (ls us vs : List Lexeme) (e : Exprs) (ys : List Expr) → Narrow ls → Es placed ls us e → listed (inner whole) ls ≡ Ok (ys, vs) → Goes (comma ∷ e_goers) us vs → (us ≡ vs) × (e ≡ exprs_of ys))
    (attr_one : (ls us vs : List Lexeme) (x : Unit {0}) → Narrow ls → Takes (rule attr) ls us → attr_with room inner ls ≡ Ok (x, vs) → us ≡ vs) (group_far : IsFar GroupAt (group_with room inner)) where
  -- {Attr | Trig}
  trig_one : (t u : Lexeme) (ts us vs : List Lexeme) (e : Exprs) (m : Patterns) → Narrow ts → Es placed ts (u ∷ us) e → Is "}" u → trig_with room inner (t ∷ ts) ≡ Ok (m, vs) → (us ≡ vs) × (m.at ≡ t.place) × (e ≡ exprs_of m.patterns)
  unfolding trig_with
  trig_one t u ts us vs e m n d k h =
      let f = followed_ok (read_fixed (codes "{") (t ∷ ts)) _ (m, vs) h in
      let b = token_rest (fixed (codes "{")) t ts (t ∷ ts) f.rest f.first refl f.reads in
      let g = followed_ok (listed (inner whole) f.rest) _ (m, vs) f.then in
      let r = read_as_ok _ (read_fixed (codes "}") g.rest) m vs g.then in
      let o = es_one ts (u ∷ us) g.rest e g.first n d (ap (listed (inner whole)) b ∙ g.reads) (inl (quiet_behind (fixed (codes "}")) (comma ∷ e_goers) (u ∷ us) refl k)) in
      (token_rest (fixed (codes "}")) u us g.rest vs r.value o.0 r.reads, ap (λ p. p.at) (sym r.is), o.1 ∙ ap (λ p. exprs_of p.patterns) r.is)

  marks_from : (ls us vs : List Lexeme) (rs : Triggers) (ms : List (Option Patterns)) → Narrow ls → Trigs placed ls us rs → Items (sees (fixed (codes "{"))) (mark_with room inner) ls vs ms → sees (fixed (codes "{")) vs ≡ false → sees (fixed (codes "{")) us ≡ false
      → (us ≡ vs) × (rs ≡ triggers_from (kept ms))
  unfolding mark_with
  marks_from ls us vs rs [] n trigs_done none e q = (refl, refl)
  marks_from ls us vs rs (m ∷ ms) n trigs_done (next b h r) e q = absurd (cc (b, q))
  marks_from ls us vs rs [] n (attribute d r) none e q = absurd (cc ((attr_shape d).0, e))
  marks_from ls us vs rs (m ∷ ms) n (attribute {us = mid} d r) (next {rest = rest} b h i) e q =
      let k = read_as_ok _ (attr_with room inner ls) m rest (chosen (sees (fixed (codes ":")) (drop 1 ls)) _ _ (m, rest) (attr_shape d).1 h) in
      let a = attr_one ls mid rest k.value n d k.reads in
      let j = rw (← a) at i in
      let o = marks_from mid us vs rs ms (narrow_suffix (takes_suffix d) n) r j e q in
      (o.0, o.1 ∙ ap (λ z. triggers_from (kept (z ∷ ms))) k.is)
  marks_from (t ∷ ts) us vs rs [] n (patterns i d k r) none e q = absurd (cc (i, e))
  marks_from (t ∷ ts) us vs rs (m ∷ ms) n (patterns {u = u} {us = mid} {xs = xs} {rs = others} i d k r) (next {rest = rest} b h g) e q =
      let p = passed (sees (fixed (codes ":")) ts) _ _ (m, rest) (unseen_first (listed_part (rule expression)) (fixed (codes ":")) ts (u ∷ mid) refl refl (es_listed placed d)) h in
      let z = read_as_ok _ (trig_with room inner (t ∷ ts)) m rest p in
      let a = trig_one t u ts mid rest xs z.value n.1 d k z.reads in
      let j = rw (← a.0) at g in
      let o = marks_from mid us vs others ms (narrow_suffix (takes_suffix (es_listed placed d)) n.1).1 r j e q in
      (o.0, built t.place z.value.at xs (exprs_of z.value.patterns) others (triggers_from (kept ms)) (sym a.1) a.2 o.1 ∙ ap (λ w. triggers_from (kept (w ∷ ms))) z.is)
    where
      built : (p r : Place) (x y : Exprs) (v w : Triggers) → p ≡ r → x ≡ y → v ≡ w → trigger p x v ≡ trigger r y w
      built p r x y v w a b c = cc (a, b, c)

  pub marks_one : (ls us vs : List Lexeme) (rs : Triggers) (ts : List Patterns) → Narrow ls → Trigs placed ls us rs → marks_with room inner ls ≡ Ok (ts, vs) → sees (fixed (codes "{")) us ≡ false → (us ≡ vs) × (rs ≡ triggers_from ts)
  unfolding marks_with
  marks_one ls us vs rs ts n d h q =
      let r = read_as_ok _ (repeated (sees (fixed (codes "{"))) (mark_with room inner) ls) ts vs h in
      let o = marks_from ls us vs rs r.value n d (items_ok (sees (fixed (codes "{"))) (mark_with room inner) ls vs r.value r.reads) (repeated_ends (sees (fixed (codes "{"))) (mark_with room inner) ls vs r.value r.reads) q in
      (o.0, o.1 ∙ ap triggers_from r.is)

  -- Group = Ids ":" Type ["where" E]
  abbrev where_or : List Name → Ty → List Lexeme → Read Together
  where_or ns t ls = cond (sees where_sign ls) (read_as (λ x. record { names = ns; of = t; condition = clause (place_of ls) x }) (e_with room inner (drop 1 ls))) (Ok (record { names = ns; of = t; condition = no_clause }, ls))

  typed_then : (t : Lexeme) (ls mid us vs : List Lexeme) (ns : List Name) (x : Ty) (g : Together) → Narrow ls → Ids placed ls (t ∷ mid) ns → Is ":" t → Type' placed mid us x → group_with room inner ls ≡ Ok (g, vs) → where_or ns x us ≡ Ok (g, vs)
  unfolding group_with
  typed_then t ls mid us vs ns x g n d i k h =
      let f = followed_ok (read_ids ls) _ (g, vs) h in
      let a = ids_one ls (t ∷ mid) f.rest ns f.first n d f.reads (inl (quiet_behind (fixed (codes ":")) (comma ∷ []) (t ∷ mid) refl i)) in
      let c = followed_ok (read_fixed (codes ":") f.rest) _ (g, vs) f.then in
      let b = token_rest (fixed (codes ":")) t mid f.rest c.rest c.first a.0 c.reads in
      let y = followed_ok (read_type (suc room) c.rest) _ (g, vs) c.then in
      let o = type_one (suc room) mid us y.rest x y.first (narrow_suffix (takes_suffix (ids_listed placed d)) n).1 k (ap (read_type (suc room)) b ∙ y.reads) (inl (none_seen us)) in
      moved ns f.first x y.first us y.rest a.1 o.1 o.0 y.then
    where
      moved : (a b : List Name) (x y : Ty) (us ws : List Lexeme) → a ≡ b → x ≡ y → us ≡ ws → where_or b y ws ≡ Ok (g, vs) → where_or a x us ≡ Ok (g, vs)
      moved a b x y us ws p q r z = ap (where_or a x) r ∙ (ap (λ t. where_or a t ws) q ∙ (ap (λ m. where_or m y ws) p ∙ z))

  group_one : IsOne group_goers GroupAt (group_with room inner)
  group_one = λ ls us vs x y n d h q. found ls us vs x y n d h q
    where
      no_more : (us vs : List Lexeme) (ns : List Name) (x : Ty) (g : Together) → where_or ns x us ≡ Ok (g, vs) → Goes group_goers us vs → (us ≡ vs) × (record { names = ns; of = x; condition = no_clause } ≡ g)
      no_more us vs ns x g h (inl q) =
          let k = same_found (record { names = ns; of = x; condition = no_clause }) g us vs (passed (sees where_sign us) _ _ (g, vs) (quiet_head where_sign e_goers us q) h) in
          (k.1, k.0)
      no_more us vs ns x g h (inr q) = by_cond (sees where_sign us) _ _ (g, vs) h
          (λ e z. let r = read_as_ok _ (e_with room inner (drop 1 us)) g vs z in
          absurd (omega (arith, less_behind us (e_with room inner (drop 1 us)) (e_less room inner s (drop 1 us)) r.value vs r.reads, ap length q)))
          (λ e z. let k = same_found (record { names = ns; of = x; condition = no_clause }) g us vs z in (k.1, k.0))

      found : (ls us vs : List Lexeme) (x y : Together) → Narrow ls → GroupAt ls us x → group_with room inner ls ≡ Ok (y, vs) → Goes group_goers us vs → (us ≡ vs) × (x ≡ y)
      found ls us vs x y n (alone {t = t} {mid = mid} {ns = ns} {x = z} d i k) h q = no_more us vs ns z y (typed_then t ls mid us vs ns z y n d i k h) q
      found ls us vs x y n (with_condition {t = t} {u = u} {mid = mid} {after = after} {ns = ns} {x = z} {y = w} d i k j f) h q =
          let g = chosen (sees where_sign (u ∷ after)) _ _ (y, vs) j (typed_then t ls mid (u ∷ after) vs ns z y n d i k h) in
          let r = read_as_ok _ (e_with room inner after) y vs g in
          let m = narrow_suffix (takes_suffix (takes_type placed k)) (narrow_suffix (takes_suffix (ids_listed placed d)) n).1 in
          let o = e_one after us vs w r.value m.1 f r.reads (goes_tail where_sign e_goers us vs q) in
          (o.0, ap (λ v. record { names = ns; of = z; condition = clause u.place v }) o.1 ∙ r.is)

  pub groups_one : (ls us vs : List Lexeme) (gs : Groups) (ts : List Together) → Narrow ls → Groups' placed ls us gs → groups_with room inner ls ≡ Ok (ts, vs) → Goes (comma ∷ group_goers) us vs → (us ≡ vs) × (gs ≡ groups_from ts)
  unfolding groups_with
  groups_one ls us vs gs ts n d h q = run_one comma (group_with room inner) GroupAt group_goers group_one group_far (group_less room inner s) group_leaves refl groups_from ls us vs gs ts n (groups_parts d) h q

  -- [TPar] Groups "::" {Attr | Trig} E
  bound_one : (v : Lexeme) (q : Quantifier) (p : Place) (ls us vs ws zs xs : List Lexeme) (ps : Option Params) (gs : Groups) (rs : Triggers) (x y : Expr) → Narrow ls → TPar placed ls us ps → Groups' placed us (v ∷ vs) gs → Is "::" v → Trigs placed vs ws rs → E placed ws zs x
      → bound_with room inner q p ls ≡ Ok (y, xs) → Goes e_goers zs xs → (zs ≡ xs) × (expr p (quantified q p ps gs rs x) ≡ y)
  unfolding bound_with
  bound_one v q p ls us vs ws zs xs ps gs rs x y n d g i r e h c =
      let f = followed_ok (read_params ls) _ (y, xs) h in
      let a = params_one ls us f.rest ps f.first n d f.reads (unseen_first (listed_part (rule one_group)) (fixed (codes "<")) us (v ∷ vs) refl refl (groups_listed placed g)) in
      let n1 = narrow_suffix (takes_suffix (takes_tpar placed d)) n in
      let k = followed_ok (groups_with room inner f.rest) _ (y, xs) f.then in
      let b = groups_one us (v ∷ vs) k.rest gs k.first n1 g (ap (groups_with room inner) a.0 ∙ k.reads) (inl (quiet_behind (fixed (codes "::")) (comma ∷ group_goers) (v ∷ vs) refl i)) in
      let n2 = narrow_suffix (takes_suffix (groups_listed placed g)) n1 in
      let l = followed_ok (read_fixed (codes "::") k.rest) _ (y, xs) k.then in
      let t = token_rest (fixed (codes "::")) v vs k.rest l.rest l.first b.0 l.reads in
      let m = followed_ok (marks_with room inner l.rest) _ (y, xs) l.then in
      let o = marks_one vs ws m.rest rs m.first n2.1 r (ap (marks_with room inner) t ∙ m.reads) (unseen_first (rule expression) (fixed (codes "{")) ws zs refl refl (takes_e placed e)) in
      let z = read_as_ok _ (e_with room inner m.rest) y xs m.then in
      let w = e_one ws zs xs x z.value (narrow_suffix (takes_suffix (trigs_run placed r)) n2.1) e (ap (e_with room inner) o.0 ∙ z.reads) c in
      (w.0, built ps f.first gs (groups_from k.first) rs (triggers_from m.first) x z.value a.1 b.1 o.1 w.1 ∙ z.is)
    where
      built : (a b : Option Params) (c d : Groups) (f g : Triggers) (v w : Expr) → a ≡ b → c ≡ d → f ≡ g → v ≡ w → expr p (quantified q p a c f v) ≡ expr p (quantified q p b d g w)
      built a b c d f g v w i j k l = cc (i, j, k, l)

  pub enclosed_one : (p : Place) → IsOne e_goers (Enclosed p) (inside_with room inner p)
  unfolding inside_with
  enclosed_one p = λ ls us vs x y n d h q. found ls us vs x y n d h q
    where
      quantifier_one : (u : Lexeme) (q : Quantifier) (ts vs : List Lexeme) (y : Expr) → IsQuantifier u q → inside_with room inner p (u ∷ ts) ≡ Ok (y, vs) → bound_with room inner q p ts ≡ Ok (y, vs)
      quantifier_one u q ts vs y (is_forall i) h = chosen (sees (fixed (codes "forall")) (u ∷ ts)) _ _ (y, vs) i h
      quantifier_one u q ts vs y (is_exists i) h = chosen (sees (fixed (codes "exists")) (u ∷ ts)) _ _ (y, vs) i (passed (sees (fixed (codes "forall")) (u ∷ ts)) _ _ (y, vs) (other (fixed (codes "exists")) (fixed (codes "forall")) u i refl) h)

      found : (ls us vs : List Lexeme) (x y : Expr) → Narrow ls → Enclosed p ls us x → inside_with room inner p ls ≡ Ok (y, vs) → Goes e_goers us vs → (us ≡ vs) × (x ≡ y)
      found ls us vs x y n (plain d) h q =
          e_one ls us vs x y n d (passed (sees (fixed (codes "exists")) ls) _ _ (y, vs) (unseen_first (rule expression) (fixed (codes "exists")) ls us refl refl (takes_e placed d))
          (passed (sees (fixed (codes "forall")) ls) _ _ (y, vs) (unseen_first (rule expression) (fixed (codes "forall")) ls us refl refl (takes_e placed d)) h)) q
      found (u ∷ ts) us vs x y n (bound {v = v} {us = a} {vs = b} {ws = c} {q = r} {ps = ps} {gs = gs} {rs = rs} {x = z} i d g j t e) h q =
          bound_one v r p ts a b c us vs ps gs rs z y n.1 d g j t e (quantifier_one u r ts vs y i h) q
