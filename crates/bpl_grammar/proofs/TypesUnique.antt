-- Names and types that lexemes spell are those that are read.
use Rattle.std.specs.Prelude.{◌≡◌, ℕ, zero, suc, false, List, [], ◌∷◌, codes, IsTrue, Ok, Some, None, Option}
use Rattle.std.proofs.Common.{refl, inl, ap, sym, ◌∙◌, arith}
use Rattle.bpl_lex.specs.Token.{id}
use Rattle.bpl_ast.specs.Place.{Name, Params, Ty, Tys, ty, integer, boolean, named, map_type, ty_from}
use Rattle.bpl_ast.specs.TypeView.{tys_of}
use Rattle.bpl_grammar.specs.Lexeme.{Lexeme}
use Rattle.bpl_grammar.specs.Part.{◌⨟◌, maybe, rule, type, tpar}
use Rattle.bpl_grammar.specs.Grammar.{the, listed as listed_part}
use Rattle.bpl_grammar.specs.Spelling.{Takes, of_text, both, no_more}
use Rattle.bpl_grammar.specs.Judge.{Narrow}
use Rattle.bpl_grammar.specs.Terminal.{Terminal, kind, fixed, sees, firsts, apart_from}
use Rattle.bpl_grammar.specs.Reading.{Read, read_fixed, read_name, listed, read_ids}
use Rattle.bpl_grammar.specs.ReadTypes.{read_params, enclosed_type, type_of_map, type_with, read_type}
use Rattle.bpl_grammar.specs.Types.{name, Is, IsId, Ids, TPar, Type', Types}
use Rattle.bpl_grammar.proofs.Agree.{list_more, takes_tpar, takes_type}
use Rattle.bpl_grammar.proofs.Loops.{Shrinks}
use Rattle.bpl_grammar.proofs.Found.{same_found, followed_ok, read_as_ok, name_ok, name_shrinks}
use Rattle.bpl_grammar.proofs.Behind.{takes_shorter}
use Rattle.bpl_grammar.proofs.TypeTrees.{comma, placed, type_shrinks}
use Rattle.bpl_grammar.proofs.Suffixes.{Suffix, here, later, takes_suffix, narrow_suffix}
use Rattle.bpl_grammar.proofs.Spelled.{chosen, passed, other, unseen_first, token_rest}
use Rattle.bpl_grammar.proofs.Unique.{Goes, IsOne, Leaves, one_far, none_seen, quiet_behind, IsParted, part_last, part_more, run_one}

-- names

pub data NameAt : List Lexeme → List Lexeme → Name → Type 0 where
  name_at : {t : Lexeme} {ts : List Lexeme} → IsId t → NameAt (t ∷ ts) ts (name placed t)

pub name_one : IsOne [] NameAt read_name
name_one = λ ls us vs x y n d h q. found ls us vs x y d h
  where
    found : (ls us vs : List Lexeme) (x y : Name) → NameAt ls us x → read_name ls ≡ Ok (y, vs) → (us ≡ vs) × (x ≡ y)
    found [] us vs x y d h = elim d [ ]
    found (t ∷ ts) us vs x y (name_at i) h =
        let k = name_ok (t ∷ ts) y vs h in
        let token : t ≡ k.0.token = cc (k.0.there) in
        let rest : ts ≡ vs = cc (k.0.there) in
        (rest, ap (name placed) token ∙ sym k.1)

name_leaves : Leaves NameAt
name_leaves = λ ls us x d. left ls us x d
  where
    left : (ls us : List Lexeme) (x : Name) → NameAt ls us x → Suffix ls us
    left [] us x d = elim d [ ]
    left (t ∷ ts) us x (name_at i) = later here

abbrev pub itself : List Name → List Name
itself ns = ns

ids_parts : {ls us : List Lexeme} {ns : List Name} → Ids placed ls us ns → IsParted itself comma NameAt ls us ns
ids_parts (Ids.one {t = t} {ts = ts} i) = part_last itself comma NameAt (t ∷ ts) ts (name placed t) (name_at i)
ids_parts (Ids.more {t = t} {u = u} {ts = ts} {us = us} {ns = ns} i c d) = part_more itself (λ x xs. x ∷ xs) (λ x xs. refl) comma NameAt u (t ∷ u ∷ ts) ts us (name placed t) ns (name_at i) c (ids_parts d)

pub ids_one : IsOne (comma ∷ []) (Ids placed) read_ids
unfolding read_ids
ids_one = λ ls us vs ns ms n d h q. run_one comma read_name NameAt [] name_one (one_far NameAt read_name name_one) name_shrinks name_leaves refl itself ls us vs ns ms n (ids_parts d) h q

-- [TPar], which no "<" follows
pub params_one : (ls us vs : List Lexeme) (x y : Option Params) → Narrow ls → TPar placed ls us x → read_params ls ≡ Ok (y, vs) → sees (fixed (codes "<")) us ≡ false → (us ≡ vs) × (x ≡ y)
unfolding read_params
params_one ls us vs x y n TPar.absent h q =
    let e = same_found None y ls vs (passed (sees (fixed (codes "<")) ls) _ _ (y, vs) q h) in
    (e.1, e.0)
params_one (t ∷ ts) us vs x y n (TPar.present {u = u} {ns = ns} i d k) h q =
    let g = chosen (sees (fixed (codes "<")) (t ∷ ts)) _ _ (y, vs) i h in
    let f = followed_ok (read_ids ts) _ (y, vs) g in
    let r = read_as_ok _ (read_fixed (codes ">") f.rest) y vs f.then in
    let o = ids_one ts (u ∷ us) f.rest ns f.first n.1 d f.reads (inl (quiet_behind (fixed (codes ">")) (comma ∷ []) (u ∷ us) refl k)) in
    (token_rest (fixed (codes ">")) u us f.rest vs r.value o.0 r.reads, ap (λ ms. Some (record { at = t.place; names = ms })) o.1 ∙ r.is)

-- types

type_leaves : Leaves (Type' placed)
type_leaves = λ ls us x d. takes_suffix (takes_type placed d)

module _ (inner : List Lexeme → Read Ty) (one : IsOne [] (Type' placed) inner) (s : Shrinks inner) where
  types_parts : {ls us : List Lexeme} {xs : Tys} → Types placed ls us xs → IsParted tys_of comma (Type' placed) ls us xs
  types_parts (Types.one {ts = ts} {us = us} {x = x} d) = part_last tys_of comma (Type' placed) ts us x d
  types_parts (Types.more {u = u} {ts = ts} {us = us} {vs = vs} {x = x} {xs = xs} d c r) = part_more tys_of ty (λ x xs. refl) comma (Type' placed) u ts us vs x xs d c (types_parts r)

  types_one : (ls us vs : List Lexeme) (e : Tys) (ys : List Ty) → Narrow ls → Types placed ls us e → listed inner ls ≡ Ok (ys, vs) → Goes (comma ∷ []) us vs → (us ≡ vs) × (e ≡ tys_of ys)
  types_one ls us vs e ys n d h q = run_one comma inner (Type' placed) [] one (one_far (Type' placed) inner one) s type_leaves refl tys_of ls us vs e ys n (types_parts d) h q

  types_left : {ls us : List Lexeme} {xs : Tys} → Types placed ls us xs → Suffix ls us
  types_left d = takes_suffix (listed_types d)
    where
      listed_types : {ls us : List Lexeme} {xs : Tys} → Types placed ls us xs → Takes (listed_part (rule type)) ls us
      listed_types (Types.one d) = both (takes_type placed d) no_more
      listed_types (Types.more d c r) = list_more (takes_type placed d) c (listed_types r)

  round_one : (t u : Lexeme) (ts us vs : List Lexeme) (x y : Ty) → Narrow ts → Is "(" t → Type' placed ts (u ∷ us) x → enclosed_type inner (t ∷ ts) ≡ Ok (y, vs) → (us ≡ vs) × (ty_from t.place x ≡ y)
  unfolding enclosed_type
  round_one t u ts us vs x y n i d h =
      let f = followed_ok (read_fixed (codes "(") (t ∷ ts)) _ (y, vs) h in
      let e = token_rest (fixed (codes "(")) t ts (t ∷ ts) f.rest f.first refl f.reads in
      let g = followed_ok (inner f.rest) _ (y, vs) f.then in
      let r = read_as_ok _ (read_fixed (codes ")") g.rest) y vs g.then in
      let o = one ts (u ∷ us) g.rest x g.first n d (ap inner e ∙ g.reads) (inl (none_seen (u ∷ us))) in
      (token_rest (fixed (codes ")")) u us g.rest vs r.value o.0 r.reads, ap (ty_from t.place) o.1 ∙ r.is)

  map_one : (t u v : Lexeme) (rest ts us vs ws : List Lexeme) (ps : Option Params) (ds : Tys) (r y : Ty) → Narrow (t ∷ rest) → TPar placed (t ∷ rest) (u ∷ ts) ps → Is "[" u → Types placed ts (v ∷ us) ds → Is "]" v → Type' placed us vs r
      → type_of_map inner (t ∷ rest) ≡ Ok (y, ws) → (vs ≡ ws) × (map_type t.place ps ds r ≡ y)
  unfolding type_of_map
  map_one t u v rest ts us vs ws ps ds r y n p i d k w h =
      let f = followed_ok (read_params (t ∷ rest)) _ (y, ws) h in
      let a = params_one (t ∷ rest) (u ∷ ts) f.rest ps f.first n p f.reads (other (fixed (codes "[")) (fixed (codes "<")) u i refl) in
      let g = followed_ok (read_fixed (codes "[") f.rest) _ (y, ws) f.then in
      let b = token_rest (fixed (codes "[")) u ts f.rest g.rest g.first a.0 g.reads in
      let m = narrow_suffix (takes_suffix (takes_tpar placed p)) n in
      let l = followed_ok (listed inner g.rest) _ (y, ws) g.then in
      let c = types_one ts (v ∷ us) l.rest ds l.first m.1 d (ap (listed inner) b ∙ l.reads) (inl (quiet_behind (fixed (codes "]")) (comma ∷ []) (v ∷ us) refl k)) in
      let z = followed_ok (read_fixed (codes "]") l.rest) _ (y, ws) l.then in
      let j = token_rest (fixed (codes "]")) v us l.rest z.rest z.first c.0 z.reads in
      let o = read_as_ok _ (inner z.rest) y ws z.then in
      let q = one us vs ws r o.value (narrow_suffix (types_left d) m.1).1 w (ap inner j ∙ o.reads) (inl (none_seen vs)) in
      (q.0, cc (a.1, c.1, q.1, o.is))

  roomy_one : IsOne [] (Type' placed) (type_with inner)
  unfolding type_with
  roomy_one = λ ls us vs x y n d h q. found ls us vs x y n d h
    where
      found : (ls us vs : List Lexeme) (x y : Ty) → Narrow ls → Type' placed ls us x → type_with inner ls ≡ Ok (y, vs) → (us ≡ vs) × (x ≡ y)
      found [] us vs x y n d h = absurd (shorter_types d)
        where
          shorter_types : Type' placed [] us x → ⊥
          shorter_types d = absurd (omega (arith, takes_shorter (rule type) [] us refl (takes_type placed d)))
      found (t ∷ ts) us vs x y n (Type'.int i) h =
          let e = same_found (integer t.place) y ts vs (chosen (sees (fixed (codes "int")) (t ∷ ts)) _ _ (y, vs) i h) in
          (e.1, e.0)
      found (t ∷ ts) us vs x y n (Type'.bool i) h =
          let e = same_found (boolean t.place) y ts vs (chosen (sees (fixed (codes "bool")) (t ∷ ts)) _ _ (y, vs) i
          (passed (sees (fixed (codes "int")) (t ∷ ts)) _ _ (y, vs) (other (fixed (codes "bool")) (fixed (codes "int")) t i refl) h)) in
          (e.1, e.0)
      found (t ∷ ts) us vs x y n (Type'.of_name i) h =
          let r = read_as_ok _ (read_name (t ∷ ts)) y vs (chosen (sees (kind id) (t ∷ ts)) _ _ (y, vs) i
          (passed (sees (fixed (codes "bool")) (t ∷ ts)) _ _ (y, vs) (other (kind id) (fixed (codes "bool")) t i refl)
          (passed (sees (fixed (codes "int")) (t ∷ ts)) _ _ (y, vs) (other (kind id) (fixed (codes "int")) t i refl) h))) in
          let o = name_one (t ∷ ts) ts vs (name placed t) r.value n (name_at i) r.reads (inl (none_seen ts)) in
          (o.0, ap (named t.place) o.1 ∙ r.is)
      found (t ∷ ts) us vs x y n (Type'.round {u = u} {x = z} i d k) h =
          round_one t u ts us vs z y n.1 i d (chosen (sees (fixed (codes "(")) (t ∷ ts)) _ _ (y, vs) i
          (passed (sees (kind id) (t ∷ ts)) _ _ (y, vs) (other (fixed (codes "(")) (kind id) t i refl)
          (passed (sees (fixed (codes "bool")) (t ∷ ts)) _ _ (y, vs) (other (fixed (codes "(")) (fixed (codes "bool")) t i refl)
          (passed (sees (fixed (codes "int")) (t ∷ ts)) _ _ (y, vs) (other (fixed (codes "(")) (fixed (codes "int")) t i refl) h))))
      found (t ∷ ts) us vs x y n (Type'.map {u = u} {v = v} {ts = mid} {us = after} {ps = ps} {ds = ds} {r = r} p i d k w) h =
          map_one t u v ts mid after us vs ps ds r y n p i d k w
          (passed (sees (fixed (codes "(")) (t ∷ ts)) _ _ (y, vs) (barred (fixed (codes "(")) refl)
          (passed (sees (kind id) (t ∷ ts)) _ _ (y, vs) (barred (kind id) refl)
          (passed (sees (fixed (codes "bool")) (t ∷ ts)) _ _ (y, vs) (barred (fixed (codes "bool")) refl)
          (passed (sees (fixed (codes "int")) (t ∷ ts)) _ _ (y, vs) (barred (fixed (codes "int")) refl) h))))
        where
          barred : (c : Terminal) → IsTrue (apart_from c (firsts (maybe (rule tpar) ⨟ the "["))) → sees c (t ∷ ts) ≡ false
          barred c a = unseen_first (maybe (rule tpar) ⨟ the "[") c (t ∷ ts) mid refl a (both (takes_tpar placed p) (of_text i))

pub type_one : (room : ℕ) → IsOne [] (Type' placed) (read_type room)
type_one zero = λ ls us vs x y n d h q. absurd (cc (h))
type_one (suc room) = roomy_one (read_type room) (type_one room) (type_shrinks room)
