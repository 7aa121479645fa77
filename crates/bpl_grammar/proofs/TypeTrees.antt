-- Names and types that are read are the trees that the lexemes spell.
use Rattle.std.specs.Prelude.{◌≡◌, ℕ, zero, suc, Bool, true, false, cond, List, [], ◌∷◌, drop, codes, IsTrue, Ok, Some, None, Option}
use Rattle.std.proofs.Common.{refl}
use Rattle.bv_base.specs.declared.place.Place.{Place}
use Rattle.bpl_lex.specs.Token.{id}
use Rattle.bpl_ast.specs.Place.{Name, Params, Ty, Tys, integer, boolean, named, map_type, ty_from}
use Rattle.bpl_ast.specs.TypeView.{tys_of}
use Rattle.bpl_grammar.specs.Lexeme.{Lexeme}
use Rattle.bpl_grammar.specs.Part.{rule, type}
use Rattle.bpl_grammar.specs.Terminal.{Terminal, kind, fixed, is, sees}
use Rattle.bpl_grammar.specs.Reading.{Read, followed, read_as, place_of, read_fixed, read_name, listed, read_ids}
use Rattle.bpl_grammar.specs.ReadTypes.{read_params, enclosed_type, type_of_map, type_with, read_type}
use Rattle.bpl_grammar.specs.Types.{name, IsId, Ids, TPar, Type', Types}
use Rattle.bpl_grammar.proofs.Agree.{takes_type}
use Rattle.bpl_grammar.proofs.Loops.{Shrinks}
use Rattle.bpl_grammar.proofs.Found.{same_found, followed_ok, read_as_ok, token_ok, seen_ok, name_ok}
use Rattle.bpl_grammar.proofs.Behind.{Behind, done, more, run_ok, takes_shorter}

abbrev pub comma : Terminal
comma = fixed (codes ",")

-- each lexeme has its place
abbrev pub placed : Lexeme → Place
placed t = t.place

last_id : (t : Lexeme) (ls rest : List Lexeme) (n : Name) → IsId t → ls ≡ t ∷ rest → n ≡ name placed t → Ids placed ls rest (n ∷ [])
last_id t ls rest n i e q = rw (e, q) (Ids.one i)

more_ids : (t u : Lexeme) (ls mid us : List Lexeme) (n : Name) (ns : List Name) → IsId t → ls ≡ t ∷ u ∷ mid → n ≡ name placed t → IsTrue (is comma u) → Ids placed mid us ns → Ids placed ls us (n ∷ ns)
more_ids t u ls mid us n ns i e q c d = rw (e, q) (Ids.more i c d)

ids_from : (ls rest us : List Lexeme) (n : Name) (ns : List Name) → read_name ls ≡ Ok (n, rest) → Behind comma read_name rest us ns → Ids placed ls us (n ∷ ns)
ids_from ls rest us n [] h done =
    let k = name_ok ls n rest h in
    last_id k.0.token ls rest n k.0.is k.0.there k.1
ids_from ls rest us n (m ∷ ms) h (more {t = u} {ls = mid} {rest = after} i g b) =
    let k = name_ok ls n rest h in
    more_ids k.0.token u ls mid us n (m ∷ ms) k.0.is k.0.there k.1 i (ids_from mid after us m ms g b)

pub ids_ok : (ls us : List Lexeme) (ns : List Name) → read_ids ls ≡ Ok (ns, us) → Ids placed ls us ns
unfolding read_ids
ids_ok ls us ns h =
    let r = run_ok comma read_name ls us ns h in
    rw (← r.is) (ids_from ls r.rest us r.first r.others r.reads r.behind)

pub params_ok : (ls us : List Lexeme) (ps : Option Params) → read_params ls ≡ Ok (ps, us) → TPar placed ls us ps
unfolding read_params
params_ok ls us ps h = split (sees (fixed (codes "<")) ls) refl h
  where
    split : (b : Bool) → sees (fixed (codes "<")) ls ≡ b → cond b (followed (read_ids (drop 1 ls)) (λ ns rest. read_as (λ u. Some (record { at = place_of ls; names = ns })) (read_fixed (codes ">") rest))) (Ok (None, ls)) ≡ Ok (ps, us) → TPar placed ls us ps
    split false e h =
        let s = same_found None ps ls us h in
        rw (← s.0, ← s.1) TPar.absent
    split true e h =
        let k = seen_ok (fixed (codes "<")) ls e in
        let f = followed_ok (read_ids (drop 1 ls)) _ (ps, us) h in
        let r = read_as_ok _ (read_fixed (codes ">") f.rest) ps us f.then in
        let c = token_ok (fixed (codes ">")) f.rest us r.reads in
        let d = rw c.there at (ids_ok (drop 1 ls) f.rest f.first f.reads) in
        rw (← r.is) (shown k.token (drop 1 ls) k.is k.there c.token f.first d c.is)
      where
        shown : (t : Lexeme) (mid : List Lexeme) → IsTrue (is (fixed (codes "<")) t) → ls ≡ t ∷ mid → (u : Lexeme) (ns : List Name) → Ids placed mid (u ∷ us) ns → IsTrue (is (fixed (codes ">")) u) → TPar placed ls us (Some (record { at = place_of ls; names = ns }))
        shown t mid i e u ns d c = rw e (TPar.present i d c)

module _ (inner : List Lexeme → Read Ty) (sound : (ls : List Lexeme) (x : Ty) (us : List Lexeme) → inner ls ≡ Ok (x, us) → Type' placed ls us x) where
  types_from : (ls rest us : List Lexeme) (x : Ty) (xs : List Ty) → inner ls ≡ Ok (x, rest) → Behind comma inner rest us xs → Types placed ls us (tys_of (x ∷ xs))
  types_from ls rest us x [] h done = Types.one (sound ls x rest h)
  types_from ls rest us x (y ∷ ys) h (more {ls = mid} {rest = after} i g b) = Types.more (sound ls x rest h) i (types_from mid after us y ys g b)

  types_ok : (ls us : List Lexeme) (xs : List Ty) → listed inner ls ≡ Ok (xs, us) → Types placed ls us (tys_of xs)
  types_ok ls us xs h =
      let r = run_ok comma inner ls us xs h in
      rw (← r.is) (types_from ls r.rest us r.first r.others r.reads r.behind)

  shown_round : (t u : Lexeme) (ls mid us : List Lexeme) (x : Ty) → IsTrue (is (fixed (codes "(")) t) → ls ≡ t ∷ mid → Type' placed mid (u ∷ us) x → IsTrue (is (fixed (codes ")")) u) → Type' placed ls us (ty_from (place_of ls) x)
  shown_round t u ls mid us x i e d c = rw e (Type'.round i d c)

  enclosed_ok : (ls us : List Lexeme) (x : Ty) → enclosed_type inner ls ≡ Ok (x, us) → Type' placed ls us x
  unfolding enclosed_type
  enclosed_ok ls us x h =
      let f = followed_ok (read_fixed (codes "(") ls) _ (x, us) h in
      let o = token_ok (fixed (codes "(")) ls f.rest f.reads in
      let g = followed_ok (inner f.rest) _ (x, us) f.then in
      let r = read_as_ok _ (read_fixed (codes ")") g.rest) x us g.then in
      let c = token_ok (fixed (codes ")")) g.rest us r.reads in
      let d = rw c.there at (sound f.rest g.first g.rest g.reads) in
      rw (← r.is) (shown_round o.token c.token ls f.rest us g.first o.is o.there d c.is)

  map_ok : (ls us : List Lexeme) (x : Ty) → type_of_map inner ls ≡ Ok (x, us) → Type' placed ls us x
  unfolding type_of_map
  map_ok ls us x h =
      let f = followed_ok (read_params ls) _ (x, us) h in
      let g = followed_ok (read_fixed (codes "[") f.rest) _ (x, us) f.then in
      let o = token_ok (fixed (codes "[")) f.rest g.rest g.reads in
      let d = followed_ok (listed inner g.rest) _ (x, us) g.then in
      let e = followed_ok (read_fixed (codes "]") d.rest) _ (x, us) d.then in
      let c = token_ok (fixed (codes "]")) d.rest e.rest e.reads in
      let r = read_as_ok _ (inner e.rest) x us e.then in
      let ps = rw o.there at (params_ok ls f.rest f.first f.reads) in
      let ds = rw c.there at (types_ok g.rest d.rest d.first d.reads) in
      rw (← r.is) (shown ls o.token g.rest f.first ps o.is c.token e.rest (tys_of d.first) ds c.is r.value (sound e.rest r.value us r.reads))
    where
      shown : (ls : List Lexeme) (u : Lexeme) (mid : List Lexeme) (ps : Option Params) → TPar placed ls (u ∷ mid) ps → IsTrue (is (fixed (codes "[")) u) → (v : Lexeme) (range : List Lexeme) (ds : Tys) → Types placed mid (v ∷ range) ds → IsTrue (is (fixed (codes "]")) v)
          → (r : Ty) → Type' placed range us r → Type' placed ls us (map_type (place_of ls) ps ds r)
      shown [] u mid ps p i v range ds q j r w = absurd (nowhere p)
        where
          nowhere : TPar placed [] (u ∷ mid) ps → ⊥
          nowhere p = elim p [ ]
      shown (t ∷ ts) u mid ps p i v range ds q j r w = Type'.map p i q j w

  one_type : (t : Lexeme) (ls mid us : List Lexeme) (x : Ty) → ls ≡ t ∷ mid → Type' placed (t ∷ mid) us x → Type' placed ls us x
  one_type t ls mid us x e d = rw e d

  int_ok : (ls us : List Lexeme) (x : Ty) → IsTrue (sees (fixed (codes "int")) ls) → ◌≡◌ {A = Read Ty} (Ok (integer (place_of ls), drop 1 ls)) (Ok (x, us)) → Type' placed ls us x
  int_ok [] us x e h = absurd (cc)
  int_ok (t ∷ ts) us x e h =
      let s = same_found (integer t.place) x ts us h in
      rw (← s.0, ← s.1) (Type'.int e)

  bool_ok : (ls us : List Lexeme) (x : Ty) → IsTrue (sees (fixed (codes "bool")) ls) → ◌≡◌ {A = Read Ty} (Ok (boolean (place_of ls), drop 1 ls)) (Ok (x, us)) → Type' placed ls us x
  bool_ok [] us x e h = absurd (cc)
  bool_ok (t ∷ ts) us x e h =
      let s = same_found (boolean t.place) x ts us h in
      rw (← s.0, ← s.1) (Type'.bool e)

  shown_name : (t : Lexeme) (ls us : List Lexeme) (n : Name) → IsId t → ls ≡ t ∷ us → n ≡ name placed t → Type' placed ls us (named (place_of ls) n)
  shown_name t ls us n i e q = rw (e, q) (Type'.of_name i)

  named_ok : (ls us : List Lexeme) (x : Ty) → read_as (λ n. named (place_of ls) n) (read_name ls) ≡ Ok (x, us) → Type' placed ls us x
  named_ok ls us x h =
      let r = read_as_ok _ (read_name ls) x us h in
      let k = name_ok ls r.value us r.reads in
      rw (← r.is) (shown_name k.0.token ls us r.value k.0.is k.0.there k.1)

  pub roomy_ok : (ls us : List Lexeme) (x : Ty) → type_with inner ls ≡ Ok (x, us) → Type' placed ls us x
  unfolding type_with
  roomy_ok ls us x h = split (sees (fixed (codes "int")) ls) (sees (fixed (codes "bool")) ls) (sees (kind id) ls) (sees (fixed (codes "(")) ls) refl refl h
    where
      split : (a b c d : Bool) → sees (fixed (codes "int")) ls ≡ a → sees (fixed (codes "bool")) ls ≡ b
          → cond a (Ok (integer (place_of ls), drop 1 ls)) (cond b (Ok (boolean (place_of ls), drop 1 ls)) (cond c (read_as (λ n. named (place_of ls) n) (read_name ls)) (cond d (enclosed_type inner ls) (type_of_map inner ls)))) ≡ Ok (x, us) → Type' placed ls us x
      split true b c d e f h = int_ok ls us x e h
      split false true c d e f h = bool_ok ls us x f h
      split false false true d e f h = named_ok ls us x h
      split false false false true e f h = enclosed_ok ls us x h
      split false false false false e f h = map_ok ls us x h

-- the type that is read is the one that the lexemes spell
pub type_ok : (room : ℕ) (ls : List Lexeme) (x : Ty) (us : List Lexeme) → read_type room ls ≡ Ok (x, us) → Type' placed ls us x
type_ok zero ls x us h = absurd (cc)
type_ok (suc room) ls x us h = roomy_ok (read_type room) (type_ok room) ls us x h

pub type_shrinks : (room : ℕ) → Shrinks (read_type room)
type_shrinks room = λ ls x us h. takes_shorter (rule type) ls us refl (takes_type placed (type_ok room ls x us h))
