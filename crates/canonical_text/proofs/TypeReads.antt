-- Names, type parameters and types of the canonical text are read back.
use Rattle.std.specs.Prelude.{◌≡◌, ℕ, zero, suc, max, ◌≤◌, true, false, codes, List, [], ◌∷◌, ◌++◌, drop, IsTrue, Ok, Option, Some, None}
use Rattle.std.proofs.Common.{refl, ◌∙◌, arith}
use Rattle.bv_base.specs.declared.place.Place.{Place}
use Rattle.bpl_lex.specs.Token.{id}
use Rattle.bpl_ast.specs.Place.{Name, Params, Ty, integer, boolean, named, map_type, Tys, no_tys, ty}
use Rattle.bpl_ast.specs.TypeView.{tys_of}
use Rattle.canonical_text.specs.Glyph.{plain, word, opening, closing}
use Rattle.canonical_text.specs.Expression.{more_names, names, params, type, types, more_types}
use Rattle.bpl_grammar.specs.Lexeme.{Lexeme}
use Rattle.bpl_grammar.specs.Terminal.{kind, fixed, sees}
use Rattle.bpl_grammar.specs.Reading.{Read, place_of, read_behind, listed, read_name, read_ids}
use Rattle.bpl_grammar.specs.ReadTypes.{read_params, type_of_map, type_with, read_type}
use Rattle.canonical_text.specs.Same.{start, bare_name, bare_names, bare_params, bare_type, bare_types}
use Rattle.canonical_text.specs.WrittenExpression.{IsName, AreNames, SomeNames, AreParams, some_types, IsWrittenType, AreWrittenTypes}
use Rattle.canonical_text.specs.Nestings.{type_depth, types_depth}
use Rattle.canonical_text.specs.Spelled.{token, Spelled, done, next}
use Rattle.canonical_text.specs.Ahead.{sees_text}
use Rattle.canonical_text.proofs.Parts.{split, spelled_length, Items, stop, step, items_repeated}

-- a name

pub name_seen : (p : Place) (n : Name) (us : List Lexeme) → IsName n → sees (kind id) (token p (plain n.text) ∷ us) ≡ true
name_seen p n us h = rw h refl

pub name_read : (p : Place) (n : Name) (us : List Lexeme) → IsName n → read_name (token p (plain n.text) ∷ us) ≡ Ok (record { text = n.text; at = p }, us)
unfolding read_name
name_read p n us h = rw (name_seen p n us h) refl

-- names

pub record NamesRead (ls us : List Lexeme) (ns : List Name) : Type 0 where
  pub values : List Name
  pub reads : read_ids ls ≡ Ok (values, us)
  pub same : bare_names values ≡ bare_names ns

record NameItems (ls us : List Lexeme) (ns : List Name) : Type 0 where
  pub values : List Name
  pub reads : Items (sees (fixed (codes ","))) (λ vs. read_name (drop 1 vs)) ls us values
  pub same : bare_names values ≡ bare_names ns

name_items : (ns : List Name) (ls us : List Lexeme) → AreNames ns → sees_text "," us ≡ false → Spelled (more_names ns) ls us → NameItems ls us ns
name_items [] ls us a h done = record { values = []; reads = stop h; same = refl }
name_items (n ∷ ns) ls us a h (next p (next {ls = rest} q g)) =
    let r = name_items ns rest us a.1 h g in
    record {
      values = record { text = n.text; at = q } ∷ r.values;
      reads = step {x = record { text = n.text; at = q }} {xs = r.values} refl (name_read q n rest a.0) (omega arith) r.reads;
      same = λ i. bare_name n ∷ r.same i;
    }

pub names_read : (ns : List Name) (ls us : List Lexeme) → SomeNames ns → sees_text "," us ≡ false → Spelled (names ns) ls us → NamesRead ls us ns
unfolding read_ids
names_read [] ls us a h g = absurd a
names_read (n ∷ ns) ls us a h (next {ls = rest} q g) =
    let r = name_items ns rest us a.1 h g in
    record {
      values = record { text = n.text; at = q } ∷ r.values;
      reads = shown (record { text = n.text; at = q }) _ rest r.values (name_read q n rest a.0) (items_repeated _ _ rest us r.values r.reads);
      same = λ i. bare_name n ∷ r.same i;
    }
  where
    shown : (x : Name) (ls rest : List Lexeme) (zs : List Name) → read_name ls ≡ Ok (x, rest) → read_behind (fixed (codes ",")) read_name rest ≡ Ok (zs, us) → listed read_name ls ≡ Ok (x ∷ zs, us)
    shown x ls rest zs h k = rw (h, k) refl

-- type parameters

pub record ParamsRead (ls us : List Lexeme) (ps : Option Params) : Type 0 where
  pub value : Option Params
  pub reads : read_params ls ≡ Ok (value, us)
  pub same : bare_params value ≡ bare_params ps

present : (p q : Place) (ls us : List Lexeme) (ns : List Name) → read_ids ls ≡ Ok (ns, token q (word ">") ∷ us) → read_params (token p (word "<") ∷ ls) ≡ Ok (Some (record { at = p; names = ns }), us)
unfolding read_params
present p q ls us ns h = rw h refl

absent : (us : List Lexeme) → sees_text "<" us ≡ false → read_params us ≡ Ok (None, us)
unfolding read_params
absent us h = rw h refl

pub params_read : (ps : Option Params) (ls us : List Lexeme) → AreParams ps → sees_text "<" us ≡ false → Spelled (params ps) ls us → ParamsRead ls us ps
params_read None ls us a h done = record { value = None; reads = absent us h; same = refl }
params_read (Some ps) ls us a h (next {ls = rest} p g) =
    let q = split (names ps.names) (word ">" ∷ []) g in
    closed p rest q.middle q.first q.second
  where
    closed : (p : Place) (ls ms : List Lexeme) → Spelled (names ps.names) ls ms → Spelled (word ">" ∷ []) ms us → ParamsRead (token p (word "<") ∷ ls) us (Some ps)
    closed p ls ms f (next q done) =
        let r = names_read ps.names ls (token q (word ">") ∷ us) a refl f in
        record { value = Some (record { at = p; names = r.values }); reads = present p q ls us r.values r.reads; same = λ i. Some (record { at = start; names = r.same i }) }

-- types

pub record TypeRead (read : List Lexeme → Read Ty) (ls us : List Lexeme) (t : Ty) : Type 0 where
  pub value : Ty
  pub reads : read ls ≡ Ok (value, us)
  pub same : bare_type value ≡ bare_type t

abbrev pub TypeReads : Ty → Type 0
TypeReads t = (room : ℕ) (ls us : List Lexeme) → type_depth t ≤ room → Spelled (type t) ls us → TypeRead (type_with (read_type room)) ls us t

abbrev pub EachType : Tys → Type 0
EachType no_tys = Unit {0}
EachType (ty t ts) = TypeReads t × EachType ts

record TypeItems (read : List Lexeme → Read Ty) (ls us : List Lexeme) (ts : Tys) : Type 0 where
  pub values : List Ty
  pub reads : Items (sees (fixed (codes ","))) (λ vs. read (drop 1 vs)) ls us values
  pub same : bare_types (tys_of values) ≡ bare_types ts

record TypesRead (read : List Lexeme → Read Ty) (ls us : List Lexeme) (ts : Tys) : Type 0 where
  pub values : List Ty
  pub reads : listed read ls ≡ Ok (values, us)
  pub same : bare_types (tys_of values) ≡ bare_types ts

type_items : (ts : Tys) (room : ℕ) (ls us : List Lexeme) → EachType ts → types_depth ts ≤ room → sees_text "," us ≡ false → Spelled (more_types ts) ls us → TypeItems (type_with (read_type room)) ls us ts
type_items no_tys room ls us e d h done = record { values = []; reads = stop h; same = refl }
type_items (ty t ts) room ls us e d h (next {ls = rest} p g) =
    let q = split (type t) (more_types ts) g in
    let a = e.0 room rest q.middle (omega (arith, d)) q.first in
    let b = type_items ts room q.middle us e.1 (omega (arith, d)) h q.second in
    record {
      values = a.value ∷ b.values;
      reads = step {x = a.value} {xs = b.values} refl a.reads (omega (arith, spelled_length q.first)) b.reads;
      same = λ i. ty (a.same i) (b.same i);
    }

types_read : (ts : Tys) (room : ℕ) (ls us : List Lexeme) → EachType ts → IsTrue (some_types ts) → types_depth ts ≤ room → sees_text "," us ≡ false → Spelled (types ts) ls us → TypesRead (type_with (read_type room)) ls us ts
types_read no_tys room ls us e s d h g = absurd (cc)
types_read (ty t ts) room ls us e s d h g =
    let q = split (type t) (more_types ts) g in
    let a = e.0 room ls q.middle (omega (arith, d)) q.first in
    let b = type_items ts room q.middle us e.1 (omega (arith, d)) h q.second in
    record {
      values = a.value ∷ b.values;
      reads = shown (type_with (read_type room)) a.value ls q.middle b.values a.reads (items_repeated _ _ q.middle us b.values b.reads);
      same = λ i. ty (a.same i) (b.same i);
    }
  where
    shown : (read : List Lexeme → Read Ty) (x : Ty) (ls ms : List Lexeme) (zs : List Ty) → read ls ≡ Ok (x, ms) → read_behind (fixed (codes ",")) read ms ≡ Ok (zs, us) → listed read ls ≡ Ok (x ∷ zs, us)
    shown read x ls ms zs h k = rw (h, k) refl

int_read : (room : ℕ) (p : Place) (us : List Lexeme) → type_with (read_type room) (token p (word "int") ∷ us) ≡ Ok (integer p, us)
unfolding type_with
int_read room p us = refl

bool_read : (room : ℕ) (p : Place) (us : List Lexeme) → type_with (read_type room) (token p (word "bool") ∷ us) ≡ Ok (boolean p, us)
unfolding type_with
bool_read room p us = refl

pub no_word : (p : Place) (n : Name) (us : List Lexeme) (w : List ℕ) → IsName n → sees (fixed w) (token p (plain n.text) ∷ us) ≡ false
no_word p n us w h = rw h refl

named_read : (room : ℕ) (p : Place) (n : Name) (us : List Lexeme) → IsName n → type_with (read_type room) (token p (plain n.text) ∷ us) ≡ Ok (named p (record { text = n.text; at = p }), us)
unfolding type_with
named_read room p n us h = rw (no_word p n us (codes "int") h, no_word p n us (codes "bool") h, name_seen p n us h, name_read p n us h) refl

-- a map type, which begins with < or [
map_read : (read : List Lexeme → Read Ty) (p q z : Place) (ls rest ms us : List Lexeme) (ps : Option Params) (ds : List Ty) (r : Ty) → read_params ls ≡ Ok (ps, token q (opening "[") ∷ rest) → listed read rest ≡ Ok (ds, token z (closing "]") ∷ ms) → read ms ≡ Ok (r, us)
    → type_of_map read ls ≡ Ok (map_type (place_of ls) ps (tys_of ds) r, us)
unfolding type_of_map
map_read read p q z ls rest ms us ps ds r h k l = rw (h, k, l) refl

bare_map : (x p : Place) (ps qs : Option Params) (ds : List Ty) (es : Tys) (r t : Ty) → bare_params ps ≡ bare_params qs → bare_types (tys_of ds) ≡ bare_types es → bare_type r ≡ bare_type t → bare_type (map_type x ps (tys_of ds) r) ≡ bare_type (map_type p qs es t)
bare_map x p ps qs ds es r t h k l = λ i. map_type start (h i) (k i) (l i)

begins_map : (room : ℕ) (ps : Option Params) (ds : Tys) (r : Ty) (ls us : List Lexeme) → Spelled (params ps ++ (opening "[" ∷ (types ds ++ closing "]" ∷ type r))) ls us → type_with (read_type room) ls ≡ type_of_map (read_type room) ls
unfolding type_with
begins_map room None ds r ls us (next p g) = refl
begins_map room (Some ps) ds r ls us (next p g) = refl

map_reads : (room : ℕ) (x p q z : Place) (ps : Option Params) (ds : Tys) (r : Ty) (ls rest range us : List Lexeme) → type_with (read_type (suc room)) ls ≡ type_of_map (read_type (suc room)) ls → ParamsRead ls (token q (opening "[") ∷ rest) ps
    → TypesRead (type_with (read_type room)) rest (token z (closing "]") ∷ range) ds → TypeRead (type_with (read_type room)) range us r → TypeRead (type_with (read_type (suc room))) ls us (map_type p ps ds r)
map_reads room x p q z ps ds r ls rest range us b h k l = record {
  value = map_type (place_of ls) h.value (tys_of k.values) l.value;
  reads = b ∙ map_read (read_type (suc room)) p q z ls rest range us h.value k.values l.value h.reads k.reads l.reads;
  same = bare_map (place_of ls) p h.value ps k.values ds l.value r h.same k.same l.same;
}

-- the domain and the range, behind the parameters
range_read : (room : ℕ) (p : Place) (ps : Option Params) (ds : Tys) (r : Ty) (ls ms us : List Lexeme) → EachType ds → TypeReads r → IsTrue (some_types ds) → AreParams ps → suc (max (types_depth ds) (type_depth r)) ≤ room
    → type_with (read_type room) ls ≡ type_of_map (read_type room) ls → Spelled (params ps) ls ms → Spelled (opening "[" ∷ (types ds ++ closing "]" ∷ type r)) ms us → TypeRead (type_with (read_type room)) ls us (map_type p ps ds r)
range_read zero p ps ds r ls ms us e t s a d b f g = absurd (omega arith)
range_read (suc room) p ps ds r ls ms us e t s a d b f (next {ls = rest} x g) =
    let q = split (types ds) (closing "]" ∷ type r) g in
    closed x rest q.middle f q.first q.second
  where
    closed : (x : Place) (rest mid : List Lexeme) → Spelled (params ps) ls (token x (opening "[") ∷ rest) → Spelled (types ds) rest mid → Spelled (closing "]" ∷ type r) mid us → TypeRead (type_with (read_type (suc room))) ls us (map_type p ps ds r)
    closed x rest mid f k (next {ls = range} z l) =
        map_reads room p p x z ps ds r ls rest range us b (params_read ps ls (token x (opening "[") ∷ rest) a refl f) (types_read ds room rest (token z (closing "]") ∷ range) e s (omega (arith, d)) refl k)
        (t room range us (omega (arith, d)) l)

mutual
  pub type_reads : (t : Ty) → IsWrittenType t → TypeReads t
  type_reads (integer p) a room ls us d (next q done) = record { value = integer q; reads = int_read room q us; same = refl }
  type_reads (boolean p) a room ls us d (next q done) = record { value = boolean q; reads = bool_read room q us; same = refl }
  type_reads (named p n) a room ls us d (next q done) = record { value = named q (record { text = n.text; at = q }); reads = named_read room q n us a; same = refl }
  type_reads (map_type p ps ds r) a room ls us d g =
      let q = split (params ps) (opening "[" ∷ (types ds ++ closing "]" ∷ type r)) g in
      range_read room p ps ds r ls q.middle us (each_type ds a.2) (type_reads r a.3) a.1 a.0 d (begins_map room ps ds r ls us g) q.first q.second

  each_type : (ts : Tys) → AreWrittenTypes ts → EachType ts
  each_type no_tys a = tt
  each_type (ty t ts) a = (type_reads t a.0, each_type ts a.1)
