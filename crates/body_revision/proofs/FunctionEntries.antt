-- In a program without faults a function's name stands for it, and with another value for that one; what other names stand for stays.
use Rattle.std.proofs.Common.{◌≡◌, refl, sym, ap, ◌∙◌, ℕ, zero, suc, ◌+◌, Bool, true, false, ◌||◌, cond, bytes_eq, List, [], ◌∷◌, ◌++◌, slice_get, slice_set, Option, Some, option_map}
use Rattle.std.proofs.lemmas.Option.{none-some}
use Rattle.std.specs.Option.{unwrap_or}
use Rattle.logic_terms.proofs.Booleans.{neither}
use Rattle.bv_base.specs.Text.{is_among}
use Rattle.bpl_ast.specs.Place.{Name, Params, Ty}
use Rattle.bpl_ast.specs.Tree.{Expr}
use Rattle.bpl_ast.specs.Statement.{Argument, DeclBody, constant, function, axiom_of, variables, synonym, procedure, implementation, Decl}
use Rattle.bpl_scopes.specs.declared.fault.TypeKind.TheVariants.{Twice as twice}
use Rattle.bpl_scopes.specs.Fault.{again}
use Rattle.bpl_scopes.specs.Scopes.{Text, Entity, a_constant, a_global, a_function, Entry, Table, Counts, counts_with, declared_names, typed_names, names_of, only_names, texts_of, names_in, entries_from, entries_of, entries_after, entry_of, entity_of}
use Rattle.bpl_declaration_faults.specs.DeclFaults.{Before, before_with, decl_faults}
use Rattle.bpl_resolve.proofs.EntriesFine.{NoFaults}
use Rattle.bpl_resolve.proofs.GoesForward.{not_equal, if_so_empty}
use Rattle.bpl_resolve.proofs.HasSort.{first_empty}
use Rattle.bpl_resolve.proofs.Ways.{text_itself}

-- ---- tables

other_entry : (e : Entry) (es : Table) (m : Text) → bytes_eq e.name m ≡ false → entity_of (e ∷ es) m ≡ entity_of es m
unfolding entity_of
other_entry e es m h = ap (λ b. option_map (λ (x : Entry). x.entity) (cond b (Some e) (entry_of es m))) h

first_entry : (e : Entry) (es : Table) → entity_of (e ∷ es) e.name ≡ Some e.entity
unfolding entity_of
first_entry e es = ap (λ b. option_map (λ (x : Entry). x.entity) (cond b (Some e) (entry_of es e.name))) (text_itself e.name)

behind_others : (es fs : Table) (m : Text) → is_among (names_in es) m ≡ false → entity_of (es ++ fs) m ≡ entity_of fs m
behind_others [] fs m h = refl
behind_others (e ∷ es) fs m h =
    let r = neither (bytes_eq m e.name) (is_among (names_in es) m) h in
    other_entry e (es ++ fs) m (not_equal e.name m r.0) ∙ behind_others es fs m r.1

same_behind : (es fs gs : Table) (m : Text) → entity_of fs m ≡ entity_of gs m → entity_of (es ++ fs) m ≡ entity_of (es ++ gs) m
unfolding entity_of
same_behind [] fs gs m h = h
same_behind (e ∷ es) fs gs m h = by (bytes_eq e.name m) (same_behind es fs gs m h)
  where
    by : (b : Bool) → option_map (λ (x : Entry). x.entity) (entry_of (es ++ fs) m) ≡ option_map (λ (x : Entry). x.entity) (entry_of (es ++ gs) m)
        → option_map (λ (x : Entry). x.entity) (cond b (Some e) (entry_of (es ++ fs) m)) ≡ option_map (λ (x : Entry). x.entity) (cond b (Some e) (entry_of (es ++ gs) m))
    by true later = refl
    by false later = later

-- ---- names

from_names : (what : ℕ → Ty → Entity) (d k : ℕ) (ps : List (Name × Ty)) → names_in (entries_from what d k ps) ≡ texts_of (only_names ps)
from_names what d k [] = refl
from_names what d k (p ∷ ps) = ap (λ ns. (p.0).text ∷ ns) (from_names what d (k + 1) ps)

names_again : (ns : List Name) (s : Ty) → only_names (typed_names ns s) ≡ ns
names_again [] s = refl
names_again (n ∷ ns) s = ap (λ w. n ∷ w) (names_again ns s)

decl_names : (c : Counts) (k : ℕ) (b : DeclBody) → names_in (entries_of c k b) ≡ texts_of (declared_names b)
decl_names c k (constant u ns s) = from_names a_constant k c.constants (typed_names ns s) ∙ ap texts_of (names_again ns s)
decl_names c k (function n ps ins r x) = refl
decl_names c k (axiom_of x) = refl
decl_names c k (variables gs) = from_names a_global k c.globals (names_of gs)
decl_names c k (synonym n s) = refl
decl_names c k (procedure n ps g ss b) = refl
decl_names c k (implementation n ps g b) = refl

among_parts : (ms ns : List Text) (m : Text) → is_among (ms ++ ns) m ≡ false → (is_among ms m ≡ false) × (is_among ns m ≡ false)
among_parts [] ns m h = (refl, h)
among_parts (n ∷ ms) ns m h =
    let r = neither (bytes_eq m n) (is_among (ms ++ ns) m) h in
    let q = among_parts ms ns m r.1 in
    ((λ i. r.0 i || q.0 i), q.1)

-- ---- the function's own name

module _ (n : Name) (ps : Option Params) (ins : List Argument) (r : Ty) where
  abbrev Stands : Option Expr → Table → Type 0
  Stands x t = entity_of t n.text ≡ Some (a_function (record { ins = ins; result = r; value = x }))

  module _ (x y : Option Expr) (d e : Decl) (old : d.body ≡ function n ps ins r x) (new : e.body ≡ function n ps ins r y) where
    -- nothing before has its name
    pub stands_first : (t : Table) (c : Counts) (b : Before) (k : Counts) (i : ℕ) (ds : List Decl) (at : ℕ) → NoFaults t c b ds → slice_get ds at ≡ Some d
        → (is_among b.names n.text ≡ false) × Stands x (entries_after k i ds) × Stands y (entries_after k i (slice_set ds at e))
    stands_first t c b k i [] at none g = absurd (none-some d g)
    stands_first t c b k i (z ∷ zs) zero none g =
        let here : z.body ≡ function n ps ins r x = ap (λ o. (unwrap_or o z).body) g ∙ old in
        let no : decl_faults t c b (function n ps ins r x) ≡ [] = ap (decl_faults t c b) (sym here) ∙ none.0 in (
          if_so_empty _ twice n.at (first_empty _ [] (first_empty (again twice b.names (n ∷ [])) _ no)),
          ap (λ w. entity_of (entries_of k i w ++ entries_after (counts_with k w) (i + 1) zs) n.text) here
              ∙ first_entry (record { name = n.text; decl = i; entity = a_function (record { ins = ins; result = r; value = x }) }) (entries_after k (i + 1) zs),
          ap (λ w. entity_of (entries_of k i w ++ entries_after (counts_with k w) (i + 1) zs) n.text) new
              ∙ first_entry (record { name = n.text; decl = i; entity = a_function (record { ins = ins; result = r; value = y }) }) (entries_after k (i + 1) zs),
        )
    stands_first t c b k i (z ∷ zs) (suc at) none g =
        let later = stands_first t c (before_with b z.body) (counts_with k z.body) (i + 1) zs at none.1 g in
        let parts = among_parts (texts_of (declared_names z.body)) b.names n.text later.0 in
        let absent : is_among (names_in (entries_of k i z.body)) n.text ≡ false = ap (λ ns. is_among ns n.text) (decl_names k i z.body) ∙ parts.0 in (
          parts.1,
          behind_others (entries_of k i z.body) (entries_after (counts_with k z.body) (i + 1) zs) n.text absent ∙ later.1,
          behind_others (entries_of k i z.body) (entries_after (counts_with k z.body) (i + 1) (slice_set zs at e)) n.text absent ∙ later.2,
        )

-- ---- other names

module _ (n : Name) (ps : Option Params) (ins : List Argument) (r : Ty) (x y : Option Expr) (m : Text) (other : bytes_eq n.text m ≡ false) where
  pub others_stand : (k : Counts) (i : ℕ) (ds : List Decl) (at : ℕ) (d e : Decl) → slice_get ds at ≡ Some d → d.body ≡ function n ps ins r x → e.body ≡ function n ps ins r y
      → entity_of (entries_after k i (slice_set ds at e)) m ≡ entity_of (entries_after k i ds) m
  others_stand k i [] at d e g old new = refl
  others_stand k i (z ∷ zs) zero d e g old new =
      let here : z.body ≡ function n ps ins r x = ap (λ o. (unwrap_or o z).body) g ∙ old in
      ap (λ b. entity_of (entries_of k i b ++ entries_after (counts_with k b) (i + 1) zs) m) new
      ∙ (other_entry (record { name = n.text; decl = i; entity = a_function (record { ins = ins; result = r; value = y }) }) (entries_after k (i + 1) zs) m other
      ∙ (sym (other_entry (record { name = n.text; decl = i; entity = a_function (record { ins = ins; result = r; value = x }) }) (entries_after k (i + 1) zs) m other)
      ∙ sym (ap (λ b. entity_of (entries_of k i b ++ entries_after (counts_with k b) (i + 1) zs) m) here)))
  others_stand k i (z ∷ zs) (suc at) d e g old new =
      same_behind (entries_of k i z.body) (entries_after (counts_with k z.body) (i + 1) (slice_set zs at e)) (entries_after (counts_with k z.body) (i + 1) zs) m
      (others_stand (counts_with k z.body) (i + 1) zs at d e g old new)
