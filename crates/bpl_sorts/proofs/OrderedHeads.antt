-- What functions are declared with, put to the places of their names, stands in the order of the names.
use Rattle.std.proofs.Common.{◌≡◌, refl, sym, ap, ◌∙◌, inl, inr, ◌⊎◌, subst, ℕ, zero, suc, pred, ◌+◌, ◌<◌, arith, nat_eq, eqb-true, eq-eqb, Bool, true, false, cond, List, [], ◌∷◌, ◌++◌, map, set, replicate, length, length-set, drop, get_or, Option, Some, None}
use Rattle.std.specs.Prelude.{Vec, bytes_eq, find, option_map, slice_get}
use Rattle.std.specs.declared.alloc.Global.{Global}
use Rattle.std.proofs.lemmas.List.{length-replicate, map-append, map-set, replicate_more}
use Rattle.std.proofs.lemmas.Option.{slice_get_within}
use Rattle.bpl_ast.specs.Statement.{Decl}
use Rattle.bpl_scopes.specs.Functions.{function_in, in_number_order}
use Rattle.bpl_scopes.specs.KnownSorts.{names_in}
use Rattle.bpl_scopes.specs.Positions.{first_at}
use Rattle.bpl_scopes.specs.Scopes.{Text, Entry, Table, table_of, entity_of, no_counts, counts_after}
use Rattle.bpl_scopes.specs.TableView.{entries_seen}
use Rattle.bpl_scopes.specs.declared.table.Entry.{Entry as Noted}
use Rattle.bpl_faults.proofs.ListedNames.{next_dropped}
use Rattle.bpl_declaration_faults.specs.DeclFaults.{fault_of}
use Rattle.bpl_resolve.proofs.EntriesFine.{synonyms_fine}
use Rattle.bpl_resolve.proofs.ModuleSorts.{fine, acyclic}
use Rattle.bpl_resolve.proofs.ProcedureVariables.{map_length}
use Rattle.bpl_resolve.proofs.Ways.{Member, same_text}
use Rattle.bpl_resolve.proofs.DistinctOrder.{Distinct, order_distinct}
use Rattle.bpl_resolve.proofs.PlacedFunctions.{first_there, some_same}
use Rattle.bpl_sorts.specs.Types.{integers, Head}
use Rattle.bpl_sorts.specs.TypeShapes.{put_at, heads_put}
use Rattle.bpl_sorts.specs.DeclaredTypes.{head_of}
use Rattle.bpl_sorts.specs.TypesView.{head_seen, heads_seen}
use Rattle.bpl_sorts.specs.declared.value_types.Ty.{Ty}

set_there : (hs : List Head) (k : ℕ) (h : Head) → k < length hs → slice_get (set hs k h) k ≡ Some h
set_there [] k h l = absurd (omega (arith, l))
set_there (x ∷ hs) zero h l = refl
set_there (x ∷ hs) (suc k) h l = set_there hs k h (omega (arith, l))

set_elsewhere : (hs : List Head) (j k : ℕ) (h : Head) → (j ≡ k → ⊥) → slice_get (set hs j h) k ≡ slice_get hs k
set_elsewhere [] j k h l = refl
set_elsewhere (x ∷ hs) zero zero h l = absurd (l refl)
set_elsewhere (x ∷ hs) zero (suc k) h l = refl
set_elsewhere (x ∷ hs) (suc j) zero h l = refl
set_elsewhere (x ∷ hs) (suc j) (suc k) h l = set_elsewhere hs j k h (λ e. l (ap suc e))

all_same : (n k : ℕ) (h : Head) → k < n → slice_get (replicate n h) k ≡ Some h
all_same zero k h l = absurd (omega (arith, l))
all_same (suc n) zero h l = refl
all_same (suc n) (suc k) h l = all_same n k h (omega (arith, l))

mapped_same : (f : Text → Head) (hs : List Head) (os : List Text) → length hs ≡ length os → ((k : ℕ) (n : Text) → slice_get os k ≡ Some n → slice_get hs k ≡ Some (f n)) → hs ≡ map f os
mapped_same f [] [] e h = refl
mapped_same f [] (o ∷ os) e h = absurd (omega (arith, e))
mapped_same f (x ∷ hs) [] e h = absurd (omega (arith, e))
mapped_same f (x ∷ hs) (o ∷ os) e h = λ i. some_same x (f o) (h 0 o refl) i ∷ mapped_same f hs os (ap pred e) (λ k n z. h (suc k) n z) i

module _ (f : Text → Head) (os : List Text) (distinct : Distinct os) where
  put_long : (o : Option ℕ) (h : Head) (hs : List Head) → length (put_at o h hs) ≡ length hs
  put_long None h hs = refl
  put_long (Some k) h hs = length-set hs k h

  puts_long : (ns : List Text) (hs : List Head) → length (heads_put f os ns hs) ≡ length hs
  puts_long [] hs = refl
  puts_long (n ∷ ns) hs = puts_long ns (put_at (first_at n os) (f n) hs) ∙ put_long (first_at n os) (f n) hs

  module _ (k : ℕ) (n : Text) (there : slice_get os k ≡ Some n) where
    -- its own is there, or is still to be put
    one_put : (m : Text) (hs : List Head) → length hs ≡ length os → (o : Option ℕ) → first_at m os ≡ o → (slice_get hs k ≡ Some (f n)) ⊎ (m ≡ n) → slice_get (put_at o (f m) hs) k ≡ Some (f n)
    one_put m hs l None q (inl h) = h
    one_put m hs l None q (inr e) = let bad : None ≡ Some k = sym q ∙ (ap (λ w. first_at w os) e ∙ distinct k n there) in cc
    one_put m hs l (Some j) q h = by (nat_eq j k) refl h
      where
        within : k < length hs
        within = let w = slice_get_within os k n there in omega (arith, l, w)

        apart : nat_eq j k ≡ false → j ≡ k → ⊥
        apart r e = let bad : true ≡ false = sym (eq-eqb j k e) ∙ r in absurd (cc)

        by : (r : Bool) → nat_eq j k ≡ r → (slice_get hs k ≡ Some (f n)) ⊎ (m ≡ n) → slice_get (set hs j (f m)) k ≡ Some (f n)
        by true r h =
            let u : j ≡ k = eqb-true j k r in
            let v : m ≡ n = some_same m n (sym (subst (λ w. slice_get os w ≡ Some m) u (first_there m os j q)) ∙ there) in
            subst (λ w. slice_get (set hs w (f m)) k ≡ Some (f m)) (sym u) (set_there hs k (f m) within) ∙ ap (λ w. Some (f w)) v
        by false r (inl h) = set_elsewhere hs j k (f m) (apart r) ∙ h
        by false r (inr e) = absurd (apart r (some_same j k (sym q ∙ (ap (λ w. first_at w os) e ∙ distinct k n there))))

    all_put : (ns : List Text) (hs : List Head) → length hs ≡ length os → (slice_get hs k ≡ Some (f n)) ⊎ Member n ns → slice_get (heads_put f os ns hs) k ≡ Some (f n)
    all_put [] hs l (inl h) = h
    all_put [] hs l (inr i) = absurd i
    all_put (m ∷ ns) hs l h = all_put ns (put_at (first_at m os) (f m) hs) (put_long (first_at m os) (f m) hs ∙ l) (by h)
      where
        by : (slice_get hs k ≡ Some (f n)) ⊎ Member n (m ∷ ns) → (slice_get (put_at (first_at m os) (f m) hs) k ≡ Some (f n)) ⊎ Member n ns
        by (inl g) = inl (one_put m hs l (first_at m os) refl (inl g))
        by (inr (inl e)) = inl (one_put m hs l (first_at m os) refl (inr (sym e)))
        by (inr (inr i)) = inr i

-- a name is declared, or stands for nothing
declared_or_not : (t : Table) (n : Text) → (entity_of t n ≡ None) ⊎ Member n (names_in t)
unfolding entity_of
declared_or_not [] n = inl refl
declared_or_not (e ∷ t) n = by (bytes_eq e.name n) refl (declared_or_not t n)
  where
    by : (r : Bool) → bytes_eq e.name n ≡ r → (entity_of t n ≡ None) ⊎ Member n (names_in t) → (option_map (λ (x : Entry). x.entity) (cond r (Some e) (find (λ (x : Entry). bytes_eq x.name n) t)) ≡ None) ⊎ Member n (e.name ∷ names_in t)
    by true q later = inr (inl (sym (same_text e.name n q)))
    by false q (inl z) = inl z
    by false q (inr i) = inr (inr i)

module _ (known : Table) (ds : List Decl) (none : fault_of ds ≡ None) where
  abbrev TT : Table
  TT = table_of ds

  abbrev head_at : Text → Head
  head_at n = head_of known (function_in (entity_of TT n))

  abbrev order : List Text
  order = in_number_order TT

  once : Distinct order
  once = order_distinct TT (synonyms_fine TT (counts_after no_counts ds) (fine ds none)) (acyclic ds none)

  heads_are : heads_put head_at order (names_in TT) (replicate (length order) ([], integers)) ≡ map head_at order
  heads_are = mapped_same head_at (heads_put head_at order (names_in TT) (replicate (length order) ([], integers))) order
      (puts_long head_at order once (names_in TT) (replicate (length order) ([], integers)) ∙ length-replicate (length order) ([], integers))
      (λ k n e. all_put head_at order once k n e (names_in TT) (replicate (length order) ([], integers)) (length-replicate (length order) ([], integers)) (first k n e (declared_or_not TT n)))
    where
      first : (k : ℕ) (n : Text) → slice_get order k ≡ Some n → (entity_of TT n ≡ None) ⊎ Member n (names_in TT) → (slice_get (replicate (length order) ([], integers)) k ≡ Some (head_at n)) ⊎ Member n (names_in TT)
      first k n e (inl z) = inl (all_same (length order) k ([], integers) (slice_get_within order k n e) ∙ ap (λ w. Some (head_of known (function_in w))) (sym z))
      first k n e (inr i) = inr i

-- over a table that is the program's
pub heads_listed : (known t : Table) (ds : List Decl) → fault_of ds ≡ None → t ≡ table_of ds
    → heads_put (λ n. head_of known (function_in (entity_of t n))) (in_number_order t) (names_in t) (replicate (length (in_number_order t)) ([], integers)) ≡ map (λ n. head_of known (function_in (entity_of (table_of ds) n))) (in_number_order (table_of ds))
heads_listed known t ds none e = (λ i. heads_put (λ n. head_of known (function_in (entity_of (e i) n))) (in_number_order (e i)) (names_in (e i)) (replicate (length (in_number_order (e i))) ([], integers))) ∙ heads_are known ds none

-- ---- the code's lists of heads

pub heads_set : (hs : List (Vec Ty Global × Ty)) (i : ℕ) (h : Vec Ty Global × Ty) → heads_seen (set hs i h) ≡ set (heads_seen hs) i (head_seen h)
heads_set hs i h = map-set head_seen hs i h

past_set : (xs : List Head) (i : ℕ) (h : Head) → (i < length xs → ⊥) → set xs i h ≡ xs
past_set [] i h l = refl
past_set (x ∷ xs) zero h l = absurd (l (omega arith))
past_set (x ∷ xs) (suc i) h l = ap (λ w. x ∷ w) (past_set xs i h (λ g. l (omega (arith, g))))

pub heads_past : (hs : List (Vec Ty Global × Ty)) (i : ℕ) (h : Head) → (i < length hs → ⊥) → heads_seen hs ≡ set (heads_seen hs) i h
heads_past hs i h l = sym (past_set (heads_seen hs) i h (λ g. l (let e = map_length head_seen hs in omega (arith, g, e))))

pub one_more_head : (hs : List (Vec Ty Global × Ty)) (n : ℕ) (h : Vec Ty Global × Ty) → heads_seen hs ≡ replicate n ([], integers) → head_seen h ≡ ([], integers) → heads_seen (hs ++ h ∷ []) ≡ replicate (n + 1) ([], integers)
one_more_head hs n h e f = map-append head_seen hs (h ∷ []) ∙ ((λ i. e i ++ f i ∷ []) ∙ replicate_more n ([], integers))

pub heads_next : (f : Text → Head) (os : List Text) (es : List Noted) (i : ℕ) (e : Noted) (before after total : List Head) → i < length es → e ≡ get_or es i e → after ≡ put_at (first_at e.name.now os) (f e.name.now) before
    → heads_put f os (names_in (entries_seen (drop i es))) before ≡ total → heads_put f os (names_in (entries_seen (drop (i + 1) es))) after ≡ total
heads_next f os es i e before after total h is step made =
    ap (heads_put f os (names_in (entries_seen (drop (i + 1) es)))) step ∙ ap (λ l. heads_put f os (names_in (entries_seen l)) before) (sym (next_dropped es i e h is)) ∙ made
