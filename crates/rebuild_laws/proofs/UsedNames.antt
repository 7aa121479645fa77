-- A name that is used stands for a declaration that is reached, and for the same in both programs but for places and numbers.
use Rattle.std.specs.Prelude.{◌≡◌, ℕ, zero, suc, ◌+◌, ◌<◌, ◌==◌, nat_eq, Bool, true, false, ◌||◌, List, [], ◌∷◌, ◌++◌, map, length, flat_map, filter, slice_get, slice_index_or, bytes_eq, Option, Some, None, option_map, is_some}
use Rattle.std.specs.List.{list_any, range_with_len}
use Rattle.std.proofs.Common.{refl, ap, sym, ◌∙◌, subst, arith, inl, inr, ◌⊎◌}
use Rattle.logic_core.proofs.Booleans.{or_first, or_second}
use Rattle.bpl_ast.specs.Statement.{DeclBody, Decl}
use Rattle.bpl_model.specs.Module.{Proc, DeclText, Module}
use Rattle.bpl_model.specs.Reach.{among, decl_at, positions, leads_to, reaches_axiom, own_positions, reached_by}
use Rattle.bv_base.specs.Text.{is_among}
use Rattle.bpl_scopes.specs.Scopes.{Text, Entity, Entry, Table, table_of, counts_after, no_counts, declared_names, texts_of, entries_of, entry_of, entity_of, Counts}
use Rattle.bpl_texts.specs.Uses.{contract_uses, last_uses, decl_uses, is_declared_at, leads_of}
use Rattle.bpl_declaration_faults.specs.DeclFaults.{nothing_before, fault_of}
use Rattle.canonical_text.specs.SameStatement.{bare_decl}
use Rattle.bpl_resolve.specs.Elaborate.{decl_text, module_of}
use Rattle.bpl_resolve.proofs.Ways.{Member, member_any}
use Rattle.bpl_resolve.proofs.FunctionOrder.{stays}
use Rattle.bpl_resolve.proofs.EntriesFine.{NoFaults, none_faulty}
use Rattle.canonical_text.specs.Heads.{bare_head}
use Rattle.rebuild_laws.specs.Twins.{Own, Reached, Twin, Twins}
use Rattle.rebuild_laws.proofs.NamesInUse.{Used, in_own, in_reached, Met, used, declared}
use Rattle.rebuild_laws.proofs.Settled.{itself, same_number, own_reached}
use Rattle.rebuild_laws.proofs.ReachClosed.{is_passed, reached_closed}
use Rattle.rebuild_laws.proofs.BareUses.{same_uses, same_contract_uses, same_declared}
use Rattle.rebuild_laws.proofs.Shapes.{bare_entity, bare_found, same_found}
use Rattle.rebuild_laws.proofs.Located.{LocatedIn, located, declared_found, FoundAt, found_at}

among_joined : (xs ys : List ℕ) (x : ℕ) → (among xs x ≡ true) ⊎ (among ys x ≡ true) → among (xs ++ ys) x ≡ true
among_joined [] ys x (inl h) = absurd (cc)
among_joined [] ys x (inr h) = h
among_joined (y ∷ xs) ys x h = by (y == x) (among_joined xs ys x) h
  where
    by : (b : Bool) → ((among xs x ≡ true) ⊎ (among ys x ≡ true) → among (xs ++ ys) x ≡ true) → ((b || among xs x) ≡ true) ⊎ (among ys x ≡ true) → (b || among (xs ++ ys) x) ≡ true
    by true later g = refl
    by false later g = later g

-- what stands in a list that one of the numbers leads to
among_flat : (f : ℕ → List ℕ) (xs : List ℕ) (x y : ℕ) → among xs x ≡ true → among (f x) y ≡ true → among (flat_map f xs) y ≡ true
among_flat f [] x y h g = absurd (cc)
among_flat f (z ∷ xs) x y h g = by (z == x) refl h (λ k. among_flat f xs x y k g)
  where
    by : (b : Bool) → (z == x) ≡ b → (b || among xs x) ≡ true → (among xs x ≡ true → among (flat_map f xs) y ≡ true) → among (f z ++ flat_map f xs) y ≡ true
    by true e k later = among_joined (f z) (flat_map f xs) y (inl (subst (λ w. among (f w) y ≡ true) (sym (same_number z x e)) g))
    by false e k later = among_joined (f z) (flat_map f xs) y (inr (later k))

in_range : (n a x : ℕ) → x < n → among (range_with_len a n) (a + x) ≡ true
in_range zero a x h = absurd (omega (arith, h))
in_range (suc n) a zero h = let e : a + 0 ≡ a = omega arith in or_first (a == (a + 0)) _ (subst (λ w. (a == w) ≡ true) (sym e) (itself a))
in_range (suc n) a (suc x) h =
    let e : (a + 1) + x ≡ a + suc x = omega arith in
    or_second (a == (a + suc x)) _ (subst (λ w. among (range_with_len (a + 1) n) w ≡ true) e (in_range n (a + 1) x (omega (arith, h))))

abbrev no_text : DeclText
no_text = record { name = []; text = []; contract = []; leads = []; contract_leads = [] }

at_mapped : {A B : Type 0} (f : A → B) (d : B) (xs : List A) (n : ℕ) (x : A) → slice_get xs n ≡ Some x → slice_index_or (map f xs) n d ≡ f x
at_mapped f d [] n x e = absurd (cc)
at_mapped f d (y ∷ xs) zero x e = let q : y ≡ x = cc in ap f q
at_mapped f d (y ∷ xs) (suc n) x e = at_mapped f d xs n x e

map_length : {A B : Type 0} (f : A → B) (xs : List A) → length (map f xs) ≡ length xs
map_length f [] = refl
map_length f (x ∷ xs) = ap suc (map_length f xs)

abbrev pub bare_meaning : Option Entity → Option Entity
bare_meaning o = option_map bare_entity o

module _ (ds : List Decl) (p : Proc) where
  abbrev T : Table
  T = table_of ds

  abbrev M : Module
  M = module_of ds

  -- an entry of the table is a position of the module
  pub is_position : (d : ℕ) → d < length ds → among (positions M) d ≡ true
  is_position d h =
      let e : 0 + d ≡ d = omega arith in
      subst (λ w. among (range_with_len 0 w) d ≡ true) (sym (map_length (decl_text T (length ds)) ds)) (subst (λ w. among (range_with_len 0 (length ds)) w ≡ true) e (in_range (length ds) 0 d h))

  pub text_there : (d : ℕ) (x : Decl) → slice_get ds d ≡ Some x → decl_at M d ≡ decl_text T (length ds) x
  text_there d x e = at_mapped (decl_text T (length ds)) no_text ds d x e

  -- a name leads to the declaration for which it stands
  led_to : (ns : List Text) (n : Text) (e : Entry) → entry_of T n ≡ Some e → e.decl < length ds → Member n ns → among (leads_of T (length ds) ns) e.decl ≡ true
  led_to ns n e h l i =
      let z : 0 + e.decl ≡ e.decl = omega arith in
      is_passed (λ d. list_any (λ m. is_declared_at (entry_of T m) d) ns) (range_with_len 0 (length ds)) e.decl
      (subst (λ w. among (range_with_len 0 (length ds)) w ≡ true) z (in_range (length ds) 0 e.decl l))
      (member_any (λ m. is_declared_at (entry_of T m) e.decl) n ns i (ap (λ o. is_declared_at o e.decl) h ∙ itself e.decl))

  entry_below : (n : Text) (e : Entry) → entry_of T n ≡ Some e → e.decl < length ds
  entry_below n e h = let r = located no_counts 0 ds n e h in let a = r.place in let b = r.below in omega (arith, a, b)

  pub used_reached : (n : Text) (e : Entry) → Used ds p n → entry_of T n ≡ Some e → among (reached_by M p) e.decl ≡ true
  used_reached n e (in_own d x o a i) h =
      let l = entry_below n e h in
      own_reached M p e.decl (is_position e.decl l)
      (among_flat (λ r. (decl_at M r).leads) (own_positions M p) d e.decl o (ap (λ (w : DeclText). among w.leads e.decl) (text_there d x a) ∙ led_to (decl_uses x.body) n e h l i))
  used_reached n e (in_reached d x (inl o) a i) h =
      let l = entry_below n e h in
      own_reached M p e.decl (is_position e.decl l)
      (among_flat (λ r. (decl_at M r).leads) (own_positions M p) d e.decl o (ap (λ (w : DeclText). among w.leads e.decl) (text_there d x a) ∙ led_to (decl_uses x.body) n e h l (stays n (contract_uses x.body) (last_uses x.body) i)))
  used_reached n e (in_reached d x (inr o) a i) h =
      let l = entry_below n e h in
      let f = among_flat (λ r. (decl_at M r).contract_leads) (reached_by M p) d e.decl o (ap (λ (w : DeclText). among w.contract_leads e.decl) (text_there d x a) ∙ led_to (contract_uses x.body) n e h l i) in
      reached_closed M p e.decl (is_position e.decl l)
      (or_second (among (reached_by M p) e.decl) (among (flat_map (λ r. (decl_at M r).contract_leads) (reached_by M p)) e.decl || reaches_axiom M (reached_by M p) e.decl)
      (or_first (among (flat_map (λ r. (decl_at M r).contract_leads) (reached_by M p)) e.decl) (reaches_axiom M (reached_by M p) e.decl) f))

  pub met_reached : (n : Text) (e : Entry) → Met ds p n → entry_of T n ≡ Some e → Reached ds p e.decl
  met_reached n e (used u) h = inr (used_reached n e u h)
  met_reached n e (declared f g r) h = let z : f ≡ e = cc in subst (λ (w : Entry). Reached ds p w.decl) z r

  -- the declaration for which a name stands that is met
  pub record StandsFor (n : Text) (e : Entry) : Type 0 where
    pub decl : Decl
    pub counts : Counts
    pub at : slice_get ds e.decl ≡ Some decl
    pub reached : Reached ds p e.decl
    pub here : entry_of (entries_of counts e.decl decl.body) n ≡ Some e

  pub stands_for : (n : Text) (e : Entry) → Met ds p n → entry_of T n ≡ Some e → StandsFor n e
  stands_for n e u h =
      let r = located no_counts 0 ds n e h in
      let a = r.place in
      let z : r.index ≡ e.decl = omega (arith, a) in
      record { decl = r.decl; counts = r.counts; at = subst (λ w. slice_get ds w ≡ Some r.decl) z r.at; reached = met_reached n e u h; here = r.here }

  -- what it uses is used
  pub used_further : (n m : Text) (e : Entry) → Met ds p n → entry_of T n ≡ Some e → ((k : Counts) (d : ℕ) (x : DeclBody) → entry_of (entries_of k d x) n ≡ Some e → Member m (contract_uses x)) → Used ds p m
  used_further n m e u h i = let r = stands_for n e u h in in_reached e.decl r.decl r.reached r.at (i r.counts e.decl r.decl.body r.here)

-- of two programs
module _ (ds : List Decl) (p : Proc) (es : List Decl) (q : Proc) (twins : Twins ds p es q) where
  -- what is used in the one is used in the other
  pub used_there : (n : Text) → Used ds p n → Used es q n
  used_there n (in_own d x o a i) =
      let r = twins.own d x o a in
      in_own r.position r.decl r.stands r.at (subst (Member n) (same_uses x.body r.decl.body r.same) i)
  used_there n (in_reached d x o a i) =
      let r = twins.all d x o a in
      in_reached r.position r.decl r.stands r.at (subst (Member n) (same_contract_uses x.body r.decl.body r.same) i)

  -- there stands the same for it but for places and numbers
  pub record SameThere (n : Text) (e : Entry) : Type 0 where
    pub decl : Decl
    pub at : slice_get ds e.decl ≡ Some decl
    pub entry : Entry
    pub is : entry_of (table_of es) n ≡ Some entry
    pub reached : Reached es q entry.decl
    pub twin : Decl
    pub twin_at : slice_get es entry.decl ≡ Some twin
    pub heads : bare_head decl.body ≡ bare_head twin.body
    pub same : bare_entity e.entity ≡ bare_entity entry.entity

  pub same_there : fault_of es ≡ None → (n : Text) (e : Entry) → Met ds p n → entry_of (table_of ds) n ≡ Some e → SameThere n e
  same_there fine n e u h =
      let r = stands_for ds p n e u h in
      let w = twins.all e.decl r.decl r.reached r.at in
      let declared = sym (declared_found r.counts e.decl r.decl.body n) ∙ ap is_some r.here in
      let there = ap (λ ns. is_among ns n) (sym (same_declared r.decl.body w.decl.body w.same)) ∙ declared in
      let f = found_at (table_of es) (counts_after no_counts es) nothing_before no_counts 0 es w.position w.decl n (none_faulty es fine) w.at there in
      let both = ap bare_found (sym r.here) ∙ (same_found n r.counts f.counts e.decl f.entry.decl r.decl.body w.decl.body w.same ∙ ap bare_found f.here) in
      let begin : 0 + w.position ≡ w.position = omega arith in
      record {
        decl = r.decl;
        at = r.at;
        entry = f.entry;
        is = f.is;
        reached = subst (Reached es q) (sym f.decl) (place w.position w.stands);
        twin = w.decl;
        twin_at = ap (slice_get es) (f.decl ∙ begin) ∙ w.at;
        heads = w.same;
        same = same_some (bare_entity e.entity) (bare_entity f.entry.entity) both;
      }
    where
      same_some : (a b : Entity) → Some a ≡ Some b → a ≡ b
      same_some a b z = cc

      place : (d : ℕ) → Reached es q d → Reached es q (0 + d)
      place d g = let z : 0 + d ≡ d = omega arith in subst (Reached es q) (sym z) g

  pub met_there : fault_of es ≡ None → (n : Text) → Met ds p n → Met es q n
  met_there fine n (used u) = used (used_there n u)
  met_there fine n (declared e h r) = let f = same_there fine n e (declared e h r) h in declared f.entry f.is f.reached

-- a name that is met stands for the same in both programs but for places and numbers, or for nothing in both
module _ (ds : List Decl) (p : Proc) (es : List Decl) (q : Proc) (twins : Twins ds p es q) (back : Twins es q ds p) (fine : fault_of ds ≡ None) (fine_there : fault_of es ≡ None) where
  same_entries : (n : Text) → Met ds p n → bare_found (entry_of (table_of ds) n) ≡ bare_found (entry_of (table_of es) n)
  same_entries n u = by (entry_of (table_of ds) n) (entry_of (table_of es) n) refl refl
    where
      by : (a b : Option Entry) → entry_of (table_of ds) n ≡ a → entry_of (table_of es) n ≡ b → bare_found a ≡ bare_found b
      by None None f g = refl
      by (Some e) b f g = let r = same_there ds p es q twins fine_there n e u f in ap Some r.same ∙ ap bare_found (sym r.is ∙ g)
      by None (Some e) f g =
          let r = same_there es q ds p back fine n e (met_there ds p es q twins fine_there n u) g in
          let z = sym f ∙ r.is in
          absurd (cc)

  pub same_entity : (n : Text) → Met ds p n → bare_meaning (entity_of (table_of ds) n) ≡ bare_meaning (entity_of (table_of es) n)
  unfolding entity_of
  same_entity n u = joined (entry_of (table_of ds) n) ∙ (same_entries n u ∙ sym (joined (entry_of (table_of es) n)))
    where
      joined : (o : Option Entry) → bare_meaning (option_map (λ (e : Entry). e.entity) o) ≡ bare_found o
      joined None = refl
      joined (Some e) = refl

-- what a name stands for has an entry
pub entity_entry : (t : Table) (n : Text) (x : Entity) → entity_of t n ≡ Some x → (e : Entry) × (entry_of t n ≡ Some e) × (e.entity ≡ x)
unfolding entity_of
entity_entry t n x h = by (entry_of t n) refl h
  where
    by : (o : Option Entry) → entry_of t n ≡ o → option_map (λ (e : Entry). e.entity) o ≡ Some x → (e : Entry) × (entry_of t n ≡ Some e) × (e.entity ≡ x)
    by None f g = absurd (cc)
    by (Some e) f g = (e, f, cc)
